-- The objects of a race, each on one line.
use Rattle.std.specs.Prelude.{ℕ, ◌≡◌, ◌++◌, List, codes, decimal, map, option_map, None, Option, Some}
use Rattle.std.specs.Borrow.{Bor}
use Rattle.he_plan.specs.Transcript.{Report}
use Rattle.he_print.specs.Escaping.{string_text}
use Rattle.he_select.specs.declared.attributes.DestinationAttributes.{DestinationAttributes}
use Rattle.he_course.specs.declared.accounts.Times.{Times}
use Rattle.he_course.specs.declared.addresses.Preferred.{Preferred}
use Rattle.he_course.specs.declared.events.Event.{Event}
use Rattle.he_json.specs.Facts.{attempt_facts, event_facts, placed_facts, preferred_facts, result_facts}
use Rattle.he_record.specs.Said.{Said}
use Rattle.he_json.specs.Json.{facts_of, object_text, objects_text}
use Rattle.he_json.specs.Recorded.{recorded_text}
use Rattle.he_json.specs.Times.{times_text}
use Rattle.he_json.specs.declared.members.Member.{Member}
use Rattle.he_json.specs.declared.place.Place.{Place}

-- the place of a race: the name of its file, if it has one, its number and its line
pub record Spot : Type 0 where
  pub file : Option (List ℕ)
  pub number : ℕ
  pub line : ℕ

abbrev pub name_of : Option (Bor (List ℕ)) → Option (List ℕ)
name_of file = option_map (λ name. name.now) file

abbrev pub spot_of : Place → Spot
spot_of place = record { file = name_of place.file; number = place.number; line = place.line }

abbrev pub file_text : Option (List ℕ) → List ℕ
file_text None = codes "null"
file_text (Some name) = string_text name

-- the beginning of each object
abbrev pub beginning_text : Spot → List ℕ
beginning_text spot =
    codes "{\"file\":" ++ (file_text spot.file
    ++ (codes ",\"race\":" ++ (decimal spot.number ++ (codes ",\"line\":" ++ decimal spot.line))))

abbrev pub transcript_text : Spot → List (List Member) → List Member → List ℕ
transcript_text spot attempts end =
    beginning_text spot
    ++ (codes ",\"attempts\":" ++ (objects_text attempts ++ (codes ",\"result\":" ++ (object_text end ++ codes "}\n"))))

abbrev pub order_text : Spot → List (List Member) → List ℕ
order_text spot addresses =
    beginning_text spot ++ (codes ",\"order\":" ++ (objects_text addresses ++ codes "}\n"))

-- what the record says and the times come before the order
abbrev pub heading_text : Spot → List Said → Times → List ℕ
heading_text spot said times = beginning_text spot ++ (recorded_text said ++ times_text times)

abbrev pub lists_text : List (List Member) → List (List Member) → List ℕ
lists_text addresses events =
    codes ",\"order\":" ++ (objects_text addresses ++ (codes ",\"events\":" ++ (objects_text events ++ codes "}\n")))

abbrev pub explanation_text : Spot → List Said → Times → List (List Member) → List (List Member) → List ℕ
explanation_text spot said times addresses events = heading_text spot said times ++ lists_text addresses events

-- the text has an object for each attempt, with its facts, and one for the race's end
pub record IsTranscriptJson (spot : Spot) (report : Report) (text : List ℕ) : Type 0 where
  pub attempts : List (List Member)
  pub end : List Member
  pub attempt_facts : map facts_of attempts ≡ map attempt_facts report.lines
  pub end_facts : facts_of end ≡ result_facts report.result
  pub is_text : text ≡ transcript_text spot attempts end

-- the text has an object for each of these addresses, in this order
pub record IsOrderJson (spot : Spot) (sorted : List DestinationAttributes) (text : List ℕ) : Type 0 where
  pub addresses : List (List Member)
  pub address_facts : map facts_of addresses ≡ placed_facts 0 sorted
  pub is_text : text ≡ order_text spot addresses

-- the text has the members of the record, the times, an object for each address, and one for each event
pub record IsExplanationJson (spot : Spot) (said : List Said) (times : Times) (preferred : List Preferred)
    (met : List Event) (text : List ℕ) : Type 0 where
  pub addresses : List (List Member)
  pub events : List (List Member)
  pub address_facts : map facts_of addresses ≡ preferred_facts 0 None preferred
  pub event_facts : map facts_of events ≡ map event_facts met
  pub is_text : text ≡ explanation_text spot said times addresses events

-- such a text has been appended
abbrev pub Appends : (List ℕ → Type 0) → List ℕ → List ℕ → Type 0
Appends IsSuch old new = (text : List ℕ) × IsSuch text × (new ≡ old ++ text)
