-- The hosts and ports that races were for, each once, and the place of each race among them.
use Rattle.std.specs.Cmp.Lexicographic.{pointwise}
use Rattle.std.specs.List.{fold, list_any, zip}
use Rattle.std.specs.Option.{unwrap_or}
use Rattle.std.specs.Prelude.{ℕ, ◌≡◌, ◌==◌, ◌&&◌, ◌++◌, ⊤, if◌then◌else◌, List, [], ◌∷◌, codes, decimal, filter, is_some, map, nat_eq, slice_get, Option, Some, None}
use Rattle.he_addr.specs.Ip.{same_ip}
use Rattle.he_addr.specs.declared.ip.Ip.{Ip}
use Rattle.he_plan.specs.declared.transcript.Line.{Line}
use Rattle.he_record.specs.Given.{to_given}
use Rattle.he_record.specs.Said.{Said}
use Rattle.he_totals.specs.declared.kept.Kept.{Kept}

-- the requested host and port, as in a record line; other words for a race without one
abbrev pub target_text : Option (List ℕ × ℕ) → List ℕ
target_text None = codes "no host"
target_text (Some (host, port)) = host ++ 32 ∷ decimal port

abbrev pub host_said : List Said → List ℕ
host_said said = target_text (to_given said)

-- names, places among them, and addresses with such places
pub record Named : Type 0 where
  pub names : List (List ℕ)
  pub places : List ℕ
  pub pairs : List (Ip × ℕ)

-- a text goes last among the names, if it is not there
abbrev pub with_name : List (List ℕ) → List ℕ → List (List ℕ)
with_name names text = if list_any (pointwise nat_eq text) names then names else names ++ text ∷ []

-- the texts, each once, in the order in which they first come
abbrev pub names_of : List (List ℕ) → List (List ℕ)
names_of texts = fold with_name [] texts

-- these are the places of the texts among the names
abbrev pub ArePlaces : List (List ℕ) → List ℕ → List (List ℕ) → Type 0
ArePlaces names [] [] = ⊤
ArePlaces names (place ∷ places) (text ∷ texts) = (slice_get names place ≡ Some text) × ArePlaces names places texts
ArePlaces names _ _ = ⊥

-- the names are those of the texts, and these are the places of the texts among them
pub record AreNamed (texts : List (List ℕ)) (named : Named) : Type 0 where
  pub names : named.names ≡ names_of texts
  pub each : ArePlaces named.names named.places texts

-- the attempts of a race whose record has a host
abbrev pub tried_lines : List Said → List Line → List Line
tried_lines said lines = if is_some (to_given said) then lines else []

-- their addresses, each with the place of the host
abbrev pub pairs_at : ℕ → List Said → List Line → List (Ip × ℕ)
pairs_at host said lines = map (λ line. (line.ip, host)) (tried_lines said lines)

-- a pair goes last, if it is not there
abbrev pub with_pair : List (Ip × ℕ) → Ip × ℕ → List (Ip × ℕ)
with_pair pairs pair =
    if list_any (λ (other : Ip × ℕ). same_ip pair.0 other.0 && (pair.1 == other.1)) pairs then pairs
    else pairs ++ pair ∷ []

-- one race more has been added, whose host has some place: its pairs, after the places of the races before
abbrev pub HasTried : List Said → List Line → Named → Named → Type 0
HasTried said lines old new =
    (host : ℕ) × (new.places ≡ old.places ++ host ∷ [])
    × (new.pairs ≡ fold with_pair old.pairs (pairs_at host said lines))

-- the places that an address has, in the order in which they first come
abbrev pub places_of : List (Ip × ℕ) → Ip → List ℕ
places_of pairs ip = map (λ (pair : Ip × ℕ). pair.1) (filter (λ (pair : Ip × ℕ). same_ip pair.0 ip) pairs)

abbrev pub text_at : List (List ℕ) → ℕ → List ℕ
text_at names place = unwrap_or (slice_get names place) []

-- the names of the hosts whose races tried the address
abbrev pub hosts_in : Named → Ip → List (List ℕ)
hosts_in named ip = map (text_at named.names) (places_of named.pairs ip)

-- the record of a race, with the place of its host in place of that of its file
unfoldable pub at_host : ℕ → Kept → Kept
at_host host race = record race { place = record race.place { file = host } }

-- each record at the place of its host
abbrev pub at_hosts : List ℕ → List Kept → List Kept
at_hosts places kept = map (λ (placed : ℕ × Kept). at_host placed.0 placed.1) (zip places kept)
