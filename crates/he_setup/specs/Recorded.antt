-- The record lines of a connection's race.
use Rattle.std.specs.Prelude.{◌≡◌, Bool, true, false, Option, Some, None, if◌then◌else◌}
use Rattle.he_addr.specs.declared.ip.Family.{Family}
use Rattle.he_addr.specs.declared.ip.Family.TheVariants as families
use Rattle.he_failures.specs.Recorded.{fault_reason}
use Rattle.he_record.specs.declared.reasons.LookupReason.{LookupReason}
use Rattle.he_record.specs.declared.reasons.LookupReason.TheVariants.{Nat64, NotAsked}
use Rattle.he_recording.specs.Empty.{reason_if_empty}
use Rattle.he_recording.specs.declared.facts.Facts.{Facts}
use Rattle.he_recording.specs.declared.facts.Target.{Target}
use Rattle.he_settings.specs.declared.fault.NamesFault.{NamesFault}
use Rattle.he_timeline.specs.Race.{Race}
use Rattle.he_setup.specs.declared.recorded.KnownFacts.{KnownFacts}
use Rattle.he_setup.specs.declared.request.Families.{Families}
use Rattle.he_setup.specs.declared.request.Families.TheVariants as tried
use Rattle.he_setup.specs.declared.source.FamilyFaults.{FamilyFaults}

-- only the other family is tried
abbrev pub is_left_out : Families → Family → Bool
is_left_out (tried.Only families.V6) families.V4 = true
is_left_out (tried.Only families.V4) families.V6 = true
is_left_out all family = false

abbrev pub fault_of : FamilyFaults → Family → Option NamesFault
fault_of why families.V6 = why.six
fault_of why families.V4 = why.four

-- why the family has no address: it was not asked for, or by the fault of its look-up
abbrev pub reason_of : Families → FamilyFaults → Family → Option LookupReason
reason_of tried why family = if is_left_out tried family then Some NotAsked else fault_reason (fault_of why family)

-- only a family whose answer is empty in the race has a reason
abbrev pub reason_in : Race → Families → FamilyFaults → Family → Option LookupReason
reason_in race tried why family = reason_if_empty race family (reason_of tried why family)

-- the facts of a race to the target
pub record IsFactsOf (target : Target) (tried : Families) (race : Race) (known : KnownFacts) (facts : Facts) : Type 0
  where
    pub time : facts.at ≡ known.at
    pub to : facts.to ≡ Some target
    pub from : facts.from ≡ None
    pub six : facts.six ≡ reason_in race tried known.why families.V6
    pub four : facts.four ≡ reason_in race tried known.why families.V4
    pub nat64 : facts.nat64 ≡ known.nat64
    pub servers : facts.servers ≡ known.servers
    pub attempts : facts.attempts ≡ known.attempts
    pub end : facts.end ≡ None

-- the look-up's own reason or, without one, *nat64*
abbrev pub or_nat64 : Option LookupReason → Option LookupReason
or_nat64 None = Some Nat64
or_nat64 (Some reason) = Some reason

-- so; or, through a NAT64, the IPv4 look-up has its own reason or *nat64*, if its answer is empty
abbrev pub IsFactsFor : Bool → Target → Families → Race → KnownFacts → Facts → Type 0
IsFactsFor false target tried race known facts = IsFactsOf target tried race known facts
IsFactsFor true target tried race known facts =
    (plain : Facts) × IsFactsOf target tried race known plain
    × (facts ≡ record plain {
      four =
          reason_if_empty race families.V4 (or_nat64 (fault_reason (fault_of known.why families.V4)));
    })
