-- How a family's look-up goes on: if a server fails, the next one is asked; any other answer ends it.
use Rattle.std.specs.Prelude.{◌≡◌, ◌⊎◌, ◌≤◌, ⊤, true, false, Option, Some, None, Ok, Err, length, vec_len}
use Rattle.he_settings.specs.Faults.{is_of_host, is_of_server}
use Rattle.he_asking.specs.Said.{Heard}
use Rattle.he_resolver.specs.declared.family_lookup.FamilyLookup.{FamilyLookup}
use Rattle.he_resolver.specs.declared.family_lookup.NextServer.TheVariants.{Now}
use Rattle.he_settings.specs.declared.fault.NamesFault.{NamesFault}
use Rattle.he_settings.specs.declared.plan.QueryPlan.{QueryPlan}

-- the family, and whether its answer is final, don't change
abbrev pub IsSame : FamilyLookup → FamilyLookup → Type 0
IsSame old new = (new.is_settled ≡ old.is_settled) × (new.family ≡ old.family)

-- the next server is asked at once
abbrev pub GoesOn : FamilyLookup → FamilyLookup → Type 0
GoesOn old new = (new.told ≡ old.told) × (new.next ≡ Now)

-- if another server may have an answer, the next one is asked; otherwise this is the answer
abbrev pub Takes : Heard → FamilyLookup → FamilyLookup → Type 0
Takes (Ok answer) old new = new.told ≡ Some (Ok answer)
Takes (Err fault) old new =
    ((is_of_server fault ≡ true) × GoesOn old new) ⊎ ((is_of_server fault ≡ false) × (new.told ≡ Some (Err fault)))

-- each server was asked, and no query is left
abbrev pub IsThrough : QueryPlan → FamilyLookup → Type 0
IsThrough plan asking = (length plan.servers.items ≤ asking.begun) × (vec_len asking.queries ≡ 0)

-- asking the next server gives no answer, unless this machine fails, or all servers were asked and none had one
abbrev pub AsksNext : QueryPlan → FamilyLookup → Option Heard → Type 0
AsksNext plan old None = ⊤
AsksNext plan old (Some (Ok answer)) = old.told ≡ Some (Ok answer)
AsksNext plan old (Some (Err fault)) =
    (is_of_host fault ≡ false) ⊎ (old.told ≡ Some (Err fault)) ⊎ ((is_of_server fault ≡ true) × IsThrough plan old)

-- that no server has an answer is the answer only after all were asked
abbrev pub EndsThrough : QueryPlan → Option Heard → FamilyLookup → Type 0
EndsThrough plan told new = (fault : NamesFault) → new.told ≡ Some (Err fault) → is_of_server fault ≡ true
    → (told ≡ Some (Err fault)) ⊎ IsThrough plan new
