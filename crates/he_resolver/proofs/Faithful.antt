-- What was heard stays heard.
use Rattle.std.proofs.Common.{◌≡◌, ◌⊎◌, Bool, List, None, ap, inl, inr, subst, sym, ◌∙◌}
use Rattle.he_addr.specs.declared.ip.Family.{Family}
use Rattle.he_dns.specs.Texts.{HostName}
use Rattle.he_resolver.specs.Asking.{IsSame}
use Rattle.he_resolver.specs.Heard.{IsHeardOfOne, IsPart}
use Rattle.he_resolver.specs.declared.family_lookup.FamilyLookup.{FamilyLookup}

-- a poll
pub part_polled : (names : List HostName) (family : Family) (old new : FamilyLookup) → IsSame old new
    → (IsHeardOfOne names old.family old.told → IsHeardOfOne names old.family new.told) → IsPart names family old → IsPart names family new
part_polled names family old new same heard part = (
  same.1 ∙ part.0,
  subst (λ (f : Family). IsHeardOfOne names f new.told) part.0 (heard (subst (λ (f : Family). IsHeardOfOne names f old.told) (sym part.0) part.1)),
)

-- a new beginning
pub part_again : (names : List HostName) (family : Family) (old new : FamilyLookup) → IsSame old new
    → ((new.told ≡ old.told) ⊎ (new.told ≡ None)) → IsPart names family old → IsPart names family new
part_again names family old new same (inl told) part = (same.1 ∙ part.0, subst (IsHeardOfOne names family) (sym told) part.1)
part_again names family old new same (inr none) part = (same.1 ∙ part.0, subst (IsHeardOfOne names family) (sym none) tt)

-- whether it is settled changes nothing that was told
pub part_settled : (names : List HostName) (family : Family) (old new : FamilyLookup) (settled : Bool)
    → new ≡ record old { is_settled = settled } → IsPart names family old → IsPart names family new
part_settled names family old new settled same part = (
  ap (λ (a : FamilyLookup). a.family) same ∙ part.0,
  subst (IsHeardOfOne names family) (sym (ap (λ (a : FamilyLookup). a.told) same)) part.1,
)
