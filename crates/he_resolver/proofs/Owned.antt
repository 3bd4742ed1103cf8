-- What is told of a family is what was heard of it.
use Rattle.std.proofs.Common.{◌≡◌, ◌∙◌, List, Option, Some, None, Ok, Err, ap, inl, inr, map, refl, sym, subst}
use Rattle.std.proofs.lemmas.Bool.{false≢true}
use Rattle.std.specs.Prelude.{IfOk}
use Rattle.he_addr.specs.declared.ip.Family.{Family}
use Rattle.he_addr.specs.declared.ip.Family.TheVariants as families
use Rattle.he_dns.specs.Texts.{HostName}
use Rattle.he_resolver.specs.Heard.{AreOwn, IsFaithful, IsHeardOfOne, IsOwn, Told, TellsHeard, heard_of, names_of}
use Rattle.he_asking.specs.Said.{Heard}
use Rattle.he_settings.specs.Meant.{meant_by}
use Rattle.he_resolver.specs.Needs.{family_of}
use Rattle.he_resolver.specs.declared.family_lookup.FamilyLookup.{FamilyLookup}
use Rattle.he_resolver.specs.declared.resolver.Resolver.{Resolver}

pub heard_part : {R : Type 0} (resolver : Resolver R) (family : Family) → IsFaithful resolver
    → IsHeardOfOne (names_of resolver) family (heard_of resolver family)
heard_part resolver families.V6 faithful = faithful.0.1
heard_part resolver families.V4 faithful = faithful.1.1

pub tells_own : (names : List HostName) (family : Family) (heard : Option Heard) (told : Told) → IsHeardOfOne names family heard
    → IsOwn heard family told → TellsHeard names family told
tells_own names family None (Ok ips) of own = absurd own
tells_own names family (Some (Ok answer)) (Ok ips) (place, name, is, (id, (message, answers, keep))) own =
    (map meant_by answer.addresses.items, (place, name, is, id, answer.addresses.items, (message, answers), refl), own)
tells_own names family (Some (Err fault)) (Ok ips) of own = absurd own
tells_own names family heard (Err fault) of (inl same) = subst (IsHeardOfOne names family) same of
tells_own names family heard (Err fault) of (inr e) = λ absence. absurd (false≢true (sym e ∙ absence))

pub own_addresses : (heard : Option Heard) (family : Family) (told : Told) → IsOwn heard family told
    → IfOk told (λ ips. AreOwn heard family ips.items)
own_addresses heard family (Ok ips) own = own
own_addresses heard family (Err fault) own = tt

pub answer_own : {R : Type 0} (resolver : Resolver R) (family : Family) (asking : FamilyLookup) (heard : Option Heard) (told : Told)
    → asking ≡ family_of resolver family → heard ≡ asking.told → IsOwn heard family told → IsOwn (heard_of resolver family) family told
answer_own resolver families.V6 asking heard told is same own =
    subst (λ (h : Option Heard). IsOwn h families.V6 told) (same ∙ ap (λ (a : FamilyLookup). a.told) is) own
answer_own resolver families.V4 asking heard told is same own =
    subst (λ (h : Option Heard). IsOwn h families.V4 told) (same ∙ ap (λ (a : FamilyLookup). a.told) is) own
