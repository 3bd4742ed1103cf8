use Rattle.std.proofs.Common.{◌≡◌, IfSome, ◌∙◌, ap, subst}
use Rattle.std.specs.Map.{keys_of}
use Rattle.he_addr.specs.contracts.ip.IpPartialEq.TheImpl.{eq-value}
use Rattle.he_timeline.specs.Race.{is_told}
use Rattle.he_timeline.proofs.ByAddress.{same_as}
use Rattle.he_timeline.proofs.Placed.{key_there}
use Rattle.he_timeline.proofs.by_address.ByAddress.has.Goals as goal

pub returns-in-Some : goal.returns-in-Some
returns-in-Some g c =
    let told = c.self.inside in
    let is : c.in-Some.places.value.keys ≡ keys_of told.told.items = subst (λ o. IfSome o (λ p. p.value.keys ≡ keys_of told.told.items)) c.in-Some.is c.self.invariant in
    c.contains.ensures
    ∙ key_there eq-value.it same_as c.args.ip c.deref-in-Some.result.now.keys told.told.items (ap (λ s. s.keys) c.deref-in-Some.ensures ∙ is)
    ∙ ap (is_told c.args.ip) c.self.view_is
