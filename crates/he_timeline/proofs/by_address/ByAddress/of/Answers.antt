use Rattle.std.proofs.Common.{◌≡◌, List, IfSome, Some, sym, ◌∙◌, ap, subst}
use Rattle.std.specs.Map.{keys_of}
use Rattle.he_addr.specs.contracts.ip.IpPartialEq.TheImpl.{eq-value}
use Rattle.he_addr.specs.declared.ip.Ip.{Ip}
use Rattle.he_timeline.specs.Race.{told_of}
use Rattle.he_timeline.proofs.ByAddress.{same_as}
use Rattle.he_timeline.proofs.Placed.{value_at, value_nowhere}
use Rattle.he_timeline.proofs.by_address.ByAddress.of.Goals as goal

pub returns-in-Some-get_index_of : goal.returns-in-Some-get_index_of
returns-in-Some-get_index_of g c =
    let told = c.self.inside in
    let is : c.in-Some.places.value.keys ≡ keys_of told.told.items = subst (λ o. IfSome o (λ p. p.value.keys ≡ keys_of told.told.items)) c.in-Some.is c.self.invariant in
    let at = value_at eq-value.it same_as c.args.ip c.deref-2.result.now.keys told.told.items (ap (λ s. s.keys) c.deref-2.ensures ∙ is) c.in-Some-get_index_of.place c.index.result.now (sym c.get_index_of.ensures.index ∙ c.in-Some-get_index_of.is) in
    ap (λ (p : Ip × g.row.V.Denot). Some p.1) c.index.ensures ∙ at.1 ∙ ap (λ (l : List (Ip × g.row.V.Denot)). told_of l c.args.ip) c.self.view_is

pub returns-in-None : goal.returns-in-None
returns-in-None g c =
    let told = c.self.inside in
    let is : c.in-Some.places.value.keys ≡ keys_of told.told.items = subst (λ o. IfSome o (λ p. p.value.keys ≡ keys_of told.told.items)) c.in-Some.is c.self.invariant in
    value_nowhere eq-value.it same_as c.args.ip c.deref-2.result.now.keys told.told.items (ap (λ s. s.keys) c.deref-2.ensures ∙ is) (sym c.get_index_of.ensures.index ∙ c.in-None.is)
    ∙ ap (λ (l : List (Ip × g.row.V.Denot)). told_of l c.args.ip) c.self.view_is
