use Rattle.std.proofs.Common.{List, sym, ◌∙◌, ap}
use Rattle.std.specs.Map.{keys_of}
use Rattle.he_addr.specs.contracts.ip.IpPartialEq.TheImpl.{eq-value}
use Rattle.he_addr.specs.declared.ip.Ip.{Ip}
use Rattle.he_timeline.proofs.ByAddress.{same_as}
use Rattle.he_timeline.proofs.Placed.{place_last}
use Rattle.he_timeline.proofs.by_address.push_placed.Goals as goal

pub returns-clause-places : goal.returns-clause-places
returns-clause-places g c =
    let told : List (Ip × g.row.V.Denot) = c.args.told.now.items in
    place_last eq-value.it same_as told c.deref_mut.result.now.keys c.insert.new.self.keys c.args.ip c.args.value c.requires.once
    (ap (λ s. s.keys) c.deref_mut.ensures.value ∙ c.requires.places) c.in_default.ensures.keys
    ∙ ap keys_of (sym c.in_ok-push.ensures.items)
