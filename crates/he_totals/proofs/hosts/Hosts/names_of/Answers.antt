use Rattle.he_totals.specs.Hosts.{text_at}
use Rattle.he_totals.proofs.Mapped.{mapped_all, mapped_on}
use Rattle.he_totals.proofs.hosts.Hosts.names_of.Goals as goal

pub loop-place-preserved : goal.loop-place-preserved
loop-place-preserved g c =
    mapped_on (λ name. name.now) (text_at c.args.self.now.names) c.args.places.now c.loop-place.place-index _ c.loop-place.names.items c.push.new.self.items c.name_at.result _
    c.loop-place-test.true c.in_ok-push.ensures.items c.name_at.ensures c.loop-place.invariant

pub returns : goal.returns
returns g c = mapped_all (λ name. name.now) (text_at c.args.self.now.names) c.args.places.now c.loop-place.place-index c.loop-place.names.items _ c.loop-place-test.false c.loop-place.invariant
