use Rattle.std.proofs.Common.{codes}
use Rattle.he_summary.specs.Written.{after_comma}
use Rattle.he_summary.proofs.Joined.{joined}
use Rattle.he_summary.proofs.Listed.{named_all, named_on}
use Rattle.he_summary.proofs.addresses.write_each.Goals as goal

pub loop-name-preserved : goal.loop-name-preserved
loop-name-preserved g c =
    named_on after_comma (λ name. name.now) c.args.names.now c.loop-name.name-index _ c.loop-name.text.items c.extend_from_slice-in-loop-name.new.self.items _ c.loop-name-test.true
    (joined (codes ", ") _ c.loop-name.text.items c.extend_from_slice.new.self.items c.extend_from_slice-in-loop-name.new.self.items c.in_ok-extend_from_slice.ensures.items c.in_ok-extend_from_slice-2.ensures.items)
    c.loop-name.invariant

pub returns : goal.returns
returns g c = named_all after_comma (λ name. name.now) c.args.names.now c.loop-name.name-index c.loop-name.text.items _ c.loop-name-test.false c.loop-name.invariant
