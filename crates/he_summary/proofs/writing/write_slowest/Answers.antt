use Rattle.std.proofs.Common.{[], sym}
use Rattle.std.proofs.lemmas.List.{append-nil}
use Rattle.he_summary.specs.Written.{slow_facts}
use Rattle.he_summary.proofs.Told.{told_all, told_more}
use Rattle.he_summary.proofs.writing.write_slowest.Goals as goal

pub loop-race-preserved : goal.loop-race-preserved
loop-race-preserved g c = λ new rest.
    c.loop-race.invariant new
    (told_more (slow_facts c.args.form) c.args.slow.now c.loop-race.race-index _ c.loop-race.text.items c.write_name.new.text.items c.write_slow.new.text.items c.write_slow.new.text.items new
    c.loop-race-test.true c.in_ok-write_name.ensures c.in_ok-write_slow.ensures ([], sym (append-nil c.write_slow.new.text.items)) rest)

pub returns : goal.returns
returns g c =
    c.loop-race.invariant c.extend_from_slice.new.self.items
    (told_all (slow_facts c.args.form) c.args.slow.now c.loop-race.race-index c.loop-race.text.items c.extend_from_slice.new.self.items c.loop-race-test.false
    (_, c.in_ok-extend_from_slice.ensures.items))
