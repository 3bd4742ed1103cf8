use Rattle.std.proofs.Common.{◌≡◌, ◌≤◌, ◌<◌, None, sym, ◌∙◌, arith}
use Rattle.std.proofs.lemmas.Grind.{common_steps}
use Rattle.he_timeline.specs.Seen.{seen}
use Rattle.he_plan.specs.Planning.{start_tick}
use Rattle.he_plan.proofs.Starting.{starts_at, none_starts_late, none_starts}
use Rattle.he_plan.proofs.starts.next_tick.Goals as goal

pub returns-in_default-clause-none : goal.returns-in_default-clause-none
returns-in_default-clause-none g c =
    let e : start_tick c.args.timeline.now c.args.done.now ≡ None = grind (arith, common_steps) in
    none_starts c.args.timeline.now c.settings.ensures.race c.args.done.now e

pub returns-then-tick-limit-clause-some : goal.returns-then-tick-limit-clause-some
returns-then-tick-limit-clause-some g c =
    let early : seen c.args.timeline.now c.in-Some.from < c.args.timeline.now.settings.limit = grind (arith, common_steps) in
    rw c.seen-tick.ensures.value (starts_at c.args.timeline.now c.settings.ensures.race c.args.done.now c.in-Some.from (sym c.start_tick.ensures ∙ c.in-Some.is) early)

pub returns-else-tick-limit-clause-none : goal.returns-else-tick-limit-clause-none
returns-else-tick-limit-clause-none g c =
    let late : c.args.timeline.now.settings.limit ≤ seen c.args.timeline.now c.in-Some.from = grind (arith, common_steps) in
    none_starts_late c.args.timeline.now c.settings.ensures.race c.args.done.now c.in-Some.from (sym c.start_tick.ensures ∙ c.in-Some.is) late
