use Rattle.std.proofs.Common.{◌-◌, ◌≤◌}
use Rattle.he_words.specs.Ranges.{most_races}
use Rattle.he_streaming.specs.Rounds.{IsAsked}
use Rattle.he_tasks.specs.Pages.{HasPut}
use Rattle.he_tasks.proofs.page.put_parts.Given as goal

-- the races that were read are added, and of their text all but the end is put
abbrev pub invariant-loop-race : goal.invariant-loop-race
invariant-loop-race g l =
    HasPut g.I.InputStream g.O.OutputStream l.fn.file (IsAsked l.fn.asked) l.fn.input l.input l.session.stream l.fn.session.output l.session.output l.fn.races l.races l.text.items
    × (l.session.stream.races ≤ most_races)

abbrev pub decreases-loop-race : goal.decreases-loop-race
decreases-loop-race g l = most_races - l.session.stream.races
