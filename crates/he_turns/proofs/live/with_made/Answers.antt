use Rattle.std.proofs.Common.{sym, subst}
use Rattle.std.specs.List.{Contains}
use Rattle.std.proofs.lemmas.List.Elements.{All-push}
use Rattle.he_turns.specs.Kept.{IsUnfinished}
use Rattle.he_turns.proofs.Turning.{contains-at}
use Rattle.he_turns.proofs.live.with_made.Goals as goal

pub begin-attempt-requires : goal.begin-attempt-requires
begin-attempt-requires g c = c.requires.in_time c.args.made _ c.if-made-attempts.false

pub returns-in-Ok-clause-unfinished : goal.returns-in-Ok-clause-unfinished
returns-in-Ok-clause-unfinished g c =
    rw c.in-Ok.ensures.items (All-push (IsUnfinished g.C.Connector g.C.Run.Trial c.args.attempts.now) c.args.unfinished.items c.begin-attempt.result c.requires.unfinished (record {
      made = subst (Contains c.args.attempts.now) (sym c.begin-attempt.ensures.begins.attempt) (contains-at c.args.attempts.now c.args.made _ c.if-made-attempts.false);
      can = c.begin-attempt.ensures.can;
    }))
