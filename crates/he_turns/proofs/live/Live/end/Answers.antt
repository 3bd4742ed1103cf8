use Rattle.std.proofs.Common.{◌≡◌, is_some, refl, sym, subst}
use Rattle.he_plan.specs.Agreement.{AreAlike}
use Rattle.he_timeline.specs.Race.{Race}
use Rattle.he_plan.specs.Transcript.{IsTranscript}
use Rattle.he_turns.proofs.live.Live.end.Goals as goal

pub returns-in-Ok : goal.returns-in-Ok
returns-in-Ok g c =
    let same : c.into_record.result ≡ c.args.self.recorder.recorded = c.into_record.ensures in (
      record {
        alike = subst (AreAlike c.args.self.recorder.recorded) (sym same) refl;
        transcript = subst (λ (race : Race). IsTranscript race c.in-Ok.transcript) (sym same) c.in-Ok.ensures.transcript;
        winner = sym (c.in-Ok.ensures.ending (is_some c.args.winner) c.requires.ended);
      },
      same,
      refl,
    )
