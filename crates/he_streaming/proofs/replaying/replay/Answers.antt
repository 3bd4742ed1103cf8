use Rattle.std.specs.Prelude.{List, Option, ℕ}
use Rattle.he_json.specs.Documents.{name_of}
use Rattle.std.proofs.Common.{◌≡◌, ◌∙◌, arith, false, sym, true≢false}
use Rattle.he_timeline.specs.Changes.{ChangeValues}
use Rattle.he_streaming.specs.declared.race_texts.Content.{Content}
use Rattle.he_streaming.specs.declared.race_texts.Content.TheVariants as contents
use Rattle.he_streaming.specs.Output.{IsTextWith, has_place}
use Rattle.he_streaming.specs.Pieces.{IsAnywhere}
use Rattle.he_streaming.proofs.replaying.replay.Goals as goal
use Rattle.he_streaming.proofs.replaying.replay.Goals.{then-has_place, else-has_place}

-- a text that has not the race's place stands anywhere
anywhere : (content : Content) (changes : ChangeValues) (file : Option (List ℕ)) → has_place content ≡ false → IsAnywhere (IsTextWith content changes file)
anywhere contents.Transcript changes file placeless = λ number line other_number other_line text said race is. is
anywhere contents.Order changes file placeless = λ number line other_number other_line text said race is. is
anywhere contents.TranscriptJson changes file placeless = absurd (true≢false placeless)
anywhere contents.OrderJson changes file placeless = absurd (true≢false placeless)
anywhere (contents.Course printer) changes file placeless = absurd (true≢false placeless)

pub stream_races-requires-clause-anywhere : goal.stream_races-requires-clause-anywhere
stream_races-requires-clause-anywhere g c κs within more = elim c.if-has_place.branch [
  | then-has_place w ↦ absurd (omega (arith, w.workers-is, more))
  | else-has_place w ↦ anywhere c.args.asked.now.content c.args.asked.now.changes (name_of c.args.asked.now.file) (sym c.has_place.ensures ∙ w.if-has_place.false)
]
