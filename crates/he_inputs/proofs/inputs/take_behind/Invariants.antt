use Rattle.std.proofs.Common.{List, [], ◌∷◌, ℕ, ◌-◌}
use Rattle.he_timeline.specs.Race.{Race}
use Rattle.he_words.specs.Ranges.{most_races}
use Rattle.he_inputs.specs.RaceStreams.{HasHanded}
use Rattle.he_inputs.proofs.inputs.take_behind.Given as goal

abbrev pub invariant-loop-other : goal.invariant-loop-other
invariant-loop-other g l =
    (first : g.row.I.Denot) (race : Race) (front : List ℕ) → HasHanded g.I.InputStream first l.fn.input l.fn.stream (race ∷ []) front
    → (others : List Race) × (texts : List ℕ) × HasHanded g.I.InputStream first l.input l.stream (race ∷ others) texts

abbrev pub decreases-loop-other : goal.decreases-loop-other
decreases-loop-other g l = most_races - l.stream.races
