use Rattle.std.proofs.Common.{◌≡◌, ◌++◌, ◌∷◌, drop}
use Rattle.std.specs.List.{flat_map}
use Rattle.he_print.specs.Parts.{fact_of}
use Rattle.he_print.specs.declared.part.Fact.TheVariants as facts
use Rattle.he_story.specs.Lines.{told}
use Rattle.he_story.proofs.story.Story.tell.Given as goal

abbrev pub invariant-loop-place : goal.invariant-loop-place
invariant-loop-place g l =
    told l.self ++ flat_map fact_of (drop l.place l.parts) ≡ told l.fn.self ++ (facts.Said l.fn.said ∷ flat_map fact_of l.parts)
