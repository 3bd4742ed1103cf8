use Rattle.std.proofs.Common.{ℕ, ◌≡◌, ◌+◌, List, [], ◌∷◌, sym, subst}
use Rattle.std.proofs.lemmas.Bool.{eqb-true}
use Rattle.std.proofs.lemmas.List.{take_rest}
use Rattle.he_inputs.specs.Beginnings.{EndsIn}
use Rattle.he_inputs.specs.Inputs.{line_count}
use Rattle.he_reading.specs.Parts.{lines_of}
use Rattle.he_inputs.proofs.OpenLines.{ends_behind, ends_whole}
use Rattle.he_inputs.proofs.changes.open_line.Goals as goal

pub returns-in-Some : goal.returns-in-Some
returns-in-Some c =
    let is = c.in-Some.ensures in
    let ends = ends_behind c.args.text.now c.in-Some.at is.0.high (eqb-true _ 10 is.1) is.0.after in
    let same = sym (take_rest c.args.text.now (c.in-Some.at + 1)) in
    let E : List ℕ → Type 0 = EndsIn c.args.text.now (line_count c.args.text.now) in
    let L : List ℕ → Type 0 = λ rest. lines_of rest ≡ rest ∷ [] in
    record { end = subst E same ends.0; line = subst L same ends.1 }

pub returns-in-None : goal.returns-in-None
returns-in-None c = let ends = ends_whole c.args.text.now c.in-None.ensures in record { end = ends.0; line = ends.1 }
