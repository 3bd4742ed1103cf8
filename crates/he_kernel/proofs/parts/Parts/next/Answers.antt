use Rattle.std.proofs.Common.{◌+◌, ◌∷◌, ℕ, List, take, sym, ◌∙◌, ap}
use Rattle.std.proofs.lemmas.List.{take_rest}
use Rattle.he_kernel.specs.Parts.{is_mark, parts_from, parts_of}
use Rattle.he_kernel.proofs.Cutting.{parts_found, parts_whole}
use Rattle.he_kernel.proofs.parts.Parts.next.Goals as goal

pub returns-in-Some : goal.returns-in-Some
returns-in-Some c =
    let rest : List ℕ = c.in_ok-rest.rest.now in
    let cut = c.args.self.now.cut in
    let at : ℕ = c.in-Some.at in
    ap (parts_from cut) c.in_ok-rest.was ∙ parts_found (is_mark cut) rest at (sym c.in-Some.ensures)
    ∙ ap (λ (more : List ℕ). take at rest ∷ parts_of cut more) (sym (take_rest rest (at + 1)))

pub returns-in-None : goal.returns-in-None
returns-in-None c =
    let rest : List ℕ = c.in_ok-rest.rest.now in
    let cut = c.args.self.now.cut in
    ap (parts_from cut) c.in_ok-rest.was ∙ parts_whole (is_mark cut) rest (sym c.in-None.ensures)
