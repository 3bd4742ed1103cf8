use Rattle.std.proofs.Common.{◌≡◌, ◌+◌, ◌-◌, ◌==◌, ◌∷◌, ℕ, List, Some, None, length, take, position, sym, ◌∙◌, ap}
use Rattle.std.proofs.lemmas.List.{take_rest}
use Rattle.he_reading.specs.Left.{all_but, parts_before}
use Rattle.he_reading.specs.Parts.{tokens_of}
use Rattle.he_reading.proofs.PartLaws.{rest_found, parts_whole}
use Rattle.he_reading.proofs.parts.Tokens.next.Goals as goal

pub returns-in-Some : goal.returns-in-Some
returns-in-Some c =
    let rest : List ℕ = c.in_ok-rest.rest.now in
    let behind : ℕ = c.args.self.now.behind in
    let at : ℕ = c.in-Some.at in
    let near : Some at ≡ position (λ b. b == 32) (take (length rest - behind) rest) =
    c.in-Some.ensures ∙ ap (λ (n : ℕ). position (λ b. b == 32) (take n rest)) c.saturating_sub-len.ensures in
    record {
      token = ap (parts_before 32 behind) c.in_ok-rest.was ∙ rest_found 32 behind at rest near
          ∙ ap (λ (more : List ℕ). take at rest ∷ tokens_of (all_but behind more)) (sym (take_rest rest (at + 1)));
    }

pub returns-in-None : goal.returns-in-None
returns-in-None c =
    let rest : List ℕ = c.in_ok-rest.rest.now in
    let behind : ℕ = c.args.self.now.behind in
    let none : position (λ b. b == 32) (take c.saturating_sub-len.result rest) ≡ None = sym c.in-None.ensures in
    record {
      token = ap (parts_before 32 behind) c.in_ok-rest.was
          ∙ ap (λ (n : ℕ). tokens_of (take n rest)) (sym c.saturating_sub-len.ensures)
          ∙ parts_whole 32 (take c.saturating_sub-len.result rest) none;
    }
