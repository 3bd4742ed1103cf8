-- The clause after a sentence.
use Rattle.std.proofs.Common.{ℕ, ◌≡◌, ◌++◌, ◌∷◌, ◌∙◌, List, [], Option, append_assoc, sym, ap}
use Rattle.he_faults.specs.Sentences.{clause_text, meant_text}
use Rattle.he_faults.specs.declared.meant.Meant.{Meant}

-- what was likely meant and a line end stand after a sentence
pub ends_behind : (before said : List ℕ) (meant hint : Option Meant) (text new : List ℕ) → meant ≡ hint → text ≡ before ++ (said ++ meant_text meant) → new ≡ text ++ 10 ∷ [] → new ≡ (before ++ said) ++ clause_text hint
ends_behind before said meant hint text new same is longer =
    longer ∙ ap (λ (t : List ℕ). t ++ 10 ∷ []) is ∙ append_assoc before (said ++ meant_text meant) (10 ∷ [])
    ∙ ap (λ (t : List ℕ). before ++ t) (append_assoc said (meant_text meant) (10 ∷ [])) ∙ sym (append_assoc before said (clause_text meant)) ∙ ap (λ (m : Option Meant). (before ++ said) ++ clause_text m) same
