-- Texts that are appended one after another.
use Rattle.std.proofs.Common.{ℕ, ◌≡◌, ◌++◌, List, ◌∙◌, ap, append_assoc}

-- two texts appended are their text
pub joined : (a b old mid new : List ℕ) → mid ≡ old ++ a → new ≡ mid ++ b → new ≡ old ++ (a ++ b)
joined a b old mid new first second = second ∙ ap (λ (t : List ℕ). t ++ b) first ∙ append_assoc old a b
