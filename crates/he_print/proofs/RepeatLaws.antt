-- Words that are written so many times.
use Rattle.std.proofs.Common.{◌≡◌, ℕ, suc, ◌+◌, ◌-◌, ◌<◌, ◌≤◌, List, ◌++◌, sym, ◌∙◌, ap, arith, append_assoc}
use Rattle.std.proofs.lemmas.List.{append-nil}
use Rattle.std.specs.List.{repeat}

-- one more of so many
pub repeated_more : (words old text new : List ℕ) (n k : ℕ) → k < n → new ≡ text ++ words → text ++ repeat (n - k) words ≡ old ++ repeat n words
    → new ++ repeat (n - (k + 1)) words ≡ old ++ repeat n words
repeated_more words old text new n k less is before =
    let left : n - k ≡ suc (n - (k + 1)) = omega (arith, less) in
    ap (λ t. t ++ repeat (n - (k + 1)) words) is
    ∙ append_assoc text words (repeat (n - (k + 1)) words)
    ∙ ap (λ s. text ++ s) (sym (ap (λ m. repeat m words) left))
    ∙ before

-- all of them
pub repeated_all : (words old text : List ℕ) (n k : ℕ) → n ≤ k → text ++ repeat (n - k) words ≡ old ++ repeat n words → text ≡ old ++ repeat n words
repeated_all words old text n k done is =
    let none : n - k ≡ 0 = omega (arith, done) in
    sym (append-nil text) ∙ ap (λ m. text ++ repeat m words) (sym none) ∙ is
