-- Texts that are written one after the other.
use Rattle.std.proofs.Common.{◌≡◌, ℕ, List, ◌++◌, ◌∙◌, ap, append_assoc}

pub three_texts : (old one two new a b c : List ℕ) → one ≡ old ++ a → two ≡ one ++ b → new ≡ two ++ c → new ≡ old ++ (a ++ (b ++ c))
three_texts old one two new a b c first second third =
    third
    ∙ ap (λ t. t ++ c) (second ∙ ap (λ t. t ++ b) first ∙ append_assoc old a b)
    ∙ append_assoc old (a ++ b) c
    ∙ ap (λ t. old ++ t) (append_assoc a b c)

pub five_texts : (old one two three four new a b c d e : List ℕ) → one ≡ old ++ a → two ≡ one ++ b → three ≡ two ++ c → four ≡ three ++ d → new ≡ four ++ e
    → new ≡ old ++ (a ++ (b ++ (c ++ (d ++ e))))
five_texts old one two three four new a b c d e first second third fourth fifth =
    three_texts two three four new c d e third fourth fifth
    ∙ ap (λ t. t ++ (c ++ (d ++ e))) (second ∙ ap (λ t. t ++ b) first ∙ append_assoc old a b)
    ∙ append_assoc old (a ++ b) (c ++ (d ++ e))
    ∙ ap (λ t. old ++ t) (append_assoc a b (c ++ (d ++ e)))
