-- Texts that are written one after the other, of which the last may fail.
use Rattle.std.proofs.Common.{◌≡◌, ℕ, List, ◌++◌, ◌∙◌, OnOk, Result, ap, append_assoc, subst}

pub three_ok : {U E : Type 0} (result : Result U E) (old one two new a b c : List ℕ) → one ≡ old ++ a → two ≡ one ++ b → OnOk result (new ≡ two ++ c)
    → OnOk result (new ≡ old ++ (a ++ (b ++ c)))
three_ok result old one two new a b c first second last =
    subst (λ (t : List ℕ). OnOk result (new ≡ t)) (ap (λ (t : List ℕ). t ++ c) (second ∙ ap (λ (t : List ℕ). t ++ b) first ∙ append_assoc old a b) ∙ append_assoc old (a ++ b) c ∙ ap (λ (t : List ℕ). old ++ t) (append_assoc a b c)) last

pub five_ok : {U E : Type 0} (result : Result U E) (old one two three four new a b c d e : List ℕ) → one ≡ old ++ a → two ≡ one ++ b → three ≡ two ++ c → four ≡ three ++ d
    → OnOk result (new ≡ four ++ e) → OnOk result (new ≡ old ++ (a ++ (b ++ (c ++ (d ++ e)))))
five_ok result old one two three four new a b c d e first second third fourth last =
    three_ok result old one two new a b (c ++ (d ++ e)) first second (three_ok result two three four new c d e third fourth last)

pub seven_ok : {U E : Type 0} (result : Result U E) (old one two three four five six new a b c d e f g : List ℕ) → one ≡ old ++ a → two ≡ one ++ b → three ≡ two ++ c → four ≡ three ++ d
    → five ≡ four ++ e → six ≡ five ++ f → OnOk result (new ≡ six ++ g) → OnOk result (new ≡ old ++ (a ++ (b ++ (c ++ (d ++ (e ++ (f ++ g)))))))
seven_ok result old one two three four five six new a b c d e f g first second third fourth fifth sixth last =
    three_ok result old one two new a b (c ++ (d ++ (e ++ (f ++ g)))) first second (five_ok result two three four five six new c d e f g third fourth fifth sixth last)

two_ok : {U E : Type 0} (result : Result U E) (old one new a b : List ℕ) → one ≡ old ++ a → OnOk result (new ≡ one ++ b)
    → OnOk result (new ≡ old ++ (a ++ b))
two_ok result old one new a b first last =
    subst (λ (t : List ℕ). OnOk result (new ≡ t)) (ap (λ (t : List ℕ). t ++ b) first ∙ append_assoc old a b) last

pub six_ok : {U E : Type 0} (result : Result U E) (old one two three four five new a b c d e f : List ℕ) → one ≡ old ++ a → two ≡ one ++ b → three ≡ two ++ c → four ≡ three ++ d
    → five ≡ four ++ e → OnOk result (new ≡ five ++ f) → OnOk result (new ≡ old ++ (a ++ (b ++ (c ++ (d ++ (e ++ f))))))
six_ok result old one two three four five new a b c d e f first second third fourth fifth last =
    two_ok result old one new a (b ++ (c ++ (d ++ (e ++ f)))) first (five_ok result one two three four five new b c d e f second third fourth fifth last)
