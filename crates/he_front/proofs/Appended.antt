-- Texts that are appended one after the other.
use Rattle.std.proofs.Common.{◌≡◌, ℕ, List, ◌++◌, Err, Ok, OnOk, Result, ap, append_assoc, ◌∙◌}

pub after_three : {T E : Type 0} (r : Result T E) (old a b c m n new : List ℕ) → m ≡ old ++ a → n ≡ m ++ b → OnOk r (new ≡ n ++ c) → OnOk r (new ≡ old ++ (a ++ (b ++ c)))
after_three (Ok done) old a b c m n new first second third =
    third ∙ ap (λ (text : List ℕ). text ++ c) (second ∙ ap (λ (text : List ℕ). text ++ b) first)
    ∙ append_assoc (old ++ a) b c ∙ append_assoc old a (b ++ c)
after_three (Err refused) old a b c m n new first second third = tt

pub after_four : {T E : Type 0} (r : Result T E) (old a b c d m n o new : List ℕ) → m ≡ old ++ a → n ≡ m ++ b → o ≡ n ++ c → OnOk r (new ≡ o ++ d) → OnOk r (new ≡ old ++ (a ++ (b ++ (c ++ d))))
after_four (Ok done) old a b c d m n o new first second third fourth =
    fourth ∙ ap (λ (text : List ℕ). text ++ d) (third ∙ ap (λ (text : List ℕ). text ++ c) (second ∙ ap (λ (text : List ℕ). text ++ b) first))
    ∙ append_assoc ((old ++ a) ++ b) c d ∙ append_assoc (old ++ a) b (c ++ d) ∙ append_assoc old a (b ++ (c ++ d))
after_four (Err refused) old a b c d m n o new first second third fourth = tt

pub after_six : {T E : Type 0} (r : Result T E) (old a b c d e f m n o p q new : List ℕ) → m ≡ old ++ a → n ≡ m ++ b → o ≡ n ++ c → p ≡ o ++ d → q ≡ p ++ e → OnOk r (new ≡ q ++ f) → OnOk r (new ≡ old ++ (a ++ (b ++ (c ++ (d ++ (e ++ f))))))
after_six (Ok done) old a b c d e f m n o p q new first second third fourth fifth sixth =
    sixth ∙ ap (λ (text : List ℕ). text ++ f) (fifth ∙ ap (λ (text : List ℕ). text ++ e) (fourth ∙ ap (λ (text : List ℕ). text ++ d) (third ∙ ap (λ (text : List ℕ). text ++ c) (second ∙ ap (λ (text : List ℕ). text ++ b) first))))
    ∙ append_assoc ((((old ++ a) ++ b) ++ c) ++ d) e f ∙ append_assoc (((old ++ a) ++ b) ++ c) d (e ++ f)
    ∙ append_assoc ((old ++ a) ++ b) c (d ++ (e ++ f)) ∙ append_assoc (old ++ a) b (c ++ (d ++ (e ++ f)))
    ∙ append_assoc old a (b ++ (c ++ (d ++ (e ++ f))))
after_six (Err refused) old a b c d e f m n o p q new first second third fourth fifth sixth = tt
