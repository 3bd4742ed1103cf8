-- Lines that are written token by token.
use Rattle.std.proofs.Common.{◌≡◌, ℕ, List, [], ◌∷◌, ◌++◌, refl, sym, ◌∙◌, ap, subst, append_assoc}
use Rattle.std.specs.List.{join_with_byte}
use Rattle.std.proofs.lemmas.List.{append-nil}
use Rattle.std.proofs.lemmas.List.Concat.{flat_map-cons}
use Rattle.std.specs.Prelude.{Result, Ok, Err, OnOk, OnErr}
use Rattle.he_words.specs.Appending.{Grows, AppendsText}
use Rattle.he_write.specs.Writing.{spaced}
use Rattle.he_write.specs.Written.{written_line}
use Rattle.he_words.proofs.Appending.{grows_append}

joined_spaced : (first : List ℕ) (others : List (List ℕ)) → join_with_byte 32 (first ∷ others) ≡ first ++ spaced others
joined_spaced first [] = sym (append-nil first)
joined_spaced first (next ∷ others) = ap (λ text. first ++ 32 ∷ text) (joined_spaced next others)

pub line_is : (first : List ℕ) (others : List (List ℕ)) → written_line (first ∷ others) ≡ (first ++ spaced others) ++ 10 ∷ []
line_is first others = ap (λ text. text ++ 10 ∷ []) (joined_spaced first others)

-- the three steps of a line
pub line_written : {E : Type 0} (old one two new first : List ℕ) (others : List (List ℕ)) (result : Result (Unit {0}) E)
    → one ≡ old ++ first → two ≡ one ++ spaced others → OnOk result (new ≡ two ++ 10 ∷ []) → OnErr result (new ≡ two)
    → AppendsText result old new (written_line (first ∷ others))
line_written old one two new first others (Ok done) h1 h2 ok err =
    let joined : two ≡ old ++ (first ++ spaced others) = h2 ∙ ap (λ t. t ++ spaced others) h1 ∙ append_assoc old first (spaced others) in
    ok ∙ ap (λ t. t ++ 10 ∷ []) joined ∙ append_assoc old (first ++ spaced others) (10 ∷ []) ∙ ap (λ t. old ++ t) (sym (line_is first others))
line_written old one two new first others (Err fault) h1 h2 ok err =
    let joined : two ≡ old ++ (first ++ spaced others) = h2 ∙ ap (λ t. t ++ spaced others) h1 ∙ append_assoc old first (spaced others) in
    let P : List ℕ → Type 0 = λ t. Grows old t in
    subst P (sym (err ∙ joined)) (grows_append old (first ++ spaced others))

-- a line of a word, a number and other tokens
pub listed_written : {E : Type 0} (old one two new word number : List ℕ) (others : List (List ℕ)) (result : Result (Unit {0}) E)
    → one ≡ old ++ (word ++ 32 ∷ number) → two ≡ one ++ spaced others → OnOk result (new ≡ two ++ 10 ∷ []) → OnErr result (new ≡ two)
    → AppendsText result old new (written_line (word ∷ number ∷ others))
listed_written old one two new word number others result h1 h2 ok err =
    let first : two ≡ (old ++ word) ++ spaced (number ∷ others) =
    h2 ∙ ap (λ t. t ++ spaced others) (h1 ∙ sym (append_assoc old word (32 ∷ number)))
    ∙ append_assoc (old ++ word) (32 ∷ number) (spaced others)
    ∙ ap (λ t. (old ++ word) ++ t) (sym (flat_map-cons (λ t. 32 ∷ t) number others)) in
    line_written old (old ++ word) two new word (number ∷ others) result refl first ok err
