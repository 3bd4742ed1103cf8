-- The rows that a line asks for.
use Rattle.std.proofs.Common.{◌≡◌, ◌+◌, ◌++◌, ◌∙◌, ℕ, zero, suc, List, [], ◌∷◌, Option, Some, None, ap, arith, codes, map, option_map, refl, subst, sym}
use Rattle.std.specs.Borrow.{Bor}
use Rattle.std.specs.List.{AllZip, flat_map, join_by, range_with_len}
use Rattle.std.specs.Option.{unwrap_or}
use Rattle.std.proofs.lemmas.List.FromFn.{map-range_with_len_more}
use Rattle.he_timeline.specs.Changes.{ChangeValues}
use Rattle.he_options.specs.Rows.{AreFirstRows, AsksRow, first_labels, label_in, text_in}

zipped : {A B : Type 0} (R : A → B → Type 0) (xs : List A) (ys : List B) (x : A) (y : B) → AllZip R xs ys → R x y → AllZip R (xs ++ x ∷ []) (ys ++ y ∷ [])
zipped R [] [] x y all one = (one, tt)
zipped R [] (b ∷ ys) x y all one = absurd all
zipped R (a ∷ xs) [] x y all one = absurd all
zipped R (a ∷ xs) (b ∷ ys) x y all one = (all.0, zipped R xs ys x y all.1 one)

counted : (from count next : ℕ) → from + count ≡ next → range_with_len from (suc count) ≡ range_with_len from count ++ next ∷ []
counted from zero next is = let same : from ≡ next = omega arith in ap (λ place. place ∷ []) same
counted from (suc count) next is = ap (λ places. from ∷ places) (counted (from + 1) count next (omega arith))

-- the next row
pub one_more : (texts : List (List ℕ)) (row next : ℕ) (rows : List ChangeValues) (changes : ChangeValues) → next ≡ suc row → AreFirstRows row texts rows → AsksRow texts row changes
    → AreFirstRows next texts (rows ++ changes ∷ [])
one_more texts row next [] changes is are asks = absurd are
one_more texts row next (first ∷ rows) changes is are asks = (
  are.0,
  subst (λ (places : List ℕ). AllZip (AsksRow texts) places (rows ++ changes ∷ [])) (sym (ap (range_with_len 0) is ∙ counted 0 row row (omega arith)))
      (zipped (AsksRow texts) (range_with_len 0 row) rows row changes are.1 asks),
)

behind : (separator : List ℕ) (words : List (Bor (List ℕ))) → flat_map (λ word. separator ++ word.now) words ≡ flat_map (λ word. separator ++ word) (map (λ word. word.now) words)
behind separator [] = refl
behind separator (word ∷ words) = ap (λ more. (separator ++ word.now) ++ more) (behind separator words)

joined : (separator : List ℕ) (words : List (Bor (List ℕ))) → join_by (λ word. word.now) separator words ≡ join_by (λ word. word) separator (map (λ word. word.now) words)
joined separator [] = refl
joined separator (word ∷ words) = ap (λ more. word.now ++ more) (behind separator words)

plus : (row : ℕ) → suc row ≡ row + 1
plus row = omega arith

-- and its label
pub label_more : (texts : List (List ℕ)) (row next : ℕ) (words : List (Bor (List ℕ))) (label : List ℕ) (labels : List (List ℕ)) → next ≡ suc row
    → map (λ word. word.now) words ≡ map (text_in row) texts → label ≡ join_by (λ word. word.now) (codes " ") words → labels ≡ first_labels row texts
    → labels ++ label ∷ [] ≡ first_labels next texts
label_more texts row next words label labels is same joins before =
    let made : label ≡ label_in texts row = joins ∙ joined (codes " ") words ∙ ap (join_by (λ word. word) (codes " ")) same in
    let more : map (label_in texts) (range_with_len 0 next) ≡ map (label_in texts) (range_with_len 0 row) ++ label_in texts row ∷ [] =
    ap (λ n. map (label_in texts) (range_with_len 0 n)) (is ∙ plus row) ∙ map-range_with_len_more (label_in texts) 0 row row (omega arith) in
    ap (λ list. list ++ label ∷ []) before ∙ ap (λ last. first_labels row texts ++ last ∷ []) made ∙ sym (ap (λ list. codes "as recorded" ∷ list) more)

pub lent_or : (word : Option (Bor (List ℕ))) (otherwise : Bor (List ℕ)) → (unwrap_or word otherwise).now ≡ unwrap_or (option_map (λ w. w.now) word) otherwise.now
lent_or None otherwise = refl
lent_or (Some word) otherwise = refl
