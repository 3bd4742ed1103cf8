-- Groups and numbers parted by marks, made from the last to the first.
use Rattle.std.proofs.Common.{◌≡◌, ℕ, zero, suc, ◌+◌, ◌<◌, ◌≤◌, leb, List, [], ◌∷◌, ◌++◌, length, get_or, take, drop, decimal, refl, sym, ◌∙◌, ap, subst, arith, append_assoc, append-nil}
use Rattle.std.specs.List.{between}
use Rattle.std.specs.Int.{w32, to_be_bytes}
use Rattle.std.proofs.lemmas.Bool.{le-leb, cond-true}
use Rattle.std.proofs.lemmas.List.{drop_all}
use Rattle.std.proofs.lemmas.Slice.{between_to_end}
use Rattle.he_addr.specs.declared.printing.ZeroGroups.{ZeroGroups}
use Rattle.he_addr.specs.Prepending.{Prepends}
use Rattle.he_addr.specs.Printed.{dotted, groups_of, hex, joined, shortened}
use Rattle.he_addr.specs.Printing.{longest, printed_v6}
use Rattle.he_addr.proofs.Prepended.{prepends_then, prepends_as}

-- the groups from a place on
joined_last : (groups : List ℕ) (place : ℕ) → suc place ≡ length groups → joined (drop place groups) ≡ hex (get_or groups place 0)
joined_last [] place last = absurd (omega (arith, last))
joined_last (g ∷ []) zero last = refl
joined_last (g ∷ next ∷ gs) zero last = absurd (omega (arith, last))
joined_last (g ∷ gs) (suc place) last = joined_last gs place (omega (arith, last))

joined_before : (groups : List ℕ) (place : ℕ) → suc place < length groups → joined (drop place groups) ≡ hex (get_or groups place 0) ++ 58 ∷ joined (drop (suc place) groups)
joined_before [] place more = absurd (omega (arith, more))
joined_before (g ∷ []) zero more = absurd (omega (arith, more))
joined_before (g ∷ next ∷ gs) zero more = refl
joined_before (g ∷ gs) (suc place) more = joined_before gs place (omega (arith, more))

pub last_group : (groups : List ℕ) (place : ℕ) {old mid new : List ℕ} {end at start : ℕ} → suc place ≡ length groups
    → Prepends old end mid at (joined (drop (suc place) groups)) → Prepends mid at new start (hex (get_or groups place 0))
    → Prepends old end new start (joined (drop place groups))
last_group groups place last behind group =
    prepends_as (ap (λ rest. hex (get_or groups place 0) ++ joined rest) (drop_all (suc place) groups (omega (arith, last))) ∙ append-nil (hex (get_or groups place 0)) ∙ sym (joined_last groups place last))
    (prepends_then behind group)

pub group_before : (groups : List ℕ) (place : ℕ) {old mid now new : List ℕ} {end at colon start : ℕ} → suc place < length groups
    → Prepends old end mid at (joined (drop (suc place) groups)) → Prepends mid at now colon (58 ∷ []) → Prepends now colon new start (hex (get_or groups place 0))
    → Prepends old end new start (joined (drop place groups))
group_before groups place more behind mark group = prepends_as (sym (joined_before groups place more)) (prepends_then (prepends_then behind mark) group)

pub shortened_is : (number : ℕ) (groups : List ℕ) (run : ZeroGroups) → groups ≡ groups_of number → run ≡ longest groups → 2 ≤ run.len
    → joined (take run.start groups) ++ 58 ∷ 58 ∷ joined (between (run.start + run.len) 8 groups) ≡ printed_v6 number
unfolding printed_v6
shortened_is number groups run of first two =
    let same : run ≡ longest (groups_of number) = first ∙ ap longest of in
    ap (λ rest. joined (take run.start groups) ++ 58 ∷ 58 ∷ joined rest) (between_to_end groups (run.start + run.len) 8 (omega (arith, ap length of)))
    ∙ ap (λ gs. shortened gs run.start run.len) of
    ∙ ap (λ (r : ZeroGroups). shortened (groups_of number) r.start r.len) same
    ∙ sym (cond-true (leb 2 (longest (groups_of number)).len) (shortened (groups_of number) (longest (groups_of number)).start (longest (groups_of number)).len) (joined (groups_of number)) (le-leb 2 (longest (groups_of number)).len (subst (λ (r : ZeroGroups). 2 ≤ r.len) same two)))

dotted_shape : (a b c d : List ℕ) → (a ++ 46 ∷ []) ++ ((b ++ 46 ∷ []) ++ ((c ++ 46 ∷ []) ++ d)) ≡ a ++ 46 ∷ (b ++ 46 ∷ (c ++ 46 ∷ d))
dotted_shape a b c d = simp append_assoc

pub dotted_is : (n : ℕ) (bytes : List ℕ) → bytes ≡ to_be_bytes w32 n
    → (decimal (get_or bytes 0 0) ++ 46 ∷ []) ++ ((decimal (get_or bytes 1 0) ++ 46 ∷ []) ++ ((decimal (get_or bytes 2 0) ++ 46 ∷ []) ++ decimal (get_or bytes 3 0))) ≡ dotted n
dotted_is n bytes is =
    dotted_shape (decimal (get_or bytes 0 0)) (decimal (get_or bytes 1 0)) (decimal (get_or bytes 2 0)) (decimal (get_or bytes 3 0))
    ∙ ap (λ (bs : List ℕ). decimal (get_or bs 0 0) ++ 46 ∷ (decimal (get_or bs 1 0) ++ 46 ∷ (decimal (get_or bs 2 0) ++ 46 ∷ decimal (get_or bs 3 0)))) is
