-- Texts are compared octet by octet.
use Rattle.std.proofs.Common.{◌≡◌, ℕ, ◌+◌, ◌<◌, ◌&&◌, ◌==◌, Bool, true, false, List, [], ◌∷◌, add-one, arith, drop, get_or, length, refl, subst, suc, sym, zero, ap, ◌∙◌}
use Rattle.std.proofs.lemmas.Bool.{eq-eqb, eqb-true}
use Rattle.std.proofs.lemmas.Bool.Decides.{same_from_decides}
use Rattle.std.proofs.lemmas.List.{drop_all}
use Rattle.std.proofs.lemmas.Slice.Eq.{bytes_eq-Decides}
use Rattle.std.specs.Str.{bytes_eq}
use Rattle.he_users.specs.Users.{has_octet}

-- one more octet is compared
pub same_next : (given own : List ℕ) (at : ℕ) → at < length given → bytes_eq (drop at given) (drop at own) ≡ has_octet own at (get_or given at 0) && bytes_eq (drop (suc at) given) (drop (suc at) own)
same_next [] own at less = absurd (omega arith)
same_next (x ∷ given) [] zero less = refl
same_next (x ∷ given) (y ∷ own) zero less = refl
same_next (x ∷ given) [] (suc at) less =
    subst (λ (xs : List ℕ). bytes_eq (drop at given) xs ≡ false) (drop_all at [] (omega arith)) (same_next given [] at (omega arith))
same_next (x ∷ given) (y ∷ own) (suc at) less = same_next given own at (omega arith)

-- so that they decide from the next one on
pub same_step : (same has : Bool) (given own : List ℕ) (at : ℕ) → at < length given → has ≡ has_octet own at (get_or given at 0)
    → (same && bytes_eq (drop at given) (drop at own)) ≡ bytes_eq given own
    → ((same && has) && bytes_eq (drop (at + 1) given) (drop (at + 1) own)) ≡ bytes_eq given own
same_step false has given own at less is all = all
same_step true has given own at less is all =
    let next : bytes_eq (drop at given) (drop at own) ≡ has_octet own at (get_or given at 0) && bytes_eq (drop (at + 1) given) (drop (at + 1) own) =
    rw add-one (same_next given own at less) in
    ap (λ (b : Bool). b && bytes_eq (drop (at + 1) given) (drop (at + 1) own)) is ∙ sym next ∙ all

-- all octets of the given text are compared
pub same_last : (same : Bool) (given own : List ℕ) → (same && bytes_eq (drop (length given) given) (drop (length given) own)) ≡ bytes_eq given own → (same && (length given == length own)) ≡ bytes_eq given own
same_last false given own is = is
same_last true given own is =
    same_from_decides (length given == length own) (bytes_eq given own) (
      λ equal. (bytes_eq-Decides given own).0 (sym is ∙ rw (drop_all (length given) given (omega arith), drop_all (length given) own (let n : length given ≡ length own = eqb-true (length given) (length own) equal in omega arith)) refl),
      λ equal. eq-eqb (length given) (length own) (ap length equal),
    )
    (bytes_eq-Decides given own)
