-- What stands in a text of a page.
use Rattle.std.proofs.Common.{◌≡◌, ℕ, true, false, List, [], ◌∷◌, ◌++◌, refl, ◌∙◌, ap, arith}
use Rattle.std.specs.Prelude.{◌==◌, if◌then◌else◌, not, codes}
use Rattle.std.specs.Cmp.Derive.{both_true}
use Rattle.std.specs.List.{flat_map, list_all}
use Rattle.std.proofs.lemmas.Bool.{and_parts}
use Rattle.std.proofs.lemmas.Bool.Decides.{nat_tests}
use Rattle.std.proofs.lemmas.List.Folds.{list_all-append}
use Rattle.he_draw.specs.Page.{escaped, is_plain}

plain_is_no_tag : (b : ℕ) → is_plain b ≡ true → list_all (λ byte. not (byte == 60)) (b ∷ []) ≡ true
plain_is_no_tag b plain = grind (arith, nat_tests)

escaped_is_no_tag : (b : ℕ) → list_all (λ byte. not (byte == 60)) (escaped b) ≡ true
escaped_is_no_tag b =
    elim (is_plain b) as (λ p. (is_plain b ≡ p) → list_all (λ byte. not (byte == 60)) (if p then b ∷ [] else if b == 38 then codes "&amp;" else codes "&lt;") ≡ true) [
      | true ↦ λ plain. plain_is_no_tag b plain
      | false ↦ λ _. elim (b == 38) as (λ q. list_all (λ byte. not (byte == 60)) (if q then codes "&amp;" else codes "&lt;") ≡ true) [ true ↦ refl | false ↦ refl ]
    ] refl

pub names_are_no_tags : (bytes : List ℕ) → list_all (λ byte. not (byte == 60)) (flat_map escaped bytes) ≡ true
names_are_no_tags [] = refl
names_are_no_tags (b ∷ bytes) =
    list_all-append (λ byte. not (byte == 60)) (escaped b) (flat_map escaped bytes)
    ∙ both_true (escaped_is_no_tag b) (names_are_no_tags bytes)

-- what needs no escape stands as it is
pub plain_stands : (bytes : List ℕ) → list_all is_plain bytes ≡ true → flat_map escaped bytes ≡ bytes
plain_stands [] h = refl
plain_stands (b ∷ bytes) h =
    let both : (is_plain b ≡ true) × (list_all is_plain bytes ≡ true) = and_parts (is_plain b) (list_all is_plain bytes) h in
    ap (λ p. (if p then b ∷ [] else if b == 38 then codes "&amp;" else codes "&lt;") ++ flat_map escaped bytes) both.0
    ∙ ap (λ (l : List ℕ). b ∷ l) (plain_stands bytes both.1)
