-- A group in hexadecimal: its last digit, and how many it has.
use Rattle.std.proofs.Common.{◌≡◌, ℕ, zero, suc, ◌+◌, ◌/◌, ◌%◌, ◌^◌, ◌<◌, ◌≤◌, false, cond, List, [], ◌∷◌, ◌++◌, length, refl, sym, ◌∙◌, ap, ⊎_elim, arith}
use Rattle.std.specs.Fmt.{digit_glyph, digits_onto, digits}
use Rattle.std.proofs.lemmas.Bool.{eq-eqb, ne_eqb, cases_lt}
use Rattle.std.proofs.lemmas.Fmt.{hex_one_digit}
use Rattle.std.proofs.lemmas.List.{append_assoc, length-append}
use Rattle.he_addr.specs.Printed.{hex}

abbrev spell : ℕ → ℕ → List ℕ → List ℕ
spell k n acc = digits_onto k 16 false n acc

abbrev last_glyph : ℕ → ℕ
last_glyph n = digit_glyph false (n % 16)

spell_last : (k n : ℕ) (acc : List ℕ) → n < 16 → spell (suc k) n acc ≡ last_glyph n ∷ acc
spell_last k n acc h = ap (λ t. cond t (last_glyph n ∷ acc) (spell k (n / 16) (last_glyph n ∷ acc))) (eq-eqb (n / 16) 0 (omega arith))

spell_next : (k n : ℕ) (acc : List ℕ) → 16 ≤ n → spell (suc k) n acc ≡ spell k (n / 16) (last_glyph n ∷ acc)
spell_next k n acc h = ap (λ t. cond t (last_glyph n ∷ acc) (spell k (n / 16) (last_glyph n ∷ acc))) (ne_eqb (n / 16) 0 (λ e. omega arith))

spell-append : (k n : ℕ) (acc : List ℕ) → spell k n acc ≡ spell k n [] ++ acc
spell-append zero n acc = refl
spell-append (suc k) n acc = ⊎_elim
    (λ l. spell_last k n acc l ∙ ap (λ x. x ++ acc) (sym (spell_last k n [] l)))
    (λ l. spell_next k n acc l ∙ spell-append k (n / 16) (last_glyph n ∷ acc) ∙ sym (append_assoc (spell k (n / 16) []) (last_glyph n ∷ []) acc) ∙ ap (λ x. x ++ acc) (sym (spell_next k n [] l ∙ spell-append k (n / 16) (last_glyph n ∷ []))))
    (cases_lt n 16)

-- more turns than digits change nothing
spell_enough : (j k n : ℕ) (acc : List ℕ) → n < 16 ^ suc j → n < 16 ^ suc k → spell (suc j) n acc ≡ spell (suc k) n acc
spell_enough zero k n acc p q = spell_last zero n acc (omega arith) ∙ sym (spell_last k n acc (omega arith))
spell_enough (suc j) zero n acc p q = spell_last (suc j) n acc (omega arith) ∙ sym (spell_last zero n acc (omega arith))
spell_enough (suc j) (suc k) n acc p q = ⊎_elim
    (λ l. spell_last (suc j) n acc l ∙ sym (spell_last (suc k) n acc l))
    (λ l. spell_next (suc j) n acc l ∙ spell_enough j k (n / 16) (last_glyph n ∷ acc) (omega arith) (omega arith) ∙ sym (spell_next (suc k) n acc l))
    (cases_lt n 16)

-- one digit more
pub hex_step : (g : ℕ) → 16 ≤ g → g < 65536 → hex g ≡ hex (g / 16) ++ digit_glyph false (g % 16) ∷ []
unfolding digits
hex_step g large small =
    spell_next 63 g [] large ∙ spell_enough 62 63 (g / 16) (last_glyph g ∷ []) (omega arith) (omega arith) ∙ spell-append 64 (g / 16) (last_glyph g ∷ [])

pub length-hex_step : (g : ℕ) → 16 ≤ g → g < 65536 → length (hex g) ≡ length (hex (g / 16)) + 1
length-hex_step g large small = ap length (hex_step g large small) ∙ length-append (hex (g / 16)) (digit_glyph false (g % 16) ∷ [])

pub length-hex_one : (g : ℕ) → g < 16 → length (hex g) ≡ 1
length-hex_one g small = ap length (hex_one_digit false g small)

length_below : (k g : ℕ) → g < 16 ^ suc k → g < 65536 → (0 < length (hex g)) × (length (hex g) ≤ suc k)
length_below zero g p small = let one = length-hex_one g (omega arith) in (omega (arith, one), omega (arith, one))
length_below (suc k) g p small = ⊎_elim
    (λ one. let e = length-hex_one g one in (omega (arith, e), omega (arith, e)))
    (λ more. let e = length-hex_step g more small in let rest = length_below k (g / 16) (omega arith) (omega arith) in (omega (arith, e), omega (arith, e, rest.1)))
    (cases_lt g 16)

-- one to four digits
pub length-hex : (g : ℕ) → g < 65536 → (0 < length (hex g)) × (length (hex g) ≤ 4)
length-hex g small = length_below 3 g (omega arith) small
