-- Decimal numbers of one to three digits, and four of them joined by dots.
use Rattle.std.proofs.Common.{◌≡◌, ℕ, ◌+◌, ◌*◌, ◌/◌, ◌%◌, ◌<◌, ◌++◌, ◌∷◌, [], List, decimal, sym, ◌∙◌, ap, arith, append_assoc}
use Rattle.std.specs.Net.Text.{dotted_text}
use Rattle.std.proofs.lemmas.Fmt.{decimal_digit, decimal_step}

-- one digit more
next_digit : (n d : ℕ) → 0 < n → n < 100 → d < 10 → decimal (n * 10 + d) ≡ decimal n ++ (48 + d) ∷ []
next_digit n d some small digit =
    let front : (n * 10 + d) / 10 ≡ n = omega arith in
    let end : (n * 10 + d) % 10 ≡ d = omega arith in
    decimal_step (n * 10 + d) (omega arith) (omega arith) ∙ ap (λ m. decimal m ++ (48 + (n * 10 + d) % 10) ∷ []) front ∙ ap (λ m. decimal n ++ (48 + m) ∷ []) end

pub one_digit : (a n : ℕ) → n < 10 → a ≡ 48 + n → a ∷ [] ≡ decimal n
one_digit a n digit is = ap (λ x. x ∷ []) is ∙ sym (decimal_digit n digit)

pub two_digits : (a b m n : ℕ) → 0 < m → m < 10 → n < 10 → a ≡ 48 + m → b ≡ 48 + n → a ∷ b ∷ [] ≡ decimal (m * 10 + n)
two_digits a b m n some first second is_a is_b =
    ap (λ x. a ∷ x ∷ []) is_b ∙ ap (λ ds. ds ++ (48 + n) ∷ []) (one_digit a m first is_a) ∙ sym (next_digit m n some (omega arith) second)

pub three_digits : (a b c l m n : ℕ) → 0 < l → l < 10 → m < 10 → n < 10 → a ≡ 48 + l → b ≡ 48 + m → c ≡ 48 + n → a ∷ b ∷ c ∷ [] ≡ decimal ((l * 10 + m) * 10 + n)
three_digits a b c l m n some first second third is_a is_b is_c =
    ap (λ x. a ∷ b ∷ x ∷ []) is_c
    ∙ ap (λ ds. ds ++ (48 + n) ∷ []) (two_digits a b l m some first second is_a is_b)
    ∙ sym (next_digit (l * 10 + m) n (omega arith) (omega arith) third)

-- four parts, each but the last before a dot
pub dotted_parts : (text t u v : List ℕ) (a b c d : ℕ) → text ≡ decimal a ++ 46 ∷ t → t ≡ decimal b ++ 46 ∷ u → u ≡ decimal c ++ 46 ∷ v → v ≡ decimal d → text ≡ dotted_text a b c d
dotted_parts text t u v a b c d is_a is_b is_c is_d =
    is_a
    ∙ ap (λ rest. decimal a ++ 46 ∷ rest) (is_b ∙ ap (λ rest. decimal b ++ 46 ∷ rest) (is_c ∙ ap (λ rest. decimal c ++ 46 ∷ rest) is_d))
    ∙ simp append_assoc
