-- Networks of which the registries call nothing globally reachable, and what an address that carries another is judged
-- as.
use Rattle.std.proofs.Common.{◌≡◌, ℕ, ◌+◌, ◌-◌, ◌*◌, ◌/◌, ◌%◌, ◌^◌, ◌<◌, ◌≤◌, ◌&&◌, ◌||◌, Bool, true, false, not, List, [], ◌∷◌, nat_le, nat_lt, nat_eq, refl, sym, ◌∙◌, ap, subst, inl, inr, arith, eq-eqb, ne_eqb}
use Rattle.std.proofs.lemmas.Bool.{and_parts, or_cases, leb-true, ltb-true, le-leb, lt-ltb, not-true, le-ltb, and_from}
use Rattle.std.proofs.lemmas.Nat.{div-add-mod', div-mul-add, mod-mul-add}
use Rattle.std.proofs.Math.Nat.{lt-div-mul-add}
use Rattle.he_addr.specs.declared.ip.Ip.{Ip}
use Rattle.he_addr.specs.declared.ip.Ip.TheVariants.{V4, V6}
use Rattle.he_addr.specs.Ip.{mapped_of}
use Rattle.he_access.specs.Registries.{Row, Among, Says, covers, judged, last_of, rows}
use Rattle.he_access.specs.Reaching.{Carries, IsGlobal, IsPrivate}

-- the other row says nothing of a number between these that the row does not overrule
abbrev gives_way : Row → ℕ → ℕ → Row → Bool
gives_way row first last other =
    not other.global || (nat_lt other.len row.len || (nat_lt last other.bits || nat_lt (last_of other) first))

abbrev all_give_way : Row → ℕ → ℕ → List Row → Bool
all_give_way row first last [] = true
all_give_way row first last (other ∷ others) = gives_way row first last other && all_give_way row first last others

-- the row refuses all between these
abbrev refuses : List Row → ℕ → ℕ → Row → Bool
refuses table first last row =
    not row.global && (nat_le row.bits first && (nat_le last (last_of row) && all_give_way row first last table))

-- one of them does
abbrev some_refuses : List Row → ℕ → ℕ → List Row → Bool
some_refuses table first last [] = false
some_refuses table first last (row ∷ others) = refuses table first last row || some_refuses table first last others

gives_at : (row : Row) (first last : ℕ) (list : List Row) → all_give_way row first last list ≡ true → (other : Row) → Among other list → gives_way row first last other ≡ true
gives_at row first last [] all other among = elim among [ ]
gives_at row first last (next ∷ others) all other (inl is) =
    subst (λ (r : Row). gives_way row first last r ≡ true) (sym is) (and_parts _ _ all).0
gives_at row first last (next ∷ others) all other (inr among) =
    gives_at row first last others (and_parts _ _ all).1 other among

covers_parts : (row : Row) (n : ℕ) → covers row n ≡ true → (row.bits ≤ n) × (n ≤ last_of row)
covers_parts row n c = (leb-true row.bits n (and_parts _ _ c).0, leb-true n (last_of row) (and_parts _ _ c).1)

-- a row that is longer, called globally reachable, and covers one of them does not give way
no_way : (row other : Row) (first last n : ℕ) → first ≤ n → n ≤ last → row.len ≤ other.len → covers other n ≡ true → true ≡ other.global → gives_way row first last other ≡ true → ⊥
no_way row other first last n from to longer c global gives =
    let parts : (other.bits ≤ n) × (n ≤ last_of other) = covers_parts other n c in
    let from_there : other.bits ≤ n = parts.0 in
    let to_there : n ≤ last_of other = parts.1 in
    elim (or_cases _ _ gives) [
      | inl closed ↦ let shut : other.global ≡ false = not-true other.global closed in cc
      | inr rest ↦ elim (or_cases _ _ rest) [
        | inl short ↦ let less : other.len < row.len = ltb-true other.len row.len short in omega arith
        | inr rest ↦ elim (or_cases _ _ rest) [
          | inl behind ↦ let less : last < other.bits = ltb-true last other.bits behind in omega arith
          | inr before ↦ let less : last_of other < first = ltb-true (last_of other) first before in omega arith
        ]
      ]
    ]

refused_by : (table : List Row) (row : Row) (first last n : ℕ) → Among row table → refuses table first last row ≡ true → first ≤ n → n ≤ last → Says table n true → ⊥
refused_by table row first last n among r from to says =
    let one : (nat_le row.bits first && (nat_le last (last_of row) && all_give_way row first last table)) ≡ true =
    (and_parts (not row.global) (nat_le row.bits first && (nat_le last (last_of row) && all_give_way row first last table)) r).1 in
    let two : (nat_le last (last_of row) && all_give_way row first last table) ≡ true =
    (and_parts (nat_le row.bits first) (nat_le last (last_of row) && all_give_way row first last table) one).1 in
    let low : row.bits ≤ first = leb-true row.bits first (and_parts (nat_le row.bits first) (nat_le last (last_of row) && all_give_way row first last table) one).0 in
    let high : last ≤ last_of row = leb-true last (last_of row) (and_parts (nat_le last (last_of row)) (all_give_way row first last table) two).0 in
    let all : all_give_way row first last table ≡ true = (and_parts (nat_le last (last_of row)) (all_give_way row first last table) two).1 in
    let closed : not row.global ≡ true = (and_parts (not row.global) (nat_le row.bits first && (nat_le last (last_of row) && all_give_way row first last table)) r).0 in
    let covering : covers row n ≡ true = and_from _ _ (le-leb row.bits n (omega arith)) (le-leb n (last_of row) (omega arith)) in
    elim says [
      | inl (best, is, means) ↦ no_way row best first last n from to (is.longest row among covering) is.covering means (gives_at row first last table all best is.among)
      | inr (none, means) ↦ let lacks : covers row n ≡ false = none row among in cc
    ]

-- where some row refuses all between two numbers, none of these is called globally reachable
refused : (table list : List Row) → ((row : Row) → Among row list → Among row table) → (first last n : ℕ) → some_refuses table first last list ≡ true → first ≤ n → n ≤ last → Says table n true → ⊥
refused table [] into first last n some from to says = cc
refused table (row ∷ others) into first last n some from to says =
    elim (or_cases _ _ some) [
      | inl r ↦ refused_by table row first last n (into row (inl refl)) r from to says
      | inr rest ↦ refused table others (λ other a. into other (inr a)) first last n rest from to says
    ]

shut : (first last n : ℕ) → some_refuses rows first last rows ≡ true → first ≤ n → n ≤ last → Says rows n true → ⊥
shut = refused rows rows (λ row a. a)

-- the numbers with this quotient
from_div : (n w k : ℕ) → n / w ≡ k → k * w ≤ n
from_div n w k is = let parts : n / w * w + n % w ≡ n = div-add-mod' n w in subst (λ (q : ℕ). q * w ≤ n) is (omega arith)

to_div : (n w k : ℕ) → 0 < w → n / w ≡ k → n < k * w + w
to_div n w k positive is = subst (λ (q : ℕ). n < q * w + w) is (lt-div-mul-add positive)

not_div : (n w k : ℕ) → 0 < w → k * w + w ≤ n → nat_eq (n / w) k ≡ false
not_div n w k positive above = ne_eqb (n / w) k (λ is. let below : n < k * w + w = to_div n w k positive is in omega arith)

not_div_below : (n w k : ℕ) → n < k * w → nat_eq (n / w) k ≡ false
not_div_below n w k below = ne_eqb (n / w) k (λ is. let from : k * w ≤ n = from_div n w k is in omega arith)

-- one that is neither below 2^32 nor of the two networks is judged as itself
as_itself : (n : ℕ) → 2 ^ 32 ≤ n → n < 0x0064_ff9b * 2 ^ 96 → judged n ≡ n
as_itself n from below =
    rw (
      le-ltb n (2 ^ 32) from,
      not_div_below n (2 ^ 32) 0x0064_ff9b_0000_0000_0000_0000 below,
      not_div_below n (2 ^ 112) 0x2002 (omega (arith, below)),
    ) refl

above_them : (n : ℕ) → 0x2003 * 2 ^ 112 ≤ n → judged n ≡ n
above_them n from =
    rw (
      le-ltb n (2 ^ 32) (omega (arith, from)),
      not_div n (2 ^ 32) 0x0064_ff9b_0000_0000_0000_0000 (omega arith) (omega (arith, from)),
      not_div n (2 ^ 112) 0x2002 (omega arith) from,
    ) refl

-- ---- the networks of this machine, its links and its site

module _ (n : ℕ) where
  -- of IPv4
  private_v4 : (first last : ℕ) → some_refuses rows first last rows ≡ true → 0xffff_0000_0000 ≤ first → last < 0x1_0000_0000_0000
      → first ≤ 0xffff_0000_0000 + n → 0xffff_0000_0000 + n ≤ last → IsGlobal (V4 n) → ⊥
  private_v4 first last some low high from to says =
      shut first last (0xffff_0000_0000 + n) some from to
      (subst (λ (m : ℕ). Says rows m true) (as_itself (0xffff_0000_0000 + n) (omega (arith, from, low)) (omega (arith, to, high))) says)

  private_v6 : (first last : ℕ) → some_refuses rows first last rows ≡ true → 0x2003 * 2 ^ 112 ≤ first → first ≤ n → n ≤ last → IsGlobal (V6 n) → ⊥
  private_v6 first last some low from to says =
      shut first last n some from to (subst (λ (m : ℕ). Says rows m true) (above_them n (omega (arith, from, low))) says)

pub private_refused : (ip : Ip) → IsPrivate ip → IsGlobal ip → ⊥
private_refused (V4 n) private says = elim private [
  | inl is ↦ let a : 10 * 2 ^ 24 ≤ n = from_div n (2 ^ 24) 10 is in let b : n < 11 * 2 ^ 24 = to_div n (2 ^ 24) 10 (omega arith) is in
      private_v4 n 0xffff_0a00_0000 0xffff_0aff_ffff refl (omega arith) (omega arith) (omega (arith, a)) (omega (arith, b)) says
  | inr rest ↦ elim rest [
    | inl is ↦ let a : 0xac1 * 2 ^ 20 ≤ n = from_div n (2 ^ 20) 0xac1 is in let b : n < 0xac2 * 2 ^ 20 = to_div n (2 ^ 20) 0xac1 (omega arith) is in
        private_v4 n 0xffff_ac10_0000 0xffff_ac1f_ffff refl (omega arith) (omega arith) (omega (arith, a)) (omega (arith, b)) says
    | inr rest ↦ elim rest [
      | inl is ↦ let a : 0xc0a8 * 2 ^ 16 ≤ n = from_div n (2 ^ 16) 0xc0a8 is in let b : n < 0xc0a9 * 2 ^ 16 = to_div n (2 ^ 16) 0xc0a8 (omega arith) is in
          private_v4 n 0xffff_c0a8_0000 0xffff_c0a8_ffff refl (omega arith) (omega arith) (omega (arith, a)) (omega (arith, b)) says
      | inr rest ↦ elim rest [
        | inl is ↦ let a : 0xa9fe * 2 ^ 16 ≤ n = from_div n (2 ^ 16) 0xa9fe is in let b : n < 0xa9ff * 2 ^ 16 = to_div n (2 ^ 16) 0xa9fe (omega arith) is in
            private_v4 n 0xffff_a9fe_0000 0xffff_a9fe_ffff refl (omega arith) (omega arith) (omega (arith, a)) (omega (arith, b)) says
        | inr is ↦ let a : 0x191 * 2 ^ 22 ≤ n = from_div n (2 ^ 22) 0x191 is in let b : n < 0x192 * 2 ^ 22 = to_div n (2 ^ 22) 0x191 (omega arith) is in
            private_v4 n 0xffff_6440_0000 0xffff_647f_ffff refl (omega arith) (omega arith) (omega (arith, a)) (omega (arith, b)) says
      ]
    ]
  ]
]
private_refused (V6 n) private says = elim private [
  | inl is ↦ let a : 0x7e * 2 ^ 121 ≤ n = from_div n (2 ^ 121) 0x7e is in let b : n < 0x7f * 2 ^ 121 = to_div n (2 ^ 121) 0x7e (omega arith) is in
      private_v6 n (0x7e * 2 ^ 121) (0x7f * 2 ^ 121 - 1) refl (omega arith) a (omega (arith, b)) says
  | inr rest ↦ elim rest [
    | inl is ↦ let a : 0x3fa * 2 ^ 118 ≤ n = from_div n (2 ^ 118) 0x3fa is in let b : n < 0x3fb * 2 ^ 118 = to_div n (2 ^ 118) 0x3fa (omega arith) is in
        private_v6 n (0x3fa * 2 ^ 118) (0x3fb * 2 ^ 118 - 1) refl (omega arith) a (omega (arith, b)) says
    | inr is ↦ let a : 0x3fb * 2 ^ 118 ≤ n = from_div n (2 ^ 118) 0x3fb is in let b : n < 0x3fc * 2 ^ 118 = to_div n (2 ^ 118) 0x3fb (omega arith) is in
        private_v6 n (0x3fb * 2 ^ 118) (0x3fc * 2 ^ 118 - 1) refl (omega arith) a (omega (arith, b)) says
  ]
]

-- ---- what is carried

judged_v4 : (m : ℕ) → m < 2 ^ 32 → judged (0xffff_0000_0000 + m) ≡ 0xffff_0000_0000 + m
judged_v4 m below = as_itself (0xffff_0000_0000 + m) (omega arith) (omega (arith, below))

in_low : (m : ℕ) → m < 2 ^ 32 → judged m ≡ 0xffff_0000_0000 + m
in_low m below = rw (lt-ltb m (2 ^ 32) below) refl

in_nat64 : (m : ℕ) → m < 2 ^ 32 → judged (0x0064_ff9b * 2 ^ 96 + m) ≡ 0xffff_0000_0000 + m
in_nat64 m below =
    rw (
      le-ltb (0x0064_ff9b * 2 ^ 96 + m) (2 ^ 32) (omega arith),
      eq-eqb ((0x0064_ff9b * 2 ^ 96 + m) / 2 ^ 32) 0x0064_ff9b_0000_0000_0000_0000 (div-mul-add 0x0064_ff9b_0000_0000_0000_0000 (2 ^ 32) m below),
      mod-mul-add 0x0064_ff9b_0000_0000_0000_0000 (2 ^ 32) m below,
    ) refl

in_6to4 : (m rest : ℕ) → m < 2 ^ 32 → rest < 2 ^ 80 → judged (0x2002 * 2 ^ 112 + m * 2 ^ 80 + rest) ≡ 0xffff_0000_0000 + m
in_6to4 m rest below short =
    let n : ℕ = 0x2002 * 2 ^ 112 + m * 2 ^ 80 + rest in
    let first : n / 2 ^ 112 ≡ 0x2002 =
    ap (λ (k : ℕ). k / 2 ^ 112) (let e : n ≡ 0x2002 * 2 ^ 112 + (m * 2 ^ 80 + rest) = omega arith in e) ∙ div-mul-add 0x2002 (2 ^ 112) (m * 2 ^ 80 + rest) (omega (arith, below, short)) in
    let middle : n / 2 ^ 80 ≡ 0x2002 * 2 ^ 32 + m =
    ap (λ (k : ℕ). k / 2 ^ 80) (let e : n ≡ (0x2002 * 2 ^ 32 + m) * 2 ^ 80 + rest = omega arith in e) ∙ div-mul-add (0x2002 * 2 ^ 32 + m) (2 ^ 80) rest short in
    rw (
      le-ltb n (2 ^ 32) (omega arith),
      not_div n (2 ^ 32) 0x0064_ff9b_0000_0000_0000_0000 (omega arith) (omega arith),
      eq-eqb (n / 2 ^ 112) 0x2002 first,
      middle,
      mod-mul-add 0x2002 (2 ^ 32) m below,
    ) refl

-- an address is judged as the one that it carries
judged_carried : (n m : ℕ) → Carries n m → judged n ≡ judged (0xffff_0000_0000 + m)
judged_carried n m (below, inl is) = ap judged is ∙ in_low m below ∙ sym (judged_v4 m below)
judged_carried n m (below, inr (inl is)) = ap judged is ∙ in_nat64 m below ∙ sym (judged_v4 m below)
judged_carried n m (below, inr (inr (inl is))) = ap judged is
judged_carried n m (below, inr (inr (inr (rest, short, is)))) = ap judged is ∙ in_6to4 m rest below short ∙ sym (judged_v4 m below)

pub carried_global : (ip : Ip) (m : ℕ) → Carries (mapped_of ip) m → IsGlobal ip → IsGlobal (V4 m)
carried_global ip m carries says = subst (λ (k : ℕ). Says rows k true) (judged_carried (mapped_of ip) m carries) says

-- ---- one answer

-- where two rows are as long as one another and meet, they say the same
abbrev agree : Row → Row → Bool
agree row other =
    not (nat_eq row.len other.len)
    || (nat_lt (last_of row) other.bits || (nat_lt (last_of other) row.bits || ((row.global && other.global) || (not row.global && not other.global))))

abbrev all_agree : Row → List Row → Bool
all_agree row [] = true
all_agree row (other ∷ others) = agree row other && all_agree row others

abbrev each_agrees : List Row → List Row → Bool
each_agrees table [] = true
each_agrees table (row ∷ others) = all_agree row table && each_agrees table others

agree_with : (row : Row) (list : List Row) → all_agree row list ≡ true → (other : Row) → Among other list → agree row other ≡ true
agree_with row [] all other among = elim among [ ]
agree_with row (next ∷ others) all other (inl is) = subst (λ (r : Row). agree row r ≡ true) (sym is) (and_parts (agree row next) (all_agree row others) all).0
agree_with row (next ∷ others) all other (inr among) = agree_with row others (and_parts (agree row next) (all_agree row others) all).1 other among

agree_of : (table list : List Row) → each_agrees table list ≡ true → (row : Row) → Among row list → all_agree row table ≡ true
agree_of table [] each row among = elim among [ ]
agree_of table (next ∷ others) each row (inl is) = subst (λ (r : Row). all_agree r table ≡ true) (sym is) (and_parts (all_agree next table) (each_agrees table others) each).0
agree_of table (next ∷ others) each row (inr among) = agree_of table others (and_parts (all_agree next table) (each_agrees table others) each).1 row among

both_same : (a b : Bool) → ((a && b) || (not a && not b)) ≡ true → a ≡ b
both_same true true h = refl
both_same false false h = refl
both_same true false h = sym h
both_same false true h = h

same_global : (row other : Row) (n : ℕ) → row.len ≡ other.len → covers row n ≡ true → covers other n ≡ true → agree row other ≡ true → row.global ≡ other.global
same_global row other n len c d a =
    let row_parts : (row.bits ≤ n) × (n ≤ last_of row) = covers_parts row n c in
    let other_parts : (other.bits ≤ n) × (n ≤ last_of other) = covers_parts other n d in
    let from : row.bits ≤ n = row_parts.0 in
    let to : n ≤ last_of row = row_parts.1 in
    let other_from : other.bits ≤ n = other_parts.0 in
    let other_to : n ≤ last_of other = other_parts.1 in
    elim (or_cases _ _ a) [
      | inl apart ↦ let differ : nat_eq row.len other.len ≡ false = not-true (nat_eq row.len other.len) apart in let equal : nat_eq row.len other.len ≡ true = eq-eqb row.len other.len len in cc
      | inr rest ↦ elim (or_cases _ _ rest) [
        | inl before ↦ let less : last_of row < other.bits = ltb-true (last_of row) other.bits before in absurd (omega arith)
        | inr rest ↦ elim (or_cases _ _ rest) [
          | inl behind ↦ let less : last_of other < row.bits = ltb-true (last_of other) row.bits behind in absurd (omega arith)
          | inr same ↦ both_same row.global other.global same
        ]
      ]
    ]

one_by : (table : List Row) → each_agrees table table ≡ true → (n : ℕ) (a b : Bool) → Says table n a → Says table n b → a ≡ b
one_by table each n a b (inl (row, is, means)) (inl (other, other_is, other_means)) =
    let shorter : row.len ≤ other.len = other_is.longest row is.among is.covering in
    let longer : other.len ≤ row.len = is.longest other other_is.among other_is.covering in
    means ∙ same_global row other n (omega arith) is.covering other_is.covering (agree_with row table (agree_of table table each row is.among) other other_is.among) ∙ sym other_means
one_by table each n a b (inl (row, is, means)) (inr (none, other_means)) = let lacks : covers row n ≡ false = none row is.among in let has_it : covers row n ≡ true = is.covering in cc
one_by table each n a b (inr (none, means)) (inl (row, is, other_means)) = let lacks : covers row n ≡ false = none row is.among in let has_it : covers row n ≡ true = is.covering in cc
one_by table each n a b (inr (none, means)) (inr (other_none, other_means)) = means ∙ sym other_means

-- the registries say one thing of each number
pub one_answer : (n : ℕ) (a b : Bool) → Says rows n a → Says rows n b → a ≡ b
one_answer = one_by rows refl
