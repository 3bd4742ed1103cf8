-- A line that is written token by token is cut into these tokens again, and lines that are written into these lines.
use Rattle.std.proofs.Common.{◌≡◌, ℕ, ◌*◌, ◌≤◌, ◌&&◌, ◌==◌, Bool, true, false, not, leb, eqb, List, [], ◌∷◌, ◌++◌, length, refl, ◌∙◌, ap, arith, append_assoc, length-append}
use Rattle.std.specs.List.{AllByRecursion, join_with_byte, flat_map}
use Rattle.std.proofs.lemmas.Bool.{eq-eqb, and_parts, leb-true}
use Rattle.std.proofs.lemmas.List.Concat.{flat_map-cons}
use Rattle.std.proofs.lemmas.List.Elements.{All-from_recursion}
use Rattle.std.proofs.lemmas.List.Splits.{slice_split_at}
use Rattle.he_addr.specs.Text.{IsToken}
use Rattle.he_reading.specs.Parts.{lines_of, tokens_of}
use Rattle.he_reading.proofs.PartLaws.{Lacks, joined_parts}

-- the most bytes of a token: those of a prefix
abbrev pub AreTokens : List (List ℕ) → Type 0
AreTokens tokens = AllByRecursion (IsToken 43) tokens

pub wider : (most : ℕ) (text : List ℕ) → most ≤ 43 → IsToken most text → IsToken 43 text
wider most text le is = record { some = is.some; few = omega (arith, is.few); no_space = is.no_space; no_newline = is.no_newline }

-- whether a text is a token, by a test
abbrev pub lacks_test : ℕ → List ℕ → Bool
lacks_test mark [] = true
lacks_test mark (b ∷ bs) = not (b == mark) && lacks_test mark bs

abbrev pub is_token : List ℕ → Bool
is_token text = leb 1 (length text) && leb (length text) 43 && lacks_test 32 text && lacks_test 10 text

pub lacks_from : (mark : ℕ) (text : List ℕ) → lacks_test mark text ≡ true → Lacks mark text
lacks_from mark [] h = tt
lacks_from mark (b ∷ bs) h =
    let parts = and_parts (not (b == mark)) (lacks_test mark bs) h in
    (is_not (b == mark) parts.0, lacks_from mark bs parts.1)
  where
    is_not : (b : Bool) → not b ≡ true → b ≡ false
    is_not true h = cc
    is_not false h = refl

pub token_from : (text : List ℕ) → is_token text ≡ true → IsToken 43 text
token_from text h =
    let last = and_parts (leb 1 (length text) && leb (length text) 43 && lacks_test 32 text) (lacks_test 10 text) h in
    let space = and_parts (leb 1 (length text) && leb (length text) 43) (lacks_test 32 text) last.0 in
    let size = and_parts (leb 1 (length text)) (leb (length text) 43) space.0 in
    record {
      some = leb-true 1 (length text) size.0;
      few = leb-true (length text) 43 size.1;
      no_space = lacks_from 32 text space.1;
      no_newline = lacks_from 10 text last.1;
    }

no_spaces : (tokens : List (List ℕ)) → AreTokens tokens → AllByRecursion (Lacks 32) tokens
no_spaces [] are = tt
no_spaces (token ∷ tokens) are = (are.0.no_space, no_spaces tokens are.1)

pub tokens_back : (first : List ℕ) (others : List (List ℕ)) → AreTokens (first ∷ others) → tokens_of (join_with_byte 32 (first ∷ others)) ≡ first ∷ others
tokens_back first others are = joined_parts 32 first others (no_spaces (first ∷ others) are)

pub line_size : (first : List ℕ) (others : List (List ℕ)) → AreTokens (first ∷ others) → length (join_with_byte 32 (first ∷ others)) ≤ 44 * length (first ∷ others)
line_size first [] are = omega (arith, are.0.few)
line_size first (next ∷ others) are =
    let rest = line_size next others are.1 in
    let size = length-append first (32 ∷ join_with_byte 32 (next ∷ others)) in
    omega (arith, rest, size, are.0.few)

lacks_both : (mark : ℕ) (xs ys : List ℕ) → Lacks mark xs → Lacks mark ys → Lacks mark (xs ++ ys)
lacks_both mark [] ys hx hy = hy
lacks_both mark (x ∷ xs) ys hx hy = (hx.0, lacks_both mark xs ys hx.1 hy)

pub one_line : (first : List ℕ) (others : List (List ℕ)) → AreTokens (first ∷ others) → Lacks 10 (join_with_byte 32 (first ∷ others))
one_line first [] are = are.0.no_newline
one_line first (next ∷ others) are = lacks_both 10 first (32 ∷ join_with_byte 32 (next ∷ others)) are.0.no_newline (refl, one_line next others are.1)

-- a line and its line end
abbrev pub ended : List ℕ → List ℕ
ended line = line ++ 10 ∷ []

pub lines_back : (lines : List (List ℕ)) → AllByRecursion (Lacks 10) lines → lines_of (flat_map ended lines) ≡ lines ++ [] ∷ []
lines_back [] lack = refl
lines_back (line ∷ lines) lack =
    ap lines_of (flat_map-cons ended line lines ∙ append_assoc line (10 ∷ []) (flat_map ended lines))
    ∙ slice_split_at (λ b. eqb b 10) line 10 (flat_map ended lines) (All-from_recursion (λ b. eqb b 10 ≡ false) line lack.0) (eq-eqb 10 10 refl)
    ∙ ap (λ ls. line ∷ ls) (lines_back lines lack.1)
