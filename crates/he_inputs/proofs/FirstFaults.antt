-- The fault of a text is the first check that fails on its first faulty line.
use Rattle.std.proofs.Common.{◌≡◌, ◌==◌, ℕ, ◌+◌, ◌<◌, Bool, true, false, cond, List, [], ◌∷◌, ◌++◌, length, Option, Some, None, refl, sym, ◌∙◌, ap, subst, inl, inr, arith, append_assoc}
use Rattle.std.specs.Prelude.{◌⊎◌}
use Rattle.std.proofs.lemmas.List.{append-nil, length-append}
use Rattle.std.proofs.lemmas.List.Splits.{length-slice_split}
use Rattle.he_words.specs.declared.fault.TextKind.{TextKind}
use Rattle.he_words.specs.declared.words.Version.{Version}
use Rattle.he_reading.specs.Faults.{first_fault, unfinished, header_fault, version_on, line_fault, ends}
use Rattle.he_reading.specs.FaultSearch.{at_line_number, fault_from, fault_in, fault_of}
use Rattle.he_inputs.specs.FirstFault.{fault_on, ends_race, GoOnRight, IsFirstFault, IsFirstFaultOf}
use Rattle.he_reading.specs.Parts.{lines_of}
use Rattle.he_inputs.proofs.Beginnings.{number_is}

-- a list with one more at its end, parted
part_more : (lines : List (List ℕ)) (line : List ℕ) (front : List (List ℕ)) (l : List ℕ) (more : List (List ℕ)) → lines ++ line ∷ [] ≡ front ++ l ∷ more
    → ((more ≡ []) × (front ≡ lines) × (l ≡ line)) ⊎ ((rest : List (List ℕ)) × (more ≡ rest ++ line ∷ []) × (lines ≡ front ++ l ∷ rest))
part_more [] line [] l more h = inl (cc, refl, cc)
part_more [] line (f ∷ []) l more h = cc
part_more [] line (f ∷ g ∷ front) l more h = cc
part_more (x ∷ lines) line [] l more h = inr (lines, cc, cc)
part_more (x ∷ lines) line (f ∷ front) l more h =
    let first : x ≡ f = cc (h) in
    let rest : lines ++ line ∷ [] ≡ front ++ l ∷ more = cc (h) in
    elim (part_more lines line front l more rest) [
      | inl last ↦ inl (last.0, ap (λ ls. f ∷ ls) last.1 ∙ ap (λ b. b ∷ lines) (sym first), last.2)
      | inr in_front ↦ inr (in_front.0, in_front.1, ap (λ ls. x ∷ ls) in_front.2 ∙ ap (λ b. b ∷ front ++ l ∷ in_front.0) first)
    ]

right_more : (lines : List (List ℕ)) (line : List ℕ) (after : List (List ℕ)) → GoOnRight lines (line ∷ after) → fault_on lines line after ≡ None → ends_race lines line ≡ false → GoOnRight (lines ++ line ∷ []) after
right_more lines line after right none goes = λ front l more h. elim (part_more lines line front l more h) [
  | inl last ↦
      let F : List (List ℕ) → Type 0 = λ m. (fault_on front l (m ++ after) ≡ None) × (ends_race front l ≡ false) in
      let L : List (List ℕ) → Type 0 = λ f. (fault_on f l after ≡ None) × (ends_race f l ≡ false) in
      let K : List ℕ → Type 0 = λ k. (fault_on lines k after ≡ None) × (ends_race lines k ≡ false) in
      subst F (sym last.0) (subst L (sym last.1) (subst K (sym last.2) (none, goes)))
  | inr in_front ↦
      let F : List (List ℕ) → Type 0 = λ m. (fault_on front l m ≡ None) × (ends_race front l ≡ false) in
      subst F (sym (ap (λ m. m ++ after) in_front.1 ∙ append_assoc in_front.0 (line ∷ []) after)) (right front l in_front.0 in_front.2)
]

-- where no check fails a part follows
follows : (others : List (Option TextKind)) (long : Option TextKind) (after : List (List ℕ)) → first_fault (long ∷ unfinished after ∷ others) ≡ None → 0 < length after
follows others None [] h = cc
follows others (Some kind) [] h = cc
follows others long (line ∷ after) h = omega arith

line_follows : (v : Version) → (before : List (List ℕ)) (line : List ℕ) (after : List (List ℕ)) → line_fault v before line after ≡ None → 0 < length after
unfolding line_fault
line_follows v before line after h = follows _ _ after h

header_follows : (line : List ℕ) (after : List (List ℕ)) → header_fault line after ≡ None → 0 < length after
header_follows line after h = follows _ _ after h

from_first : (n : ℕ) (first : List ℕ) (before lines all : List (List ℕ)) (m : ℕ) (kind : TextKind) → all ≡ (first ∷ before) ++ lines → n ≡ length before + 2 → 0 < length lines → GoOnRight (first ∷ before) lines
    → fault_from (version_on first) n before lines ≡ Some (m, kind) → IsFirstFault all m kind
unfolding fault_from
from_first n first before [] all m kind is count some right h = absurd (omega arith)
from_first n first before (line ∷ after) all m kind is count some right h =
    by_fault (λ follow goes none e. from_first (n + 1) first (before ++ line ∷ []) after all m kind
    (is ∙ ap (λ ls. first ∷ ls) (sym (append_assoc before (line ∷ []) after)))
    (let longer : length (before ++ line ∷ []) ≡ length before + 1 = length-append before (line ∷ []) in omega arith)
    follow (right_more (first ∷ before) line after right none goes) e) (line_fault (version_on first) before line after) refl h
  where
    by_end : (b : Bool) → ends line ≡ b → line_fault (version_on first) before line after ≡ None
        → (0 < length after → ends line ≡ false → line_fault (version_on first) before line after ≡ None → fault_from (version_on first) (n + 1) (before ++ line ∷ []) after ≡ Some (m, kind) → IsFirstFault all m kind)
        → cond b None (fault_from (version_on first) (n + 1) (before ++ line ∷ []) after) ≡ Some (m, kind) → IsFirstFault all m kind
    by_end true e none later found = cc
    by_end false e none later found = later (line_follows (version_on first) before line after none) e none found

    by_fault : (0 < length after → ends line ≡ false → line_fault (version_on first) before line after ≡ None → fault_from (version_on first) (n + 1) (before ++ line ∷ []) after ≡ Some (m, kind) → IsFirstFault all m kind)
        → (o : Option TextKind) → line_fault (version_on first) before line after ≡ o → at_line_number n o (cond (ends line) None (fault_from (version_on first) (n + 1) (before ++ line ∷ []) after)) ≡ Some (m, kind) → IsFirstFault all m kind
    by_fault later None e found = by_end (ends line) refl e later found
    by_fault later (Some k) e found =
        let same = number_is n m k kind found in
        record { before = first ∷ before; line = line; after = after; parts = is; number = (let here : n ≡ m = same.0 in omega arith); right = right; fails = e ∙ ap Some same.1 }

nothing_before : (after : List (List ℕ)) → GoOnRight [] after
nothing_before after = λ front line more h. absurd (no_line line more front h)
  where
    no_line : (line : List ℕ) (more front : List (List ℕ)) → [] ≡ front ++ line ∷ more → ⊥
    no_line line more [] h = cc
    no_line line more (f ∷ front) h = cc

pub first_fault_in : (lines : List (List ℕ)) (m : ℕ) (kind : TextKind) → 0 < length lines → fault_in lines ≡ Some (m, kind) → IsFirstFault lines m kind
unfolding fault_in
first_fault_in [] m kind some h = absurd (omega arith)
first_fault_in (line ∷ after) m kind some h = by_fault (header_fault line after) refl h
  where
    by_fault : (o : Option TextKind) → header_fault line after ≡ o → at_line_number 1 o (fault_from (version_on line) 2 [] after) ≡ Some (m, kind) → IsFirstFault (line ∷ after) m kind
    by_fault None e found =
        from_first 2 line [] after (line ∷ after) m kind refl refl (header_follows line after e) (right_more [] line after (nothing_before (line ∷ after)) e refl) found
    by_fault (Some k) e found =
        let same = number_is 1 m k kind found in
        record { before = []; line = line; after = after; parts = refl; number = sym same.0; right = nothing_before (line ∷ after); fails = e ∙ ap Some same.1 }

pub first_fault_is : (text : List ℕ) (m : ℕ) (kind : TextKind) → fault_of text ≡ Some (m, kind) → IsFirstFaultOf text m kind
first_fault_is text m kind h = first_fault_in (lines_of text) m kind (omega (arith, length-slice_split (λ b. b == 10) text)) h

-- and back
at_fault : (n : ℕ) (o : Option TextKind) (kind : TextKind) (later : Option (ℕ × TextKind)) → o ≡ Some kind → at_line_number n o later ≡ Some (n, kind)
at_fault n o kind later h = ap (λ f. at_line_number n f later) h

from_back : (n : ℕ) (first : List ℕ) (passed before : List (List ℕ)) (line : List ℕ) (after : List (List ℕ)) (kind : TextKind) → GoOnRight (first ∷ passed ++ before) (line ∷ after)
    → line_fault (version_on first) (passed ++ before) line after ≡ Some kind → fault_from (version_on first) n passed (before ++ line ∷ after) ≡ Some (n + length before, kind)
unfolding fault_from
from_back n first passed [] line after kind right fails =
    let size : n ≡ n + length {A = List ℕ} [] = omega arith in
    at_fault n (line_fault (version_on first) passed line after) kind (cond (ends line) None (fault_from (version_on first) (n + 1) (passed ++ line ∷ []) after)) (ap (λ p. line_fault (version_on first) p line after) (sym (append-nil passed)) ∙ fails)
    ∙ ap (λ (k : ℕ). Some (k, kind)) size
from_back n first passed (l ∷ before) line after kind right fails =
    let here = right (first ∷ passed) l before refl in
    let R : List (List ℕ) → Type 0 = λ ls. GoOnRight (first ∷ ls) (line ∷ after) in
    let F : List (List ℕ) → Type 0 = λ ls. line_fault (version_on first) ls line after ≡ Some kind in
    let more : passed ++ l ∷ before ≡ (passed ++ l ∷ []) ++ before = sym (append_assoc passed (l ∷ []) before) in
    let size : n + 1 + length before ≡ n + length (l ∷ before) = omega arith in
    ap (λ o. at_line_number n o (cond (ends l) None (fault_from (version_on first) (n + 1) (passed ++ l ∷ []) (before ++ line ∷ after)))) here.0
    ∙ ap (λ b. cond b None (fault_from (version_on first) (n + 1) (passed ++ l ∷ []) (before ++ line ∷ after))) here.1
    ∙ from_back (n + 1) first (passed ++ l ∷ []) before line after kind (subst R more right) (subst F more fails)
    ∙ ap (λ (k : ℕ). Some (k, kind)) size

pub in_first_fault : (lines : List (List ℕ)) (m : ℕ) (kind : TextKind) → IsFirstFault lines m kind → fault_in lines ≡ Some (m, kind)
unfolding fault_in
in_first_fault lines m kind is = ap fault_in is.parts ∙ by_before is.before is.right is.fails ∙ ap (λ (k : ℕ). Some (k, kind)) (sym is.number)
  where
    by_before : (before : List (List ℕ)) → GoOnRight before (is.line ∷ is.after) → fault_on before is.line is.after ≡ Some kind → fault_in (before ++ is.line ∷ is.after) ≡ Some (length before + 1, kind)
    by_before [] right fails = at_fault 1 (header_fault is.line is.after) kind _ fails
    by_before (first ∷ before) right fails =
        let here = right [] first before refl in
        let size : 2 + length before ≡ length (first ∷ before) + 1 = omega arith in
        ap (λ o. at_line_number 1 o (fault_from (version_on first) 2 [] (before ++ is.line ∷ is.after))) here.0
        ∙ from_back 2 first [] before is.line is.after kind right fails
        ∙ ap (λ (k : ℕ). Some (k, kind)) size

pub is_first_fault : (text : List ℕ) (m : ℕ) (kind : TextKind) → IsFirstFaultOf text m kind → fault_of text ≡ Some (m, kind)
is_first_fault text m kind is = in_first_fault (lines_of text) m kind is
