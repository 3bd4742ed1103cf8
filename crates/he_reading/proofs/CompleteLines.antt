-- Nothing is wrong with the lines of a race, up to the last one.
use Rattle.std.proofs.Common.{◌≡◌, ℕ, ◌+◌, ◌<◌, ◌≤◌, Bool, true, false, cond, List, [], ◌∷◌, ◌++◌, length, Option, None, Result, Ok, refl, sym, ◌∙◌, ap, subst, arith, append_assoc}
use Rattle.std.specs.Prelude.{codes}
use Rattle.std.specs.List.{AllZip, AllByRecursion, list_all}
use Rattle.std.proofs.lemmas.Bool.{le-ltb, and_parts}
use Rattle.he_addr.specs.declared.ip.Family.TheVariants as families
use Rattle.std.specs.Result.{result_err}
use Rattle.he_words.specs.declared.fault.TextKind.{TextKind}
use Rattle.he_words.specs.declared.fault.TextKind.TheVariants as kinds
use Rattle.he_words.specs.declared.limits.TheConstants.{MAX_LINE}
use Rattle.he_words.specs.declared.words.Version.{Version}
use Rattle.he_words.specs.declared.words.Word.{Word}
use Rattle.he_words.specs.declared.words.Word.TheVariants as words
use Rattle.he_reading.specs.Faults.{test, first_fault, last_group, known_to, too_long, unfinished, wrong_word, too_often, wrong_bounds, repeated, is_next, wrong_group, of_said, line_fault, ends}
use Rattle.he_reading.specs.FaultSearch.{at_line_number, fault_from}
use Rattle.he_reading.specs.Forms.{◌>>=◌, word_of, version_word, said_by}
use Rattle.he_reading.specs.Parts.{tokens_of}
use Rattle.he_reading.specs.Said.{Said, Setting, PolicyRow, HostSource, HostRoute, Answer, RoundTrip, UsedBefore, OutcomeOf, Paused, Ended, word_said}
use Rattle.he_reading.specs.Text.{Says, group_said, may_say}
use Rattle.he_words.specs.Words.{group_of, word_in}
use Rattle.he_reading.proofs.CompleteChecks.{has_room, in_bounds, not_twice, either_way, group_fits}
use Rattle.he_reading.proofs.CompleteForms.{IsLine, is_line, said_are, goes_on, version_line, word_group}
use Rattle.he_reading.proofs.CompleteGroups.{group_last, last_is, order_split}
use Rattle.he_reading.proofs.LineReads.{reads_said}
use Rattle.he_reading.proofs.CompleteRaces.{IsWhole, suits, knows}
use Rattle.he_reading.proofs.Versions.{kept_word}

abbrev pub AreShort : List (List ℕ) → Type 0
AreShort lines = AllByRecursion (λ line. length line ≤ MAX_LINE) lines

-- each line of a race is read as what it says
pub lines_are : (told : List Said) (lines : List (List ℕ)) (said : List Said) → AllZip Says lines said → IsWhole (told ++ said) → AllZip IsLine lines said
lines_are told [] [] says whole = tt
lines_are told [] (s ∷ said) says whole = absurd says
lines_are told (line ∷ lines) [] says whole = absurd says
lines_are told (line ∷ lines) (s ∷ said) says whole =
    (is_line line s (reads_said line s says.0) (suits told said s whole), lines_are (told ++ s ∷ []) lines said says.1 (subst IsWhole (sym (append_assoc told (s ∷ []) said)) whole))

all_none : (long fin word often : Option TextKind) (r : Result Said TextKind) (bounds again table : Said → Option TextKind) (s : Said)
    → long ≡ None → fin ≡ None → word ≡ None → often ≡ None → r ≡ Ok s → bounds s ≡ None → again s ≡ None → table s ≡ None
    → first_fault (long ∷ fin ∷ word ∷ often ∷ result_err r ∷ of_said bounds r ∷ of_said again r ∷ of_said table r ∷ []) ≡ None
all_none long fin word often r bounds again table s h1 h2 h3 h4 h5 h6 h7 h8 = rw (h1, h2, h3, h4, h5, h6, h7, h8) refl

short_enough : (line : List ℕ) → length line ≤ MAX_LINE → too_long line ≡ None
short_enough line short = ap (λ b. test b kinds.TooMany) (le-ltb MAX_LINE (length line) short)

pub finished : (more : List (List ℕ)) (last : List ℕ) (after : List (List ℕ)) → unfinished (more ++ last ∷ after) ≡ None
finished [] last after = refl
finished (line ∷ more) last after = refl

comes_next : (before : List (List ℕ)) (told later : List Said) (s : Said) (tokens : List (List ℕ)) → IsWhole (told ++ s ∷ later) → AllZip IsLine before told → wrong_word (last_group 0 before) (Ok (word_said s, tokens)) ≡ None
comes_next before told later s tokens whole are =
    let last : last_group 0 before ≡ group_last 0 told = last_is 0 before told are in
    let group : group_of (word_said s) ≡ group_said s = word_group s in
    let above : group_last 0 told ≤ group_said s = (order_split 0 told later s whole.order).0 in
    ap (λ b. test b kinds.Word) (le-ltb (group_of (word_said s)) (last_group 0 before) (omega arith))

-- all checks of a line, by the word, the lines before and what the line says
abbrev checked : List (List ℕ) → List ℕ → List (List ℕ) → List Said → Result (Word × List (List ℕ)) TextKind → Option TextKind
checked before line after told word =
    first_fault (too_long line ∷ unfinished after ∷ wrong_word (last_group 0 before) word ∷ too_often before word
    ∷ result_err (word >>= λ parts. said_by (known_to told) parts.0 parts.1)
    ∷ of_said (wrong_bounds told) (word >>= λ parts. said_by (known_to told) parts.0 parts.1)
    ∷ of_said (repeated told) (word >>= λ parts. said_by (known_to told) parts.0 parts.1)
    ∷ of_said (wrong_group told after) (word >>= λ parts. said_by (known_to told) parts.0 parts.1) ∷ [])

right_line : (v : Version) (before more after : List (List ℕ)) (line last : List ℕ) (told later : List Said) (s : Said) → IsWhole (told ++ s ∷ later)
    → AllZip IsLine before told → IsLine line s → may_say v s ≡ true → length line ≤ MAX_LINE → AllZip IsLine more later → AreShort more
    → line_fault v before line (more ++ last ∷ after) ≡ None
unfolding line_fault
right_line v before more after line last told later s whole before_are is says short more_are more_short =
    ap (λ told. checked before line (more ++ last ∷ after) told (version_word v (tokens_of line))) (said_are before told before_are)
    ∙ ap (checked before line (more ++ last ∷ after) told) (version_line v line s is says)
    ∙ all_none (too_long line) (unfinished (more ++ last ∷ after)) (wrong_word (last_group 0 before) (Ok (word_said s, is.tokens))) (too_often before (Ok (word_said s, is.tokens)))
    (said_by (known_to told) (word_said s) is.tokens) (wrong_bounds told) (repeated told) (wrong_group told (more ++ last ∷ after)) s
    (short_enough line short) (finished more last after) (comes_next before told later s is.tokens whole before_are) (has_room before told later s is.tokens whole before_are)
    (is.reads (known_to told) (knows told later s whole)) (in_bounds told later s whole) (not_twice told later s whole) (group_fits told later s more after last whole more_short more_are)

-- the last line
end_word : word_of (tokens_of (codes "end")) ≡ Ok (words.End, [])
unfolding word_of word_in
end_word = refl

pub end_ends : ends (codes "end") ≡ true
unfolding ends word_of word_in
end_ends = refl

nothing_after : (after : List (List ℕ)) → 0 < length after → unfinished after ≡ None
nothing_after [] some = absurd (omega arith)
nothing_after (line ∷ after) some = refl

group_most : (s : Said) → group_said s ≤ 11
group_most (Setting name value) = omega arith
group_most (PolicyRow row) = omega arith
group_most (HostSource source) = omega arith
group_most (HostRoute route) = omega arith
group_most (Answer families.V6 reply) = omega arith
group_most (Answer families.V4 reply) = omega arith
group_most (RoundTrip ip rtt) = omega arith
group_most (UsedBefore ip) = omega arith
group_most (OutcomeOf ip outcome) = omega arith
group_most (Paused from to) = omega arith
group_most Ended = omega arith

last_most : (group : ℕ) (said : List Said) → group ≤ 11 → group_last group said ≤ 11
last_most group [] le = le
last_most group (s ∷ said) le = last_most (group_said s) said (group_most s)

right_end : (v : Version) (before after : List (List ℕ)) (told : List Said) → AllZip IsLine before told → 0 < length after → line_fault v before (codes "end") after ≡ None
unfolding line_fault said_by
right_end v before after told are some =
    let last : last_group 0 before ≡ group_last 0 told = last_is 0 before told are in
    let most : group_last 0 told ≤ 11 = last_most 0 told (omega arith) in
    ap (λ told. checked before (codes "end") after told (version_word v (tokens_of (codes "end")))) (said_are before told are)
    ∙ ap (checked before (codes "end") after told) (kept_word v (tokens_of (codes "end")) (words.End, []) refl end_word)
    ∙ all_none (too_long (codes "end")) (unfinished after) (wrong_word (last_group 0 before) (Ok (words.End, []))) (too_often before (Ok (words.End, [])))
    (Ok Ended) (wrong_bounds told) (repeated told) (wrong_group told after) Ended
    refl (nothing_after after some) (ap (λ b. test b kinds.Word) (le-ltb 11 (last_group 0 before) (omega arith))) refl refl refl refl (either_way (is_next words.End after))

zip_more : {A B : Type 0} (R : A → B → Type 0) (xs : List A) (ys : List B) (x : A) (y : B) → AllZip R xs ys → R x y → AllZip R (xs ++ x ∷ []) (ys ++ y ∷ [])
zip_more R [] [] x y all here = (here, tt)
zip_more R [] (b ∷ ys) x y all here = absurd all
zip_more R (a ∷ xs) [] x y all here = absurd all
zip_more R (a ∷ xs) (b ∷ ys) x y all here = (all.0, zip_more R xs ys x y all.1 here)

step : (n : ℕ) (fault : Option TextKind) (ends : Bool) (later : Option (ℕ × TextKind)) → fault ≡ None → ends ≡ false → later ≡ None → at_line_number n fault (cond ends None later) ≡ None
step n fault ends later h e l = rw (h, e, l) refl

stop : (n : ℕ) (fault : Option TextKind) (ends : Bool) (later : Option (ℕ × TextKind)) → fault ≡ None → ends ≡ true → at_line_number n fault (cond ends None later) ≡ None
stop n fault ends later h e = rw (h, e) refl

-- no line from line n on is wrong, up to the one that ends the race
pub none_from : (v : Version) (n : ℕ) (before lines after : List (List ℕ)) (told said : List Said) → IsWhole (told ++ said) → AllZip IsLine before told → AllZip IsLine lines said → list_all (may_say v) said ≡ true → AreShort lines → 0 < length after
    → fault_from v n before (lines ++ codes "end" ∷ after) ≡ None
unfolding fault_from
none_from v n before [] after told [] whole before_are are words short some =
    stop n (line_fault v before (codes "end") after) (ends (codes "end")) (fault_from v (n + 1) (before ++ codes "end" ∷ []) after) (right_end v before after told before_are some) end_ends
none_from v n before [] after told (s ∷ said) whole before_are are words short some = absurd are
none_from v n before (line ∷ lines) after told [] whole before_are are words short some = absurd are
none_from v n before (line ∷ lines) after told (s ∷ said) whole before_are are words short some =
    let says = and_parts (may_say v s) (list_all (may_say v) said) words in
    step n (line_fault v before line (lines ++ codes "end" ∷ after)) (ends line) (fault_from v (n + 1) (before ++ line ∷ []) (lines ++ codes "end" ∷ after))
    (right_line v before lines after line (codes "end") told said s whole before_are are.0 says.0 short.0 are.1 short.1) (goes_on line s are.0)
    (none_from v (n + 1) (before ++ line ∷ []) lines after (told ++ s ∷ []) said (subst IsWhole (sym (append_assoc told (s ∷ []) said)) whole) (zip_more IsLine before told line s before_are are.0) are.1 says.1 short.1 some)
