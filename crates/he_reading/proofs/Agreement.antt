-- The readers answer what the checks say: the race of the lines up to `end` where every one is right, else the first
-- fault of the least faulty line.
use Rattle.std.proofs.Common.{◌≡◌, ℕ, ◌+◌, ◌≤◌, Bool, true, false, cond, ltb, not, List, [], ◌∷◌, ◌++◌, length, Option, Some, None, Result, Ok, Err, refl, sym, ◌∙◌, ap, subst, inl, inr, arith}
use Rattle.std.specs.Prelude.{◌⊎◌, ◌||◌}
use Rattle.std.proofs.lemmas.Slice.Eq.{bytes_eq-Decides}
use Rattle.std.specs.Str.{bytes_eq}
use Rattle.std.proofs.lemmas.Bool.{ltb-false, leb-false, lt-leb}
use Rattle.he_timeline.specs.Building.{empty_race}
use Rattle.he_timeline.specs.Race.{Race}
use Rattle.he_reading.specs.declared.draft.LastGroup.{LastGroup}
use Rattle.he_words.specs.declared.fault.TextKind.{TextKind}
use Rattle.he_words.specs.declared.fault.TextKind.TheVariants as kinds
use Rattle.he_words.specs.declared.limits.TheConstants.{MAX_LINE}
use Rattle.he_words.specs.declared.words.Version.{Version}
use Rattle.he_words.specs.declared.words.Version.TheVariants.{One, Two}
use Rattle.he_words.specs.declared.words.Word.{Word}
use Rattle.he_words.specs.declared.words.Word.TheVariants as words
use Rattle.he_reading.specs.Faults.{first_fault, test, group_on, last_group, known_to, said_before, too_long, unfinished, wrong_header, version_on, wrong_word, too_often, wrong_bounds, repeated, is_next, wrong_group, line_fault, ends_by, ends}
use Rattle.he_reading.specs.FaultSearch.{at_line_number, fault_from, fault_in}
use Rattle.he_reading.specs.Forms.{◌>>=◌, version_word, said_by}
use Rattle.he_reading.specs.Parts.{tokens_of}
use Rattle.he_reading.specs.Reading.{at_line, ended_by, wholeness, admit, take_told, take_line, read_body, HeadGiven, head_part, head_of, take_given, take_head, policy_from, read_head, read_lines, group_at_start, no_head}
use Rattle.he_words.specs.Words.{header_in, is_head_word, group_of, header_of, is_end}
use Rattle.he_reading.specs.Said.{Said, rows_given, settings_given, table_of_rows, host_given, race_of}
use Rattle.he_reading.proofs.Checks.{taken_in_order, line_checks, line_fault_is, in_order, checks_passed}
use Rattle.he_reading.proofs.GivenLaws.{AllFit, none_fits, is_head}
use Rattle.he_reading.proofs.HeadLaws.{head_given, given_agrees}
use Rattle.he_reading.proofs.HostLaws.{AreHostsOf, no_hosts, hosts_more, IsFloorOrMore, floor_whole, floor_more, IsTableOrMore, table_whole, table_more, starts}
use Rattle.he_reading.proofs.OrderLaws.{Under, order_of, last_more, under_more, group_is, admit_agrees}
use Rattle.he_reading.proofs.PlaceLaws.{has_place, said_more}
use Rattle.he_reading.proofs.ReadingLaws.{settle_reads, body_unwhole, head_after}
use Rattle.he_reading.proofs.SaidLaws.{IsQuiet, quiet_race}
use Rattle.he_reading.proofs.ToldLaws.{outcome, told_agrees}
use Rattle.he_reading.proofs.Versions.{plain_word, word_fault}

not_earlier : (b : Bool) → test b kinds.Word ≡ None → b ≡ false
not_earlier true h = cc
not_earlier false h = refl

-- a line of the last groups
told_line : (v : Version) → (before : List (List ℕ)) (line : List ℕ) (after : List (List ℕ)) (word : Word) (tokens : List (List ℕ)) → version_word v (tokens_of line) ≡ Ok (word, tokens) → Under (last_group 0 before) before
    → (ltb (group_of word) (last_group 0 before) ≡ false → is_head_word word ≡ false)
    → take_line v (tokens_of line) (order_of before) (race_of (said_before before))
    ≡ outcome (line_checks before line after (Ok (word, tokens))) (word, order_of (before ++ line ∷ []), race_of (said_before (before ++ line ∷ [])))
unfolding take_line
told_line v before line after word tokens is under late =
    let told : List Said = said_before before in
    ap (λ w. w >>= λ parts. admit parts.0 (order_of before) >>= λ next. take_told parts.0 parts.1 (race_of told) >>= λ t. Ok (parts.0, next, t)) is
    ∙ taken_in_order (wrong_word (last_group 0 before) (Ok (word, tokens))) (too_often before (Ok (word, tokens))) (said_by (known_to told) word tokens) (wrong_bounds told) (repeated told) (wrong_group told after)
    (order_of (before ++ line ∷ [])) (admit word (order_of before)) (take_told word tokens (race_of told)) (λ s. race_of (told ++ s ∷ [])) (race_of (said_before (before ++ line ∷ [])))
    (λ next t. (word, next, t))
    (admit_agrees word tokens before line (plain_word v (tokens_of line) (word, tokens) is) under)
    (λ hw ho. told_agrees after word tokens told (late (not_earlier _ hw)) (has_place word tokens before ho))
    (λ s h. ap race_of (sym (said_more (known_to told) before line word tokens s (plain_word v (tokens_of line) (word, tokens) is) h)))

-- a line of the first groups
head_line : (v : Version) → (before : List (List ℕ)) (line : List ℕ) (after : List (List ℕ)) (word : Word) (tokens : List (List ℕ)) → version_word v (tokens_of line) ≡ Ok (word, tokens) → Under (last_group 0 before) before → is_head_word word ≡ true
    → take_head after (word, tokens) (order_of before) (head_given (said_before before))
    ≡ outcome (line_checks before line after (Ok (word, tokens))) (order_of (before ++ line ∷ []), head_given (said_before (before ++ line ∷ [])))
unfolding take_head
head_line v before line after word tokens is under head =
    let told : List Said = said_before before in
    taken_in_order (wrong_word (last_group 0 before) (Ok (word, tokens))) (too_often before (Ok (word, tokens))) (said_by (known_to told) word tokens) (wrong_bounds told) (repeated told) (wrong_group told after)
    (order_of (before ++ line ∷ [])) (admit word (order_of before)) (take_given (is_next word after) word tokens (head_given told)) (λ s. head_given (told ++ s ∷ [])) (head_given (said_before (before ++ line ∷ [])))
    (λ next t. (next, t))
    (admit_agrees word tokens before line (plain_word v (tokens_of line) (word, tokens) is) under)
    (λ hw ho. given_agrees (known_to told) word tokens told after head)
    (λ s h. ap head_given (sym (said_more (known_to told) before line word tokens s (plain_word v (tokens_of line) (word, tokens) is) h)))

-- the lines up to `end` and what stands after them, or the first fault
abbrev pub stop : {B : Type 0} → ℕ → Option TextKind → Result B (ℕ × TextKind) → Result B (ℕ × TextKind)
stop n None later = later
stop n (Some kind) later = Err (n, kind)

unfoldable pub walk : (v : Version) → ℕ → List (List ℕ) → List (List ℕ) → Result (List (List ℕ) × List (List ℕ)) (ℕ × TextKind)
walk v n before [] = Err (n, kinds.Unfinished)
walk v n before (line ∷ after) = stop n (line_fault v before line after) (cond (ends line) (Ok (before ++ line ∷ [], after)) (walk v (n + 1) (before ++ line ∷ []) after))

-- the race that they make
abbrev pub raced : Result (List (List ℕ) × List (List ℕ)) (ℕ × TextKind) → Result (Race × List (List ℕ)) (ℕ × TextKind)
raced walked = walked >>= λ x. Ok (race_of (said_before x.0), x.1)

abbrev pub fault_told : {A : Type 0} → Result A (ℕ × TextKind) → Option (ℕ × TextKind)
fault_told (Ok x) = None
fault_told (Err fault) = Some fault

-- the first two checks
whole_first : {T : Type 0} (n : ℕ) (long : Bool) (after : List (List ℕ)) (checks : Option TextKind) (later final : Result T (ℕ × TextKind)) → later ≡ stop n checks final
    → (at_line n (cond long (Err kinds.TooMany) (ended_by after)) >>= λ _. later) ≡ stop n (first_fault (test long kinds.TooMany ∷ unfinished after ∷ checks ∷ [])) final
whole_first n true after checks later final same = refl
whole_first n false [] checks later final same = refl
whole_first n false (next ∷ after) None later final same = same
whole_first n false (next ∷ after) (Some kind) later final same = same

raced_stop : (n : ℕ) (fault : Option TextKind) (later : Result (List (List ℕ) × List (List ℕ)) (ℕ × TextKind)) → raced (stop n fault later) ≡ stop n fault (raced later)
raced_stop n None later = refl
raced_stop n (Some kind) later = refl

-- the next line is not of the first groups, if it comes in order
abbrev pub IsLate : Version → List (List ℕ) → List ℕ → Type 0
IsLate v before line = (word : Word) (tokens : List (List ℕ)) → version_word v (tokens_of line) ≡ Ok (word, tokens) → ltb (group_of word) (last_group 0 before) ≡ false → is_head_word word ≡ false

abbrev pub FirstIsLate : Version → List (List ℕ) → List (List ℕ) → Type 0
FirstIsLate v before [] = Unit {0}
FirstIsLate v before (line ∷ after) = IsLate v before line

late_group : (word : Word) → is_head_word word ≡ false → 5 ≤ group_of word
late_group word h = omega (arith, leb-false (group_of word) 4 h)

late_word : (word : Word) → 5 ≤ group_of word → is_head_word word ≡ false
late_word word h = lt-leb (group_of word) 4 (omega arith)

all_late : (v : Version) → (before lines : List (List ℕ)) → 5 ≤ last_group 0 before → FirstIsLate v before lines
all_late v before [] h = tt
all_late v before (line ∷ after) h = λ word tokens is in_order. late_word word (let ge = ltb-false (group_of word) (last_group 0 before) in_order in omega arith)

late_last : (v : Version) → (before : List (List ℕ)) (line : List ℕ) (word : Word) (tokens : List (List ℕ)) → version_word v (tokens_of line) ≡ Ok (word, tokens) → is_head_word word ≡ false → 5 ≤ last_group 0 (before ++ line ∷ [])
late_last v before line word tokens is late =
    let here : group_on line ≡ group_of word = group_is line word tokens (plain_word v (tokens_of line) (word, tokens) is) in
    let last : last_group 0 (before ++ line ∷ []) ≡ group_on line = last_more 0 before line in
    let above = late_group word late in
    omega arith

under_next : (v : Version) → (before : List (List ℕ)) (line : List ℕ) (word : Word) (tokens : List (List ℕ)) → version_word v (tokens_of line) ≡ Ok (word, tokens) → Under (last_group 0 before) before → ltb (group_of word) (last_group 0 before) ≡ false
    → Under (last_group 0 (before ++ line ∷ [])) (before ++ line ∷ [])
under_next v before line word tokens is under so_far =
    let here : group_on line ≡ group_of word = group_is line word tokens (plain_word v (tokens_of line) (word, tokens) is) in
    let last : last_group 0 (before ++ line ∷ []) ≡ group_on line = last_more 0 before line in
    let ge = ltb-false (group_of word) (last_group 0 before) so_far in
    let P : ℕ → Type 0 = λ g. Under g (before ++ line ∷ []) in
    subst P (sym last) (under_more (last_group 0 before) (group_on line) before line under (omega arith) (omega arith))

-- what a line of the last groups leads to
abbrev pub body_next : (v : Version) → ℕ → List (List ℕ) → Result (Word × LastGroup × Race) TextKind → Result (Race × List (List ℕ)) (ℕ × TextKind)
body_next v n after taken = at_line n taken >>= λ next. cond (is_end next.0) (Ok (next.2, after)) (read_body v (n + 1) next.1 next.2 after)

body_known : (v : Version) → (n : ℕ) (after : List (List ℕ)) (checks : Option TextKind) (word : Word) (so_far : LastGroup) (race : Race) (walked : Result (List (List ℕ) × List (List ℕ)) (ℕ × TextKind)) (lines : List (List ℕ))
    → race ≡ race_of (said_before lines)
    → (checks ≡ None → is_end word ≡ false → read_body v (n + 1) so_far race after ≡ raced walked)
    → body_next v n after (outcome checks (word, so_far, race)) ≡ stop n checks (raced (cond (is_end word) (Ok (lines, after)) walked))
body_known v n after (Some kind) word so_far race walked lines same later = refl
body_known v n after None word so_far race walked lines same later = by_end (is_end word) refl
  where
    by_end : (b : Bool) → is_end word ≡ b → cond b (Ok (race, after)) (read_body v (n + 1) so_far race after) ≡ raced (cond b (Ok (lines, after)) walked)
    by_end true e = ap (λ r. Ok (r, after)) same
    by_end false e = later refl e

pub ends_known : (v : Version) → (line : List ℕ) (word : Word) (tokens : List (List ℕ)) → version_word v (tokens_of line) ≡ Ok (word, tokens) → ends line ≡ is_end word
unfolding ends
ends_known v line word tokens is = ap ends_by (plain_word v (tokens_of line) (word, tokens) is)

-- a whole line and what follows it, by its word
body_later : (v : Version) → (n : ℕ) (before : List (List ℕ)) (line : List ℕ) (after : List (List ℕ)) (word : Result (Word × List (List ℕ)) TextKind) → version_word v (tokens_of line) ≡ word → Under (last_group 0 before) before → IsLate v before line
    → (Under (last_group 0 (before ++ line ∷ [])) (before ++ line ∷ []) → FirstIsLate v (before ++ line ∷ []) after
    → read_body v (n + 1) (order_of (before ++ line ∷ [])) (race_of (said_before (before ++ line ∷ []))) after ≡ raced (walk v (n + 1) (before ++ line ∷ []) after))
    → body_next v n after (take_line v (tokens_of line) (order_of before) (race_of (said_before before)))
    ≡ stop n (line_checks before line after word) (raced (cond (ends line) (Ok (before ++ line ∷ [], after)) (walk v (n + 1) (before ++ line ∷ []) after)))
unfolding take_line
body_later v n before line after (Err kind) is under late later =
    ap (λ w. body_next v n after (w >>= λ parts. admit parts.0 (order_of before) >>= λ next. take_told parts.0 parts.1 (race_of (said_before before)) >>= λ t. Ok (parts.0, next, t))) is
    ∙ ap (λ k. Err (n, k)) (word_fault v (tokens_of line) kind is)
body_later v n before line after (Ok parts) is under late later =
    ap (body_next v n after) (told_line v before line after parts.0 parts.1 is under (late parts.0 parts.1 is))
    ∙ body_known v n after (line_checks before line after (Ok parts)) parts.0 (order_of (before ++ line ∷ [])) (race_of (said_before (before ++ line ∷ []))) (walk v (n + 1) (before ++ line ∷ []) after) (before ++ line ∷ []) refl
    (λ right goes. let so_far = in_order before line after parts.0 parts.1 right in
    later (under_next v before line parts.0 parts.1 is under so_far)
    (all_late v (before ++ line ∷ []) after (late_last v before line parts.0 parts.1 is (late parts.0 parts.1 is so_far))))
    ∙ ap (λ b. stop n (line_checks before line after (Ok parts)) (raced (cond b (Ok (before ++ line ∷ [], after)) (walk v (n + 1) (before ++ line ∷ []) after)))) (sym (ends_known v line parts.0 parts.1 is))

body_step : (v : Version) → (n : ℕ) (before : List (List ℕ)) (line : List ℕ) (after : List (List ℕ)) (later : Result (Race × List (List ℕ)) (ℕ × TextKind)) (walked : Result (List (List ℕ) × List (List ℕ)) (ℕ × TextKind)) (word : Result (Word × List (List ℕ)) TextKind)
    → version_word v (tokens_of line) ≡ word → later ≡ stop n (line_checks before line after word) (raced walked)
    → (at_line n (wholeness (line ∷ after)) >>= λ _. later) ≡ raced (stop n (line_fault v before line after) walked)
unfolding wholeness
body_step v n before line after later walked word is same =
    whole_first n (ltb MAX_LINE (length line)) after (line_checks before line after word) later (raced walked) same
    ∙ ap (λ f. stop n f (raced walked)) (sym (line_fault_is v before line after word is))
    ∙ sym (raced_stop n (line_fault v before line after) walked)

pub body_agrees : (v : Version) → (n : ℕ) (before lines : List (List ℕ)) → Under (last_group 0 before) before → FirstIsLate v before lines
    → read_body v n (order_of before) (race_of (said_before before)) lines ≡ raced (walk v n before lines)
unfolding read_body walk
body_agrees v n before [] under late = refl
body_agrees v n before (line ∷ after) under late =
    body_step v n before line after (body_next v n after (take_line v (tokens_of line) (order_of before) (race_of (said_before before))))
    (cond (ends line) (Ok (before ++ line ∷ [], after)) (walk v (n + 1) (before ++ line ∷ []) after)) (version_word v (tokens_of line)) refl
    (body_later v n before line after (version_word v (tokens_of line)) refl under late (body_agrees v (n + 1) (before ++ line ∷ []) after))

-- the first groups
abbrev pub head_next : (v : Version) → ℕ → List (List ℕ) → Result (LastGroup × HeadGiven) TextKind → Result (Race × List (List ℕ)) (ℕ × TextKind)
head_next v n after taken = at_line n taken >>= λ next. read_head v (n + 1) next.0 next.1 after

head_known : (v : Version) → (n : ℕ) (after : List (List ℕ)) (checks : Option TextKind) (so_far : LastGroup) (given : HeadGiven) (final : Result (Race × List (List ℕ)) (ℕ × TextKind))
    → (checks ≡ None → read_head v (n + 1) so_far given after ≡ final)
    → head_next v n after (outcome checks (so_far, given)) ≡ stop n checks final
head_known v n after (Some kind) so_far given final later = refl
head_known v n after None so_far given final later = later refl

-- whether a word is of the first groups, and what that says of the line
head_cases : (v : Version) → (line : List ℕ) → ((head_of v (tokens_of line) ≡ None) × ((word : Word) (tokens : List (List ℕ)) → version_word v (tokens_of line) ≡ Ok (word, tokens) → is_head_word word ≡ false))
    ⊎ ((parts : Word × List (List ℕ)) × (head_of v (tokens_of line) ≡ Some parts) × (version_word v (tokens_of line) ≡ Ok parts) × (is_head_word parts.0 ≡ true))
unfolding head_of
head_cases v line = by_word (version_word v (tokens_of line)) refl
  where
    by_head : (parts : Word × List (List ℕ)) (b : Bool) → version_word v (tokens_of line) ≡ Ok parts → is_head_word parts.0 ≡ b
        → ((head_part (version_word v (tokens_of line)) ≡ None) × ((word : Word) (tokens : List (List ℕ)) → version_word v (tokens_of line) ≡ Ok (word, tokens) → is_head_word word ≡ false))
        ⊎ ((parts : Word × List (List ℕ)) × (head_part (version_word v (tokens_of line)) ≡ Some parts) × (version_word v (tokens_of line) ≡ Ok parts) × (is_head_word parts.0 ≡ true))
    by_head parts true e h = inr (parts, ap head_part e ∙ ap (λ b. cond b (Some parts) None) h, e, h)
    by_head parts false e h = inl (ap head_part e ∙ ap (λ b. cond b (Some parts) None) h, λ word tokens e'. let same : parts ≡ (word, tokens) = cc (e, e') in ap (λ (p : Word × List (List ℕ)). is_head_word p.0) (sym same) ∙ h)

    by_word : (r : Result (Word × List (List ℕ)) TextKind) → version_word v (tokens_of line) ≡ r
        → ((head_part (version_word v (tokens_of line)) ≡ None) × ((word : Word) (tokens : List (List ℕ)) → version_word v (tokens_of line) ≡ Ok (word, tokens) → is_head_word word ≡ false))
        ⊎ ((parts : Word × List (List ℕ)) × (head_part (version_word v (tokens_of line)) ≡ Some parts) × (version_word v (tokens_of line) ≡ Ok parts) × (is_head_word parts.0 ≡ true))
    by_word (Err kind) e = inl (ap head_part e, λ word tokens e'. let wrong : Err kind ≡ Ok (word, tokens) = sym e ∙ e' in cc)
    by_word (Ok parts) e = by_head parts (is_head_word parts.0) e refl

head_no_end : (word : Word) → is_head_word word ≡ true → is_end word ≡ false
head_no_end words.Set h = refl
head_no_end words.Policy h = refl
head_no_end words.Source h = refl
head_no_end words.Route h = refl
head_no_end words.Aaaa h = refl
head_no_end words.A h = refl
head_no_end words.Rtt h = refl
head_no_end words.Used h = refl
head_no_end words.Connect h = refl
head_no_end words.Pause h = refl
head_no_end words.End h = cc

-- what stands at the head of a race: nothing that happens, settings in their ranges, a host, and a table or the rows
-- of one
pub record IsHeadOnly (v : Version) (before lines : List (List ℕ)) : Type 0 where
  pub under : Under (last_group 0 before) before
  pub quiet : IsQuiet (said_before before)
  pub fit : AllFit (said_before before)
  pub hosts : AreHostsOf (said_before before)
  pub floor : IsFloorOrMore v lines (said_before before)
  pub table : IsTableOrMore lines (rows_given (said_before before))

head_only_more : (v : Version) → (before : List (List ℕ)) (line : List ℕ) (after : List (List ℕ)) (parts : Word × List (List ℕ)) → version_word v (tokens_of line) ≡ Ok parts → is_head_word parts.0 ≡ true
    → IsHeadOnly v before (line ∷ after) → line_checks before line after (Ok parts) ≡ None → IsHeadOnly v (before ++ line ∷ []) after
head_only_more v before line after parts is head only right =
    let told : List Said = said_before before in
    let passed = checks_passed (wrong_word (last_group 0 before) (Ok parts)) (too_often before (Ok parts)) (said_by (known_to told) parts.0 parts.1) (wrong_bounds told) (repeated told) (wrong_group told after) right in
    let s : Said = passed.s in
    let more : said_before (before ++ line ∷ []) ≡ told ++ s ∷ [] = said_more (known_to told) before line parts.0 parts.1 s (plain_word v (tokens_of line) parts is) passed.said_is in
    let one = is_head (known_to told) parts.0 parts.1 told s head passed.said_is in
    let Q : List Said → Type 0 = IsQuiet in
    let F : List Said → Type 0 = AllFit in
    let H : List Said → Type 0 = AreHostsOf in
    let T : List Said → Type 0 = λ said. IsTableOrMore after (rows_given said) in
    record {
      under = under_next v before line parts.0 parts.1 is only.under (in_order before line after parts.0 parts.1 right);
      quiet = subst Q (sym more) (one.quiet only.quiet);
      fit = subst F (sym more) (one.fit only.fit);
      hosts = subst H (sym more) (hosts_more (known_to told) parts.0 parts.1 told s head passed.said_is passed.again_is (has_place parts.0 parts.1 before passed.often_is) only.hosts);
      floor = subst (IsFloorOrMore v after) (sym more) (floor_more v (known_to told) line after parts.0 parts.1 told s is head passed.said_is passed.table_is only.floor);
      table = subst T (sym more) (table_more (known_to told) line after parts.0 parts.1 told s (plain_word v (tokens_of line) parts is) head passed.said_is passed.table_is only.table);
    }

head_by_word : (v : Version) → (n : ℕ) (before : List (List ℕ)) (line : List ℕ) (after : List (List ℕ)) → IsHeadOnly v before (line ∷ after)
    → (IsHeadOnly v (before ++ line ∷ []) after → read_head v (n + 1) (order_of (before ++ line ∷ [])) (head_given (said_before (before ++ line ∷ []))) after ≡ raced (walk v (n + 1) (before ++ line ∷ []) after))
    → (at_line n (wholeness (line ∷ after)) >>= λ _. head_after v n (order_of before) (head_given (said_before before)) (line ∷ after) after (head_of v (tokens_of line)))
    ≡ raced (walk v n before (line ∷ after))
unfolding walk
head_by_word v n before line after only later = elim (head_cases v line) [
  | inl late ↦ by_whole late.0 late.1 (wholeness (line ∷ after)) refl
  | inr head ↦
      body_step v n before line after (head_after v n (order_of before) (head_given (said_before before)) (line ∷ after) after (head_of v (tokens_of line)))
      (cond (ends line) (Ok (before ++ line ∷ [], after)) (walk v (n + 1) (before ++ line ∷ []) after)) (Ok head.0) head.2
      (ap (head_after v n (order_of before) (head_given (said_before before)) (line ∷ after) after) head.1
      ∙ ap (head_next v n after) (head_line v before line after head.0.0 head.0.1 head.2 only.under head.3)
      ∙ head_known v n after (line_checks before line after (Ok head.0)) (order_of (before ++ line ∷ [])) (head_given (said_before (before ++ line ∷ [])))
      (raced (cond (ends line) (Ok (before ++ line ∷ [], after)) (walk v (n + 1) (before ++ line ∷ []) after)))
      (λ right. later (head_only_more v before line after head.0 head.2 head.3 only right)
      ∙ ap (λ b. raced (cond b (Ok (before ++ line ∷ [], after)) (walk v (n + 1) (before ++ line ∷ []) after))) (sym (ends_known v line head.0.0 head.0.1 head.2 ∙ head_no_end head.0.0 head.3))))
]
  where
    by_whole : head_of v (tokens_of line) ≡ None → ((word : Word) (tokens : List (List ℕ)) → version_word v (tokens_of line) ≡ Ok (word, tokens) → is_head_word word ≡ false)
        → (w : Result (Unit {0}) TextKind) → wholeness (line ∷ after) ≡ w
        → (at_line n (wholeness (line ∷ after)) >>= λ _. head_after v n (order_of before) (head_given (said_before before)) (line ∷ after) after (head_of v (tokens_of line)))
        ≡ raced (walk v n before (line ∷ after))
    by_whole none late (Err kind) e =
        ap (λ w. at_line n w >>= λ _. head_after v n (order_of before) (head_given (said_before before)) (line ∷ after) after (head_of v (tokens_of line))) e
        ∙ sym (body_unwhole v n (order_of before) (race_of (said_before before)) (line ∷ after) kind e)
        ∙ body_agrees v n before (line ∷ after) only.under (λ word tokens is so_far. late word tokens is)
    by_whole none late (Ok done) e =
        ap (λ w. at_line n w >>= λ _. head_after v n (order_of before) (head_given (said_before before)) (line ∷ after) after (head_of v (tokens_of line))) e
        ∙ ap (head_after v n (order_of before) (head_given (said_before before)) (line ∷ after) after) none
        ∙ settle_reads v n (order_of before) (head_given (said_before before)) (line ∷ after) (empty_race (settings_given (said_before before)) (table_of_rows (rows_given (said_before before))) (host_given (said_before before)))
        (starts (said_before before) only.fit (floor_whole v line after (said_before before) late only.floor) only.hosts (table_whole v line after (rows_given (said_before before)) late only.table))
        ∙ ap (λ race. read_body v n (order_of before) race (line ∷ after)) (sym (quiet_race (said_before before) only.quiet))
        ∙ body_agrees v n before (line ∷ after) only.under (λ word tokens is so_far. late word tokens is)

pub head_agrees : (v : Version) → (n : ℕ) (before lines : List (List ℕ)) → IsHeadOnly v before lines → read_head v n (order_of before) (head_given (said_before before)) lines ≡ raced (walk v n before lines)
unfolding read_head walk
head_agrees v n before [] only = refl
head_agrees v n before (line ∷ after) only = head_by_word v n before line after only (head_agrees v (n + 1) (before ++ line ∷ []) after)

-- the whole race, from its first line
unfoldable pub walk_all : List (List ℕ) → Result (List (List ℕ) × List (List ℕ)) (ℕ × TextKind)
walk_all [] = Err (1, kinds.Unfinished)
walk_all (line ∷ after) = stop 1 (first_fault (too_long line ∷ unfinished after ∷ wrong_header line ∷ [])) (walk (version_on line) 2 [] after)

begins : (one two : Bool) (later : Version → Result (Race × List (List ℕ)) (ℕ × TextKind)) (final : Result (Race × List (List ℕ)) (ℕ × TextKind)) → later (cond two Two One) ≡ final → (one ≡ true → two ≡ false)
    → (at_line 1 (cond one (Ok One) (cond two (Ok Two) (Err kinds.Header))) >>= later) ≡ stop 1 (test (not (one || two)) kinds.Header) final
begins true true later final h other = absurd (let wrong : true ≡ false = other refl in cc)
begins true false later final h other = h
begins false true later final h other = h
begins false false later final h other = refl

-- the first lines of the two versions differ
not_second : (line : List ℕ) → bytes_eq line (header_of One) ≡ true → bytes_eq line (header_of Two) ≡ false
not_second line one = ap (λ l. bytes_eq l (header_of Two)) ((bytes_eq-Decides line (header_of One)).0 one)

nothing_yet : (v : Version) (lines : List (List ℕ)) → IsHeadOnly v [] lines
unfolding said_before policy_from
nothing_yet v lines = record { under = tt; quiet = record { aaaa = refl; a = refl; rtts = refl; used = refl; outcomes = refl; pauses = refl }; fit = none_fits; hosts = no_hosts; floor = no_floor v; table = inr refl }
  where
    no_floor : (v : Version) → IsFloorOrMore v lines []
    no_floor One = refl
    no_floor Two = inr refl

start_agrees : (v : Version) → (lines : List (List ℕ)) → read_head v 2 group_at_start no_head lines ≡ raced (walk v 2 [] lines)
unfolding said_before
start_agrees v lines = head_agrees v 2 [] lines (nothing_yet v lines)

pub lines_agree : (lines : List (List ℕ)) → read_lines lines ≡ raced (walk_all lines)
unfolding read_lines walk_all wholeness
lines_agree [] = refl
lines_agree (line ∷ after) =
    whole_first 1 (ltb MAX_LINE (length line)) after (wrong_header line) (at_line 1 (header_in line) >>= λ version. read_head version 2 group_at_start no_head after) (raced (walk (version_on line) 2 [] after))
    (begins (bytes_eq line (header_of One)) (bytes_eq line (header_of Two)) (λ version. read_head version 2 group_at_start no_head after) (raced (walk (version_on line) 2 [] after)) (start_agrees (version_on line) after) (not_second line))
    ∙ sym (raced_stop 1 (first_fault (too_long line ∷ unfinished after ∷ wrong_header line ∷ [])) (walk (version_on line) 2 [] after))

-- the fault is where the walk stops
fault_stop : {A : Type 0} (n : ℕ) (fault : Option TextKind) (later : Result A (ℕ × TextKind)) → fault_told (stop n fault later) ≡ at_line_number n fault (fault_told later)
fault_stop n None later = refl
fault_stop n (Some kind) later = refl

fault_end : {A : Type 0} (b : Bool) (x : A) (later : Result A (ℕ × TextKind)) → fault_told (cond b (Ok x) later) ≡ cond b None (fault_told later)
fault_end true x later = refl
fault_end false x later = refl

pub walk_fault : (v : Version) → (n : ℕ) (before lines : List (List ℕ)) → fault_told (walk v n before lines) ≡ fault_from v n before lines
unfolding walk fault_from
walk_fault v n before [] = refl
walk_fault v n before (line ∷ after) =
    fault_stop n (line_fault v before line after) (cond (ends line) (Ok (before ++ line ∷ [], after)) (walk v (n + 1) (before ++ line ∷ []) after))
    ∙ ap (at_line_number n (line_fault v before line after)) (fault_end (ends line) (before ++ line ∷ [], after) (walk v (n + 1) (before ++ line ∷ []) after)
    ∙ ap (λ f. cond (ends line) None f) (walk_fault v (n + 1) (before ++ line ∷ []) after))

pub walk_all_fault : (lines : List (List ℕ)) → fault_told (walk_all lines) ≡ fault_in lines
unfolding walk_all fault_in
walk_all_fault [] = refl
walk_all_fault (line ∷ after) =
    fault_stop 1 (first_fault (too_long line ∷ unfinished after ∷ wrong_header line ∷ [])) (walk (version_on line) 2 [] after)
    ∙ ap (at_line_number 1 (first_fault (too_long line ∷ unfinished after ∷ wrong_header line ∷ []))) (walk_fault (version_on line) 2 [] after)

raced_fault : (walked : Result (List (List ℕ) × List (List ℕ)) (ℕ × TextKind)) → fault_told (raced walked) ≡ fault_told walked
raced_fault (Ok x) = refl
raced_fault (Err fault) = refl

-- the readers fail where the definition has a fault, and with it
pub fault_agrees : (lines : List (List ℕ)) → fault_told (read_lines lines) ≡ fault_in lines
fault_agrees lines = ap fault_told (lines_agree lines) ∙ raced_fault (walk_all lines) ∙ walk_all_fault lines
