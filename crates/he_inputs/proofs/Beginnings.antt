-- What is wrong with the text of a race is wrong with each longer one, unless what follows may mend it.
use Rattle.std.proofs.Common.{◌≡◌, ℕ, ◌+◌, ◌<◌, ◌≤◌, Bool, true, false, cond, ltb, eqb, List, [], ◌∷◌, ◌++◌, length, Option, Some, None, Result, Ok, Err, refl, sym, ◌∙◌, ap, subst, inl, inr, arith, append_assoc}
use Rattle.std.specs.Prelude.{◌⊎◌, MatchOption}
use Rattle.std.specs.List.{onto_first}
use Rattle.std.specs.Option.{option_map_or}
use Rattle.std.proofs.lemmas.Bool.{eq-eqb, eqb-true, lt-ltb, ltb-true}
use Rattle.std.proofs.lemmas.List.{append-nil, append_cancel_left, length-append}
use Rattle.std.proofs.lemmas.List.Splits.{length-slice_split}
use Rattle.he_timeline.specs.Race.{Race}
use Rattle.std.specs.Result.{result_err}
use Rattle.he_words.specs.declared.fault.TextKind.{TextKind}
use Rattle.he_words.specs.declared.fault.TextKind.TheVariants as kinds
use Rattle.he_words.specs.declared.limits.TheConstants.{MAX_LINE}
use Rattle.he_words.specs.declared.words.Version.{Version}
use Rattle.he_words.specs.declared.words.Word.{Word}
use Rattle.he_inputs.specs.Beginnings.{IsGroupFaultAtEnd, MayBecome, MayChange, awaited}
use Rattle.he_reading.specs.Faults.{test, first_fault, last_group, known_to, said_before, too_long, unfinished, wrong_header, wrong_word, too_often, wrong_bounds, repeated, is_next, group_fault, wrong_group, of_said, header_fault, version_on, line_fault, ends}
use Rattle.he_reading.specs.FaultSearch.{at_line_number, fault_from, fault_in, fault_of}
use Rattle.he_reading.specs.Forms.{version_word, said_from}
use Rattle.he_reading.specs.Parts.{pieces_of, lines_of, tokens_of}
use Rattle.he_reading.specs.Said.{Said, word_said}
use Rattle.he_reading.specs.Text.{IsRaceText}
use Rattle.he_reading.proofs.CompleteTexts.{no_longer}
use Rattle.he_inputs.proofs.GroupFaults.{IsGroupFault, is_group_fault}
use Rattle.he_inputs.proofs.OpenLines.{Open, both_last, may_become_or_not, one_in_front, open_lacks, open_of}

-- the fault of every text of a race that begins with these bytes
abbrev pub RaceFaultStands : List ℕ → ℕ → TextKind → Type 0
RaceFaultStands text n kind = (more : List ℕ) → fault_of (text ++ more) ≡ Some (n, kind)

-- the lines of a longer text: the last one goes on, and others may follow
abbrev pub GoOn : List (List ℕ) → List (List ℕ) → Type 0
GoOn [] longer = ⊥
GoOn (last ∷ []) [] = ⊥
GoOn (last ∷ []) (line ∷ more) = length last ≤ length line
GoOn (line ∷ next ∷ lines) [] = ⊥
GoOn (line ∷ next ∷ lines) (other ∷ more) = (line ≡ other) × GoOn (next ∷ lines) more

one_more : (x : ℕ) (parts longer : List (List ℕ)) → GoOn parts longer → GoOn (onto_first x parts) (onto_first x longer)
one_more x [] longer h = absurd h
one_more x (part ∷ []) [] h = absurd h
one_more x (part ∷ []) (other ∷ more) h = omega arith
one_more x (part ∷ next ∷ parts) [] h = absurd h
one_more x (part ∷ next ∷ parts) (other ∷ more) h = (ap (λ p. x ∷ p) h.0, h.1)

one_part : (parts longer : List (List ℕ)) → GoOn parts longer → GoOn ([] ∷ parts) ([] ∷ longer)
one_part [] longer h = absurd h
one_part (part ∷ parts) longer h = (refl, h)

pub parts_go_on : (mark : ℕ) (text more : List ℕ) → GoOn (pieces_of mark text) (pieces_of mark (text ++ more))
parts_go_on mark [] more = by_parts (pieces_of mark more) (omega (arith, length-slice_split (λ b. eqb b mark) more))
  where
    by_parts : (parts : List (List ℕ)) → 0 < length parts → GoOn ([] ∷ []) parts
    by_parts [] some = absurd (omega arith)
    by_parts (part ∷ parts) some = omega arith
parts_go_on mark (x ∷ xs) more = by_mark (eqb x mark) (pieces_of mark xs) (pieces_of mark (xs ++ more)) (parts_go_on mark xs more)
  where
    by_mark : (b : Bool) (parts longer : List (List ℕ)) → GoOn parts longer → GoOn (cond b ([] ∷ parts) (onto_first x parts)) (cond b ([] ∷ longer) (onto_first x longer))
    by_mark true parts longer h = one_part parts longer h
    by_mark false parts longer h = one_more x parts longer h

-- the last of the checks finds something else
last_check : (checks : List (Option TextKind)) (one other : Option TextKind) (kind : TextKind) → first_fault (checks ++ one ∷ []) ≡ Some kind
    → (first_fault (checks ++ other ∷ []) ≡ Some kind) ⊎ (one ≡ Some kind)
last_check [] None other kind h = cc
last_check [] (Some k) other kind h = inr h
last_check (None ∷ checks) one other kind h = last_check checks one other kind h
last_check (Some k ∷ checks) one other kind h = inl h

last_passes : (checks : List (Option TextKind)) (one other : Option TextKind) → (one ≡ None → other ≡ None) → first_fault (checks ++ one ∷ []) ≡ None → first_fault (checks ++ other ∷ []) ≡ None
last_passes [] None other same h = ap (λ o. first_fault (o ∷ [])) (same refl)
last_passes [] (Some k) other same h = cc
last_passes (None ∷ checks) one other same h = last_passes checks one other same h
last_passes (Some k ∷ checks) one other same h = cc

-- the check of a group, where one more line of it follows and where none does
abbrev group_check : Bool → Option TextKind → Option TextKind
group_check more fault = cond more None fault

-- no group is checked on a line that one more of it follows
pub line_mends : (told : List Said) (longer : List (List ℕ)) (s : Said) → is_next (word_said s) longer ≡ true → wrong_group told longer s ≡ None
line_mends told longer s is = ap (λ b. group_check b (group_fault told s)) is

-- what stands after a line is no whole line yet, and one of the word in the longer text
abbrev Becomes : Word → List (List ℕ) → List (List ℕ) → Type 0
Becomes word after longer = (last : List ℕ) × (after ≡ last ∷ []) × (is_next word longer ≡ true)

-- whether a line of the word follows is known once the next line is whole
next_known : (word : Word) (after longer : List (List ℕ)) → GoOn after longer → (is_next word after ≡ is_next word longer) ⊎ Becomes word after longer
next_known word [] longer h = absurd h
next_known word (last ∷ []) longer h = by_next (is_next word longer) refl
  where
    by_next : (b : Bool) → is_next word longer ≡ b → (false ≡ is_next word longer) ⊎ Becomes word (last ∷ []) longer
    by_next false e = inl (sym e)
    by_next true e = inr (last, refl, e)
next_known word (line ∷ next ∷ lines) [] h = absurd h
next_known word (line ∷ next ∷ []) (other ∷ []) h = absurd h.1
next_known word (line ∷ next ∷ third ∷ lines) (other ∷ []) h = absurd h.1
next_known word (line ∷ next ∷ lines) (other ∷ more ∷ others) h = inl (ap (λ l. is_next word (l ∷ next ∷ lines)) h.0)

same_group : (told : List Said) (after longer : List (List ℕ)) (said : Result Said TextKind) (s : Said) → said ≡ Ok s → is_next (word_said s) after ≡ is_next (word_said s) longer
    → of_said (wrong_group told after) said ≡ of_said (wrong_group told longer) said
same_group told after longer said s is same =
    ap (of_said (wrong_group told after)) is ∙ ap (λ b. group_check b (group_fault told s)) same ∙ sym (ap (of_said (wrong_group told longer)) is)

group_passes : (told : List Said) (after longer : List (List ℕ)) (said : Result Said TextKind) → GoOn after longer → of_said (wrong_group told after) said ≡ None → of_said (wrong_group told longer) said ≡ None
group_passes told after longer (Err k) on h = refl
group_passes told after longer (Ok s) on h = elim (next_known (word_said s) after longer on) [
  | inl same ↦ sym (same_group told after longer (Ok s) s refl same) ∙ h
  | inr last ↦ line_mends told longer s last.2
]

-- all checks but the last
abbrev pub early : (v : Version) → List (List ℕ) → List ℕ → List (List ℕ) → List (Option TextKind)
early v before line after =
    too_long line ∷ unfinished after ∷ wrong_word (last_group 0 before) (version_word v (tokens_of line)) ∷ too_often before (version_word v (tokens_of line))
    ∷ result_err (said_from (known_to (said_before before)) (version_word v (tokens_of line))) ∷ of_said (wrong_bounds (said_before before)) (said_from (known_to (said_before before)) (version_word v (tokens_of line)))
    ∷ of_said (repeated (said_before before)) (said_from (known_to (said_before before)) (version_word v (tokens_of line))) ∷ []

abbrev pub group_of_line : (v : Version) → List (List ℕ) → List ℕ → List (List ℕ) → Option TextKind
group_of_line v before line after = of_said (wrong_group (said_before before) after) (said_from (known_to (said_before before)) (version_word v (tokens_of line)))

pub same_early : (v : Version) → (before : List (List ℕ)) (line : List ℕ) (after longer : List (List ℕ)) → GoOn after longer → early v before line after ≡ early v before line longer
same_early v before line [] longer h = absurd h
same_early v before line (last ∷ []) [] h = absurd h
same_early v before line (next ∷ other ∷ lines) [] h = absurd h
same_early v before line (next ∷ lines) (other ∷ more) h = refl

-- the line's fault may be mended: what stands after the line is none yet, and becomes one of the word that the fault
-- waits for
abbrev MayMend : List ℕ → List (List ℕ) → List (List ℕ) → TextKind → Type 0
MayMend line after longer kind = (word : Word) × (awaited line kind ≡ Some word) × Becomes word after longer

line_stands : (v : Version) → (before : List (List ℕ)) (line : List ℕ) (after longer : List (List ℕ)) (kind : TextKind) → GoOn after longer → line_fault v before line after ≡ Some kind
    → (line_fault v before line longer ≡ Some kind) ⊎ MayMend line after longer kind
unfolding line_fault
line_stands v before line after longer kind on h =
    let told : List Said = said_before before in
    let said : Result Said TextKind = said_from (known_to told) (version_word v (tokens_of line)) in
    let early_is : early v before line after ≡ early v before line longer = same_early v before line after longer on in
    let P : List (Option TextKind) → Type 0 = λ checks. first_fault (checks ++ group_of_line v before line after ∷ []) ≡ Some kind in
    let here : first_fault (early v before line longer ++ group_of_line v before line after ∷ []) ≡ Some kind = subst P early_is h in
    elim (last_check (early v before line longer) (group_of_line v before line after) (group_of_line v before line longer) kind here) [
      | inl stands ↦ inl stands
      | inr group ↦
          let fault : IsGroupFault v (known_to told) line kind = is_group_fault v (known_to told) line told after kind group in
          elim (next_known (word_said fault.s) after longer on) [
            | inl same ↦ inl (ap (λ t. first_fault (early v before line longer ++ t ∷ [])) (sym (same_group told after longer said fault.s fault.said_is same)) ∙ here)
            | inr last ↦ inr (word_said fault.s, fault.waits_is, last)
          ]
    ]

pub line_passes : (v : Version) → (before : List (List ℕ)) (line : List ℕ) (after longer : List (List ℕ)) → GoOn after longer → line_fault v before line after ≡ None → line_fault v before line longer ≡ None
unfolding line_fault
line_passes v before line after longer on h =
    let told : List Said = said_before before in
    let P : List (Option TextKind) → Type 0 = λ checks. first_fault (checks ++ group_of_line v before line after ∷ []) ≡ None in
    let here : first_fault (early v before line longer ++ group_of_line v before line after ∷ []) ≡ None = subst P (same_early v before line after longer on) h in
    last_passes (early v before line longer) (group_of_line v before line after) (group_of_line v before line longer)
    (group_passes told after longer (said_from (known_to told) (version_word v (tokens_of line))) on) here

-- all checks but the first two
abbrev pub later_checks : (v : Version) → List (List ℕ) → List ℕ → List (List ℕ) → List (Option TextKind)
later_checks v before line after =
    wrong_word (last_group 0 before) (version_word v (tokens_of line)) ∷ too_often before (version_word v (tokens_of line))
    ∷ result_err (said_from (known_to (said_before before)) (version_word v (tokens_of line))) ∷ of_said (wrong_bounds (said_before before)) (said_from (known_to (said_before before)) (version_word v (tokens_of line)))
    ∷ of_said (repeated (said_before before)) (said_from (known_to (said_before before)) (version_word v (tokens_of line))) ∷ group_of_line v before line after ∷ []

-- the line that the text ends in
long_or_open : (long : Bool) (others : List (Option TextKind)) → ((long ≡ true) × (first_fault (test long kinds.TooMany ∷ unfinished [] ∷ others) ≡ Some kinds.TooMany))
    ⊎ (first_fault (test long kinds.TooMany ∷ unfinished [] ∷ others) ≡ Some kinds.Unfinished)
long_or_open true others = inl (refl, refl)
long_or_open false others = inr refl

longer_line : (last line : List ℕ) → length last ≤ length line → ltb MAX_LINE (length last) ≡ true → too_long line ≡ Some kinds.TooMany
longer_line last line longer long =
    let above = ltb-true MAX_LINE (length last) long in
    ap (λ b. test b kinds.TooMany) (lt-ltb MAX_LINE (length line) (omega arith))

pub last_line : (v : Version) → (before : List (List ℕ)) (last line : List ℕ) (more : List (List ℕ)) → length last ≤ length line
    → ((line_fault v before last [] ≡ Some kinds.TooMany) × (line_fault v before line more ≡ Some kinds.TooMany)) ⊎ (line_fault v before last [] ≡ Some kinds.Unfinished)
unfolding line_fault
last_line v before last line more longer = elim (long_or_open (ltb MAX_LINE (length last)) (later_checks v before last [])) [
  | inl long ↦ inl (long.1, ap (λ o. first_fault (o ∷ unfinished more ∷ later_checks v before line more)) (longer_line last line longer long.0))
  | inr rest ↦ inr rest
]

-- line m is the last of the whole lines from line n on, and what stands after it becomes one of the word that its
-- fault waits for
pub record LineFollows (n : ℕ) (lines longer : List (List ℕ)) (m : ℕ) (kind : TextKind) : Type 0 where
  pub front : List (List ℕ)
  pub line : List ℕ
  pub last : List ℕ
  pub more : List (List ℕ)
  pub word : Word
  pub parts : lines ≡ front ++ line ∷ last ∷ []
  pub longer_parts : longer ≡ front ++ line ∷ more
  pub number : n + length front ≡ m
  pub waits : awaited line kind ≡ Some word
  pub next : is_next word more ≡ true

-- a fault on a line that the longer text mends, among the lines from line n on
abbrev MayBeMended : ℕ → List (List ℕ) → List (List ℕ) → ℕ → TextKind → Type 0
MayBeMended n lines longer m kind = (kind ≡ kinds.Unfinished) ⊎ LineFollows n lines longer m kind

mended_behind : (n : ℕ) (line : List ℕ) (lines longer : List (List ℕ)) (m : ℕ) (kind : TextKind) → MayBeMended (n + 1) lines longer m kind → MayBeMended n (line ∷ lines) (line ∷ longer) m kind
mended_behind n line lines longer m kind (inl rest) = inl rest
mended_behind n line lines longer m kind (inr follows) =
    let number : (n + 1) + length follows.front ≡ m = follows.number in
    inr (record {
      front = line ∷ follows.front;
      line = follows.line;
      last = follows.last;
      more = follows.more;
      word = follows.word;
      parts = ap (λ l. line ∷ l) follows.parts;
      longer_parts = ap (λ l. line ∷ l) follows.longer_parts;
      number = omega arith;
      waits = follows.waits;
      next = follows.next;
    })

mended_here : (n : ℕ) (line : List ℕ) (after longer : List (List ℕ)) (m : ℕ) (k kind : TextKind) → MayMend line after longer k → n ≡ m → k ≡ kind → MayBeMended n (line ∷ after) (line ∷ longer) m kind
mended_here n line after longer m k kind (word, waits, (last, behind, next)) here same = inr (record {
  front = [];
  line = line;
  last = last;
  more = longer;
  word = word;
  parts = ap (λ l. line ∷ l) behind;
  longer_parts = refl;
  number = omega arith;
  waits = ap (awaited line) (sym same) ∙ waits;
  next = next;
})

pub number_is : (n m : ℕ) (k kind : TextKind) → ◌≡◌ {A = Option (ℕ × TextKind)} (Some (n, k)) (Some (m, kind)) → (n ≡ m) × (k ≡ kind)
number_is n m k kind h =
    (ap (λ (o : Option (ℕ × TextKind)). option_map_or (λ p. p.0) o 0) h, ap (λ (o : Option (ℕ × TextKind)). option_map_or (λ p. p.1) o kinds.Header) h)

pub only : (n m : ℕ) (k kind : TextKind) (o : Option TextKind) (later : Option (ℕ × TextKind)) → o ≡ Some k → at_line_number n o later ≡ Some (m, kind) → ◌≡◌ {A = Option (ℕ × TextKind)} (Some (n, k)) (Some (m, kind))
only n m k kind o later e h = ap (λ f. at_line_number n f later) (sym e) ∙ h

from_stands : (v : Version) → (n : ℕ) (before lines longer : List (List ℕ)) (m : ℕ) (kind : TextKind) → GoOn lines longer → fault_from v n before lines ≡ Some (m, kind)
    → MayBeMended n lines longer m kind ⊎ (fault_from v n before longer ≡ Some (m, kind))
unfolding fault_from
from_stands v n before [] longer m kind on h = absurd on
from_stands v n before (last ∷ []) [] m kind on h = absurd on
from_stands v n before (last ∷ []) (line ∷ more) m kind on h = elim (last_line v before last line more on) [
  | inl long ↦ inr (ap (λ o. at_line_number n o (cond (ends line) None (fault_from v (n + 1) (before ++ line ∷ []) more))) long.1 ∙ only n m kinds.TooMany kind (line_fault v before last []) _ long.0 h)
  | inr rest ↦ let is = number_is n m kinds.Unfinished kind (only n m kinds.Unfinished kind (line_fault v before last []) _ rest h) in inl (inl (sym is.1))
]
from_stands v n before (line ∷ next ∷ lines) [] m kind on h = absurd on
from_stands v n before (line ∷ next ∷ lines) (other ∷ more) m kind on h =
    let P : List ℕ → Type 0 = λ l. MayBeMended n (line ∷ next ∷ lines) (l ∷ more) m kind ⊎ (fault_from v n before (l ∷ more) ≡ Some (m, kind)) in
    subst P on.0 (by_fault (λ e. from_stands v (n + 1) (before ++ line ∷ []) (next ∷ lines) more m kind on.1 e) (line_fault v before line (next ∷ lines)) refl h)
  where
    by_end : (fault_from v (n + 1) (before ++ line ∷ []) (next ∷ lines) ≡ Some (m, kind) → MayBeMended (n + 1) (next ∷ lines) more m kind ⊎ (fault_from v (n + 1) (before ++ line ∷ []) more ≡ Some (m, kind)))
        → (b : Bool) → cond b None (fault_from v (n + 1) (before ++ line ∷ []) (next ∷ lines)) ≡ Some (m, kind)
        → MayBeMended n (line ∷ next ∷ lines) (line ∷ more) m kind ⊎ (cond b None (fault_from v (n + 1) (before ++ line ∷ []) more) ≡ Some (m, kind))
    by_end later true e = cc
    by_end later false e = elim (later e) [
      | inr stands ↦ inr stands
      | inl may ↦ inl (mended_behind n line (next ∷ lines) more m kind may)
    ]

    by_fault : (fault_from v (n + 1) (before ++ line ∷ []) (next ∷ lines) ≡ Some (m, kind) → MayBeMended (n + 1) (next ∷ lines) more m kind ⊎ (fault_from v (n + 1) (before ++ line ∷ []) more ≡ Some (m, kind)))
        → (o : Option TextKind) → line_fault v before line (next ∷ lines) ≡ o → at_line_number n o (cond (ends line) None (fault_from v (n + 1) (before ++ line ∷ []) (next ∷ lines))) ≡ Some (m, kind)
        → MayBeMended n (line ∷ next ∷ lines) (line ∷ more) m kind ⊎ (at_line_number n (line_fault v before line more) (cond (ends line) None (fault_from v (n + 1) (before ++ line ∷ []) more)) ≡ Some (m, kind))
    by_fault later None e found = elim (by_end later (ends line) found) [
      | inl may ↦ inl may
      | inr stands ↦ inr (ap (λ o. at_line_number n o (cond (ends line) None (fault_from v (n + 1) (before ++ line ∷ []) more))) (line_passes v before line (next ∷ lines) more on.1 e) ∙ stands)
    ]
    by_fault later (Some k) e found = elim (line_stands v before line (next ∷ lines) more k on.1 e) [
      | inl stands ↦ inr (ap (λ o. at_line_number n o (cond (ends line) None (fault_from v (n + 1) (before ++ line ∷ []) more))) stands ∙ found)
      | inr mends ↦ let is = number_is n m k kind found in inl (mended_here n line (next ∷ lines) more m k kind mends is.0 is.1)
    ]

-- no fault comes on an earlier line
abbrev pub NotBefore : ℕ → Option (ℕ × TextKind) → Type 0
NotBefore n fault = MatchOption fault (Unit {0}) (λ f. n ≤ f.0)

pub here_or_behind : (n m : ℕ) (o : Option TextKind) (later : Option (ℕ × TextKind)) → n ≤ m → NotBefore m later → NotBefore n (at_line_number m o later)
here_or_behind n m (Some kind) later le h = le
here_or_behind n m None None le h = tt
here_or_behind n m None (Some f) le h = omega arith

pub unless_ended : (n : ℕ) (b : Bool) (later : Option (ℕ × TextKind)) → NotBefore n later → NotBefore n (cond b None later)
unless_ended n true later h = tt
unless_ended n false later h = h

pub weaker : (n m : ℕ) (later : Option (ℕ × TextKind)) → n ≤ m → NotBefore m later → NotBefore n later
weaker n m None le h = tt
weaker n m (Some f) le h = omega arith

pub from_here : (v : Version) → (n : ℕ) (before lines : List (List ℕ)) → NotBefore n (fault_from v n before lines)
unfolding fault_from
from_here v n before [] = omega arith
from_here v n before (line ∷ after) =
    here_or_behind n n (line_fault v before line after) _ (omega arith) (unless_ended n (ends line) _ (weaker n (n + 1) _ (omega arith) (from_here v (n + 1) (before ++ line ∷ []) after)))

from_later : (v : Version) → (n : ℕ) (before lines longer : List (List ℕ)) (m : ℕ) (kind : TextKind) → GoOn lines longer → fault_from v n before lines ≡ Some (m, kind) → NotBefore m (fault_from v n before longer)
unfolding fault_from
from_later v n before [] longer m kind on h = absurd on
from_later v n before (last ∷ []) longer m kind on h = elim (last_line v before last last [] (omega arith)) [
  | inl long ↦ let is = number_is n m kinds.TooMany kind (only n m kinds.TooMany kind (line_fault v before last []) _ long.0 h) in weaker m n _ (omega arith) (from_here v n before longer)
  | inr rest ↦ let is = number_is n m kinds.Unfinished kind (only n m kinds.Unfinished kind (line_fault v before last []) _ rest h) in weaker m n _ (omega arith) (from_here v n before longer)
]
from_later v n before (line ∷ next ∷ lines) [] m kind on h = absurd on
from_later v n before (line ∷ next ∷ lines) (other ∷ more) m kind on h =
    let P : List ℕ → Type 0 = λ l. NotBefore m (fault_from v n before (l ∷ more)) in
    subst P on.0 (by_fault (λ e. from_later v (n + 1) (before ++ line ∷ []) (next ∷ lines) more m kind on.1 e) (line_fault v before line (next ∷ lines)) refl h)
  where
    by_end : (fault_from v (n + 1) (before ++ line ∷ []) (next ∷ lines) ≡ Some (m, kind) → NotBefore m (fault_from v (n + 1) (before ++ line ∷ []) more))
        → (b : Bool) → cond b None (fault_from v (n + 1) (before ++ line ∷ []) (next ∷ lines)) ≡ Some (m, kind)
        → NotBefore m (cond b None (fault_from v (n + 1) (before ++ line ∷ []) more))
    by_end later true e = cc
    by_end later false e = later e

    by_fault : (fault_from v (n + 1) (before ++ line ∷ []) (next ∷ lines) ≡ Some (m, kind) → NotBefore m (fault_from v (n + 1) (before ++ line ∷ []) more))
        → (o : Option TextKind) → line_fault v before line (next ∷ lines) ≡ o → at_line_number n o (cond (ends line) None (fault_from v (n + 1) (before ++ line ∷ []) (next ∷ lines))) ≡ Some (m, kind)
        → NotBefore m (fault_from v n before (line ∷ more))
    by_fault later None e found =
        let Q : Option TextKind → Type 0 = λ o. NotBefore m (at_line_number n o (cond (ends line) None (fault_from v (n + 1) (before ++ line ∷ []) more))) in
        subst Q (sym (line_passes v before line (next ∷ lines) more on.1 e)) (by_end later (ends line) found)
    by_fault later (Some k) e found = let is = number_is n m k kind found in weaker m n _ (omega arith) (from_here v n before (line ∷ more))

-- the same from the first line on
more_follow : (line : List ℕ) (lines more : List (List ℕ)) → GoOn (line ∷ lines) more → unfinished more ≡ None
more_follow line [] [] on = absurd on
more_follow line [] (next ∷ more) on = refl
more_follow line (other ∷ lines) [] on = absurd on
more_follow line (other ∷ lines) (next ∷ more) on = refl

pub last_header : (last line : List ℕ) (more : List (List ℕ)) → length last ≤ length line
    → ((header_fault last [] ≡ Some kinds.TooMany) × (header_fault line more ≡ Some kinds.TooMany)) ⊎ (header_fault last [] ≡ Some kinds.Unfinished)
last_header last line more longer = elim (long_or_open (ltb MAX_LINE (length last)) (wrong_header last ∷ [])) [
  | inl long ↦ inl (long.1, ap (λ o. first_fault (o ∷ unfinished more ∷ wrong_header line ∷ [])) (longer_line last line longer long.0))
  | inr rest ↦ inr rest
]

in_stands : (lines longer : List (List ℕ)) (m : ℕ) (kind : TextKind) → GoOn lines longer → fault_in lines ≡ Some (m, kind) → MayBeMended 1 lines longer m kind ⊎ (fault_in longer ≡ Some (m, kind))
unfolding fault_in
in_stands [] longer m kind on h = absurd on
in_stands (last ∷ []) [] m kind on h = absurd on
in_stands (last ∷ []) (line ∷ more) m kind on h = elim (last_header last line more on) [
  | inl long ↦ inr (ap (λ o. at_line_number 1 o (fault_from (version_on line) 2 [] more)) long.1 ∙ only 1 m kinds.TooMany kind (header_fault last []) _ long.0 h)
  | inr rest ↦ let is = number_is 1 m kinds.Unfinished kind (only 1 m kinds.Unfinished kind (header_fault last []) _ rest h) in inl (inl (sym is.1))
]
in_stands (line ∷ next ∷ lines) [] m kind on h = absurd on
in_stands (line ∷ next ∷ lines) (other ∷ more) m kind on h =
    let P : List ℕ → Type 0 = λ l. MayBeMended 1 (line ∷ next ∷ lines) (l ∷ more) m kind ⊎ (fault_in (l ∷ more) ≡ Some (m, kind)) in
    subst P on.0 (elim (by_fault (first_fault (too_long line ∷ None ∷ wrong_header line ∷ [])) h) [
      | inl may ↦ inl may
      | inr stands ↦ inr (ap (λ u. at_line_number 1 (first_fault (too_long line ∷ u ∷ wrong_header line ∷ [])) (fault_from (version_on line) 2 [] more)) (more_follow next lines more on.1) ∙ stands)
    ])
  where
    by_fault : (o : Option TextKind) → at_line_number 1 o (fault_from (version_on line) 2 [] (next ∷ lines)) ≡ Some (m, kind)
        → MayBeMended 1 (line ∷ next ∷ lines) (line ∷ more) m kind ⊎ (at_line_number 1 o (fault_from (version_on line) 2 [] more) ≡ Some (m, kind))
    by_fault (Some k) found = inr found
    by_fault None found = elim (from_stands (version_on line) 2 [] (next ∷ lines) more m kind on.1 found) [
      | inr stands ↦ inr stands
      | inl may ↦ inl (mended_behind 1 line (next ∷ lines) more m kind may)
    ]

in_later : (lines longer : List (List ℕ)) (m : ℕ) (kind : TextKind) → GoOn lines longer → fault_in lines ≡ Some (m, kind) → NotBefore m (fault_in longer)
unfolding fault_in
in_later [] longer m kind on h = absurd on
in_later (last ∷ []) [] m kind on h = absurd on
in_later (last ∷ []) (line ∷ more) m kind on h =
    let first : m ≤ 1 = by_header (last_header last last [] (omega arith)) in
    weaker m 1 _ first (here_or_behind 1 1 (header_fault line more) _ (omega arith) (weaker 1 2 _ (omega arith) (from_here (version_on line) 2 [] more)))
  where
    by_header : ((header_fault last [] ≡ Some kinds.TooMany) × (header_fault last [] ≡ Some kinds.TooMany)) ⊎ (header_fault last [] ≡ Some kinds.Unfinished) → m ≤ 1
    by_header (inl long) = let is = number_is 1 m kinds.TooMany kind (only 1 m kinds.TooMany kind (header_fault last []) _ long.0 h) in omega arith
    by_header (inr rest) = let is = number_is 1 m kinds.Unfinished kind (only 1 m kinds.Unfinished kind (header_fault last []) _ rest h) in omega arith
in_later (line ∷ next ∷ lines) [] m kind on h = absurd on
in_later (line ∷ next ∷ lines) (other ∷ more) m kind on h =
    let P : List ℕ → Type 0 = λ l. NotBefore m (fault_in (l ∷ more)) in
    let Q : Option TextKind → Type 0 = λ u. NotBefore m (at_line_number 1 (first_fault (too_long line ∷ u ∷ wrong_header line ∷ [])) (fault_from (version_on line) 2 [] more)) in
    subst P on.0 (subst Q (sym (more_follow next lines more on.1)) (by_fault (first_fault (too_long line ∷ None ∷ wrong_header line ∷ [])) h))
  where
    by_fault : (o : Option TextKind) → at_line_number 1 o (fault_from (version_on line) 2 [] (next ∷ lines)) ≡ Some (m, kind) → NotBefore m (at_line_number 1 o (fault_from (version_on line) 2 [] more))
    by_fault (Some k) found = let is = number_is 1 m k kind found in omega arith
    by_fault None found = from_later (version_on line) 2 [] (next ∷ lines) more m kind on.1 found

-- whether what follows may mend the fault
pub by_kind : (kind : TextKind) → (kind ≡ kinds.Unfinished) ⊎ (kind ≡ kinds.Unfinished → ⊥)
by_kind kinds.Header = inr (λ e. cc)
by_kind kinds.Word = inr (λ e. cc)
by_kind kinds.Number = inr (λ e. cc)
by_kind kinds.Address = inr (λ e. cc)
by_kind kinds.Prefix = inr (λ e. cc)
by_kind kinds.Repeated = inr (λ e. cc)
by_kind kinds.Range = inr (λ e. cc)
by_kind kinds.TooMany = inr (λ e. cc)
by_kind kinds.Unfinished = inl refl
by_kind (kinds.Policy fault) = inr (λ e. cc)
by_kind kinds.Memory = inr (λ e. cc)

changes : (text more : List ℕ) (n : ℕ) (kind : TextKind) → MayBeMended 1 (lines_of text) (lines_of (text ++ more)) n kind → MayChange text n kind
changes text more n kind (inl rest) = inl rest
changes text more n kind (inr follows) =
    let ending : Open 10 text = open_of 10 text in
    let front : List (List ℕ) = follows.front ++ follows.line ∷ [] in
    let parts : lines_of text ≡ front ++ follows.last ∷ [] = follows.parts ∙ sym (append_assoc follows.front (follows.line ∷ []) (follows.last ∷ [])) in
    let same = both_last ending.whole front ending.rest follows.last (sym ending.parts ∙ parts) in
    let ours : lines_of (text ++ more) ≡ front ++ lines_of (follows.last ++ more) =
    ending.grows more ∙ ap (λ w. w ++ lines_of (ending.rest ++ more)) same.1 ∙ ap (λ r. front ++ lines_of (r ++ more)) same.0 in
    let theirs : lines_of (text ++ more) ≡ front ++ follows.more = follows.longer_parts ∙ sym (append_assoc follows.front (follows.line ∷ []) follows.more) in
    let behind : lines_of (follows.last ++ more) ≡ follows.more = append_cancel_left front (lines_of (follows.last ++ more)) follows.more (sym ours ∙ theirs) in
    let number : 1 + length follows.front ≡ n = follows.number in
    inr (record {
      line = follows.line;
      rest = follows.last;
      word = follows.word;
      ends = (follows.front, follows.parts, omega arith);
      waits = follows.waits;
      may = (more, ap (is_next follows.word) behind ∙ follows.next);
    })

-- the last of the whole lines, if there is one
pub last_whole : (whole : List (List ℕ)) → (whole ≡ []) ⊎ ((before : List (List ℕ)) × (line : List ℕ) × (whole ≡ before ++ line ∷ []))
last_whole [] = inl refl
last_whole (line ∷ whole) = elim (last_whole whole) [
  | inl none ↦ inr ([], line, ap (λ w. line ∷ w) none)
  | inr last ↦ inr (line ∷ last.0, last.1, ap (λ w. line ∷ w) last.2)
]

-- the text's last line and what is open after it are these alone
abbrev AreLast : List ℕ → List (List ℕ) → List ℕ → List ℕ → Type 0
AreLast text before line rest = lines_of text ≡ before ++ line ∷ rest ∷ []

pub same_last : (text : List ℕ) (before others : List (List ℕ)) (line other rest behind : List ℕ) → AreLast text before line rest → AreLast text others other behind → (before ≡ others) × (line ≡ other) × (rest ≡ behind)
same_last text before others line other rest behind parts other_parts =
    let outer = both_last (before ++ line ∷ []) (others ++ other ∷ []) rest behind (append_assoc before (line ∷ []) (rest ∷ []) ∙ sym parts ∙ other_parts ∙ sym (append_assoc others (other ∷ []) (behind ∷ []))) in
    let inner = both_last before others line other outer.1 in
    (inner.1, inner.0, outer.0)

group_fault_or_not : (text : List ℕ) (n : ℕ) (kind : TextKind) → IsGroupFaultAtEnd text n kind ⊎ (IsGroupFaultAtEnd text n kind → ⊥)
group_fault_or_not text n kind = by_last (last_whole ending.whole)
  where
    ending : Open 10 text
    ending = open_of 10 text

    by_word : (before : List (List ℕ)) (line : List ℕ) → AreLast text before line ending.rest → length before + 1 ≡ n → (word : Option Word) → awaited line kind ≡ word
        → IsGroupFaultAtEnd text n kind ⊎ (IsGroupFaultAtEnd text n kind → ⊥)
    by_word before line parts count None none = inr (λ fault.
        let same = same_last text before fault.ends.0 line fault.line ending.rest fault.rest parts fault.ends.1 in
        let wrong : None ≡ Some fault.word = sym none ∙ ap (λ l. awaited l kind) same.1 ∙ fault.waits in cc)
    by_word before line parts count (Some word) waits = elim (may_become_or_not word ending.rest (open_lacks 10 text)) [
      | inl may ↦ inl (record { line = line; rest = ending.rest; word = word; ends = (before, parts, count); waits = waits; may = may })
      | inr never ↦ inr (λ fault.
          let same = same_last text before fault.ends.0 line fault.line ending.rest fault.rest parts fault.ends.1 in
          let words : Some word ≡ Some fault.word = sym waits ∙ ap (λ l. awaited l kind) same.1 ∙ fault.waits in
          let one : word ≡ fault.word = cc (words) in
          let W : Word → Type 0 = λ w. MayBecome w ending.rest in
          never (subst W (sym one) (subst (MayBecome fault.word) (sym same.2) fault.may)))
    ]

    by_count : (before : List (List ℕ)) (line : List ℕ) → AreLast text before line ending.rest → (b : Bool) → eqb (length before + 1) n ≡ b → IsGroupFaultAtEnd text n kind ⊎ (IsGroupFaultAtEnd text n kind → ⊥)
    by_count before line parts true e = by_word before line parts (eqb-true (length before + 1) n e) (awaited line kind) refl
    by_count before line parts false e = inr (λ fault.
        let same = same_last text before fault.ends.0 line fault.line ending.rest fault.rest parts fault.ends.1 in
        let count : length before + 1 ≡ n = ap (λ (ls : List (List ℕ)). length ls + 1) same.0 ∙ fault.ends.2 in
        let wrong : true ≡ false = sym (eq-eqb (length before + 1) n count) ∙ e in cc)

    by_last : (ending.whole ≡ []) ⊎ ((before : List (List ℕ)) × (line : List ℕ) × (ending.whole ≡ before ++ line ∷ [])) → IsGroupFaultAtEnd text n kind ⊎ (IsGroupFaultAtEnd text n kind → ⊥)
    by_last (inl none) = inr (λ fault.
        let one : length (lines_of text) ≡ 1 = ap length (ending.parts ∙ ap (λ w. w ++ ending.rest ∷ []) none) in
        let more : length (lines_of text) ≡ length fault.ends.0 + 2 = ap length fault.ends.1 ∙ length-append fault.ends.0 (fault.line ∷ fault.rest ∷ []) in
        absurd (omega arith))
    by_last (inr (before, line, is)) = by_count before line (ending.parts ∙ ap (λ w. w ++ ending.rest ∷ []) is ∙ append_assoc before (line ∷ []) (ending.rest ∷ [])) (eqb (length before + 1) n) refl

may_or_not : (text : List ℕ) (n : ℕ) (kind : TextKind) → MayChange text n kind ⊎ (MayChange text n kind → ⊥)
may_or_not text n kind = elim (by_kind kind) [
  | inl unfinished ↦ inl (inl unfinished)
  | inr other ↦ elim (group_fault_or_not text n kind) [
    | inl group ↦ inl (inr group)
    | inr never ↦ inr (λ may. elim may [ inl e ↦ other e | inr group ↦ never group ])
  ]
]

pub stands : (text : List ℕ) (n : ℕ) (kind : TextKind) → fault_of text ≡ Some (n, kind) → MayChange text n kind ⊎ RaceFaultStands text n kind
stands text n kind h = elim (may_or_not text n kind) [
  | inl may ↦ inl may
  | inr never ↦ inr (λ more. elim (in_stands (lines_of text) (lines_of (text ++ more)) n kind (parts_go_on 10 text more) h) [
    | inl may ↦ absurd (never (changes text more n kind may))
    | inr same ↦ same
  ])
]

pub not_earlier : (text more : List ℕ) (n : ℕ) (kind : TextKind) → fault_of text ≡ Some (n, kind) → NotBefore n (fault_of (text ++ more))
not_earlier text more n kind h = in_later (lines_of text) (lines_of (text ++ more)) n kind (parts_go_on 10 text more) h

-- the race with which a text begins is one
pub one_race_first : (front rest other_front other_rest : List ℕ) (race other : Race) → IsRaceText front race → IsRaceText other_front other → front ++ rest ≡ other_front ++ other_rest
    → (front ≡ other_front) × (race ≡ other)
one_race_first front rest other_front other_rest race other is also same = elim (one_in_front front other_front rest other_rest same) [
  | inl longer ↦
      let P : List ℕ → Type 0 = λ t. IsRaceText t other in
      let both = no_longer front longer.0 race other is (subst P longer.1 also) in
      (sym (longer.1 ∙ ap (λ m. front ++ m) both.1 ∙ append-nil front), both.0)
  | inr longer ↦
      let P : List ℕ → Type 0 = λ t. IsRaceText t race in
      let both = no_longer other_front longer.0 other race also (subst P longer.1 is) in
      (longer.1 ∙ ap (λ m. other_front ++ m) both.1 ∙ append-nil other_front, sym both.0)
]
