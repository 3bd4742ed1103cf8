-- What may follow the text of a race mends the fault of a group; and only the last line is unfinished.
use Rattle.std.proofs.Common.{◌≡◌, ℕ, ◌+◌, ◌<◌, ◌≤◌, Bool, true, false, cond, List, [], ◌∷◌, ◌++◌, length, Option, Some, None, Result, Ok, Err, refl, sym, ◌∙◌, ap, subst, inl, inr, arith, append_assoc}
use Rattle.std.specs.Prelude.{◌⊎◌}
use Rattle.std.specs.List.{AllByRecursion}
use Rattle.std.specs.Result.{result_err}
use Rattle.std.proofs.lemmas.List.{length-append}
use Rattle.he_addr.specs.declared.ip.Ip.{Ip}
use Rattle.he_words.specs.declared.fault.TextKind.{TextKind}
use Rattle.he_words.specs.declared.fault.TextKind.TheVariants as kinds
use Rattle.he_words.specs.declared.words.Version.{Version}
use Rattle.he_words.specs.declared.words.Word.{Word}
use Rattle.he_words.specs.declared.words.Word.TheVariants as words
use Rattle.he_inputs.specs.Beginnings.{IsGroupFaultAtEnd, awaited}
use Rattle.he_reading.specs.Faults.{test, first_fault, last_group, known_to, lines_with, excess, said_before, too_long, unfinished, header_fault, wrong_header, version_on, wrong_word, too_often, wrong_bounds, repeated, is_next, wrong_group, of_said, line_fault, ends}
use Rattle.he_reading.specs.FaultSearch.{at_line_number, fault_from, fault_in, fault_of}
use Rattle.he_reading.specs.Forms.{version_word, said_from}
use Rattle.he_reading.specs.Parts.{lines_of, tokens_of}
use Rattle.he_reading.specs.Said.{Said, word_said, Setting, PolicyRow, HostSource, HostRoute, Answer, RoundTrip, UsedBefore, OutcomeOf, Paused, Ended}
use Rattle.he_words.specs.Words.{group_of, most_lines}
use Rattle.he_inputs.proofs.Beginnings.{GoOn, NotBefore, early, from_here, group_of_line, last_header, last_line, line_mends, line_passes, number_is, only, unless_ended, weaker}
use Rattle.he_inputs.proofs.FormKinds.{IsOwn}
use Rattle.he_inputs.proofs.GroupFaults.{IsGroupFault, error_waits, is_group_fault, line_waits, says_own}
use Rattle.he_inputs.proofs.OpenLines.{Open, both_last, front_part, open_lacks, open_of, some_part}
use Rattle.he_reading.proofs.PartLaws.{Lacks}

-- the checks but the last two find what is wrong with the line itself, which waits for no other line
abbrev IsLineOwn : List ℕ → TextKind → Type 0
IsLineOwn line kind = IsOwn kind × (awaited line kind ≡ None)

abbrev OwnFault : List ℕ → Option TextKind → Type 0
OwnFault line None = Unit {0}
OwnFault line (Some kind) = IsLineOwn line kind

own_test : (line : List ℕ) (b : Bool) (kind : TextKind) → IsOwn kind → awaited line kind ≡ None → OwnFault line (test b kind)
own_test line true kind own none = (own, none)
own_test line false kind own none = tt

own_word : (line : List ℕ) (group : ℕ) (word : Result (Word × List (List ℕ)) TextKind) → OwnFault line (wrong_word group word)
own_word line group (Ok parts) = own_test line _ kinds.Word tt refl
own_word line group (Err kind) = (tt, refl)

own_excess : (line : List ℕ) (lines : ℕ) (word : Word) → OwnFault line (excess (most_lines word) lines)
own_excess line lines words.Set = tt
own_excess line lines words.Policy = own_test line _ kinds.TooMany tt refl
own_excess line lines words.Source = own_test line _ kinds.TooMany tt refl
own_excess line lines words.Route = own_test line _ kinds.TooMany tt refl
own_excess line lines words.Aaaa = own_test line _ kinds.Repeated tt refl
own_excess line lines words.A = own_test line _ kinds.Repeated tt refl
own_excess line lines words.Rtt = tt
own_excess line lines words.Used = tt
own_excess line lines words.Connect = tt
own_excess line lines words.Pause = own_test line _ kinds.TooMany tt refl
own_excess line lines words.End = tt

own_often : (line : List ℕ) (before : List (List ℕ)) (word : Result (Word × List (List ℕ)) TextKind) → OwnFault line (too_often before word)
own_often line before (Ok parts) = own_excess line (lines_with (group_of parts.0) before) parts.0
own_often line before (Err kind) = tt

own_told : (v : Version) (known : Ip → Bool) (line : List ℕ) → OwnFault line (result_err (said_from known (version_word v (tokens_of line))))
own_told v known line = by_said (said_from known (version_word v (tokens_of line))) refl
  where
    by_said : (said : Result Said TextKind) → said_from known (version_word v (tokens_of line)) ≡ said → OwnFault line (result_err said)
    by_said (Ok s) e = tt
    by_said (Err kind) e = let own = says_own v known line kind e in (own, error_waits v known line kind e own)

own_bounds : (v : Version) (known : Ip → Bool) (line : List ℕ) (told : List Said) → OwnFault line (of_said (wrong_bounds told) (said_from known (version_word v (tokens_of line))))
own_bounds v known line told = by_said (said_from known (version_word v (tokens_of line))) refl
  where
    by_said : (said : Result Said TextKind) → said_from known (version_word v (tokens_of line)) ≡ said → OwnFault line (of_said (wrong_bounds told) said)
    by_said (Err k) e = tt
    by_said (Ok (Setting name value)) e = tt
    by_said (Ok (PolicyRow row)) e = tt
    by_said (Ok (HostSource source)) e = tt
    by_said (Ok (HostRoute route)) e = tt
    by_said (Ok (Answer family reply)) e = tt
    by_said (Ok (RoundTrip ip rtt)) e = tt
    by_said (Ok (UsedBefore ip)) e = tt
    by_said (Ok (OutcomeOf ip outcome)) e = tt
    by_said (Ok (Paused from to)) e = own_test line _ kinds.Range tt (line_waits v known line (Paused from to) kinds.Range e)
    by_said (Ok Ended) e = tt

own_repeated : (line : List ℕ) (told : List Said) (said : Result Said TextKind) → OwnFault line (of_said (repeated told) said)
own_repeated line told (Err k) = tt
own_repeated line told (Ok (Setting name value)) = own_test line _ kinds.Repeated tt refl
own_repeated line told (Ok (PolicyRow row)) = own_test line _ kinds.Repeated tt refl
own_repeated line told (Ok (HostSource source)) = own_test line _ kinds.Repeated tt refl
own_repeated line told (Ok (HostRoute route)) = own_test line _ kinds.Repeated tt refl
own_repeated line told (Ok (Answer family reply)) = own_test line _ kinds.Repeated tt refl
own_repeated line told (Ok (RoundTrip ip rtt)) = own_test line _ kinds.Repeated tt refl
own_repeated line told (Ok (UsedBefore ip)) = own_test line _ kinds.Repeated tt refl
own_repeated line told (Ok (OutcomeOf ip outcome)) = own_test line _ kinds.Repeated tt refl
own_repeated line told (Ok (Paused from to)) = tt
own_repeated line told (Ok Ended) = tt

own_early : (v : Version) → (before : List (List ℕ)) (line next : List ℕ) (lines : List (List ℕ)) → AllByRecursion (OwnFault line) (early v before line (next ∷ lines))
own_early v before line next lines =
    let told : List Said = said_before before in
    let said : Result Said TextKind = said_from (known_to told) (version_word v (tokens_of line)) in (
      own_test line _ kinds.TooMany tt refl,
      (
        tt,
        (
          own_word line (last_group 0 before) (version_word v (tokens_of line)),
          (own_often line before (version_word v (tokens_of line)), (own_told v (known_to told) line, (own_bounds v (known_to told) line told, (own_repeated line told said, tt)))),
        ),
      ),
    )

-- where the last of the checks finds the fault, it alone decides
abbrev LastDecides : List (Option TextKind) → Option TextKind → TextKind → Type 0
LastDecides checks one kind = (one ≡ Some kind) × ((other : Option TextKind) → first_fault (checks ++ other ∷ []) ≡ first_fault (other ∷ []))

own_or_last : (line : List ℕ) (checks : List (Option TextKind)) (one : Option TextKind) (kind : TextKind) → AllByRecursion (OwnFault line) checks → first_fault (checks ++ one ∷ []) ≡ Some kind
    → IsLineOwn line kind ⊎ LastDecides checks one kind
own_or_last line [] None kind own h = cc
own_or_last line [] (Some k) kind own h = inr (h, λ other. refl)
own_or_last line (None ∷ checks) one kind own h = own_or_last line checks one kind own.1 h
own_or_last line (Some k ∷ checks) one kind own h = let same : k ≡ kind = cc (h) in inl (subst (IsLineOwn line) same own.0)

line_kinds : (v : Version) → (before : List (List ℕ)) (line next : List ℕ) (lines : List (List ℕ)) (kind : TextKind) → line_fault v before line (next ∷ lines) ≡ Some kind
    → IsLineOwn line kind ⊎ LastDecides (early v before line (next ∷ lines)) (group_of_line v before line (next ∷ lines)) kind
unfolding line_fault
line_kinds v before line next lines kind h = own_or_last line (early v before line (next ∷ lines)) (group_of_line v before line (next ∷ lines)) kind (own_early v before line next lines) h

-- what the last of the checks found is mended by a line of the word that the fault waits for
group_mended : (v : Version) (before : List (List ℕ)) (line : List ℕ) (after longer : List (List ℕ)) (kind : TextKind) (word : Word) → group_of_line v before line after ≡ Some kind → awaited line kind ≡ Some word
    → is_next word longer ≡ true → group_of_line v before line longer ≡ None
group_mended v before line after longer kind word h waits is =
    let told : List Said = said_before before in
    let fault : IsGroupFault v (known_to told) line kind = is_group_fault v (known_to told) line told after kind h in
    let words : Some word ≡ Some (word_said fault.s) = sym waits ∙ fault.waits_is in
    let one : word ≡ word_said fault.s = cc (words) in
    ap (of_said (wrong_group told longer)) fault.said_is ∙ line_mends told longer fault.s (ap (λ w. is_next w longer) (sym one) ∙ is)

mended_line : (v : Version) → (before : List (List ℕ)) (line rest first : List ℕ) (others : List (List ℕ)) (kind : TextKind) (word : Word) → awaited line kind ≡ Some word → is_next word (first ∷ others) ≡ true
    → line_fault v before line (rest ∷ []) ≡ Some kind → line_fault v before line (first ∷ others) ≡ None
unfolding line_fault
mended_line v before line rest first others kind word waits is h = elim (line_kinds v before line rest [] kind h) [
  | inl own ↦ let wrong : None ≡ Some word = sym own.1 ∙ waits in cc
  | inr last ↦
      last.1 (group_of_line v before line (first ∷ others))
      ∙ ap (λ o. first_fault (o ∷ [])) (group_mended v before line (rest ∷ []) (first ∷ others) kind word last.0 waits is)
]

go_on : (whole : List (List ℕ)) (rest longer : List ℕ) (others : List (List ℕ)) → length rest ≤ length longer → GoOn (whole ++ rest ∷ []) (whole ++ longer ∷ others)
go_on [] rest longer others le = le
go_on (part ∷ []) rest longer others le = (refl, le)
go_on (part ∷ next ∷ whole) rest longer others le = (refl, go_on (next ∷ whole) rest longer others le)

go_on_behind : (front : List (List ℕ)) (line rest longer : List ℕ) (others : List (List ℕ)) → length rest ≤ length longer → GoOn (front ++ line ∷ rest ∷ []) (front ++ line ∷ longer ∷ others)
go_on_behind [] line rest longer others le = (refl, le)
go_on_behind (part ∷ []) line rest longer others le = (refl, (refl, le))
go_on_behind (part ∷ next ∷ front) line rest longer others le = (refl, go_on_behind (next ∷ front) line rest longer others le)

-- where a line of the word that the fault waits for follows the last whole line, the fault comes no more, and no other
-- up to there
mended_from : (v : Version) → (n : ℕ) (before front : List (List ℕ)) (line rest first : List ℕ) (others : List (List ℕ)) (m : ℕ) (kind : TextKind) (word : Word) → length rest ≤ length first → awaited line kind ≡ Some word
    → is_next word (first ∷ others) ≡ true → n + length front ≡ m → fault_from v n before (front ++ line ∷ rest ∷ []) ≡ Some (m, kind) → NotBefore (m + 1) (fault_from v n before (front ++ line ∷ first ∷ others))
unfolding fault_from
mended_from v n before [] line rest first others m kind word le waits is count h = by_fault (line_fault v before line (rest ∷ [])) refl h
  where
    behind : line_fault v before line (first ∷ others) ≡ None → NotBefore (m + 1) (fault_from v n before (line ∷ first ∷ others))
    behind none =
        let Q : Option TextKind → Type 0 = λ o. NotBefore (m + 1) (at_line_number n o (cond (ends line) None (fault_from v (n + 1) (before ++ line ∷ []) (first ∷ others)))) in
        subst Q (sym none) (unless_ended (m + 1) (ends line) _ (weaker (m + 1) (n + 1) _ (omega arith) (from_here v (n + 1) (before ++ line ∷ []) (first ∷ others))))

    by_fault : (o : Option TextKind) → line_fault v before line (rest ∷ []) ≡ o → at_line_number n o (cond (ends line) None (fault_from v (n + 1) (before ++ line ∷ []) (rest ∷ []))) ≡ Some (m, kind)
        → NotBefore (m + 1) (fault_from v n before (line ∷ first ∷ others))
    by_fault None e found = behind (line_passes v before line (rest ∷ []) (first ∷ others) le e)
    by_fault (Some k) e found =
        let same = number_is n m k kind found in
        behind (mended_line v before line rest first others kind word waits is (e ∙ ap Some same.1))
mended_from v n before (other ∷ front) line rest first others m kind word le waits is count h =
    by_fault (λ e. mended_from v (n + 1) (before ++ other ∷ []) front line rest first others m kind word le waits is (omega arith) e) (line_fault v before other (front ++ line ∷ rest ∷ [])) refl h
  where
    by_end : (fault_from v (n + 1) (before ++ other ∷ []) (front ++ line ∷ rest ∷ []) ≡ Some (m, kind) → NotBefore (m + 1) (fault_from v (n + 1) (before ++ other ∷ []) (front ++ line ∷ first ∷ others)))
        → (b : Bool) → cond b None (fault_from v (n + 1) (before ++ other ∷ []) (front ++ line ∷ rest ∷ [])) ≡ Some (m, kind)
        → NotBefore (m + 1) (cond b None (fault_from v (n + 1) (before ++ other ∷ []) (front ++ line ∷ first ∷ others)))
    by_end later true e = cc
    by_end later false e = later e

    by_fault : (fault_from v (n + 1) (before ++ other ∷ []) (front ++ line ∷ rest ∷ []) ≡ Some (m, kind) → NotBefore (m + 1) (fault_from v (n + 1) (before ++ other ∷ []) (front ++ line ∷ first ∷ others)))
        → (o : Option TextKind) → line_fault v before other (front ++ line ∷ rest ∷ []) ≡ o
        → at_line_number n o (cond (ends other) None (fault_from v (n + 1) (before ++ other ∷ []) (front ++ line ∷ rest ∷ []))) ≡ Some (m, kind)
        → NotBefore (m + 1) (fault_from v n before (other ∷ front ++ line ∷ first ∷ others))
    by_fault later None e found =
        let Q : Option TextKind → Type 0 = λ o. NotBefore (m + 1) (at_line_number n o (cond (ends other) None (fault_from v (n + 1) (before ++ other ∷ []) (front ++ line ∷ first ∷ others)))) in
        subst Q (sym (line_passes v before other (front ++ line ∷ rest ∷ []) (front ++ line ∷ first ∷ others) (go_on_behind front line rest first others le) e)) (by_end later (ends other) found)
    by_fault later (Some k) e found = let same = number_is n m k kind found in absurd (omega (arith, same.0))

-- the first line has no such fault
some_follow : (whole : List (List ℕ)) (part : List ℕ) (parts : List (List ℕ)) → unfinished (whole ++ part ∷ parts) ≡ None
some_follow [] part parts = refl
some_follow (line ∷ whole) part parts = refl

header_own : (line : List ℕ) (kind : TextKind) → first_fault (too_long line ∷ None ∷ wrong_header line ∷ []) ≡ Some kind → IsLineOwn line kind
header_own line kind h = by_tests (too_long line) (wrong_header line) (own_test line _ kinds.TooMany tt refl) (own_test line _ kinds.Header tt refl) h
  where
    by_tests : (long wrong : Option TextKind) → OwnFault line long → OwnFault line wrong → first_fault (long ∷ None ∷ wrong ∷ []) ≡ Some kind → IsLineOwn line kind
    by_tests (Some k) wrong own_long own_wrong e = let same : k ≡ kind = cc (e) in subst (IsLineOwn line) same own_long
    by_tests None (Some k) own_long own_wrong e = let same : k ≡ kind = cc (e) in subst (IsLineOwn line) same own_wrong
    by_tests None None own_long own_wrong e = cc

mended_in : (front : List (List ℕ)) (line rest first : List ℕ) (others : List (List ℕ)) (m : ℕ) (kind : TextKind) (word : Word) → length rest ≤ length first → awaited line kind ≡ Some word → is_next word (first ∷ others) ≡ true
    → length front + 1 ≡ m → fault_in (front ++ line ∷ rest ∷ []) ≡ Some (m, kind) → NotBefore (m + 1) (fault_in (front ++ line ∷ first ∷ others))
unfolding fault_in
mended_in [] line rest first others m kind word le waits is count h = by_fault (first_fault (too_long line ∷ None ∷ wrong_header line ∷ [])) refl h
  where
    by_fault : (o : Option TextKind) → first_fault (too_long line ∷ None ∷ wrong_header line ∷ []) ≡ o → at_line_number 1 o (fault_from (version_on line) 2 [] (rest ∷ [])) ≡ Some (m, kind)
        → NotBefore (m + 1) (fault_in (line ∷ first ∷ others))
    by_fault (Some k) e found =
        let same = number_is 1 m k kind found in
        let own = header_own line kind (e ∙ ap Some same.1) in
        let wrong : None ≡ Some word = sym own.1 ∙ waits in cc
    by_fault None e found =
        let N : Option (ℕ × TextKind) → Type 0 = NotBefore 2 in
        let late : 2 ≤ m = subst N found (from_here (version_on line) 2 [] (rest ∷ [])) in
        absurd (omega arith)
mended_in (header ∷ front) line rest first others m kind word le waits is count h =
    let P : Option TextKind → Type 0 = λ u. at_line_number 1 (first_fault (too_long header ∷ u ∷ wrong_header header ∷ [])) (fault_from (version_on header) 2 [] (front ++ line ∷ rest ∷ [])) ≡ Some (m, kind) in
    let Q : Option TextKind → Type 0 = λ u. NotBefore (m + 1) (at_line_number 1 (first_fault (too_long header ∷ u ∷ wrong_header header ∷ [])) (fault_from (version_on header) 2 [] (front ++ line ∷ first ∷ others))) in
    subst Q (sym (some_follow front line (first ∷ others))) (by_fault (first_fault (too_long header ∷ None ∷ wrong_header header ∷ [])) refl (subst P (some_follow front line (rest ∷ [])) h))
  where
    by_fault : (o : Option TextKind) → first_fault (too_long header ∷ None ∷ wrong_header header ∷ []) ≡ o → at_line_number 1 o (fault_from (version_on header) 2 [] (front ++ line ∷ rest ∷ [])) ≡ Some (m, kind)
        → NotBefore (m + 1) (at_line_number 1 o (fault_from (version_on header) 2 [] (front ++ line ∷ first ∷ others)))
    by_fault (Some k) e found = let same = number_is 1 m k kind found in absurd (omega (arith, same.0))
    by_fault None e found = mended_from (version_on header) 2 [] front line rest first others m kind word le waits is (omega arith) found

-- only the line in which a text ends is unfinished
not_unfinished : (v : Version) → (before : List (List ℕ)) (line next : List ℕ) (lines : List (List ℕ)) → line_fault v before line (next ∷ lines) ≡ Some kinds.Unfinished → ⊥
not_unfinished v before line next lines h = elim (line_kinds v before line next lines kinds.Unfinished h) [
  | inl own ↦ absurd own.0
  | inr last ↦
      let fault = is_group_fault v (known_to (said_before before)) line (said_before before) (next ∷ lines) kinds.Unfinished last.0 in
      let wrong : None ≡ Some (word_said fault.s) = fault.waits_is in cc
]

last_from : (v : Version) → (n : ℕ) (before lines : List (List ℕ)) (m : ℕ) → 0 < length lines → fault_from v n before lines ≡ Some (m, kinds.Unfinished) → m + 1 ≡ n + length lines
unfolding fault_from
last_from v n before [] m some h = absurd (omega arith)
last_from v n before (line ∷ []) m some h = elim (last_line v before line line [] (omega arith)) [
  | inl long ↦
      let is = number_is n m kinds.TooMany kinds.Unfinished (only n m kinds.TooMany kinds.Unfinished (line_fault v before line []) _ long.0 h) in
      let wrong : kinds.TooMany ≡ kinds.Unfinished = is.1 in cc
  | inr rest ↦ let is = number_is n m kinds.Unfinished kinds.Unfinished (only n m kinds.Unfinished kinds.Unfinished (line_fault v before line []) _ rest h) in omega (arith, is.0)
]
last_from v n before (line ∷ next ∷ lines) m some h =
    by_fault (λ e. last_from v (n + 1) (before ++ line ∷ []) (next ∷ lines) m (omega arith) e) (line_fault v before line (next ∷ lines)) refl h
  where
    by_end : (fault_from v (n + 1) (before ++ line ∷ []) (next ∷ lines) ≡ Some (m, kinds.Unfinished) → m + 1 ≡ (n + 1) + length (next ∷ lines))
        → (b : Bool) → cond b None (fault_from v (n + 1) (before ++ line ∷ []) (next ∷ lines)) ≡ Some (m, kinds.Unfinished) → m + 1 ≡ n + length (line ∷ next ∷ lines)
    by_end later true e = cc
    by_end later false e = let is = later e in omega arith

    by_fault : (fault_from v (n + 1) (before ++ line ∷ []) (next ∷ lines) ≡ Some (m, kinds.Unfinished) → m + 1 ≡ (n + 1) + length (next ∷ lines))
        → (o : Option TextKind) → line_fault v before line (next ∷ lines) ≡ o
        → at_line_number n o (cond (ends line) None (fault_from v (n + 1) (before ++ line ∷ []) (next ∷ lines))) ≡ Some (m, kinds.Unfinished) → m + 1 ≡ n + length (line ∷ next ∷ lines)
    by_fault later None e found = by_end later (ends line) found
    by_fault later (Some k) e found = let same = number_is n m k kinds.Unfinished found in absurd (not_unfinished v before line next lines (e ∙ ap Some same.1))

pub last_in : (lines : List (List ℕ)) (m : ℕ) → 0 < length lines → fault_in lines ≡ Some (m, kinds.Unfinished) → m ≡ length lines
unfolding fault_in
last_in [] m some h = absurd (omega arith)
last_in (line ∷ []) m some h = elim (last_header line line [] (omega arith)) [
  | inl long ↦
      let is = number_is 1 m kinds.TooMany kinds.Unfinished (only 1 m kinds.TooMany kinds.Unfinished (header_fault line []) _ long.0 h) in
      let wrong : kinds.TooMany ≡ kinds.Unfinished = is.1 in cc
  | inr rest ↦ let is = number_is 1 m kinds.Unfinished kinds.Unfinished (only 1 m kinds.Unfinished kinds.Unfinished (header_fault line []) _ rest h) in omega (arith, is.0)
]
last_in (line ∷ next ∷ lines) m some h = by_fault (first_fault (too_long line ∷ None ∷ wrong_header line ∷ [])) refl h
  where
    by_fault : (o : Option TextKind) → first_fault (too_long line ∷ None ∷ wrong_header line ∷ []) ≡ o → at_line_number 1 o (fault_from (version_on line) 2 [] (next ∷ lines)) ≡ Some (m, kinds.Unfinished)
        → m ≡ length (line ∷ next ∷ lines)
    by_fault (Some k) e found = let same = number_is 1 m k kinds.Unfinished found in absurd (header_own line kinds.Unfinished (e ∙ ap Some same.1)).0
    by_fault None e found = let is = last_from (version_on line) 2 [] (next ∷ lines) m (omega arith) found in omega arith

-- some text of a race that begins with these bytes has not this fault
abbrev pub RaceFaultChanges : List ℕ → ℕ → TextKind → Type 0
RaceFaultChanges text n kind = (more : List ℕ) × (fault_of (text ++ more) ≡ Some (n, kind) → ⊥)

pub group_changes : (text : List ℕ) (n : ℕ) (kind : TextKind) → IsGroupFaultAtEnd text n kind → fault_of text ≡ Some (n, kind) → RaceFaultChanges text n kind
group_changes text n kind fault h = (
  fault.may.0,
  λ same.
      let ending : Open 10 text = open_of 10 text in
      let more : List ℕ = fault.may.0 in
      let before : List (List ℕ) = fault.ends.0 in
      let whole : List (List ℕ) = before ++ fault.line ∷ [] in
      let last = both_last ending.whole whole ending.rest fault.rest (sym ending.parts ∙ fault.ends.1 ∙ sym (append_assoc before (fault.line ∷ []) (fault.rest ∷ []))) in
      let lacks : Lacks 10 fault.rest = subst (Lacks 10) last.0 (open_lacks 10 text) in
      let first = some_part 10 more in
      let behind : lines_of (fault.rest ++ more) ≡ (fault.rest ++ first.0) ∷ first.1 = front_part 10 fault.rest more first.0 first.1 lacks first.2 in
      let longer : lines_of (text ++ more) ≡ before ++ fault.line ∷ (fault.rest ++ first.0) ∷ first.1 =
      ending.grows more ∙ ap (λ w. w ++ lines_of (ending.rest ++ more)) last.1 ∙ ap (λ r. whole ++ lines_of (r ++ more)) last.0
      ∙ ap (λ ps. whole ++ ps) behind ∙ append_assoc before (fault.line ∷ []) ((fault.rest ++ first.0) ∷ first.1) in
      let size = length-append fault.rest first.0 in
      let later : NotBefore (n + 1) (fault_in (before ++ fault.line ∷ (fault.rest ++ first.0) ∷ first.1)) =
      mended_in before fault.line fault.rest (fault.rest ++ first.0) first.1 n kind fault.word (omega arith) fault.waits (sym (ap (is_next fault.word) behind) ∙ fault.may.1) fault.ends.2 (sym (ap fault_in fault.ends.1) ∙ h) in
      let B : Option (ℕ × TextKind) → Type 0 = NotBefore (n + 1) in
      let wrong : n + 1 ≤ n = subst B (sym (ap fault_in longer) ∙ same) later in
      absurd (omega arith),
)
