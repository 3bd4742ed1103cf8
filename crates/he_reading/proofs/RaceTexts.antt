-- Where the readers find a race, the text is one of it.
use Rattle.std.proofs.Common.{◌≡◌, ℕ, ◌+◌, ◌-◌, ◌<◌, ◌≤◌, ◌&&◌, ◌||◌, Bool, true, false, cond, leb, ltb, not, List, [], ◌∷◌, ◌++◌, length, take, Option, Some, None, Result, Ok, Err, refl, sym, ◌∙◌, ap, subst, arith, append_assoc, length-append, inl, inr, ⊎_elim}
use Rattle.std.specs.Prelude.{◌⊎◌, codes, is_some}
use Rattle.std.specs.List.{AllByRecursion, AllZip, filter_map, list_all, join_with_byte}
use Rattle.std.specs.Str.{bytes_eq}
use Rattle.std.proofs.lemmas.Slice.Eq.{bytes_eq-Decides}
use Rattle.std.proofs.lemmas.Bool.{ltb-false, le-leb, and_from, and_parts}
use Rattle.std.proofs.lemmas.List.{take_at}
use Rattle.std.proofs.lemmas.List.Folds.{list_all-append}
use Rattle.std.proofs.lemmas.List.Splits.{join_with_byte-slice_split}
use Rattle.he_addr.specs.declared.ip.Family.{Family}
use Rattle.he_addr.specs.declared.ip.Family.TheVariants as families
use Rattle.he_addr.specs.declared.ip.Ip.{Ip}
use Rattle.he_timeline.specs.declared.outcome.Outcome.{Outcome}
use Rattle.he_timeline.specs.Race.{Race, Reply}
use Rattle.he_timeline.specs.Timeline.{IsRace}
use Rattle.he_select.specs.declared.policy.Row.{Row}
use Rattle.he_select.specs.declared.host.Source.{Source}
use Rattle.he_select.specs.declared.host.Route.{Route}
use Rattle.he_words.specs.declared.fault.TextKind.{TextKind}
use Rattle.he_words.specs.declared.fault.TextKind.TheVariants as kinds
use Rattle.he_words.specs.declared.limits.TheConstants.{MAX_LINE}
use Rattle.he_words.specs.declared.words.Version.{Version}
use Rattle.he_words.specs.declared.words.Version.TheVariants.{One, Two}
use Rattle.he_words.specs.declared.words.Name.{Name}
use Rattle.he_words.specs.declared.words.Name.TheVariants.{Resolution, Attempt, Count, Limit, Floor}
use Rattle.he_words.specs.declared.words.Word.{Word}
use Rattle.he_words.specs.declared.words.Word.TheVariants as words
use Rattle.std.specs.Result.{result_ok}
use Rattle.he_reading.specs.Faults.{anyone, first_fault, test, group_on, last_group, known_to, said_before, too_long, unfinished, wrong_header, version_on, wrong_word, too_often, wrong_bounds, repeated, wrong_group, line_fault, ends}
use Rattle.he_reading.specs.Forms.{◌>>=◌, setting_in, row_in, host_source_in, host_route_in, answer_in, round_trip_in, used_in, connect_in, pause_in, end_in, is_added, word_of, version_word, said_by, said_in}
use Rattle.he_reading.specs.Parts.{lines_of, tokens_of}
use Rattle.he_reading.specs.Reading.{read_lines}
use Rattle.he_reading.specs.Said.{Said, Setting, PolicyRow, HostSource, HostRoute, Answer, RoundTrip, UsedBefore, OutcomeOf, Paused, Ended, same_name, setting_said, answer_said, at_front, setting_given, race_of}
use Rattle.he_reading.specs.Text.{Says, group_said, may_say, are_in_order, AreLines, IsRaceText}
use Rattle.he_words.specs.Words.{group_of, header_of, spelling_of, name_spelling, word_in, is_end}
use Rattle.he_reading.proofs.LineReads.{says_read}
use Rattle.he_reading.proofs.Agreement.{stop, walk, walk_all, raced, lines_agree, ends_known}
use Rattle.he_reading.proofs.Checks.{line_checks, line_fault_is, checks_said, checks_passed, in_order}
use Rattle.he_reading.proofs.SaysLaws.{word_tokens, says}
use Rattle.he_reading.proofs.OrderLaws.{last_more, group_is}
use Rattle.he_reading.proofs.PartLaws.{Lacks, parts_lack, joined_parts, front_lacks, lacks_more, join_behind}
use Rattle.he_reading.proofs.PlaceLaws.{has_place, said_more, said_group}
use Rattle.he_reading.proofs.Results.{bind_ok}
use Rattle.he_reading.proofs.SaidLaws.{none_more, one_more, race_ended}
use Rattle.he_reading.proofs.ToldLaws.{HasPlace}
use Rattle.he_reading.proofs.Versions.{plain_word, not_added}

-- one more of lists that go together
zip_more : {A B : Type 0} (R : A → B → Type 0) (xs : List A) (ys : List B) (x : A) (y : B) → AllZip R xs ys → R x y → AllZip R (xs ++ x ∷ []) (ys ++ y ∷ [])
zip_more R [] [] x y all here = (here, tt)
zip_more R [] (b ∷ ys) x y all here = absurd all
zip_more R (a ∷ xs) [] x y all here = absurd all
zip_more R (a ∷ xs) (b ∷ ys) x y all here = (all.0, zip_more R xs ys x y all.1 here)

all_more : {A : Type 0} (P : A → Type 0) (xs : List A) (x : A) → AllByRecursion P xs → P x → AllByRecursion P (xs ++ x ∷ [])
all_more P [] x all here = (here, tt)
all_more P (a ∷ xs) x all here = (all.0, all_more P xs x all.1 here)

-- the group of the last thing said
abbrev last_said : ℕ → List Said → ℕ
last_said group [] = group
last_said group (s ∷ said) = last_said (group_said s) said

last_said_more : (group : ℕ) (said : List Said) (s : Said) → last_said group (said ++ s ∷ []) ≡ group_said s
last_said_more group [] s = refl
last_said_more group (first ∷ said) s = last_said_more (group_said first) said s

order_said_more : (group : ℕ) (said : List Said) (s : Said) → are_in_order group said ≡ true → last_said group said ≤ group_said s → are_in_order group (said ++ s ∷ []) ≡ true
order_said_more group [] s all le = and_from (leb group (group_said s)) true (le-leb group (group_said s) le) refl
order_said_more group (first ∷ said) s all le =
    let parts = and_parts (leb group (group_said first)) (are_in_order (group_said first) said) all in
    and_from (leb group (group_said first)) (are_in_order (group_said first) (said ++ s ∷ [])) parts.0 (order_said_more (group_said first) said s parts.1 le)

same_name_is : (a b : Name) → same_name a b ≡ true → a ≡ b
same_name_is Resolution Resolution h = refl
same_name_is Resolution Attempt h = cc
same_name_is Resolution Count h = cc
same_name_is Resolution Limit h = cc
same_name_is Attempt Resolution h = cc
same_name_is Attempt Attempt h = refl
same_name_is Attempt Count h = cc
same_name_is Attempt Limit h = cc
same_name_is Count Resolution h = cc
same_name_is Count Attempt h = cc
same_name_is Count Count h = refl
same_name_is Count Limit h = cc
same_name_is Limit Resolution h = cc
same_name_is Limit Attempt h = cc
same_name_is Limit Count h = cc
same_name_is Limit Limit h = refl
same_name_is Resolution Floor h = cc
same_name_is Attempt Floor h = cc
same_name_is Count Floor h = cc
same_name_is Limit Floor h = cc
same_name_is Floor Resolution h = cc
same_name_is Floor Attempt h = cc
same_name_is Floor Count h = cc
same_name_is Floor Limit h = cc
same_name_is Floor Floor h = refl

empty_first : {A : Type 0} (xs : List A) → at_front xs ≡ None → length xs ≤ 0
empty_first [] h = omega arith
empty_first (x ∷ xs) h = cc

-- what is said at most once stays so where it was not said before
once_more : {Y : Type 0} (h : Said → Option Y) (said : List Said) (s : Said) → length (filter_map h said) ≤ 1 → (is_some (h s) ≡ true → at_front (filter_map h said) ≡ None) → length (filter_map h (said ++ s ∷ [])) ≤ 1
once_more {Y = Y} h said s once new = by_case (h s) refl
  where
    by_case : (o : Option Y) → h s ≡ o → length (filter_map h (said ++ s ∷ [])) ≤ 1
    by_case None e = let P : List Y → Type 0 = λ ys. length ys ≤ 1 in subst P (sym (none_more h said s e)) once
    by_case (Some y) e =
        let none = empty_first (filter_map h said) (new (ap is_some e)) in
        let P : List Y → Type 0 = λ ys. length ys ≤ 1 in
        subst P (sym (one_more h said s y e)) (omega (arith, length-append (filter_map h said) (y ∷ []), none))

given_none : (o : Option ℕ) (kind : TextKind) → test (is_some o) kind ≡ None → o ≡ None
given_none None kind h = refl
given_none (Some x) kind h = cc

setting_new : (name : Name) (said : List Said) (s : Said) → repeated said s ≡ None → is_some (setting_said name s) ≡ true → at_front (filter_map (setting_said name) said) ≡ None
setting_new name said (Setting other value) h some = by_name (same_name name other) refl some
  where
    by_name : (b : Bool) → same_name name other ≡ b → is_some (cond b (Some value) None) ≡ true → at_front (filter_map (setting_said name) said) ≡ None
    by_name true e found = ap (λ n. setting_given n said) (same_name_is name other e) ∙ given_none (setting_given other said) kinds.Repeated h
    by_name false e found = cc
setting_new name said (PolicyRow row) h some = cc
setting_new name said (HostSource source) h some = cc
setting_new name said (HostRoute route) h some = cc
setting_new name said (Answer family reply) h some = cc
setting_new name said (RoundTrip ip rtt) h some = cc
setting_new name said (UsedBefore ip) h some = cc
setting_new name said (OutcomeOf ip outcome) h some = cc
setting_new name said (Paused from to) h some = cc
setting_new name said Ended h some = cc

silent_setting : (family : Family) (name : Name) (value : ℕ) → is_some (answer_said family (Setting name value)) ≡ true → ⊥
silent_setting families.V6 name value h = cc
silent_setting families.V4 name value h = cc

silent_row : (family : Family) (row : Row) → is_some (answer_said family (PolicyRow row)) ≡ true → ⊥
silent_row families.V6 row h = cc
silent_row families.V4 row h = cc

silent_source : (family : Family) (source : Source) → is_some (answer_said family (HostSource source)) ≡ true → ⊥
silent_source families.V6 source h = cc
silent_source families.V4 source h = cc

silent_route : (family : Family) (route : Route) → is_some (answer_said family (HostRoute route)) ≡ true → ⊥
silent_route families.V6 route h = cc
silent_route families.V4 route h = cc

silent_other : (reply : Reply) → is_some (answer_said families.V4 (Answer families.V6 reply)) ≡ true → ⊥
silent_other reply h = cc

silent_one : (reply : Reply) → is_some (answer_said families.V6 (Answer families.V4 reply)) ≡ true → ⊥
silent_one reply h = cc

silent_rtt : (family : Family) (told : Ip × ℕ) → is_some (answer_said family (RoundTrip told.0 told.1)) ≡ true → ⊥
silent_rtt families.V6 told h = cc
silent_rtt families.V4 told h = cc

silent_used : (family : Family) (ip : Ip) → is_some (answer_said family (UsedBefore ip)) ≡ true → ⊥
silent_used families.V6 ip h = cc
silent_used families.V4 ip h = cc

silent_told : (family : Family) (told : Ip × Outcome) → is_some (answer_said family (OutcomeOf told.0 told.1)) ≡ true → ⊥
silent_told families.V6 told h = cc
silent_told families.V4 told h = cc

silent_pause : (family : Family) (pause : ℕ × ℕ) → is_some (answer_said family (Paused pause.0 pause.1)) ≡ true → ⊥
silent_pause families.V6 pause h = cc
silent_pause families.V4 pause h = cc

silent_end : (family : Family) → is_some (answer_said family Ended) ≡ true → ⊥
silent_end families.V6 h = cc
silent_end families.V4 h = cc

no_fault : Some kinds.Word ≡ None → ⊥
no_fault h = cc

-- a second answer is refused by its line
answer_new : (known : Ip → Bool) (word : Word) (tokens : List (List ℕ)) (said : List Said) (s : Said) (family : Family) → said_by known word tokens ≡ Ok s → HasPlace word said → is_some (answer_said family s) ≡ true → at_front (filter_map (answer_said family) said) ≡ None
unfolding said_by race_of
answer_new known words.Set tokens said s family e place some =
    let read = bind_ok (setting_in tokens) (λ setting. Ok (Setting setting.0 setting.1)) s e in
    let same : Setting read.0.0 read.0.1 ≡ s = cc (read.2) in absurd (silent_setting family read.0.0 read.0.1 (ap (λ x. is_some (answer_said family x)) same ∙ some))
answer_new known words.Policy tokens said s family e place some =
    let read = bind_ok (row_in tokens) (λ row. Ok (PolicyRow row)) s e in
    let same : PolicyRow read.0 ≡ s = cc (read.2) in absurd (silent_row family read.0 (ap (λ x. is_some (answer_said family x)) same ∙ some))
answer_new known words.Source tokens said s family e place some =
    let read = bind_ok (host_source_in tokens) (λ source. Ok (HostSource source)) s e in
    let same : HostSource read.0 ≡ s = cc (read.2) in absurd (silent_source family read.0 (ap (λ x. is_some (answer_said family x)) same ∙ some))
answer_new known words.Route tokens said s family e place some =
    let read = bind_ok (host_route_in tokens) (λ route. Ok (HostRoute route)) s e in
    let same : HostRoute read.0 ≡ s = cc (read.2) in absurd (silent_route family read.0 (ap (λ x. is_some (answer_said family x)) same ∙ some))
answer_new known words.Aaaa tokens said s families.V6 e place some = place
answer_new known words.Aaaa tokens said s families.V4 e place some =
    let read = bind_ok (answer_in families.V6 tokens) (λ reply. Ok (Answer families.V6 reply)) s e in
    let same : Answer families.V6 read.0 ≡ s = cc (read.2) in absurd (silent_other read.0 (ap (λ x. is_some (answer_said families.V4 x)) same ∙ some))
answer_new known words.A tokens said s families.V4 e place some = place
answer_new known words.A tokens said s families.V6 e place some =
    let read = bind_ok (answer_in families.V4 tokens) (λ reply. Ok (Answer families.V4 reply)) s e in
    let same : Answer families.V4 read.0 ≡ s = cc (read.2) in absurd (silent_one read.0 (ap (λ x. is_some (answer_said families.V6 x)) same ∙ some))
answer_new known words.Rtt tokens said s family e place some =
    let read = bind_ok (round_trip_in known tokens) (λ told. Ok (RoundTrip told.0 told.1)) s e in
    let same : RoundTrip read.0.0 read.0.1 ≡ s = cc (read.2) in absurd (silent_rtt family read.0 (ap (λ x. is_some (answer_said family x)) same ∙ some))
answer_new known words.Used tokens said s family e place some =
    let read = bind_ok (used_in known tokens) (λ ip. Ok (UsedBefore ip)) s e in
    let same : UsedBefore read.0 ≡ s = cc (read.2) in absurd (silent_used family read.0 (ap (λ x. is_some (answer_said family x)) same ∙ some))
answer_new known words.Connect tokens said s family e place some =
    let read = bind_ok (connect_in known tokens) (λ told. Ok (OutcomeOf told.0 told.1)) s e in
    let same : OutcomeOf read.0.0 read.0.1 ≡ s = cc (read.2) in absurd (silent_told family read.0 (ap (λ x. is_some (answer_said family x)) same ∙ some))
answer_new known words.Pause tokens said s family e place some =
    let read = bind_ok (pause_in tokens) (λ pause. Ok (Paused pause.0 pause.1)) s e in
    let same : Paused read.0.0 read.0.1 ≡ s = cc (read.2) in absurd (silent_pause family read.0 (ap (λ x. is_some (answer_said family x)) same ∙ some))
answer_new known words.End tokens said s family e place some =
    let read = bind_ok (end_in tokens) (λ _. Ok Ended) s e in
    let same : Ended ≡ s = cc (read.2) in absurd (silent_end family (ap (λ x. is_some (answer_said family x)) same ∙ some))

-- the lines before are right
pub record AreRight (v : Version) (before : List (List ℕ)) : Type 0 where
  pub are : AreLines v before (said_before before)
  pub last : last_said 0 (said_before before) ≡ last_group 0 before

-- what a line's checks tell, where none fails
pub record IsRight (v : Version) (before : List (List ℕ)) (line : List ℕ) (after : List (List ℕ)) : Type 0 where
  pub short : length line ≤ MAX_LINE
  pub ended : 0 < length after
  pub parts : Word × List (List ℕ)
  pub word : version_word v (tokens_of line) ≡ Ok parts
  pub checks : line_checks before line after (Ok parts) ≡ None

first_two : (long : Bool) (after : List (List ℕ)) (checks : Option TextKind) → first_fault (test long kinds.TooMany ∷ unfinished after ∷ checks ∷ []) ≡ None → (long ≡ false) × (0 < length after) × (checks ≡ None)
first_two true after checks h = cc
first_two false [] checks h = cc
first_two false (next ∷ after) None h = (refl, omega arith, refl)
first_two false (next ∷ after) (Some kind) h = cc

is_right : (v : Version) (before : List (List ℕ)) (line : List ℕ) (after : List (List ℕ)) → line_fault v before line after ≡ None → IsRight v before line after
is_right v before line after h = by_word (version_word v (tokens_of line)) refl
  where
    by_word : (word : Result (Word × List (List ℕ)) TextKind) → version_word v (tokens_of line) ≡ word → IsRight v before line after
    by_word (Err kind) e =
        let three = first_two (ltb MAX_LINE (length line)) after (line_checks before line after (Err kind)) (sym (line_fault_is v before line after (Err kind) e) ∙ h) in
        absurd (no_fault three.2)
    by_word (Ok parts) e =
        let three = first_two (ltb MAX_LINE (length line)) after (line_checks before line after (Ok parts)) (sym (line_fault_is v before line after (Ok parts) e) ∙ h) in
        record { short = ltb-false MAX_LINE (length line) three.0; ended = three.1; parts = parts; word = e; checks = three.2 }

-- what a line of the version says, a text of the version may say
added_word : (word : Word) (tokens : List (List ℕ)) → (group_of word ≡ 7) ⊎ (group_of word ≡ 8) → is_added (word, tokens) ≡ true
added_word words.Rtt tokens h = refl
added_word words.Used tokens h = refl
added_word words.Set tokens h = absurd (⊎_elim (λ (e : 1 ≡ 7). omega arith) (λ (e : 1 ≡ 8). omega arith) h)
added_word words.Policy tokens h = absurd (⊎_elim (λ (e : 2 ≡ 7). omega arith) (λ (e : 2 ≡ 8). omega arith) h)
added_word words.Source tokens h = absurd (⊎_elim (λ (e : 3 ≡ 7). omega arith) (λ (e : 3 ≡ 8). omega arith) h)
added_word words.Route tokens h = absurd (⊎_elim (λ (e : 4 ≡ 7). omega arith) (λ (e : 4 ≡ 8). omega arith) h)
added_word words.Aaaa tokens h = absurd (⊎_elim (λ (e : 5 ≡ 7). omega arith) (λ (e : 5 ≡ 8). omega arith) h)
added_word words.A tokens h = absurd (⊎_elim (λ (e : 6 ≡ 7). omega arith) (λ (e : 6 ≡ 8). omega arith) h)
added_word words.Connect tokens h = absurd (⊎_elim (λ (e : 9 ≡ 7). omega arith) (λ (e : 9 ≡ 8). omega arith) h)
added_word words.Pause tokens h = absurd (⊎_elim (λ (e : 10 ≡ 7). omega arith) (λ (e : 10 ≡ 8). omega arith) h)
added_word words.End tokens h = absurd (⊎_elim (λ (e : 11 ≡ 7). omega arith) (λ (e : 11 ≡ 8). omega arith) h)

not_both : {A : Type 0} (b : Bool) → b ≡ true → b ≡ false → A
not_both b h k = let wrong : true ≡ false = sym h ∙ k in cc

added_name : (word : Word) (tokens : List (List ℕ)) (number : List ℕ) → spelling_of word ∷ tokens ≡ spelling_of words.Set ∷ name_spelling Floor ∷ number ∷ [] → group_of word ≡ 1 → is_added (word, tokens) ≡ true
added_name words.Set tokens number h g =
    let same : tokens ≡ name_spelling Floor ∷ number ∷ [] = cc (h) in ap (λ ts. is_added (words.Set, ts)) same
added_name words.Policy tokens number h g = absurd (omega (arith, g))
added_name words.Source tokens number h g = absurd (omega (arith, g))
added_name words.Route tokens number h g = absurd (omega (arith, g))
added_name words.Aaaa tokens number h g = absurd (omega (arith, g))
added_name words.A tokens number h g = absurd (omega (arith, g))
added_name words.Rtt tokens number h g = absurd (omega (arith, g))
added_name words.Used tokens number h g = absurd (omega (arith, g))
added_name words.Connect tokens number h g = absurd (omega (arith, g))
added_name words.Pause tokens number h g = absurd (omega (arith, g))
added_name words.End tokens number h g = absurd (omega (arith, g))

-- version 1
says_plain : (line : List ℕ) (word : Word) (tokens : List (List ℕ)) (s : Said) → tokens_of line ≡ spelling_of word ∷ tokens → Says line s → group_said s ≡ group_of word → is_added (word, tokens) ≡ false → may_say One s ≡ true
says_plain line word tokens (Setting Floor value) is says group old = not_both (is_added (word, tokens)) (added_name word tokens says.0 (sym is ∙ says.1) (sym group)) old
says_plain line word tokens (Setting Resolution value) is says group old = refl
says_plain line word tokens (Setting Attempt value) is says group old = refl
says_plain line word tokens (Setting Count value) is says group old = refl
says_plain line word tokens (Setting Limit value) is says group old = refl
says_plain line word tokens (PolicyRow row) is says group old = refl
says_plain line word tokens (HostSource source) is says group old = refl
says_plain line word tokens (HostRoute route) is says group old = refl
says_plain line word tokens (Answer family reply) is says group old = refl
says_plain line word tokens (RoundTrip ip rtt) is says group old = not_both (is_added (word, tokens)) (added_word word tokens (inl (sym group))) old
says_plain line word tokens (UsedBefore ip) is says group old = not_both (is_added (word, tokens)) (added_word word tokens (inr (sym group))) old
says_plain line word tokens (OutcomeOf ip outcome) is says group old = refl
says_plain line word tokens (Paused from to) is says group old = refl
says_plain line word tokens Ended is says group old = refl

says_second : (s : Said) → may_say Two s ≡ true
says_second (Setting name value) = refl
says_second (PolicyRow row) = refl
says_second (HostSource source) = refl
says_second (HostRoute route) = refl
says_second (Answer family reply) = refl
says_second (RoundTrip ip rtt) = refl
says_second (UsedBefore ip) = refl
says_second (OutcomeOf ip outcome) = refl
says_second (Paused from to) = refl
says_second Ended = refl

said_by_version : (v : Version) (line : List ℕ) (parts : Word × List (List ℕ)) (s : Said) → version_word v (tokens_of line) ≡ Ok parts → Says line s → group_said s ≡ group_of parts.0 → may_say v s ≡ true
said_by_version Two line parts s word says group = says_second s
said_by_version One line parts s word says group =
    says_plain line parts.0 parts.1 s (word_tokens (tokens_of line) parts (plain_word One (tokens_of line) parts word)) says group (not_added (tokens_of line) parts word)

-- one more line that is right and doesn't end the race
right_more : (v : Version) (before : List (List ℕ)) (line : List ℕ) (after : List (List ℕ)) → AreRight v before → (r : IsRight v before line after) → is_end r.parts.0 ≡ false → AreRight v (before ++ line ∷ [])
right_more v before line after right r goes =
    let word : word_of (tokens_of line) ≡ Ok r.parts = plain_word v (tokens_of line) r.parts r.word in
    let told : List Said = said_before before in
    let known : Ip → Bool = known_to told in
    let passed = checks_passed (wrong_word (last_group 0 before) (Ok r.parts)) (too_often before (Ok r.parts)) (said_by known r.parts.0 r.parts.1) (wrong_bounds told) (repeated told) (wrong_group told after) r.checks in
    let s : Said = passed.s in
    let more : said_before (before ++ line ∷ []) ≡ told ++ s ∷ [] = said_more known before line r.parts.0 r.parts.1 s word passed.said_is in
    let group : group_said s ≡ group_of r.parts.0 = said_group known r.parts.0 r.parts.1 s passed.said_is in
    let here : group_on line ≡ group_of r.parts.0 = group_is line r.parts.0 r.parts.1 word in
    let order : last_group 0 before ≤ group_of r.parts.0 = ltb-false (group_of r.parts.0) (last_group 0 before) (in_order before line after r.parts.0 r.parts.1 r.checks) in
    let last : last_said 0 told ≡ last_group 0 before = right.last in
    let le : last_said 0 told ≤ group_said s = omega arith in
    let here_says : Says line s = says_read line s (says known line r.parts.0 r.parts.1 s (word_tokens (tokens_of line) r.parts word) goes passed.said_is) in
    let A : List Said → Type 0 = AreLines v (before ++ line ∷ []) in
    let L : List Said → Type 0 = λ told. last_said 0 told ≡ last_group 0 (before ++ line ∷ []) in
    record {
      are = subst A (sym more) (record {
        short = all_more (λ l. length l ≤ MAX_LINE) before line right.are.short r.short;
        say = zip_more Says before told line s right.are.say here_says;
        words = list_all-append (may_say v) told (s ∷ []) ∙ and_from (list_all (may_say v) told) (may_say v s && true) right.are.words (and_from (may_say v s) true (said_by_version v line r.parts s r.word here_says group) refl);
        order = order_said_more 0 told s right.are.order le;
        settings_once = λ name. once_more (setting_said name) told s (right.are.settings_once name) (setting_new name told s passed.again_is);
        answers_once = λ family. once_more (answer_said family) told s (right.are.answers_once family) (answer_new known r.parts.0 r.parts.1 told s family passed.said_is (has_place r.parts.0 r.parts.1 before passed.often_is));
      });
      last = subst L (sym more) (last_said_more 0 told s ∙ group ∙ sym here ∙ sym (last_more 0 before line));
    }

-- the line that ends a race is `end`
end_line : (known : Ip → Bool) (line : List ℕ) (parts : Word × List (List ℕ)) (s : Said) → word_of (tokens_of line) ≡ Ok parts → is_end parts.0 ≡ true → said_by known parts.0 parts.1 ≡ Ok s → line ≡ codes "end"
unfolding said_by
end_line known line parts s is end said = by_word parts.0 parts.1 (word_tokens (tokens_of line) parts is) end said
  where
    by_tokens : (tokens : List (List ℕ)) → tokens_of line ≡ spelling_of words.End ∷ tokens → (end_in tokens >>= λ _. Ok Ended) ≡ Ok s → line ≡ codes "end"
    by_tokens [] e h = sym (join_with_byte-slice_split 32 line) ∙ ap (join_with_byte 32) e
    by_tokens (token ∷ tokens) e h = cc

    by_word : (word : Word) (tokens : List (List ℕ)) → tokens_of line ≡ spelling_of word ∷ tokens → is_end word ≡ true → said_by known word tokens ≡ Ok s → line ≡ codes "end"
    by_word words.End tokens e h said = by_tokens tokens e said
    by_word words.Set tokens e h said = cc
    by_word words.Policy tokens e h said = cc
    by_word words.Source tokens e h said = cc
    by_word words.Route tokens e h said = cc
    by_word words.Aaaa tokens e h said = cc
    by_word words.A tokens e h said = cc
    by_word words.Rtt tokens e h said = cc
    by_word words.Used tokens e h said = cc
    by_word words.Connect tokens e h said = cc
    by_word words.Pause tokens e h said = cc

not_stopped : {A : Type 0} (n : ℕ) (fault : Option TextKind) (later : Result A (ℕ × TextKind)) (x : A) → stop n fault later ≡ Ok x → (fault ≡ None) × (later ≡ Ok x)
not_stopped n None later x h = (refl, h)
not_stopped n (Some kind) later x h = cc

-- where a walk ends: after the line `end`
pub record IsWalked (v : Version) (all : List (List ℕ)) (used rest : List (List ℕ)) : Type 0 where
  pub body : List (List ℕ)
  pub used_are : used ≡ body ++ codes "end" ∷ []
  pub right : AreRight v body
  pub all_are : all ≡ used ++ rest
  pub some : 0 < length rest

pub walked : (v : Version) (n : ℕ) (before lines : List (List ℕ)) (x : List (List ℕ) × List (List ℕ)) → AreRight v before → walk v n before lines ≡ Ok x → IsWalked v (before ++ lines) x.0 x.1
unfolding walk
walked v n before [] x right h = cc
walked v n before (line ∷ after) x right h =
    let passed = not_stopped n (line_fault v before line after) (cond (ends line) (Ok (before ++ line ∷ [], after)) (walk v (n + 1) (before ++ line ∷ []) after)) x h in
    let r = is_right v before line after passed.0 in
    by_end r (ends line) (ends_known v line r.parts.0 r.parts.1 r.word) passed.1 (λ more. walked v (n + 1) (before ++ line ∷ []) after x more)
  where
    joined : (before ++ line ∷ []) ++ after ≡ before ++ line ∷ after
    joined = append_assoc before (line ∷ []) after

    by_end : (r : IsRight v before line after) (b : Bool) → b ≡ is_end r.parts.0 → cond b (Ok (before ++ line ∷ [], after)) (walk v (n + 1) (before ++ line ∷ []) after) ≡ Ok x
        → (AreRight v (before ++ line ∷ []) → walk v (n + 1) (before ++ line ∷ []) after ≡ Ok x → IsWalked v ((before ++ line ∷ []) ++ after) x.0 x.1)
        → IsWalked v (before ++ line ∷ after) x.0 x.1
    by_end r true e got later =
        let same : (before ++ line ∷ [], after) ≡ x = cc (got) in
        let known : Ip → Bool = known_to (said_before before) in
        let said = checks_said (wrong_word (last_group 0 before) (Ok r.parts)) (too_often before (Ok r.parts)) (said_by known r.parts.0 r.parts.1) (wrong_bounds (said_before before)) (repeated (said_before before)) (wrong_group (said_before before) after) r.checks in
        let is : line ≡ codes "end" = end_line known line r.parts said.0 (plain_word v (tokens_of line) r.parts r.word) (sym e) said.1 in
        let P : List (List ℕ) × List (List ℕ) → Type 0 = λ p. IsWalked v (before ++ line ∷ after) p.0 p.1 in
        subst P same (record {
          body = before;
          used_are = ap (λ l. before ++ l ∷ []) is;
          right = right;
          all_are = sym joined;
          some = r.ended;
        })
    by_end r false e got later =
        let P : List (List ℕ) → Type 0 = λ all. IsWalked v all x.0 x.1 in
        subst P joined (later (right_more v before line after right r (sym e)) got)

none_right : (v : Version) → AreRight v []
unfolding said_before
none_right v = record {
  are = record { short = tt; say = tt; words = refl; order = refl; settings_once = λ name. omega arith; answers_once = λ family. omega arith };
  last = refl;
}

-- the whole text of the lines that were read, with the line end after each
read_part : (text rest : List ℕ) (first : List ℕ) (used behind : List (List ℕ)) → lines_of text ≡ (first ∷ used) ++ behind → behind ≡ lines_of rest → 0 < length behind
    → (text ≡ join_with_byte 10 (first ∷ used) ++ 10 ∷ rest) × (lines_of (join_with_byte 10 (first ∷ used) ++ 10 ∷ []) ≡ (first ∷ used) ++ [] ∷ [])
read_part text rest first used [] all e some = absurd (omega arith)
read_part text rest first used (next ∷ behind) all e some =
    let whole : text ≡ join_with_byte 10 ((first ∷ used) ++ next ∷ behind) = sym (join_with_byte-slice_split 10 text) ∙ ap (join_with_byte 10) all in
    let tail : join_with_byte 10 (next ∷ behind) ≡ rest = ap (join_with_byte 10) e ∙ join_with_byte-slice_split 10 rest in
    let L : List (List ℕ) → Type 0 = AllByRecursion (Lacks 10) in
    let lack : AllByRecursion (Lacks 10) (first ∷ used) = front_lacks 10 (first ∷ used) (next ∷ behind) (subst L all (parts_lack 10 text)) in (
      whole ∙ join_behind 10 first used next behind ∙ ap (λ t. join_with_byte 10 (first ∷ used) ++ 10 ∷ t) tail,
      ap lines_of (sym (join_behind 10 first used [] [])) ∙ joined_parts 10 first (used ++ [] ∷ []) (lacks_more 10 (first ∷ used) [] lack tt),
    )

raced_ok : (w : Result (List (List ℕ) × List (List ℕ)) (ℕ × TextKind)) (race : Race) (rest : List (List ℕ)) → raced w ≡ Ok (race, rest) → (used : List (List ℕ)) × (w ≡ Ok (used, rest)) × (race ≡ race_of (said_before used))
raced_ok (Err fault) race rest h = cc
raced_ok (Ok x) race rest h =
    let same : (race_of (said_before x.0), x.1) ≡ (race, rest) = cc (h) in
    (x.0, ap (λ r. Ok (x.0, r)) (ap (λ (p : Race × List (List ℕ)). p.1) same), ap (λ (p : Race × List (List ℕ)). p.0) (sym same))

header_ok : (line : List ℕ) (one two : Bool) → bytes_eq line (header_of One) ≡ one → bytes_eq line (header_of Two) ≡ two → test (not (one || two)) kinds.Header ≡ None → line ≡ header_of (cond two Two One)
header_ok line true true e f h = (bytes_eq-Decides line (header_of Two)).0 f
header_ok line true false e f h = (bytes_eq-Decides line (header_of One)).0 e
header_ok line false true e f h = (bytes_eq-Decides line (header_of Two)).0 f
header_ok line false false e f h = cc

end_said : said_in anyone (codes "end") ≡ Ok Ended
unfolding word_of word_in said_by
end_said = refl

-- the last line adds nothing to the race
ended_race : (body : List (List ℕ)) → race_of (said_before (body ++ codes "end" ∷ [])) ≡ race_of (said_before body)
unfolding said_before
ended_race body =
    ap race_of (one_more (λ line. result_ok (said_in anyone line)) body (codes "end") Ended (ap result_ok end_said))
    ∙ race_ended (said_before body)

-- the bytes up to the place after a race are its text
pub record BeginsWith (text rest : List ℕ) (race : Race) : Type 0 where
  pub shorter : length rest < length text
  pub is : IsRaceText (take (length text - length rest) text) race
  pub split : text ≡ take (length text - length rest) text ++ rest

front_is : (text front rest : List ℕ) → text ≡ front ++ 10 ∷ rest → take (length text - length rest) text ≡ front ++ 10 ∷ []
front_is text front rest h =
    let same : text ≡ (front ++ 10 ∷ []) ++ rest = h ∙ sym (append_assoc front (10 ∷ []) rest) in
    let count : length text ≡ length (front ++ 10 ∷ []) + length rest = ap length same ∙ length-append (front ++ 10 ∷ []) rest in
    let n : length text - length rest ≡ length (front ++ 10 ∷ []) = omega arith in
    ap (λ k. take k text) n ∙ ap (take (length (front ++ 10 ∷ []))) same ∙ take_at (front ++ 10 ∷ []) rest (length (front ++ 10 ∷ [])) refl

begins_by : (v : Version) (text rest : List ℕ) (race : Race) (line : List ℕ) (after used : List (List ℕ)) → lines_of text ≡ line ∷ after → line ≡ header_of v → IsWalked v after used (lines_of rest) → race ≡ race_of (said_before used) → IsRace race → BeginsWith text rest race
begins_by v text rest race line after used all header is value fits =
    let whole : lines_of text ≡ (line ∷ used) ++ lines_of rest = all ∙ ap (λ ls. line ∷ ls) is.all_are in
    let parts = read_part text rest line used (lines_of rest) whole refl is.some in
    let front : List ℕ = join_with_byte 10 (line ∷ used) in
    let longer : length text ≡ length front + length (10 ∷ rest) = ap length parts.0 ∙ length-append front (10 ∷ rest) in
    let split : lines_of (front ++ 10 ∷ []) ≡ header_of v ∷ is.body ++ codes "end" ∷ [] ∷ [] =
    parts.1
    ∙ ap (λ l. (l ∷ used) ++ [] ∷ []) header
    ∙ ap (λ u. (header_of v ∷ u) ++ [] ∷ []) is.used_are
    ∙ ap (λ ls. header_of v ∷ ls) (append_assoc is.body (codes "end" ∷ []) ([] ∷ [])) in
    let value_is : race ≡ race_of (said_before is.body) = value ∙ ap (λ u. race_of (said_before u)) is.used_are ∙ ended_race is.body in
    let P : List ℕ → Type 0 = λ t. IsRaceText t race in
    record {
      shorter = omega arith;
      split = parts.0 ∙ sym (append_assoc front (10 ∷ []) rest) ∙ ap (λ f. f ++ rest) (sym (front_is text front rest parts.0));
      is = subst P (sym (front_is text front rest parts.0)) (record { version = v; lines = is.body; said = said_before is.body; parts = split; are = is.right.are; value = value_is; fits = fits });
    }

pub begins_with_race : (text rest : List ℕ) (race : Race) → read_lines (lines_of text) ≡ Ok (race, lines_of rest) → IsRace race → BeginsWith text rest race
unfolding walk_all
begins_with_race text rest race h fits =
    let got = raced_ok (walk_all (lines_of text)) race (lines_of rest) (sym (lines_agree (lines_of text)) ∙ h) in
    by_lines (lines_of text) got.0 refl got.1 got.2
  where
    by_lines : (ls used : List (List ℕ)) → lines_of text ≡ ls → walk_all ls ≡ Ok (used, lines_of rest) → race ≡ race_of (said_before used) → BeginsWith text rest race
    by_lines [] used e w value = cc
    by_lines (line ∷ after) used e w value =
        let passed = not_stopped 1 (first_fault (too_long line ∷ unfinished after ∷ wrong_header line ∷ [])) (walk (version_on line) 2 [] after) (used, lines_of rest) w in
        let three = first_two (ltb MAX_LINE (length line)) after (wrong_header line) passed.0 in
        begins_by (version_on line) text rest race line after used e (header_ok line (bytes_eq line (header_of One)) (bytes_eq line (header_of Two)) refl refl three.2)
        (walked (version_on line) 2 [] after (used, lines_of rest) (none_right (version_on line)) passed.1) value fits
