-- What a check comes to where it ends.
use Rattle.std.proofs.Common.{ℕ, ◌≡◌, ◌⊎◌, ◌+◌, ◌-◌, ◌≤◌, ◌==◌, Bool, true, false, List, [], ◌∷◌, ◌++◌, length, map, take, drop, Option, Some, None, IfSome, Result, Ok, Err, refl, sym, subst, subst₂, ◌∙◌, ap, append-nil, true≢false, arith, inl, inr}
use Rattle.std.specs.List.{slice_get}
use Rattle.std.specs.Prelude.{IfErr, IfOk, IsSome, is_some}
use Rattle.he_inputs.specs.Inputs.{HasRaces, IsFaultBehind, line_count}
use Rattle.he_inputs.specs.RaceReading.{MayFollow, ending_of}
use Rattle.he_inputs.specs.declared.input_fault.InputFault.TheVariants.{Text, Read}
use Rattle.he_inputs.specs.declared.race_reader.Ending.{Ending}
use Rattle.he_inputs.specs.declared.race_reader.Ending.TheVariants as endings
use Rattle.he_inputs.specs.declared.stream_fault.StreamFault.{StreamFault}
use Rattle.he_inputs.specs.declared.stream_fault.StreamFault.TheVariants as checks
use Rattle.he_words.specs.declared.fault.TextFault.{TextFault}
use Rattle.he_check.specs.AllFaults.{AreFaults, AreSaid, alone_text, none_text, whole_text}
use Rattle.he_check.specs.Checked.{IsRight, IsWrong}
use Rattle.he_faults.specs.Clauses.{hint_of}
use Rattle.he_check.specs.Slips.{AreWarned, HasWarnings, slip_if, warning_at}
use Rattle.he_check.specs.Steps.{AreLeft, EndsIn, EndsWith, HasStopped, IsAt, IsCounted, IsFirstIn, IsSaidOf, IsSound, TakesWrong, fault_found}
use Rattle.he_faults.specs.Clauses.{hint_in}
use Rattle.he_check.specs.Stream.{Explains, TakesRight, TellsAll, TellsFault}
use Rattle.he_check.specs.declared.counting.Counted.{Counted}
use Rattle.he_check.specs.declared.form.Form.{Form}
use Rattle.he_check.specs.declared.input.Checked.{Checked}
use Rattle.he_check.specs.declared.limits.TheConstants.{MOST_TOLD}
use Rattle.he_faults.specs.declared.meant.Meant.{Meant}
use Rattle.he_check.specs.declared.slips.Slip.TheVariants.{NoRace}
use Rattle.he_check.specs.declared.slips.Warning.{Warning}
use Rattle.he_check.proofs.Counts.{parts_of}
use Rattle.he_check.proofs.FaultParts.{no_read}
use Rattle.he_check.proofs.Hints.{hint_there}

none_found : (first : Option TextFault) (is_broken : Bool) → fault_found first is_broken ≡ None → (first ≡ None) × (is_broken ≡ false)
none_found None false is = (refl, refl)
none_found None true is = cc
none_found (Some fault) is_broken is = cc

nothing_follows : (is_broken : Bool) → MayFollow (ending_of is_broken) [] is_broken
nothing_follows true = (refl, refl)
nothing_follows false = (refl, refl)

not_seeking : (seeks is_all : Bool) → (seeks ≡ true → is_all ≡ true) → is_all ≡ false → seeks ≡ false
not_seeking false is_all all one = refl
not_seeking true is_all all one = absurd (true≢false (sym (all refl) ∙ one))

-- all of an input was looked at
module _ {A : Type 0} (before bytes : List ℕ) (counted : Counted A) (sound : IsSound counted)
  where
    abbrev input : List ℕ
    input = before ++ bytes

    abbrev front : List ℕ
    front = before ++ take counted.reader.end bytes

    abbrev left : List ℕ
    left = drop counted.reader.end bytes

    -- nothing is wrong with it
    pub comes_right : (is_broken : Bool) → IsAt (ending_of is_broken) before bytes counted → HasStopped (ending_of is_broken) bytes counted → fault_found counted.told.first is_broken ≡ None
        → (checked : Checked) (warnings : List Warning) → IsCounted counted checked warnings → IsRight input is_broken checked × HasWarnings input warnings
    comes_right true at stopped found checked warnings is = absurd (true≢false (none_found counted.told.first true found).1)
    comes_right false at stopped found checked warnings is = elim (stopped.ends none) [
      | inl end ↦ right end
      | inr read ↦ absurd (no_read (left ++ []) counted.reader.races counted.reader.lines (read [] false (refl, refl)))
    ]
      where
        none : counted.told.first ≡ None
        none = (none_found counted.told.first false found).0

        right : left ≡ [] → IsRight input false checked × HasWarnings input warnings
        right end =
            let clean = at.clean none in
            let whole : front ≡ input = sym (append-nil front) ∙ ap (λ (t : List ℕ). front ++ t) (sym end) ∙ parts_of before bytes counted.reader.end in
            let few = sound.few in
            let races = clean.counted in (
              (
                clean.races,
                record { before = front; rest = []; parts = sym whole ∙ sym (append-nil front); whole = clean.whole; few = omega arith; fault_is = refl },
                ap (λ (c : Checked). c.races) is.0 ∙ races,
                ap (λ (c : Checked). c.lines) is.0 ∙ at.lined ∙ ap line_count whole,
              ),
              (
                clean.races,
                counted.warnings.items,
                subst (λ (t : List ℕ). AreWarned 0 clean.races t counted.warnings.items) whole clean.warned,
                is.1 ∙ ap (λ (n : ℕ). counted.warnings.items ++ map (warning_at 1) (slip_if (n == 0) NoRace)) races,
              ),
            )

    -- something is
    pub comes_wrong : (is_broken : Bool) → IsAt (ending_of is_broken) before bytes counted → HasStopped (ending_of is_broken) bytes counted → (fault : StreamFault) → fault_found counted.told.first is_broken ≡ Some fault
        → IsWrong input is_broken fault
    comes_wrong is_broken at stopped fault found = by_first counted.told.first refl found
      where
        first_wrong : (one : TextFault) → IsFirstIn input (ending_of is_broken) one → IsWrong input is_broken (checks.Text one)
        first_wrong one is =
            let has = is [] is_broken (nothing_follows is_broken) in
            (has.0, subst (λ (t : List ℕ). HasRaces t is_broken has.0 (Some (Text one))) (append-nil input) has.1)

        by_first : (first : Option TextFault) → counted.told.first ≡ first → fault_found first is_broken ≡ Some fault → IsWrong input is_broken fault
        by_first (Some one) is same =
            let here : checks.Text one ≡ fault = cc in
            subst (IsWrong input is_broken) here (first_wrong one (subst (λ (f : Option TextFault). IfSome f (IsFirstIn input (ending_of is_broken))) is at.first))
        by_first None is same = broken is_broken at stopped same
          where
            broken : (b : Bool) → IsAt (ending_of b) before bytes counted → HasStopped (ending_of b) bytes counted → fault_found None b ≡ Some fault → IsWrong input b fault
            broken false at stopped same = cc
            broken true at stopped same = elim (stopped.ends is) [
              | inl end ↦ absurd end
              | inr read ↦
                  let here : checks.Read ≡ fault = cc in
                  let clean = at.clean is in
                  let Count : ℕ → Type 0 = λ n. IsFaultBehind true n counted.reader.lines (left ++ []) (Some Read) in
                  let Lines : ℕ → Type 0 = λ n. IsFaultBehind true (length clean.races) n (left ++ []) (Some Read) in
                  let few = sound.few in
                  let races = clean.counted in
                  subst (IsWrong input true) here (
                    clean.races,
                    record {
                      before = front;
                      rest = left ++ [];
                      parts = sym (parts_of before bytes counted.reader.end) ∙ ap (λ (t : List ℕ). front ++ t) (sym (append-nil left));
                      whole = clean.whole;
                      few = omega arith;
                      fault_is = subst Lines at.lined (subst Count clean.counted (read [] true (refl, refl)));
                    },
                  )
            ]

    -- what is said of the first fault alone
    ends_in_clause : (ending : Ending) → IsAt ending before bytes counted → counted.told.is_all ≡ false → (fault : TextFault) → counted.told.first ≡ Some fault → (is_broken : Bool) (text : List ℕ)
        → IsSaidOf bytes is_broken counted text → (said : List ℕ) × (text ≡ alone_text counted.told.form fault said (hint_of input fault))
    ends_in_clause ending at one fault is is_broken text said =
        let reads = not_seeking counted.is_seeking counted.told.is_all sound.seeks one in
        let words : EndsIn counted.told.form counted.reader.lines left fault text = subst (λ (f : Option TextFault). IfSome f (λ t. EndsIn counted.told.form counted.reader.lines left t text)) is (said.first one) in
        let behind : counted.reader.lines + 1 ≤ fault.line = subst (λ (f : Option TextFault). IfSome f (λ t. counted.reader.lines + 1 ≤ t.line)) is (at.alone one) in
        let there : hint_in counted.reader.lines left fault ≡ hint_of (front ++ (left ++ [])) fault = hint_there front left [] counted.reader.lines fault (at.whole reads) at.lined behind (λ _. inl refl) (λ _. inl refl) in
        let all : front ++ (left ++ []) ≡ input = ap (λ (t : List ℕ). front ++ t) (append-nil left) ∙ parts_of before bytes counted.reader.end in
        let hint : hint_in counted.reader.lines left fault ≡ hint_of input fault = there ∙ ap (λ (t : List ℕ). hint_of t fault) all in
        (words.0, words.1 ∙ ap (λ (m : Option Meant). alone_text counted.told.form fault words.0 m) hint)

    module _ (Given : List ℕ → Bool → Type 0) (Taken : List ℕ → Type 0) (is_all : Bool) (form : Form) (all_is : counted.told.is_all ≡ is_all) (form_is : counted.told.form ≡ form) (old new text : List ℕ)
        (longer : new ≡ old ++ text)
      where
        -- what is said of the first fault alone, in the form
        tells_alone : (ending : Ending) → IsAt ending before bytes counted → is_all ≡ false → (fault : TextFault) → counted.told.first ≡ Some fault → (is_broken : Bool) → IsSaidOf bytes is_broken counted text
            → Taken input ⊎ ((is_broken : Bool) × Given input is_broken) → TellsFault form Given Taken fault old new
        tells_alone ending at one fault is is_broken said taken =
            let clause = ends_in_clause ending at (all_is ∙ one) fault is is_broken text said in
            record {
              input = input;
              taken = taken;
              said = clause.0;
              told = longer ∙ ap (λ (t : List ℕ). old ++ t) (clause.1 ∙ ap (λ (f : Form). alone_text f fault clause.0 (hint_of input fault)) form_is);
            }

        -- all faults are told
        tells_all : (is_broken : Bool) → IsAt (ending_of is_broken) before bytes counted → HasStopped (ending_of is_broken) bytes counted → IsSaidOf bytes is_broken counted text → Given input is_broken → is_all ≡ true
            → (faults : List TextFault) × (counted.told.first ≡ slice_get faults 0) × TellsAll form Given faults old new
        tells_all is_broken at stopped said given all =
            let told = at.told (all_is ∙ all) in
            let Left : List ℕ → Type 0 = λ t. AreLeft counted.is_seeking counted.reader is_broken t [] in
            let are = told.are [] is_broken [] (nothing_follows is_broken) (subst Left (sym (append-nil left)) (stopped.none (all_is ∙ all) is_broken refl)) in
            let Are : List ℕ → List TextFault → Type 0 = λ i f. AreFaults i is_broken f in (
              told.faults,
              told.first,
              record {
                input = input;
                is_broken = is_broken;
                given = given;
                are = subst (λ (f : List TextFault). Are input f) (append-nil told.faults) (subst (λ (i : List ℕ). Are i (told.faults ++ [])) (append-nil input) are);
                text = text;
                said = record {
                  first = counted.told.text.items;
                  said = subst₂ (λ (f : Form) (i : List ℕ). AreSaid f i (take MOST_TOLD told.faults) counted.told.text.items) form_is (append-nil input) (told.said [] is_broken (nothing_follows is_broken));
                  all = said.all (all_is ∙ all) ∙ ap (λ (n : ℕ). whole_text counted.told.form counted.told.text.items (n - MOST_TOLD) is_broken) told.number
                      ∙ ap (λ (f : Form). whole_text f counted.told.text.items (length told.faults - MOST_TOLD) is_broken) form_is;
                };
                told = longer;
              },
            )

        -- an input that ended
        ends_wrong : (is_broken : Bool) → IsAt (ending_of is_broken) before bytes counted → HasStopped (ending_of is_broken) bytes counted → IsSaidOf bytes is_broken counted text → Given input is_broken
            → (fault : StreamFault) → fault_found counted.told.first is_broken ≡ Some fault → TakesWrong is_all form Given Taken old new fault
        ends_wrong is_broken at stopped said given fault found = by_fault fault found (comes_wrong is_broken at stopped fault found)
          where
            by_fault : (fault : StreamFault) → fault_found counted.told.first is_broken ≡ Some fault → IsWrong input is_broken fault → TakesWrong is_all form Given Taken old new fault
            by_fault checks.Write found wrong = absurd wrong
            by_fault checks.Memory found wrong = absurd (no_memory counted.told.first is_broken found)
              where
                no_memory : (first : Option TextFault) (b : Bool) → fault_found first b ≡ Some checks.Memory → ⊥
                no_memory (Some one) b is = cc
                no_memory None true is = cc
                no_memory None false is = cc
            by_fault (checks.Text one) found wrong =
                ((inl (record { input = input; is_broken = is_broken; given = given; wrong = wrong }), tt), by_all is_all refl)
              where
                first_is : (first : Option TextFault) (b : Bool) → fault_found first b ≡ Some (checks.Text one) → first ≡ Some one
                first_is (Some other) b is = let same : other ≡ one = cc in ap (λ (f : TextFault). Some f) same
                first_is None true is = cc
                first_is None false is = cc

                by_all : (b : Bool) → is_all ≡ b → Explains b form Given Taken old new (Err (checks.Text one))
                by_all false is = tells_alone (ending_of is_broken) at is one (first_is counted.told.first is_broken found) is_broken said (inr (is_broken, given))
                by_all true is =
                    let (faults, first, told) = tells_all is_broken at stopped said given is in
                    by_faults faults (sym (first_is counted.told.first is_broken found) ∙ first) told
                  where
                    by_faults : (faults : List TextFault) → Some one ≡ slice_get faults 0 → TellsAll form Given faults old new → (others : List TextFault) × TellsAll form Given (one ∷ others) old new
                    by_faults [] is told = cc
                    by_faults (other ∷ faults) is told = let same : other ≡ one = cc in (faults, subst (λ (f : TextFault). TellsAll form Given (f ∷ faults) old new) same told)
            by_fault checks.Read found wrong = ((record { input = input; is_broken = is_broken; given = given; wrong = wrong }, tt), by_all is_all refl)
              where
                first_is : (first : Option TextFault) (b : Bool) → fault_found first b ≡ Some checks.Read → first ≡ None
                first_is (Some other) b is = cc
                first_is None b is = refl

                by_all : (b : Bool) → is_all ≡ b → Explains b form Given Taken old new (Err checks.Read)
                by_all false is =
                    let none : text ≡ none_text form = said.none (all_is ∙ is) (first_is counted.told.first is_broken found) ∙ ap none_text form_is in
                    longer ∙ ap (λ (t : List ℕ). old ++ t) none
                by_all true is =
                    let (faults, first, told) = tells_all is_broken at stopped said given is in
                    by_faults faults (sym (first_is counted.told.first is_broken found) ∙ first) told
                  where
                    by_faults : (faults : List TextFault) → None ≡ slice_get faults 0 → TellsAll form Given faults old new → TellsAll form Given [] old new
                    by_faults [] is told = told
                    by_faults (other ∷ faults) is told = cc

        -- the first fault was found, whatever follows
        ends_sure : IsAt endings.Open before bytes counted → is_all ≡ false → IsSaidOf bytes false counted text → Taken input
            → (fault : StreamFault) → fault_found counted.told.first false ≡ Some fault → TakesWrong is_all form Given Taken old new fault
        ends_sure at one said taken fault found = by_first counted.told.first refl found
          where
            by_first : (first : Option TextFault) → counted.told.first ≡ first → fault_found first false ≡ Some fault → TakesWrong is_all form Given Taken old new fault
            by_first None is same = cc
            by_first (Some first) is same =
                let here : checks.Text first ≡ fault = cc in
                let sure : IsFirstIn input endings.Open first = subst (λ (f : Option TextFault). IfSome f (IsFirstIn input endings.Open)) is at.first in
                let alone = tells_alone endings.Open at one first is false said (inl taken) in
                subst (TakesWrong is_all form Given Taken old new) here (
                  (inr (record { input = input; taken = taken; sure = λ more is_broken. sure more is_broken tt }), tt),
                  subst (λ (b : Bool). Explains b form Given Taken old new (Err (checks.Text first))) (sym one) alone,
                )

    module _ (Given : List ℕ → Bool → Type 0) (Taken : List ℕ → Type 0) (is_all : Bool) (form : Form) (all_is : counted.told.is_all ≡ is_all) (form_is : counted.told.form ≡ form) (old new : List ℕ)
      where
        memory_wrong : (fault : StreamFault) → fault ≡ checks.Memory → new ≡ old → TakesWrong is_all form Given Taken old new fault
        memory_wrong fault is same = subst (TakesWrong is_all form Given Taken old new) (sym is) (tt, same)

        pub ended_wrong : (is_broken : Bool) → IsAt (ending_of is_broken) before bytes counted → HasStopped (ending_of is_broken) bytes counted → Given input is_broken
            → (fault : StreamFault) → EndsWith bytes is_broken counted old new fault → TakesWrong is_all form Given Taken old new fault
        ended_wrong is_broken at stopped given fault (inl (is, same)) = memory_wrong fault is same
        ended_wrong is_broken at stopped given fault (inr (found, text, said, longer)) = ends_wrong Given Taken is_all form all_is form_is old new text longer is_broken at stopped said given fault found

        pub found_wrong : IsAt endings.Open before bytes counted → is_all ≡ false → Taken input
            → (fault : StreamFault) → EndsWith bytes false counted old new fault → TakesWrong is_all form Given Taken old new fault
        found_wrong at one taken fault (inl (is, same)) = memory_wrong fault is same
        found_wrong at one taken fault (inr (found, text, said, longer)) = ends_sure Given Taken is_all form all_is form_is old new text longer at one said taken fault found

        -- how the check of an input ends that was taken whole
        pub ended : {X : Type 0} (checked : X → Checked) (warnings : X → List Warning) (is_broken : Bool) → IsAt (ending_of is_broken) before bytes counted → HasStopped (ending_of is_broken) bytes counted
            → Given input is_broken → (result : Result X StreamFault)
            → IfOk result (λ found. (fault_found counted.told.first is_broken ≡ None) × IsCounted counted (checked found) (warnings found) × (new ≡ old)) → IfErr result (EndsWith bytes is_broken counted old new)
            → IfOk result (λ found. TakesRight Given (checked found) (warnings found) × (new ≡ old)) × IfErr result (TakesWrong is_all form Given Taken old new)
        ended checked warnings is_broken at stopped given (Ok found) (none, is, same) wrong =
            let right = comes_right is_broken at stopped none (checked found) (warnings found) is in
            ((record { input = input; is_broken = is_broken; given = given; right = right.0; warned = right.1 }, same), tt)
        ended checked warnings is_broken at stopped given (Err fault) right wrong = (tt, ended_wrong is_broken at stopped given fault wrong)

        -- and of one whose first fault was found
        pub found_first : {X : Type 0} (checked : X → Checked) (warnings : X → List Warning) → IsAt endings.Open before bytes counted → is_all ≡ false → IsSome counted.told.first → Taken input
            → (result : Result X StreamFault)
            → IfOk result (λ found. (fault_found counted.told.first false ≡ None) × IsCounted counted (checked found) (warnings found) × (new ≡ old)) → IfErr result (EndsWith bytes false counted old new)
            → IfOk result (λ found. TakesRight Given (checked found) (warnings found) × (new ≡ old)) × IfErr result (TakesWrong is_all form Given Taken old new)
        found_first checked warnings at one some taken (Ok found) (none, is, same) wrong =
            let none_some : false ≡ true = sym (ap is_some (none_found counted.told.first false none).0) ∙ some in
            absurd (true≢false (sym none_some))
        found_first checked warnings at one some taken (Err fault) right wrong = (tt, found_wrong at one taken fault wrong)

-- what is said of the first fault, whose race begins with what is left
pub said_of : {A X E : Type 0} (text_of : X → List ℕ) (bytes part : List ℕ) (is_broken : Bool) (counted : Counted A) (fault : TextFault) → counted.told.is_all ≡ false → counted.told.first ≡ Some fault
    → part ≡ drop counted.reader.end bytes → (result : Result X E) → IfOk result (λ x. EndsIn counted.told.form counted.reader.lines part fault (text_of x)) → IfOk result (λ x. IsSaidOf bytes is_broken counted (text_of x))
said_of text_of bytes part is_broken counted fault one is same (Err refused) said = tt
said_of text_of bytes part is_broken counted fault one is same (Ok x) said = record {
  all = λ all. absurd (true≢false (sym all ∙ one));
  none = λ _ none. let wrong : Some fault ≡ None = sym is ∙ none in cc;
  first = λ _. subst (λ (f : Option TextFault). IfSome f (λ t. EndsIn counted.told.form counted.reader.lines (drop counted.reader.end bytes) t (text_of x))) (sym is)
      (subst (λ (t : List ℕ). EndsIn counted.told.form counted.reader.lines t fault (text_of x)) same said);
}
