-- What is held of an input after more bytes of it were taken and looked at, and what was passed is let go.
use Rattle.std.proofs.Common.{ℕ, ◌≡◌, ◌+◌, ◌-◌, ◌≤◌, Bool, false, List, [], ◌++◌, None, Result, length, take, drop, sym, subst, subst₂, ◌∙◌, ap, arith, append_assoc, length-append, take-take}
use Rattle.std.specs.Prelude.{IfErr, IfOk, IsSome}
use Rattle.std.proofs.lemmas.List.{drop-take, take-append-le, take_all}
use Rattle.std.proofs.Math.Seq.{take-add}
use Rattle.he_stream.specs.declared.stream.InputStream as inputs
use Rattle.he_inputs.specs.HeldInputs.{GivesBy, HeldBytes, TakesMore}
use Rattle.he_inputs.specs.RaceReading.{ending_of}
use Rattle.he_inputs.specs.declared.race_reader.Ending.{Ending}
use Rattle.he_inputs.specs.declared.race_reader.Ending.TheVariants as endings
use Rattle.he_inputs.specs.declared.stream_fault.StreamFault.{StreamFault}
use Rattle.he_check.specs.Steps.{EndsWith, HasGone, HasStopped, HoldsOn, IsAt, IsCounted, IsHeld, IsNew, IsTaken, TakesWrong, at_front, fault_found, tried_bytes}
use Rattle.he_check.specs.Stream.{TakesRight}
use Rattle.he_check.specs.declared.form.Form.{Form}
use Rattle.he_check.specs.declared.input.Checked.{Checked}
use Rattle.he_check.specs.declared.slips.Warning.{Warning}
use Rattle.he_check.specs.declared.counting.Counted.{Counted}
use Rattle.he_check.specs.declared.taking.Held.{Held}
use Rattle.he_inputs.proofs.HeldInputLaws.{gives_nothing}
use Rattle.he_check.proofs.Checks.{ended, found_first}
use Rattle.he_check.proofs.Counts.{ending_at, front_at, more_at, parts_of, start_at, start_sound}

-- more of the bytes are looked at
pub further : {A : Type 0} (counted : Counted A) (before items : List ℕ) (from to : ℕ) → from ≤ to → counted.reader.end ≡ 0 → IsAt endings.Open before (take from items) counted
    → IsAt endings.Open before (take to items) counted
further counted before items from to less front at =
    let sum : from + (to - from) ≡ to = omega arith in
    let rest : List ℕ = take (to - from) (drop from items) in
    let split : take from items ++ rest ≡ take to items = sym (take-add from (to - from) items) ∙ ap (λ (n : ℕ). take n items) sum in
    subst (λ (t : List ℕ). IsAt endings.Open before t counted) split (more_at counted before (take from items) rest (omega arith) at)

-- so many bytes were looked at, and those that were passed are let go
pub holds_on : {A : Type 0} (old new : Held A) (next : Counted A) (ready : ℕ) → old.tried ≤ ready → old.counted.reader.end ≡ 0 → next.reader.end ≤ ready
    → ((before : List ℕ) → IsAt endings.Open before (take ready old.input.bytes) old.counted → IsAt endings.Open before (take ready old.input.bytes) next)
    → new.counted ≡ at_front next → new.tried ≡ ready - next.reader.end → new.input.bytes ≡ drop next.reader.end old.input.bytes
    → HoldsOn old new
holds_on {A} old new next ready tried front place gone counted tried_is kept before at =
    let items : List ℕ = old.input.bytes in
    let end : ℕ = next.reader.end in
    let here = gone before (further old.counted before items old.tried ready tried front at) in
    let passed = front_at next before (take ready items) endings.Open here in
    let first : take end (take ready items) ≡ take end items = take-take end ready items place in
    let all : before ++ items ≡ (before ++ take end (take ready items)) ++ new.input.bytes =
    sym (parts_of before items end) ∙ ap (λ (t : List ℕ). (before ++ t) ++ drop end items) (sym first) ∙ ap (λ (t : List ℕ). (before ++ take end (take ready items)) ++ t) (sym kept) in
    let sum : end + (ready - end) ≡ ready = omega arith in
    let looked : tried_bytes new ≡ drop end (take ready items) =
    ap (λ (n : ℕ). take n new.input.bytes) tried_is ∙ ap (take (ready - end)) kept ∙ sym (drop-take end (ready - end) items) ∙ ap (λ (n : ℕ). drop end (take n items)) sum in
    (before ++ take end (take ready items), all, subst₂ (λ (t : List ℕ) (c : Counted A). IsAt endings.Open (before ++ take end (take ready items)) t c) (sym looked) (sym counted) passed)

module _ {A : Type 0} (is_all : Bool) (form : Form)
  where
    -- nothing was taken
    pub none_taken : {I : Type 0} (input : inputs.Ghosts I) (first : I) (held : Held A) → held.input ≡ record { bytes = []; steps = 0 } → held.tried ≡ 0 → IsNew is_all form held.counted
        → IsTaken is_all form (GivesBy input first first held.input.steps endings.Open) held
    none_taken input first held empty tried new =
        let Here : HeldBytes → Type 0 = λ h. GivesBy input first first h.steps endings.Open h.bytes in
        let size = ap (λ (h : HeldBytes). length h.bytes) empty in
        record {
          holds = record { tried = omega arith; front = ap (λ r. r.end) new.reader; sound = start_sound held.counted is_all form new };
          all = new.all;
          formed = new.formed;
          before = [];
          at = start_at held.counted is_all form new endings.Open (tried_bytes held);
          took = subst Here (sym empty) (gives_nothing input first);
          size = omega (arith, size);
        }

    -- more bytes were taken
    pub taken_on : {I : Type 0} (input : inputs.Ghosts I) (first before after : I) (held : Held A) (new : HeldBytes) (ending : Ending) → TakesMore input before after held.input new ending
        → IsTaken is_all form (GivesBy input first before held.input.steps endings.Open) held → IsTaken is_all form (GivesBy input first after new.steps ending) (record held { input = new })
    taken_on input first before after held new ending taken is =
        let bytes : List ℕ = held.input.bytes in
        let size = is.size in
        let more = taken.size in
        let longer : length new.bytes ≡ length bytes + length taken.more = ap length taken.grown ∙ length-append bytes taken.more in
        let tried = is.holds.tried in
        let same : take held.tried bytes ≡ take held.tried new.bytes = sym (take-append-le held.tried bytes taken.more tried) ∙ ap (take held.tried) (sym taken.grown) in
        record {
          holds = record { tried = omega arith; front = is.holds.front; sound = is.holds.sound };
          all = is.all;
          formed = is.formed;
          before = is.before;
          at = subst (λ (t : List ℕ). IsAt endings.Open is.before t held.counted) same is.at;
          took = subst (GivesBy input first after new.steps ending) (append_assoc is.before bytes taken.more ∙ ap (λ (t : List ℕ). is.before ++ t) (sym taken.grown)) (taken.gives first (is.before ++ bytes) is.took);
          size = omega arith;
        }

    -- they were looked at, and those that were passed are let go
    pub looked_on : (Took : List ℕ → Type 0) (held new : Held A) → IsTaken is_all form Took held → IsHeld new → new.counted.told.is_all ≡ held.counted.told.is_all → new.counted.told.form ≡ held.counted.told.form
        → new.input.steps ≡ held.input.steps → HoldsOn held new → IsTaken is_all form Took new
    looked_on Took held new is holds all formed steps on =
        let next = on is.before is.at in
        let size = is.size in
        let total : length is.before + length held.input.bytes ≡ length next.0 + length new.input.bytes =
        sym (length-append is.before held.input.bytes) ∙ ap length next.1 ∙ length-append next.0 new.input.bytes in
        record {
          holds = holds;
          all = all ∙ is.all;
          formed = formed ∙ is.formed;
          before = next.0;
          at = next.2;
          took = subst Took next.1 is.took;
          size = omega arith;
        }

    -- all of the bytes are looked at
    whole_at : (Took : List ℕ → Type 0) (held : Held A) (is : IsTaken is_all form Took held) → IsAt endings.Open is.before held.input.bytes held.counted
    whole_at Took held is =
        let bytes : List ℕ = held.input.bytes in
        let all_of : take (length bytes) bytes ≡ bytes = take_all (length bytes) bytes (omega arith) in
        subst (λ (t : List ℕ). IsAt endings.Open is.before t held.counted) all_of (further held.counted is.before bytes held.tried (length bytes) is.holds.tried is.holds.front is.at)

    -- nothing follows what is held
    pub ends_taken : {X : Type 0} (checked : X → Checked) (warnings : X → List Warning) (Took : List ℕ → Type 0) (held new : Held A) (is : IsTaken is_all form Took held) (is_broken : Bool) (Given : List ℕ → Bool → Type 0) (Taken : List ℕ → Type 0)
        → (Took (is.before ++ held.input.bytes) → Given (is.before ++ held.input.bytes) is_broken) → (explained now told : List ℕ) → now ≡ explained → new.input ≡ held.input
        → HasGone (ending_of is_broken) held.input.bytes held.counted new.counted → HasStopped (ending_of is_broken) held.input.bytes new.counted → (result : Result X StreamFault)
        → IfOk result (λ found. (fault_found new.counted.told.first is_broken ≡ None) × IsCounted new.counted (checked found) (warnings found) × (told ≡ now)) → IfErr result (EndsWith new.input.bytes is_broken new.counted now told)
        → IfOk result (λ found. TakesRight Given (checked found) (warnings found) × (told ≡ explained)) × IfErr result (TakesWrong is_all form Given Taken explained told)
    ends_taken checked warnings Took held new is is_broken Given Taken given explained now told same kept gone stopped result right wrong =
        let bytes : List ℕ = held.input.bytes in
        let here = ending_at held.counted is.before bytes (ending_of is_broken) (whole_at Took held is) in
        let wrong_here = subst (λ (b : HeldBytes). IfErr result (EndsWith b.bytes is_broken new.counted now told)) kept wrong in
        subst (λ (e : List ℕ). IfOk result (λ found. TakesRight Given (checked found) (warnings found) × (told ≡ e)) × IfErr result (TakesWrong is_all form Given Taken e told)) same
        (ended is.before bytes new.counted gone.may.sound Given Taken is_all form (gone.all ∙ is.all) (gone.form ∙ is.formed) now told checked warnings is_broken (gone.on is.before here) stopped (given is.took) result right wrong_here)

    -- the first fault alone is asked for, and it is found
    pub ends_found : {X : Type 0} (checked : X → Checked) (warnings : X → List Warning) (Took : List ℕ → Type 0) (held : Held A) (is : IsTaken is_all form Took held) (Given : List ℕ → Bool → Type 0) (Taken : List ℕ → Type 0)
        → (Took (is.before ++ held.input.bytes) → Taken (is.before ++ held.input.bytes)) → (explained now told : List ℕ) → now ≡ explained → held.counted.told.is_all ≡ false → IsSome held.counted.told.first
        → (result : Result X StreamFault) → IfOk result (λ found. (fault_found held.counted.told.first false ≡ None) × IsCounted held.counted (checked found) (warnings found) × (told ≡ now))
        → IfErr result (EndsWith held.input.bytes false held.counted now told) → IfErr result (TakesWrong is_all form Given Taken explained told)
    ends_found checked warnings Took held is Given Taken taken explained now told same one some result right wrong =
        subst (λ (e : List ℕ). IfErr result (TakesWrong is_all form Given Taken e told)) same
        (found_first is.before held.input.bytes held.counted is.holds.sound Given Taken is_all form is.all is.formed now told checked warnings (whole_at Took held is) (sym is.all ∙ one) some (taken is.took) result right wrong).1
