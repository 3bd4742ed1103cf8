-- What an input gave by its steps, and what is held of it.
use Rattle.std.proofs.Common.{ℕ, ◌≡◌, ◌+◌, ◌-◌, ◌<◌, ◌≤◌, ◌++◌, ◌∙◌, List, [], length, take, drop, Option, ap, append_assoc, sym, subst, refl, arith, inl, inr, lit≤, length-append, length-drop, length-take, take-take}
use Rattle.std.proofs.KnownBytes.{Consumes-kept, Consumes-nil, Consumes-trans}
use Rattle.std.proofs.Math.Seq.{take-add}
use Rattle.std.proofs.lemmas.List.{append-nil, drop-take}
use Rattle.std.proofs.lemmas.List.Edits.{take-paste}
use Rattle.std.specs.Io.KnownBytes.{Consumes}
use lib.Seq.{paste}
use Rattle.he_stream.specs.declared.answer.Taken.{Taken}
use Rattle.he_stream.specs.declared.answer.Taken.TheVariants as answers
use Rattle.he_stream.specs.declared.stream.InputStream as inputs
use Rattle.he_stream.specs.Input.{Gives, GivesSoFar}
use Rattle.he_stream.specs.Limits.{most_reads, read_size}
use Rattle.he_stream.specs.Steps.{Takes}
use Rattle.he_stream.proofs.Chains.{one_step_more}
use Rattle.he_inputs.specs.HeldInputs.{GivesBy, HeldBytes, TakesMore, ending_after, gained}
use Rattle.he_inputs.specs.RaceReadingSteps.{breaks}
use Rattle.he_inputs.specs.declared.race_reader.Ending.{Ending}
use Rattle.he_inputs.specs.declared.race_reader.Ending.TheVariants as endings

-- the bytes after a place, moved to the front
pub moved : (bytes : List ℕ) (end filled : ℕ) → end ≤ filled → filled ≤ length bytes
    → take (filled - end) (paste bytes 0 (drop end bytes) (filled - end)) ≡ drop end (take filled bytes)
moved bytes end filled place within =
    let left = filled - end in
    let same : left ≡ 0 + left = omega arith in
    let all : end + left ≡ filled = omega arith in
    let long : left ≤ length (drop end bytes) = omega (arith, length-drop {A = ℕ}) in
    ap (λ (k : ℕ). take k (paste bytes 0 (drop end bytes) left)) same ∙ take-paste bytes 0 (drop end bytes) left (omega arith) long
    ∙ sym (drop-take end left bytes) ∙ ap (λ (k : ℕ). drop end (take k bytes)) all

-- a step gave no more than there was room for
pub gained_few : (before after : Option (List ℕ)) (taken : Taken) (room : List ℕ) → Takes before after taken room → gained taken ≤ length room
gained_few before after (answers.Bytes count) room took = took.1
gained_few before after answers.End room took = omega arith
gained_few before after answers.Interrupted room took = omega arith
gained_few before after answers.Failed room took = omega arith

module _ {I : Type 0} (input : inputs.Ghosts I) where
  abbrev left : I → Option (List ℕ)
  left = input.remaining

  -- nothing was taken yet
  pub gives_nothing : (first : I) → GivesBy input first first 0 endings.Open []
  gives_nothing first = (lit≤ tt, Consumes-nil (left first), refl)

  -- no step ended the input yet
  pub gives_so_far : (first last : I) (steps : ℕ) (bytes : List ℕ) → GivesBy input first last steps endings.Open bytes
      → GivesSoFar input.remaining input.takes first last bytes
  gives_so_far first last steps bytes (few, taken, on) = record { taken = taken; told = record { steps = steps; few = few; before = on } }

  -- nothing follows
  pub gives_ended : (first last : I) (steps : ℕ) (bytes : List ℕ) (ending : Ending) → (ending ≡ endings.Open → ⊥) → GivesBy input first last steps ending bytes
      → Gives input.remaining input.takes first last bytes (breaks ending)
  gives_ended first last steps bytes endings.Open closed given = absurd (closed refl)
  gives_ended first last steps bytes endings.Whole closed given = given
  gives_ended first last steps bytes endings.Broken closed given = given

  -- as many steps as are made at most
  pub gives_no_end : (first last : I) (steps : ℕ) (bytes : List ℕ) → steps ≡ most_reads → GivesBy input first last steps endings.Open bytes
      → GivesBy input first last steps endings.Broken bytes
  gives_no_end first last steps bytes all (few, taken, on) = record { taken = taken; whole = tt; told = inr (record { steps = steps; all = all; before = on }) }

  module _ (before after : I) (old new : List ℕ) (filled to room steps : ℕ) (same : take filled new ≡ take filled old) (inside : filled + room ≤ length new) (some : 0 < room) (few : steps < most_reads)
    where
      -- a step gave none
      none_taken : (ending : Ending) → to ≡ filled → ((first : I) (bytes : List ℕ) → GivesBy input first before steps endings.Open bytes → GivesBy input first after (steps + 1) ending bytes)
          → TakesMore input before after (record { bytes = take filled old; steps = steps }) (record { bytes = take to new; steps = steps + 1 }) ending
      none_taken ending at gives = record {
        more = [];
        grown = ap (λ (n : ℕ). take n new) at ∙ same ∙ sym (append-nil (take filled old));
        later = omega arith;
        few = λ _. omega arith;
        size = omega arith;
        gives = λ first bytes given. subst (GivesBy input first after (steps + 1) ending) (sym (append-nil bytes)) (gives first bytes given);
      }

      -- one step more
      pub step_taken : room ≤ read_size → (taken : Taken) → to ≡ filled + gained taken → Takes (left before) (left after) taken (take room (drop filled new)) → input.takes before taken after
          → TakesMore input before after (record { bytes = take filled old; steps = steps }) (record { bytes = take to new; steps = steps + 1 }) (ending_after taken)
      step_taken small (answers.Bytes count) sum (some_bytes, most, took) told =
          let piece = take count (drop filled new) in
          let few_bytes : count ≤ room = omega (arith, most, length-take {A = ℕ}) in
          let here : Consumes (left before) (left after) piece = subst (Consumes (left before) (left after)) (take-take count room (drop filled new) few_bytes) took in
          let long : length piece ≤ count = omega (arith, length-take {A = ℕ}) in
          record {
            more = piece;
            grown = ap (λ (n : ℕ). take n new) sum ∙ take-add filled count new ∙ ap (λ (l : List ℕ). l ++ piece) same;
            later = omega arith;
            few = λ _. omega arith;
            size = omega arith;
            gives = λ first bytes (so_far, given, on). (omega arith, Consumes-trans (left first) (left before) (left after) _ _ given here, one_step_more _ _ _ _ _ _ _ on tt told);
          }
      step_taken small answers.Interrupted sum keeps told =
          none_taken endings.Open (omega arith) (λ first bytes (so_far, given, on). (omega arith, Consumes-kept (left first) (left before) (left after) _ given keeps, one_step_more _ _ _ _ _ _ _ on tt told))
      step_taken small answers.End sum (keeps, end) told =
          none_taken endings.Whole (omega arith) (λ first bytes (so_far, given, on). record {
            taken = Consumes-kept (left first) (left before) (left after) _ given keeps;
            whole = end (omega (arith, length-take {A = ℕ}, length-drop {A = ℕ}));
            told = record { steps = steps; few = few; state = before; before = on; ended = told };
          })
      step_taken small answers.Failed sum keeps told =
          none_taken endings.Broken (omega arith) (λ first bytes (so_far, given, on). record {
            taken = Consumes-kept (left first) (left before) (left after) _ given keeps;
            whole = tt;
            told = inl (record { steps = steps; few = few; state = before; before = on; ended = told });
          })

  -- no step was made
  pub nothing_taken : (before : I) (held : HeldBytes) → TakesMore input before before held held endings.Open
  nothing_taken before held = record {
    more = [];
    grown = sym (append-nil held.bytes);
    later = omega arith;
    few = λ few. few;
    size = omega arith;
    gives = λ first bytes given. subst (GivesBy input first before held.steps endings.Open) (sym (append-nil bytes)) given;
  }

  -- and then more
  pub more_taken : (before between after : I) (old held new : HeldBytes) (ending : Ending) → TakesMore input before between old held endings.Open
      → TakesMore input between after held new ending → TakesMore input before after old new ending
  more_taken before between after old held new ending some more =
      let later = some.later in
      let after_that = more.later in
      let size = some.size in
      let sizes = more.size in
      record {
        more = some.more ++ more.more;
        grown = more.grown ∙ ap (λ (l : List ℕ). l ++ more.more) some.grown ∙ append_assoc old.bytes some.more more.more;
        later = omega arith;
        few = λ few. more.few (some.few few);
        size = omega (arith, length-append some.more more.more);
        gives = λ first bytes given. subst (GivesBy input first after new.steps ending) (append_assoc bytes some.more more.more) (more.gives first (bytes ++ some.more) (some.gives first bytes given));
      }

  -- the bound of steps is reached
  pub bound_reached : (before after : I) (old new : HeldBytes) → TakesMore input before after old new endings.Open → (new.steps < most_reads → ⊥) → TakesMore input before after old new endings.Broken
  bound_reached before after old new taken none =
      record {
        more = taken.more;
        grown = taken.grown;
        later = taken.later;
        few = taken.few;
        size = taken.size;
        gives = λ first bytes given.
            let now = taken.gives first bytes given in
            let few = now.0 in
            let all : new.steps ≡ most_reads = omega arith in
            gives_no_end first after new.steps (bytes ++ taken.more) all now;
      }

  -- what was held and what was let go before it
  pub held_given : (first before after : I) (front : List ℕ) (old new : HeldBytes) (ending : Ending) → TakesMore input before after old new ending
      → GivesBy input first before old.steps endings.Open (front ++ old.bytes) → GivesBy input first after new.steps ending (front ++ new.bytes)
  held_given first before after front old new ending taken given =
      subst (GivesBy input first after new.steps ending) (append_assoc front old.bytes taken.more ∙ ap (λ (l : List ℕ). front ++ l) (sym taken.grown)) (taken.gives first (front ++ old.bytes) given)
