-- A race under way stays one where one more answer comes after its last start.
use Rattle.std.proofs.Common.{◌≡◌, ℕ, ◌∙◌, Bool, false, List, [], ◌∷◌, filter, map, Option, Some, None, IfSome, refl, sym, ap, subst, inl}
use Rattle.std.specs.List.Sorted.{IsPermutation}
use Rattle.he_addr.specs.declared.ip.Ip.{Ip}
use Rattle.he_plan.specs.declared.attempts.Attempt.{Attempt}
use Rattle.he_plan.specs.declared.finish.Fate.{Fate}
use Rattle.he_plan.specs.Alternating.{interlace}
use Rattle.he_plan.specs.Attempts.{is_untried, last_of, order, received}
use Rattle.he_plan.specs.Finish.{fate_by, fate_of}
use Rattle.he_plan.specs.Planning.{is_received, parts_of}
use Rattle.he_plan.specs.RaceState.{IsAlikeSoFar, IsQueue, IsReceivedAlike, IsUnderway, Progress, UntriedValues, was_received}
use Rattle.he_timeline.specs.declared.outcome.Outcome.{Outcome}
use Rattle.he_timeline.specs.declared.outcome.Outcome.TheVariants as outcomes
use Rattle.he_timeline.specs.Race.{Race, outcome_in, outcome_of}
use Rattle.he_timeline.specs.Settings.{SettingValues}
use Rattle.he_plan.proofs.Queued.{no_parts, order-none, received_is}

module _ (old new : Race) (settings : new.settings ≡ old.settings) (told : new.outcomes ≡ old.outcomes) (pauses : new.pauses ≡ old.pauses) where
  fate_alike : (start : ℕ) (o : Option Outcome) → fate_by new start o ≡ fate_by old start o
  fate_alike start None = refl
  fate_alike start (Some (outcomes.Ok duration)) = rw (settings, pauses) refl
  fate_alike start (Some (outcomes.Fail duration)) = rw (settings, pauses) refl

  -- attempts have the fates that they had
  fates_alike : (xs : List Attempt) → map (fate_of new) xs ≡ map (fate_of old) xs
  fates_alike [] = refl
  fates_alike (x ∷ xs) =
      let one : fate_of new x ≡ fate_of old x = ap (λ (all : List (Ip × Outcome)). fate_by new x.tick (outcome_in all x.ip)) told ∙ fate_alike x.tick (outcome_of old x.ip) in
      ap (λ (fate : Fate). fate ∷ map (fate_of new) xs) one ∙ ap (λ (fates : List Fate). fate_of old x ∷ fates) (fates_alike xs)

module _ (old new : Race) (done : List Attempt) (q : UntriedValues) (count : new.settings.count ≡ old.settings.count) where
  abbrev unsorted : UntriedValues
  unsorted = record q { sorted = [] }

  -- the queue stays where the included answers have the same addresses in the same order
  queue_same : IsQueue old done q → parts_of new q.v6 q.v4 ≡ parts_of old q.v6 q.v4 → order new (parts_of new q.v6 q.v4) ≡ order old (parts_of old q.v6 q.v4) → q.v6 ≡ was_received new (last_of done) new.aaaa → q.v4 ≡ was_received new (last_of done) new.a → IsQueue new done unsorted
  queue_same queue parts ordered six four = record {
    rest = record {
      members = subst (λ (ips : List Ip). IsPermutation ips (order new (parts_of new q.v6 q.v4))) (sym parts) (subst (IsPermutation (parts_of old q.v6 q.v4)) (sym ordered) queue.rest.members);
      own_six = queue.rest.own_six;
      own_four = queue.rest.own_four;
      rest = queue.rest.rest ∙ ap (filter (is_untried done)) (sym (ap (λ (ips : List Ip). interlace ips new.settings.count) ordered ∙ ap (interlace (order old (parts_of old q.v6 q.v4))) count));
      sorted = inl refl;
    };
    six = six;
    four = four;
  }

  -- before the first start nothing is received
  queue_before : IsQueue old done q → last_of done ≡ None → IsQueue new done unsorted
  queue_before queue none =
      let six : q.v6 ≡ false = queue.six ∙ ap (λ (o : Option Attempt). was_received old o old.aaaa) none in
      let four : q.v4 ≡ false = queue.four ∙ ap (λ (o : Option Attempt). was_received old o old.a) none in
      let nothing : (race : Race) → parts_of race q.v6 q.v4 ≡ [] = λ race. ap (λ (b : Bool). parts_of race b q.v4) six ∙ ap (parts_of race false) four ∙ no_parts race in
      let unordered : (race : Race) → order race (parts_of race q.v6 q.v4) ≡ [] = λ race. ap (order race) (nothing race) ∙ order-none race in
      queue_same queue (nothing new ∙ sym (nothing old)) (unordered new ∙ sym (unordered old))
      (six ∙ sym (ap (λ (o : Option Attempt). was_received new o new.aaaa) none))
      (four ∙ sym (ap (λ (o : Option Attempt). was_received new o new.a) none))

  queue_after : IsQueue old done q → (last : Attempt) → last_of done ≡ Some last → IsReceivedAlike old new last.tick → IsQueue new done unsorted
  queue_after queue last is alike =
      let six : q.v6 ≡ is_received old last.tick old.aaaa = queue.six ∙ ap (λ (o : Option Attempt). was_received old o old.aaaa) is in
      let four : q.v4 ≡ is_received old last.tick old.a = queue.four ∙ ap (λ (o : Option Attempt). was_received old o old.a) is in
      let six_new : q.v6 ≡ is_received new last.tick new.aaaa = six ∙ sym alike.six in
      let four_new : q.v4 ≡ is_received new last.tick new.a = four ∙ sym alike.four in
      let was : received old last.tick ≡ parts_of old q.v6 q.v4 = received_is old last.tick q.v6 q.v4 six four in
      let now : received new last.tick ≡ parts_of new q.v6 q.v4 = received_is new last.tick q.v6 q.v4 six_new four_new in
      queue_same queue (sym now ∙ alike.addresses ∙ was) (ap (order new) (sym now) ∙ alike.ordered ∙ ap (order old) was)
      (six_new ∙ sym (ap (λ (o : Option Attempt). was_received new o new.aaaa) is))
      (four_new ∙ sym (ap (λ (o : Option Attempt). was_received new o new.a) is))

  queue_alike : IsQueue old done q → (o : Option Attempt) → last_of done ≡ o → IfSome o (λ x. IsReceivedAlike old new x.tick) → IsQueue new done unsorted
  queue_alike queue None is alike = queue_before queue is
  queue_alike queue (Some last) is alike = queue_after queue last is alike

pub underway-heard : (old new : Race) (u : Progress) → IsUnderway old u → IsAlikeSoFar old new u.attempts → IsUnderway new (record u { queue = record u.queue { sorted = [] } })
underway-heard old new u under is = record {
  in_turn = is.in_turn;
  in_range = under.in_range;
  fates = under.fates ∙ sym (fates_alike old new is.settings is.outcomes is.pauses u.attempts);
  failed = under.failed;
  latest = under.latest;
  queue = queue_alike old new u.attempts u.queue (ap (λ (settings : SettingValues). settings.count) is.settings) under.queue (last_of u.attempts) refl is.last;
}
