-- The waits of a session's source, by those of the source that it asks.
use Rattle.std.proofs.Common.{◌≡◌, ◌⊎◌, ◌∙◌, ℕ, Bool, false, List, [], ◌∷◌, ap, inl, inr, refl, subst, sym}
use Rattle.std.proofs.Common.{true≢false}
use Rattle.std.specs.Prelude.{Option, None, Some, Err}
use Rattle.futures.specs.Task.{Covers, Keeps, Lasting}
use Rattle.futures.specs.declared.task.context.Context.{Context}
use Rattle.he_addr.specs.declared.ip.Family.{Family}
use Rattle.he_addr.specs.declared.ip.Family.TheVariants as families
use Rattle.he_settings.specs.declared.fault.NamesFault.{NamesFault}
use Rattle.he_turns.specs.Heard.{AnswerLists, IsSilent, StaysSilent, Tells, ips_of}
use Rattle.he_source.specs.Answers.{After, HearsAsked, HearsAt, HearsSession, Moves, asked_as, asked_in, is_host}
use Rattle.he_source.specs.Answers.{needs_of, session_needs}
use Rattle.he_source.specs.Sources.{IsToldHere}
use Rattle.he_source.specs.declared.answering.SessionAnswers.{SessionAnswers}
use Rattle.he_source.specs.declared.answering.Stage.{Stage}
use Rattle.he_source.specs.declared.answering.Stage.TheVariants as stages
use Rattle.he_source.specs.declared.source.RaceSource.{RaceSource}

-- the source is asked for one family only
one_as : (own a b x y : Family) → asked_as own a ≡ Some x → asked_as own b ≡ Some y → x ≡ y
one_as own families.V6 families.V6 x y at is = cc
one_as own families.V6 families.V4 x y at is = absurd (cc is)
one_as own families.V4 b x y at is = absurd (cc at)

module _ {R : Type 0} where
  -- after an answer for another family, the source is asked for this one as before
  after_so : (stage : Stage R) (wanted own family asked : Family) (given : AnswerLists) (told : Option AnswerLists)
      (source : RaceSource R) (new : SessionAnswers R) → asked_in stage wanted ≡ Some own
      → asked_in stage family ≡ Some asked → (own ≡ asked → ⊥) → After stage given told source new
      → (wanted ≡ family → told ≡ None) × (new.source ≡ source) × (asked_in new.stage family ≡ Some asked)
  after_so stages.Host wanted own family asked given told source new at is apart after =
      (λ alike. absurd (apart cc), after.1, ap (λ (g : Stage R). asked_in g family) after.2 ∙ is)
  after_so (stages.Six four prefixes) wanted own family asked given told source new at is apart after =
      absurd (apart (one_as families.V6 wanted family own asked at is))
  after_so (stages.Four prefixes) wanted own family asked given told source new at is apart after =
      absurd (apart (one_as families.V4 wanted family own asked at is))
  after_so (stages.Prefixes hosts) wanted own family asked given told source new at is apart after =
      absurd (apart (one_as families.V6 wanted family own asked at is))

  -- after a poll without an answer for the family, the source is asked for it as before
  stays_so : (stage : Stage R) (wanted own family asked : Family) (heard told : Option AnswerLists)
      (source : RaceSource R) (new : SessionAnswers R) → asked_in stage wanted ≡ Some own
      → asked_in stage family ≡ Some asked → (own ≡ asked → heard ≡ None) → Moves stage heard told source new
      → (wanted ≡ family → told ≡ None) × (new.source ≡ source) × (asked_in new.stage family ≡ Some asked)
  stays_so stage wanted own family asked None told source new at is none moves =
      (λ alike. moves.0, moves.1, ap (λ (g : Stage R). asked_in g family) moves.2 ∙ is)
  stays_so stage wanted own family asked (Some given) told source new at is none moves =
      after_so stage wanted own family asked given told source new at is (λ same. cc (none same)) moves

module _ {R : Type 0} (hears : Tells (RaceSource R)) where
  step : (here : Option Family) (s later : SessionAnswers R) (wanted family asked : Family) (now : ℕ)
      (told : Option AnswerLists) (polls : List (Family × ℕ)) → asked_in s.stage wanted ≡ here
      → asked_in s.stage family ≡ Some asked → IsSilent hears s.source asked → HearsAt hears here s now told later
      → ((next : SessionAnswers R) → asked_in next.stage family ≡ Some asked → IsSilent hears next.source asked
      → StaysSilent (HearsSession hears) next family polls)
      → (wanted ≡ family → told ≡ None) × StaysSilent (HearsSession hears) later family polls
  step None s later wanted family asked now told polls at is silent heard more = (
    λ alike. absurd (cc (sym at ∙ ap (λ (f : Family). asked_in s.stage f) alike ∙ is)),
    more later (ap (λ (a : SessionAnswers R). asked_in a.stage family) heard.0 ∙ is)
        (subst (λ (a : SessionAnswers R). IsSilent hears a.source asked) (sym heard.0) silent),
  )
  step (Some own) s later wanted family asked now told polls at is silent heard more =
      let none = λ (alike : own ≡ asked). (silent.at ((own, now) ∷ []) heard.heard heard.polled heard.is).0 alike in
      let after : IsSilent hears heard.polled asked =
      record { at = λ more. (silent.at ((own, now) ∷ more) heard.heard heard.polled heard.is).1 } in
      let left = stays_so s.stage wanted own family asked heard.heard told heard.polled later at is none heard.moves in
      (left.0, more later left.2 (subst (λ (r : RaceSource R). IsSilent hears r asked) (sym left.1) after))

  stays : (polls : List (Family × ℕ)) (s : SessionAnswers R) (family asked : Family)
      → asked_in s.stage family ≡ Some asked → IsSilent hears s.source asked
      → StaysSilent (HearsSession hears) s family polls
  stays [] s family asked is silent = tt
  stays (p ∷ polls) s family asked is silent = λ told later heard.
      step (asked_in s.stage p.0) s later p.0 family asked p.1 told polls refl is silent heard
      (λ next at so. stays polls next family asked at so)

  pub silent_session : (s : SessionAnswers R) (family asked : Family) → asked_in s.stage family ≡ Some asked
      → IsSilent hears s.source asked → IsSilent (HearsSession hears) s family
  silent_session s family asked is silent = record { at = λ polls. stays polls s family asked is silent }

  pub hears_asked : (s new : SessionAnswers R) (family asked : Family) (now : ℕ) (told : Option AnswerLists)
      → asked_in s.stage family ≡ Some asked → HearsAsked hears asked s now told new
      → HearsSession hears s family now told new
  hears_asked s new family asked now told is heard =
      subst (λ (a : Option Family). HearsAt hears a s now told new) (sym is) heard

-- without a need the wait lasts
covers_nothing : (old new : Context) (any : ℕ → Type 0) → Keeps old new → Covers old any → Covers new (λ _. ⊥)
covers_nothing old new any keeps covers = (keeps Lasting.armed covers.0, λ s no. absurd no)

-- the other family is IPv4, for which the source is not asked
is_four : (own family asked other : Family) → asked_as own family ≡ Some asked → (other ≡ family → ⊥)
    → other ≡ families.V4
is_four own families.V6 asked families.V4 is apart = refl
is_four own families.V6 asked families.V6 is apart = absurd (apart refl)
is_four own families.V4 asked other is apart = absurd (cc is)

other_as : (own family asked other : Family) → asked_as own family ≡ Some asked → (other ≡ family → ⊥)
    → asked_as own other ≡ None
other_as own family asked other is apart = ap (λ (f : Family). asked_as own f) (is_four own family asked other is apart)

-- a fault gives no address
pub none_told : (brings : Bool) (fault : NamesFault) (answer : AnswerLists) → IsToldHere brings (Err fault) answer
    → ips_of answer.known ≡ []
none_told brings fault answer (bare, inl nothing, same) = same.ips ∙ ap (λ (a : AnswerLists). ips_of a.known) nothing
none_told brings fault answer (bare, inr of, same) = absurd of

module _ {R : Type 0} where
  -- the race waits for what its source waits for
  pub covers_asked : (needs : RaceSource R → Family → ℕ → Type 0) (cx : Context) (s : SessionAnswers R)
      (family asked : Family) → asked_in s.stage family ≡ Some asked → Covers cx (needs s.source asked)
      → Covers cx (session_needs needs s family)
  covers_asked needs cx s family asked is covers =
      subst (λ (a : Option Family). Covers cx (needs_of needs a s)) (sym is) covers

  -- the other family is not asked for, or another family than the one that the source is asked for
  other_asked : (stage : Stage R) (family asked other : Family) → asked_in stage family ≡ Some asked
      → (other ≡ family → ⊥)
      → (asked_in stage other ≡ None) ⊎ ((o : Family) × (asked_in stage other ≡ Some o) × (o ≡ asked → ⊥))
  other_asked stages.Host family asked other is apart = inr (other, refl, λ same. apart cc)
  other_asked (stages.Six _ _) family asked other is apart = inl (other_as families.V6 family asked other is apart)
  other_asked (stages.Four _) family asked other is apart = inl (other_as families.V4 family asked other is apart)
  other_asked (stages.Prefixes _) family asked other is apart = inl (other_as families.V6 family asked other is apart)

  no_four : (stage : Stage R) → is_host stage ≡ false → asked_in stage families.V4 ≡ None
  no_four stages.Host is = absurd (true≢false is)
  no_four (stages.Six four prefixes) is = refl
  no_four (stages.Four prefixes) is = refl
  no_four (stages.Prefixes hosts) is = refl

module _ {R : Type 0} (needs : RaceSource R → Family → ℕ → Type 0) (old new : Context) where
  covers_needed : (s later : SessionAnswers R) (asked : Family) (here : Option Family)
      → (here ≡ None) ⊎ ((o : Family) × (here ≡ Some o) × (o ≡ asked → ⊥))
      → ((o : Family) → (o ≡ asked → ⊥) → Covers old (needs s.source o) → Covers new (needs later.source o))
      → Keeps old new → Covers old (needs_of needs here s) → Covers new (needs_of needs here later)
  covers_needed s later asked None which others keeps covers = covers_nothing old new _ keeps covers
  covers_needed s later asked (Some o) (inl none) others keeps covers = absurd (cc none)
  covers_needed s later asked (Some o) (inr (p, is, apart)) others keeps covers = others o (λ same. apart cc) covers

  -- the wait for the other family lasts over a poll without an answer
  pub covers_other : (s later : SessionAnswers R) (family asked other : Family) → asked_in s.stage family ≡ Some asked
      → later.stage ≡ s.stage
      → ((o : Family) → (o ≡ asked → ⊥) → Covers old (needs s.source o) → Covers new (needs later.source o))
      → Keeps old new → (other ≡ family → ⊥) → Covers old (session_needs needs s other)
      → Covers new (session_needs needs later other)
  covers_other s later family asked other is at others keeps apart covers =
      subst (λ (g : Stage R). Covers new (needs_of needs (asked_in g other) later)) (sym at)
      (covers_needed s later asked (asked_in s.stage other) (other_asked s.stage family asked other is apart) others
      keeps covers)

  -- after an answer of a stage that asks for one family, the other one is not asked for
  unasked : (later : SessionAnswers R) (own family asked other : Family) (any : ℕ → Type 0)
      → asked_as own family ≡ Some asked → (other ≡ family → ⊥) → is_host later.stage ≡ false → Keeps old new
      → Covers old any → Covers new (needs_of needs (asked_in later.stage other) later)
  unasked later own family asked other any is apart host keeps covers =
      let four = ap (λ (f : Family). asked_in later.stage f) (is_four own family asked other is apart) in
      subst (λ (o : Option Family). Covers new (needs_of needs o later)) (sym (four ∙ no_four later.stage host))
      (covers_nothing old new any keeps covers)

  after_answer : (stage : Stage R) (s later : SessionAnswers R) (polled : RaceSource R) (family asked other : Family)
      (given answer : AnswerLists) → asked_in stage family ≡ Some asked
      → After stage given (Some answer) polled later → is_host later.stage ≡ is_host stage
      → ((o : Family) → (o ≡ asked → ⊥) → Covers old (needs s.source o) → Covers new (needs polled o))
      → Keeps old new → (other ≡ family → ⊥) → Covers old (needs_of needs (asked_in stage other) s)
      → Covers new (needs_of needs (asked_in later.stage other) later)
  after_answer stages.Host s later polled family asked other given answer is after host rest keeps apart held =
      subst (λ (g : Stage R). Covers new (needs_of needs (asked_in g other) later)) (sym after.2)
      (subst (λ (r : RaceSource R). Covers new (needs r other)) (sym after.1)
      (rest other (λ same. apart cc) held))
  after_answer (stages.Six _ _) s later polled family asked other given answer is after host rest keeps apart held =
      unasked later families.V6 family asked other _ is apart host keeps held
  after_answer (stages.Four _) s later polled family asked other given answer is after host rest keeps apart held =
      unasked later families.V4 family asked other _ is apart host keeps held
  after_answer (stages.Prefixes _) s later polled family asked other given answer is after host rest keeps apart held =
      unasked later families.V6 family asked other _ is apart host keeps held

  -- the wait for the other family lasts over an answer
  pub covers_answered : (s later : SessionAnswers R) (polled : RaceSource R) (family asked other : Family)
      (given answer : AnswerLists) → asked_in s.stage family ≡ Some asked
      → After s.stage given (Some answer) polled later → is_host later.stage ≡ is_host s.stage
      → ((o : Family) → (o ≡ asked → ⊥) → Covers old (needs s.source o) → Covers new (needs polled o))
      → Keeps old new → (other ≡ family → ⊥) → Covers old (session_needs needs s other)
      → Covers new (session_needs needs later other)
  covers_answered s later polled family asked other given answer is after host rest keeps apart held =
      after_answer s.stage s later polled family asked other given answer is after host rest keeps apart held
