-- The due tick of a running race: the least tick at which there is something to do after its last turn, if pauses are
-- left aside (RFC 8305 sections 3 and 5).
use Rattle.std.specs.Prelude.{ℕ, ◌≡◌, ◌+◌, ◌<◌, ◌≤◌, ◌⊎◌, ◌&&◌, if◌then◌else◌, List, [], Option, Some, None, IfSome, IsSomeAnd, IsTrue}
use Rattle.std.specs.List.{list_all, list_any}
use Rattle.std.specs.Option.{option_map_or}
use Rattle.he_addr.specs.Ip.{is_usable}
use Rattle.he_plan.specs.declared.attempts.Attempt.{Attempt}
use Rattle.he_plan.specs.Attempts.{HaveFailed, MayStart, has_failed, is_untried, last_of}
use Rattle.he_timeline.specs.Seen.{IsFree, IsLeast}
use Rattle.he_timeline.specs.Race.{Race, Reply}

-- the last turn took the answer; before the first turn none is taken
abbrev pub IsTaken : Option ℕ → Reply → Type 0
IsTaken turn reply = IsSomeAnd turn (λ tick. reply.tick ≤ tick)

-- an answer that was not taken is due at its tick
abbrev pub IsAnswerDue : Option ℕ → Option Reply → ℕ → Type 0
IsAnswerDue turn reply t = IsSomeAnd reply (λ r. ¬ IsTaken turn r × (r.tick ≡ t))

-- the end of the Resolution Delay is due if a positive A answer was taken, no AAAA answer was and no attempt was made
pub record IsDelayDue (race : Race) (turn : Option ℕ) (done : List Attempt) (t : ℕ) : Type 0 where
  pub none : done ≡ []
  pub aaaa : ¬ IsSomeAnd race.aaaa (IsTaken turn)
  pub a : IsSomeAnd race.a
      (λ r. IsTrue (list_any is_usable r.addresses) × IsTaken turn r × (r.tick + race.settings.resolution ≡ t))

-- the answer was taken, and one of its addresses is untried
abbrev pub IsWaiting : Option ℕ → List Attempt → Option Reply → Type 0
IsWaiting turn done reply =
    IsSomeAnd reply (λ r. IsTaken turn r × IsTrue (list_any (λ ip. is_usable ip && is_untried done ip) r.addresses))

-- the delay after the last start: the floor, if there is one and every attempt has failed by the last turn; otherwise
-- the Connection Attempt Delay
abbrev pub start_delay : Race → Option ℕ → List Attempt → ℕ
start_delay race None done = race.settings.attempt
start_delay race (Some turn) done =
    if list_all (has_failed race turn) done
    then option_map_or (λ floor. floor) race.settings.floor race.settings.attempt
    else race.settings.attempt

-- a start is due when that delay is over, if an address is untried
pub record IsStartDue (race : Race) (turn : Option ℕ) (done : List Attempt) (t : ℕ) : Type 0 where
  pub delay : IsSomeAnd (last_of done) (λ last. last.tick + start_delay race turn done ≡ t)
  pub some : IsWaiting turn done race.aaaa ⊎ IsWaiting turn done race.a

-- an answer, the end of the Resolution Delay, a start or the limit is due at the tick
abbrev pub IsDue : Race → Option ℕ → List Attempt → ℕ → Type 0
IsDue race turn done t =
    IsAnswerDue turn race.aaaa t ⊎ (IsAnswerDue turn race.a t
    ⊎ (IsDelayDue race turn done t ⊎ (IsStartDue race turn done t ⊎ (t ≡ race.settings.limit))))

abbrev pub IsDueTick : Race → Option ℕ → List Attempt → ℕ → Type 0
IsDueTick race turn done = IsLeast (IsDue race turn done)

-- the last turn was at a free tick below the limit, and left no attempt to start there; if all attempts fail, they
-- had failed by then
abbrev pub IsAfterTurn : Race → Option ℕ → List Attempt → Type 0
IsAfterTurn race turn done =
    IfSome turn
    (λ t. IsFree race t × (t < race.settings.limit) × ¬ MayStart race done t
    × ((later : ℕ) → HaveFailed race done later → HaveFailed race done t))
