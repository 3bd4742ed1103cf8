-- What a line that is right by itself keeps to.
use Rattle.std.proofs.Common.{◌≡◌, ℕ, suc, ◌<◌, ◌≤◌, ◌&&◌, Bool, true, false, cond, leb, ltb, List, [], ◌∷◌, length, Some, Ok, Err, refl, sym, ◌∙◌, ap, subst, inl, inr, arith}
use Rattle.std.specs.Prelude.{codes, ◌⊎◌}
use Rattle.std.specs.List.{AllZip}
use Rattle.std.specs.Option.{ok_or}
use Rattle.std.specs.Str.{bytes_eq}
use Rattle.std.proofs.lemmas.Slice.Eq.{bytes_eq-Decides}
use Rattle.std.proofs.lemmas.Bool.{leb-true, ltb-false, and_parts, and_from}
use Rattle.he_addr.specs.declared.ip.Family.{Family}
use Rattle.he_addr.specs.declared.ip.Ip.{Ip}
use Rattle.he_addr.specs.Reading.{number_in, ip_in}
use Rattle.he_timeline.specs.declared.limits.TheConstants.{MAX_TICK, MIN_DURATION, MAX_DURATION, MAX_PAUSE_END, MAX_ADDRESSES}
use Rattle.he_timeline.specs.declared.outcome.Outcome.{Outcome}
use Rattle.he_timeline.specs.declared.outcome.Outcome.TheVariants as outcomes
use Rattle.he_timeline.specs.Race.{Reply}
use Rattle.he_timeline.specs.Timeline.{is_of, are_of, duration_of}
use Rattle.he_words.specs.declared.fault.TextKind.TheVariants as kinds
use Rattle.he_words.specs.declared.words.Name.{Name}
use Rattle.he_reading.specs.Forms.{◌>>=◌, within, number_from, setting_in, address_in, addresses_in, listed_in, answer_in, known_in, round_trip_in, used_in, mark_in, connect_in, pause_in}
use Rattle.he_words.specs.Words.{least_value, most_value, name_in}
use Rattle.he_words.specs.Marks.{mark_text}
use Rattle.he_reading.proofs.LineReads.{ReadsNumber}
use Rattle.he_reading.proofs.Results.{bind_ok, ok_or_ok, let_through, not_stopped}

pub number_ok : (low high : ℕ) (token : List ℕ) (n : ℕ) → number_from low high token ≡ Ok n → ReadsNumber low high token n
unfolding number_from
number_ok low high token n h =
    let read = bind_ok (ok_or (number_in token) kinds.Number) (within low high) n h in
    let value : number_in token ≡ Some read.0 = ok_or_ok (number_in token) kinds.Number read.0 read.1 in
    let inside = let_through (leb low read.0 && leb read.0 high) (Ok read.0) kinds.Range n read.2 in
    let same : read.0 ≡ n = cc (inside.1) in
    let parts = and_parts (leb low read.0) (leb read.0 high) inside.0 in
    let low_is : low ≤ read.0 = leb-true low read.0 parts.0 in
    let high_is : read.0 ≤ high = leb-true read.0 high parts.1 in
    record { value = value ∙ ap Some same; least = omega arith; most = omega arith }

-- set NAME N
pub record IsSetting (tokens : List (List ℕ)) (name : Name) (value : ℕ) : Type 0 where
  pub first : List ℕ
  pub second : List ℕ
  pub tokens_are : tokens ≡ first ∷ second ∷ []
  pub name_is : name_in first ≡ Some name
  pub value_is : ReadsNumber (least_value name) (most_value name) second value

pub setting_ok : (tokens : List (List ℕ)) (s : Name × ℕ) → setting_in tokens ≡ Ok s → IsSetting tokens s.0 s.1
unfolding setting_in
setting_ok [] s h = cc
setting_ok (a ∷ []) s h = cc
setting_ok (a ∷ b ∷ c ∷ more) s h = cc
setting_ok (a ∷ b ∷ []) s h =
    let name = bind_ok (ok_or (name_in a) kinds.Word) (λ name. number_from (least_value name) (most_value name) b >>= λ value. Ok (name, value)) s h in
    let value = bind_ok (number_from (least_value name.0) (most_value name.0) b) (λ value. Ok (name.0, value)) s name.2 in
    let P : Name × ℕ → Type 0 = λ s. IsSetting (a ∷ b ∷ []) s.0 s.1 in
    let same : (name.0, value.0) ≡ s = cc (value.2) in
    subst P same (record {
      first = a;
      second = b;
      tokens_are = refl;
      name_is = ok_or_ok (name_in a) kinds.Word name.0 name.1;
      value_is = number_ok (least_value name.0) (most_value name.0) b value.0 value.1;
    })

-- addresses of a family
pub record AreAddresses (family : Family) (tokens : List (List ℕ)) (ips : List Ip) : Type 0 where
  pub spelled : AllZip (λ token ip. ip_in token ≡ Some ip) tokens ips
  pub of_family : are_of family ips ≡ true
  pub count : length ips ≡ length tokens

address_ok : (family : Family) (token : List ℕ) (ip : Ip) → address_in family token ≡ Ok ip → (ip_in token ≡ Some ip) × (is_of family ip ≡ true)
unfolding address_in
address_ok family token ip h =
    let read = bind_ok (ok_or (ip_in token) kinds.Address) (λ ip. cond (is_of family ip) (Ok ip) (Err kinds.Address)) ip h in
    let fits = let_through (is_of family read.0) (Ok read.0) kinds.Address ip read.2 in
    let same : read.0 ≡ ip = cc (fits.1) in
    (ok_or_ok (ip_in token) kinds.Address read.0 read.1 ∙ ap Some same, ap (is_of family) (sym same) ∙ fits.0)

pub addresses_ok : (family : Family) (tokens : List (List ℕ)) (ips : List Ip) → addresses_in family tokens ≡ Ok ips → AreAddresses family tokens ips
unfolding addresses_in
addresses_ok family [] ips h =
    let same : [] ≡ ips = cc (h) in
    let P : List Ip → Type 0 = AreAddresses family [] in
    subst P same (record { spelled = tt; of_family = refl; count = refl })
addresses_ok family (token ∷ tokens) ips h =
    let first = bind_ok (address_in family token) (λ ip. addresses_in family tokens >>= λ ips. Ok (ip ∷ ips)) ips h in
    let more = bind_ok (addresses_in family tokens) (λ ips. Ok (first.0 ∷ ips)) ips first.2 in
    let one = address_ok family token first.0 first.1 in
    let rest = addresses_ok family tokens more.0 more.1 in
    let same : first.0 ∷ more.0 ≡ ips = cc (more.2) in
    let P : List Ip → Type 0 = AreAddresses family (token ∷ tokens) in
    subst P same (record {
      spelled = (one.0, rest.spelled);
      of_family = and_from (is_of family first.0) (are_of family more.0) one.1 rest.of_family;
      count = ap suc rest.count;
    })

-- aaaa TICK none, aaaa TICK ADDRESS .. and the same of a
pub record IsListed (family : Family) (tokens : List (List ℕ)) (ips : List Ip) : Type 0 where
  pub listed : ((tokens ≡ codes "none" ∷ []) × (ips ≡ [])) ⊎ ((0 < length tokens) × AllZip (λ token ip. ip_in token ≡ Some ip) tokens ips)
  pub of_family : are_of family ips ≡ true
  pub count : length ips ≤ length tokens

listed_addresses : (family : Family) (tokens : List (List ℕ)) (ips : List Ip) → 0 < length tokens → addresses_in family tokens ≡ Ok ips → IsListed family tokens ips
listed_addresses family tokens ips some h =
    let read = addresses_ok family tokens ips h in
    let count : length ips ≡ length tokens = read.count in
    record { listed = inr (some, read.spelled); of_family = read.of_family; count = omega arith }

listed_one : (family : Family) (only : List ℕ) (ips : List Ip) (none : Bool) → bytes_eq only (codes "none") ≡ none → cond none (Ok []) (addresses_in family (only ∷ [])) ≡ Ok ips → IsListed family (only ∷ []) ips
listed_one family only ips true e h =
    let same : [] ≡ ips = cc (h) in
    let P : List Ip → Type 0 = IsListed family (only ∷ []) in
    let is : only ≡ codes "none" = (bytes_eq-Decides only (codes "none")).0 e in
    subst P same (record { listed = inl (ap (λ t. t ∷ []) is, refl); of_family = refl; count = omega arith })
listed_one family only ips false e h = listed_addresses family (only ∷ []) ips (omega arith) h

pub listed_ok : (family : Family) (tokens : List (List ℕ)) (ips : List Ip) → 0 < length tokens → listed_in family tokens ≡ Ok ips → IsListed family tokens ips
unfolding listed_in
listed_ok family [] ips some h = absurd (omega arith)
listed_ok family (only ∷ []) ips some h = listed_one family only ips (bytes_eq only (codes "none")) refl h
listed_ok family (a ∷ b ∷ more) ips some h = listed_addresses family (a ∷ b ∷ more) ips some h

pub record IsAnswer (family : Family) (tokens : List (List ℕ)) (reply : Reply) : Type 0 where
  pub first : List ℕ
  pub others : List (List ℕ)
  pub tokens_are : tokens ≡ first ∷ others
  pub some : 0 < length others
  pub few : length others ≤ MAX_ADDRESSES
  pub tick : ReadsNumber 0 MAX_TICK first reply.tick
  pub addresses : IsListed family others reply.addresses

pub answer_ok : (family : Family) (tokens : List (List ℕ)) (reply : Reply) → answer_in family tokens ≡ Ok reply → IsAnswer family tokens reply
unfolding answer_in
answer_ok family [] reply h = cc
answer_ok family (number ∷ []) reply h = cc
answer_ok family (number ∷ first ∷ more) reply h =
    let few = not_stopped (ltb MAX_ADDRESSES (length (first ∷ more))) (number_from 0 MAX_TICK number >>= λ tick. listed_in family (first ∷ more) >>= λ ips. Ok (record { tick = tick; addresses = ips })) kinds.TooMany reply h in
    let tick = bind_ok (number_from 0 MAX_TICK number) (λ tick. listed_in family (first ∷ more) >>= λ ips. Ok (record { tick = tick; addresses = ips })) reply few.1 in
    let ips = bind_ok (listed_in family (first ∷ more)) (λ ips. Ok (record { tick = tick.0; addresses = ips })) reply tick.2 in
    let made : Reply = record { tick = tick.0; addresses = ips.0 } in
    let same : made ≡ reply = cc (ips.2) in
    let P : Reply → Type 0 = IsAnswer family (number ∷ first ∷ more) in
    subst P same (record {
      first = number;
      others = first ∷ more;
      tokens_are = refl;
      some = omega arith;
      few = ltb-false MAX_ADDRESSES (length (first ∷ more)) few.0;
      tick = number_ok 0 MAX_TICK number tick.0 tick.1;
      addresses = listed_ok family (first ∷ more) ips.0 (omega arith) ips.1;
    })

-- connect ADDRESS ok N, connect ADDRESS fail N
pub record IsTold (known : Ip → Bool) (tokens : List (List ℕ)) (ip : Ip) (outcome : Outcome) : Type 0 where
  pub first : List ℕ
  pub last : List ℕ
  pub tokens_are : tokens ≡ first ∷ mark_text outcome ∷ last ∷ []
  pub ip_is : ip_in first ≡ Some ip
  pub known_is : known ip ≡ true
  pub ticks : ReadsNumber MIN_DURATION MAX_DURATION last (duration_of outcome)

known_ok : (known : Ip → Bool) (token : List ℕ) (ip : Ip) → known_in known token ≡ Ok ip → (ip_in token ≡ Some ip) × (known ip ≡ true)
unfolding known_in
known_ok known token ip h =
    let read = bind_ok (ok_or (ip_in token) kinds.Address) (λ ip. cond (known ip) (Ok ip) (Err kinds.Address)) ip h in
    let fits = let_through (known read.0) (Ok read.0) kinds.Address ip read.2 in
    let same : read.0 ≡ ip = cc (fits.1) in
    (ok_or_ok (ip_in token) kinds.Address read.0 read.1 ∙ ap Some same, ap known (sym same) ∙ fits.0)

-- rtt ADDRESS N
pub record IsRoundTrip (known : Ip → Bool) (tokens : List (List ℕ)) (ip : Ip) (rtt : ℕ) : Type 0 where
  pub first : List ℕ
  pub second : List ℕ
  pub tokens_are : tokens ≡ first ∷ second ∷ []
  pub ip_is : ip_in first ≡ Some ip
  pub known_is : known ip ≡ true
  pub rtt_is : ReadsNumber MIN_DURATION MAX_DURATION second rtt

pub round_trip_ok : (known : Ip → Bool) (tokens : List (List ℕ)) (told : Ip × ℕ) → round_trip_in known tokens ≡ Ok told → IsRoundTrip known tokens told.0 told.1
unfolding round_trip_in
round_trip_ok known [] told h = cc
round_trip_ok known (a ∷ []) told h = cc
round_trip_ok known (a ∷ b ∷ c ∷ more) told h = cc
round_trip_ok known (a ∷ b ∷ []) told h =
    let ip = bind_ok (known_in known a) (λ ip. number_from MIN_DURATION MAX_DURATION b >>= λ rtt. Ok (ip, rtt)) told h in
    let rtt = bind_ok (number_from MIN_DURATION MAX_DURATION b) (λ rtt. Ok (ip.0, rtt)) told ip.2 in
    let is = known_ok known a ip.0 ip.1 in
    let same : (ip.0, rtt.0) ≡ told = cc (rtt.2) in
    let P : Ip × ℕ → Type 0 = λ told. IsRoundTrip known (a ∷ b ∷ []) told.0 told.1 in
    subst P same (record { first = a; second = b; tokens_are = refl; ip_is = is.0; known_is = is.1; rtt_is = number_ok MIN_DURATION MAX_DURATION b rtt.0 rtt.1 })

-- used ADDRESS
pub record IsUsed (known : Ip → Bool) (tokens : List (List ℕ)) (ip : Ip) : Type 0 where
  pub first : List ℕ
  pub tokens_are : tokens ≡ first ∷ []
  pub ip_is : ip_in first ≡ Some ip
  pub known_is : known ip ≡ true

pub used_ok : (known : Ip → Bool) (tokens : List (List ℕ)) (ip : Ip) → used_in known tokens ≡ Ok ip → IsUsed known tokens ip
unfolding used_in
used_ok known [] ip h = cc
used_ok known (a ∷ []) ip h = let is = known_ok known a ip h in record { first = a; tokens_are = refl; ip_is = is.0; known_is = is.1 }
used_ok known (a ∷ b ∷ more) ip h = cc

abbrev pub outcome_of : Bool → ℕ → Outcome
outcome_of succeeds ticks = cond succeeds (outcomes.Ok ticks) (outcomes.Fail ticks)

mark_by : (token : List ℕ) (ok fail succeeds : Bool) (ticks : ℕ) → bytes_eq token (codes "ok") ≡ ok → bytes_eq token (codes "fail") ≡ fail
    → cond ok (Ok true) (cond fail (Ok false) (Err kinds.Word)) ≡ Ok succeeds → token ≡ mark_text (outcome_of succeeds ticks)
mark_by token true fail succeeds ticks e f h =
    let same : true ≡ succeeds = cc (h) in
    let P : Bool → Type 0 = λ b. token ≡ mark_text (outcome_of b ticks) in
    subst P same ((bytes_eq-Decides token (codes "ok")).0 e)
mark_by token false true succeeds ticks e f h =
    let same : false ≡ succeeds = cc (h) in
    let P : Bool → Type 0 = λ b. token ≡ mark_text (outcome_of b ticks) in
    subst P same ((bytes_eq-Decides token (codes "fail")).0 f)
mark_by token false false succeeds ticks e f h = cc

mark_ok : (token : List ℕ) (succeeds : Bool) (ticks : ℕ) → mark_in token ≡ Ok succeeds → token ≡ mark_text (outcome_of succeeds ticks)
unfolding mark_in
mark_ok token succeeds ticks h = mark_by token (bytes_eq token (codes "ok")) (bytes_eq token (codes "fail")) succeeds ticks refl refl h

timed : (succeeds : Bool) (token : List ℕ) (ticks : ℕ) → ReadsNumber MIN_DURATION MAX_DURATION token ticks → ReadsNumber MIN_DURATION MAX_DURATION token (duration_of (outcome_of succeeds ticks))
timed true token ticks read = read
timed false token ticks read = read

pub connect_ok : (known : Ip → Bool) (tokens : List (List ℕ)) (told : Ip × Outcome) → connect_in known tokens ≡ Ok told → IsTold known tokens told.0 told.1
unfolding connect_in
connect_ok known [] told h = cc
connect_ok known (a ∷ []) told h = cc
connect_ok known (a ∷ b ∷ []) told h = cc
connect_ok known (a ∷ b ∷ c ∷ d ∷ more) told h = cc
connect_ok known (a ∷ b ∷ c ∷ []) told h =
    let ip = bind_ok (known_in known a) (λ ip. mark_in b >>= λ succeeds. number_from MIN_DURATION MAX_DURATION c >>= λ ticks. Ok (ip, outcome_of succeeds ticks)) told h in
    let mark = bind_ok (mark_in b) (λ succeeds. number_from MIN_DURATION MAX_DURATION c >>= λ ticks. Ok (ip.0, outcome_of succeeds ticks)) told ip.2 in
    let ticks = bind_ok (number_from MIN_DURATION MAX_DURATION c) (λ ticks. Ok (ip.0, outcome_of mark.0 ticks)) told mark.2 in
    let is = known_ok known a ip.0 ip.1 in
    let made : Ip × Outcome = (ip.0, outcome_of mark.0 ticks.0) in
    let same : made ≡ told = cc (ticks.2) in
    let number = number_ok MIN_DURATION MAX_DURATION c ticks.0 ticks.1 in
    let P : Ip × Outcome → Type 0 = λ told. IsTold known (a ∷ b ∷ c ∷ []) told.0 told.1 in
    subst P {x = made} same (record {
      first = a;
      last = c;
      tokens_are = ap (λ m. a ∷ m ∷ c ∷ []) (mark_ok b mark.0 ticks.0 mark.1);
      ip_is = is.0;
      known_is = is.1;
      ticks = timed mark.0 c ticks.0 number;
    })

-- pause FROM TO
pub record IsPause (tokens : List (List ℕ)) (from to : ℕ) : Type 0 where
  pub first : List ℕ
  pub second : List ℕ
  pub tokens_are : tokens ≡ first ∷ second ∷ []
  pub from_is : ReadsNumber 0 MAX_TICK first from
  pub to_is : ReadsNumber 1 MAX_PAUSE_END second to

pub pause_ok : (tokens : List (List ℕ)) (p : ℕ × ℕ) → pause_in tokens ≡ Ok p → IsPause tokens p.0 p.1
unfolding pause_in
pause_ok [] p h = cc
pause_ok (a ∷ []) p h = cc
pause_ok (a ∷ b ∷ c ∷ more) p h = cc
pause_ok (a ∷ b ∷ []) p h =
    let from = bind_ok (number_from 0 MAX_TICK a) (λ from. number_from 1 MAX_PAUSE_END b >>= λ to. Ok (from, to)) p h in
    let to = bind_ok (number_from 1 MAX_PAUSE_END b) (λ to. Ok (from.0, to)) p from.2 in
    let same : (from.0, to.0) ≡ p = cc (to.2) in
    let P : ℕ × ℕ → Type 0 = λ p. IsPause (a ∷ b ∷ []) p.0 p.1 in
    subst P same (record { first = a; second = b; tokens_are = refl; from_is = number_ok 0 MAX_TICK a from.0 from.1; to_is = number_ok 1 MAX_PAUSE_END b to.0 to.1 })
