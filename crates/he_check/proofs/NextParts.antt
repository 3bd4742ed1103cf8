-- The search for the next part: none begins before the next line end.
use Rattle.std.proofs.Common.{ℕ, ◌≡◌, ◌⊎◌, ◌+◌, ◌-◌, ◌<◌, ◌≤◌, Bool, true, false, ◌||◌, cond, eqb, List, [], ◌∷◌, ◌++◌, length, get_or, take, drop, Some, sym, subst₂, refl, true≢false, suc, ◌∙◌, ap, append_assoc, arith, codes, drop_at, take-append-drop, inl, inr}
use Rattle.std.proofs.lemmas.Bool.{eqb-true}
use Rattle.std.proofs.lemmas.Bool.Decides.{Decides-eqb}
use Rattle.std.proofs.lemmas.List.{drop-append-le, drop-drop, get_or-take, get_or_append_left, length-append, length-drop, length-take-le, take_at}
use Rattle.std.proofs.lemmas.List.Sums.{sum_by-cons}
use Rattle.std.proofs.lemmas.Slice.Eq.{starts_is}
use Rattle.std.proofs.Math.Nat.{lt_of_not-le}
use Rattle.std.proofs.Math.Seq.{get_or-append_seam, split_at, take-add}
use Rattle.memchr.specs.Find.{IsFirstByte, is_byte}
use Rattle.he_inputs.specs.Inputs.{line_count}
use Rattle.he_words.specs.declared.fault.TextFault.{TextFault}
use Rattle.he_inputs.proofs.RaceReadingLaws.{line_count-append}
use Rattle.he_check.specs.AllFaults.{AreFaultsBehind, BeginsPart, IsLastPart, IsNextPart, PartStart, RaceOne, RaceTwo, RecordAlone, RecordSpaced, start_text}
use Rattle.he_faults.specs.Meant.{begins}
use Rattle.he_check.specs.Steps.{AreFaultsAfter, begins_part}
use Rattle.he_check.proofs.Hints.{begins_more}

no_line : (text : List ℕ) → ((k : ℕ) → k < length text → eqb (get_or text k 0) 10 ≡ true → ⊥) → line_count text ≡ 0
no_line [] none = refl
no_line (byte ∷ text) none =
    let later : line_count text ≡ 0 = no_line text (λ k lt is. none (suc k) (omega arith) is) in
    let all : 0 + line_count text ≡ 0 = omega arith in
    sum_by-cons (λ b. cond (eqb b 10) 1 0) byte text ∙ ap (λ n. n + line_count text) (here (eqb byte 10) (none 0 (omega arith))) ∙ all
  where
    here : (b : Bool) → (b ≡ true → ⊥) → ◌≡◌ {A = ℕ} (cond b 1 0) 0
    here true never = absurd (never refl)
    here false never = refl

-- no line ends in so many of the bytes
abbrev pub HasNoEnd : List ℕ → ℕ → Type 0
HasNoEnd text n = (k : ℕ) → 0 ≤ k → k < n → eqb (get_or text k 0) 10 ≡ true → ⊥

pub no_lines : (text : List ℕ) (n : ℕ) → n ≤ length text → HasNoEnd text n → line_count (take n text) ≡ 0
no_lines text n inside none =
    let size : length (take n text) ≡ n = length-take-le n text inside in
    no_line (take n text) (λ k lt is. none k (omega arith) (omega arith) (ap (λ b. eqb b 10) (sym (get_or-take n text k 0 (omega arith))) ∙ is))

-- no part begins up to there, whatever follows
pub no_part : (text more : List ℕ) (n other : ℕ) → n ≤ length text → HasNoEnd text n → BeginsPart (text ++ more) other → n + 1 ≤ other
no_part text more n other inside none (front, start, rest, split, place) =
    let past : n < other = lt_of_not-le (λ le. early le) in
    omega arith
  where
    early : other ≤ n → ⊥
    early le =
        let k : ℕ = length front in
        let race : List ℕ = start_text start ++ rest in
        let byte : get_or text k 0 ≡ 10 =
        sym (get_or_append_left text more 0 k (omega arith)) ∙ ap (λ (t : List ℕ). get_or t k 0) split ∙ get_or-append_seam front 10 race 0 in
        none k (omega arith) (omega arith) (ap (λ b. eqb b 10) byte)

-- the first line of a text begins a part
abbrev one : List ℕ → Bool
one text = begins (codes "race 1" ++ 10 ∷ []) text

abbrev two : List ℕ → Bool
two text = begins (codes "race 2" ++ 10 ∷ []) text

abbrev spaced : List ℕ → Bool
spaced text = begins (codes "record ") text

abbrev alone : List ℕ → Bool
alone text = begins (codes "record" ++ 10 ∷ []) text

either : (a b : Bool) → (a || b) ≡ true → (a ≡ true) ⊎ (b ≡ true)
either true b is = inl refl
either false b is = inr is

starts : (text : List ℕ) → begins_part text ≡ true → (start : PartStart) × (more : List ℕ) × (text ≡ start_text start ++ more)
starts text is = elim (either ((one text || two text) || spaced text) (alone text) is) [
  | inr fourth ↦ (RecordAlone, drop 7 text, (starts_is Decides-eqb text (codes "record" ++ 10 ∷ []) _ refl).0 fourth)
  | inl others ↦ elim (either (one text || two text) (spaced text) others) [
    | inr third ↦ (RecordSpaced, drop 7 text, (starts_is Decides-eqb text (codes "record ") _ refl).0 third)
    | inl races ↦ elim (either (one text) (two text) races) [
      | inl first ↦ (RaceOne, drop 7 text, (starts_is Decides-eqb text (codes "race 1" ++ 10 ∷ []) _ refl).0 first)
      | inr second ↦ (RaceTwo, drop 7 text, (starts_is Decides-eqb text (codes "race 2" ++ 10 ∷ []) _ refl).0 second)
    ]
  ]
]

or_true : (a : Bool) → (a || true) ≡ true
or_true true = refl
or_true false = refl

or_first : (a b : Bool) → a ≡ true → (a || b) ≡ true
or_first a b is = ap (λ c. c || b) is

or_second : (a b : Bool) → b ≡ true → (a || b) ≡ true
or_second a b is = ap (λ c. a || c) is ∙ or_true a

is_start : (text : List ℕ) (start : PartStart) (more : List ℕ) → text ≡ start_text start ++ more → begins_part text ≡ true
is_start text RaceOne more is =
    let first : one text ≡ true = (starts_is Decides-eqb text (codes "race 1" ++ 10 ∷ []) _ refl).1 more is in
    or_first ((one text || two text) || spaced text) (alone text) (or_first (one text || two text) (spaced text) (or_first (one text) (two text) first))
is_start text RaceTwo more is =
    let second : two text ≡ true = (starts_is Decides-eqb text (codes "race 2" ++ 10 ∷ []) _ refl).1 more is in
    or_first ((one text || two text) || spaced text) (alone text) (or_first (one text || two text) (spaced text) (or_second (one text) (two text) second))
is_start text RecordSpaced more is =
    let third : spaced text ≡ true = (starts_is Decides-eqb text (codes "record ") _ refl).1 more is in
    or_first ((one text || two text) || spaced text) (alone text) (or_second (one text || two text) (spaced text) third)
is_start text RecordAlone more is =
    let fourth : alone text ≡ true = (starts_is Decides-eqb text (codes "record" ++ 10 ∷ []) _ refl).1 more is in
    or_second ((one text || two text) || spaced text) (alone text) fourth

start_more : (text more : List ℕ) → 7 ≤ length text → begins_part (text ++ more) ≡ begins_part text
start_more text more long =
    let first = begins_more (codes "race 1" ++ 10 ∷ []) text more long in
    let second = begins_more (codes "race 2" ++ 10 ∷ []) text more long in
    let third = begins_more (codes "record ") text more long in
    let fourth = begins_more (codes "record" ++ 10 ∷ []) text more long in
    rw (first, second, third, fourth) refl

-- what stands at the place where a part begins
part_there : (text : List ℕ) (at : ℕ) → BeginsPart text at → begins_part (drop at text) ≡ true
part_there text at (front, start, more, split, place) =
    let before : List ℕ = front ++ 10 ∷ [] in
    let part : List ℕ = start_text start ++ more in
    let long : length before ≡ at = length-append front (10 ∷ []) ∙ sym place in
    let joined : before ++ part ≡ front ++ (10 ∷ part) = append_assoc front (10 ∷ []) part in
    let parts : text ≡ before ++ part = split ∙ sym joined in
    is_start (drop at text) start more (ap (λ (t : List ℕ). drop at t) parts ∙ drop_at before part at long)

-- a part needs more bytes than these
pub too_short : (text : List ℕ) → length text ≤ 7 → IsLastPart text
too_short text short at (front, start, more, split, place) =
    let size : length text ≡ length front + length (10 ∷ (start_text start ++ more)) = ap length split ∙ length-append front (10 ∷ (start_text start ++ more)) in
    let inner : length (start_text start ++ more) ≡ length (start_text start) + length more = length-append (start_text start) more in
    let seven : length (start_text start) ≡ 7 = start_size start in
    absurd (omega arith)
  where
    start_size : (start : PartStart) → length (start_text start) ≡ 7
    start_size RaceOne = refl
    start_size RaceTwo = refl
    start_size RecordSpaced = refl
    start_size RecordAlone = refl

-- the line end at this place of a text, and what stands after it
pub record IsLine (text : List ℕ) (at : ℕ) (next : List ℕ) : Type 0 where
  pub none : HasNoEnd text at
  pub inside : at + 1 ≤ length text
  pub cut : text ≡ take at text ++ (10 ∷ next)
  pub line : take (at + 1) text ≡ take at text ++ 10 ∷ []
  pub one : line_count (take (at + 1) text) ≡ 1
  pub left : drop (at + 1) text ≡ next

pub is_line : (text : List ℕ) (at : ℕ) (next : List ℕ) → IsFirstByte (is_byte 10) text (Some at) → next ≡ drop (at + 1) text → IsLine text at next
is_line text at next (first, is) next_is =
    let short : at < length text = first.high in
    let byte : get_or text at 0 ≡ 10 = eqb-true (get_or text at 0) 10 is in
    let more : suc at ≡ at + 1 = omega arith in
    let cut : text ≡ take at text ++ (10 ∷ next) =
    split_at text at 0 short ∙ ap (λ (b : ℕ). take at text ++ (b ∷ drop (suc at) text)) byte ∙ ap (λ (m : ℕ). take at text ++ (10 ∷ drop m text)) more ∙ ap (λ (t : List ℕ). take at text ++ (10 ∷ t)) (sym next_is) in
    let front : List ℕ = take at text ++ 10 ∷ [] in
    let long : length front ≡ at + 1 = let size = length-take-le at text (omega arith) in length-append (take at text) (10 ∷ []) ∙ ap (λ n. n + 1) size in
    let line : take (at + 1) text ≡ front =
    ap (take (at + 1)) (cut ∙ sym (append_assoc (take at text) (10 ∷ []) next)) ∙ take_front front next (at + 1) long in
    let before : line_count (take at text) ≡ 0 = no_lines text at (omega arith) first.before in
    record {
      none = first.before;
      inside = omega arith;
      cut = cut;
      line = line;
      one = ap line_count line ∙ line_count-append (take at text) (10 ∷ []) ∙ ap (λ c. c + 1) before;
      left = sym next_is;
    }
  where
    take_front : (front next : List ℕ) (n : ℕ) → length front ≡ n → take n (front ++ next) ≡ front
    take_front front next n long = take_at front next n long

module _ (text more next : List ℕ) (at : ℕ) (line : IsLine text at next) (long : 7 ≤ length next)
  where
    behind : drop (at + 1) (text ++ more) ≡ next ++ more
    behind = drop-append-le (at + 1) text more line.inside ∙ ap (λ (t : List ℕ). t ++ more) line.left

    -- no part begins after the line end
    pub no_part_there : begins_part next ≡ false → (other : ℕ) → BeginsPart (text ++ more) other → at + 1 + 1 ≤ other
    no_part_there other_line other is =
        let inside = line.inside in
        let past : at + 1 ≤ other = no_part text more at other (omega arith) line.none is in
        let far : at + 1 < other = lt_of_not-le (λ le. here le past) in
        omega arith
      where
        here : other ≤ at + 1 → at + 1 ≤ other → ⊥
        here le past =
            let same : other ≡ at + 1 = omega arith in
            let race : begins_part next ≡ true = sym (start_more next more long) ∙ ap begins_part (sym behind ∙ ap (λ n. drop n (text ++ more)) (sym same)) ∙ part_there (text ++ more) other is in
            true≢false (sym race ∙ other_line)

    -- the next part begins there
    pub part_next : begins_part next ≡ true → IsNextPart (text ++ more) (at + 1)
    part_next race =
        let start = starts next race in
        let inside = line.inside in
        let front : List ℕ = take at text in
        let rest : List ℕ = start.1 ++ more in
        let header : next ++ more ≡ start_text start.0 ++ rest = ap (λ (t : List ℕ). t ++ more) start.2 ∙ append_assoc (start_text start.0) start.1 more in
        let split : text ++ more ≡ front ++ (10 ∷ (start_text start.0 ++ rest)) =
        ap (λ (t : List ℕ). t ++ more) line.cut ∙ append_assoc front (10 ∷ next) more ∙ ap (λ (t : List ℕ). front ++ (10 ∷ t)) header in
        let size : length front ≡ at = length-take-le at text (omega arith) in
        record { begins = (front, start.0, rest, split, ap (λ n. n + 1) (sym size)); first = λ other is. no_part text more at other (omega arith) line.none is }

-- the faults from the next part on are those after bytes in which none begins
pub after_more : (is_broken : Bool) (lines : ℕ) (text : List ℕ) (n : ℕ) (faults : List TextFault) → n ≤ length text → ((other : ℕ) → BeginsPart text other → n + 1 ≤ other)
    → AreFaultsAfter is_broken (lines + line_count (take n text)) (drop n text) faults → AreFaultsAfter is_broken lines text faults
after_more is_broken lines text n faults inside none after = elim after [
  | inl (last, end) ↦ inl (λ at is. last (at - n) (less at (none at is) is), end)
  | inr (at, next, are) ↦
      let one = line_count-append (take n text) (take at (drop n text)) in
      let joined : take (n + at) text ≡ take n text ++ take at (drop n text) = take-add n at text in
      let whole : line_count (take (n + at) text) ≡ line_count (take n text) + line_count (take at (drop n text)) = ap line_count joined ∙ one in
      let lined : lines + line_count (take n text) + line_count (take at (drop n text)) ≡ lines + line_count (take (n + at) text) = omega arith in
      inr (
        n + at,
        record { begins = more at next.begins; first = λ other is. let past = none other is in let first = next.first (other - n) (less other past is) in omega arith },
        subst₂ (λ (m : ℕ) (t : List ℕ). AreFaultsBehind is_broken m t faults) lined (drop-drop at n text) are,
      )
]
  where
    less : (other : ℕ) → n + 1 ≤ other → BeginsPart text other → BeginsPart (drop n text) (other - n)
    less other past (front, start, rest, split, place) =
        let size : length (drop n front) ≡ length front - n = length-drop n front in
        (drop n front, start, rest, ap (drop n) split ∙ drop-append-le n front (10 ∷ (start_text start ++ rest)) (omega arith), omega arith)

    more : (at : ℕ) → BeginsPart (drop n text) at → BeginsPart text (n + at)
    more at (front, start, rest, split, place) =
        let part : List ℕ = 10 ∷ (start_text start ++ rest) in
        let size : length (take n text ++ front) ≡ length (take n text) + length front = length-append (take n text) front in
        let first : length (take n text) ≡ n = length-take-le n text inside in
        (take n text ++ front, start, rest, sym (take-append-drop n text) ∙ ap (λ (t : List ℕ). take n text ++ t) split ∙ sym (append_assoc (take n text) front part), omega arith)
