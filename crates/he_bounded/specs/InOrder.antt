-- Two reads, one after the other.
use Rattle.std.proofs.Common.{◌≡◌, ◌≢◌, ◌⊎◌, ◌≤◌, inl, inr, ℕ, false, List, [], ◌∷◌, ◌++◌, length, take, drop, arith, refl, sym, ◌∙◌, ap, subst, append_assoc}
use Rattle.std.proofs.lemmas.List.{append-nil, drop_all, length-take-le, take-append-drop, take-take}
use Rattle.he_body.specs.declared.body.Body.{Body}
use Rattle.he_body.specs.declared.body.Body.TheVariants.{Left, Size, Digits, Extension, SizeEnd, Data, DataEnd, DataLineEnd, Trailer, Name, Value, ValueEnd, LastEnd, Over, Broken}
use Rattle.he_body.specs.Steps.{Counts, after, is_open, next}
use Rattle.he_body.proofs.Moves.{after-append}
use Rattle.he_bounded.specs.Goes.{Goes}

pub goes_nothing : {R : Type 0} (reads : R → List ℕ → R → Type 0) (r : R) (body : Body) → reads r [] r
    → (dropped : List ℕ) × reads r ([] ++ dropped) r × Goes body [] dropped body
goes_nothing reads r body none = ([], none, record { counted = inl refl; sound = λ not. not; kept = inl refl; shut = λ shut. (refl, shut) })

stays_broken : (octets : List ℕ) → after Broken octets ≡ Broken
stays_broken [] = refl
stays_broken (x ∷ octets) = stays_broken octets

counted : (a b c : Body) (xs ys : List ℕ) → (b ≡ after a xs) ⊎ (b ≡ Broken) → (c ≡ after b ys) ⊎ (c ≡ Broken) → (c ≡ after a (xs ++ ys)) ⊎ (c ≡ Broken)
counted a b c xs ys first (inr broken) = inr broken
counted a b c xs ys (inl first) (inl second) = inl (second ∙ ap (λ body. after body ys) first ∙ sym (after-append a xs ys))
counted a b c xs ys (inr first) (inl second) = inr (second ∙ ap (λ body. after body ys) first ∙ stays_broken ys)

shut : (a b c : Body) (xs ys : List ℕ) → (is_open a ≡ false → (xs ≡ []) × (is_open b ≡ false)) → (is_open b ≡ false → (ys ≡ []) × (is_open c ≡ false))
    → is_open a ≡ false → (xs ++ ys ≡ []) × (is_open c ≡ false)
shut a b c xs ys first second is =
    let one = first is in
    let two = second one.1 in
    (ap (λ t. t ++ ys) one.0 ∙ two.0, two.1)

-- what was read in both, with the dropped octets at the end
regrouped_open : (xs ys d e : List ℕ) → d ≡ [] → (xs ++ d) ++ (ys ++ e) ≡ (xs ++ ys) ++ e
regrouped_open xs ys d e none =
    ap (λ t. (xs ++ t) ++ (ys ++ e)) none ∙ ap (λ t. t ++ (ys ++ e)) (append-nil xs) ∙ sym (append_assoc xs ys e)

regrouped_shut : (xs ys d e : List ℕ) → ys ≡ [] → (xs ++ d) ++ (ys ++ e) ≡ (xs ++ ys) ++ (d ++ e)
regrouped_shut xs ys d e none =
    ap (λ t. (xs ++ d) ++ (t ++ e)) none ∙ append_assoc xs d e ∙ ap (λ t. t ++ (d ++ e)) (sym (append-nil xs) ∙ ap (λ t. xs ++ t) (sym none))

sound_by : (a b : Body) (xs ys : List ℕ) → (b ≡ after a xs) ⊎ (b ≡ Broken) → after a xs ≢ Broken → (b ≢ Broken → after b ys ≢ Broken)
    → (is_open b ≡ false → ys ≡ []) → after a (xs ++ ys) ≢ Broken
sound_by a b xs ys (inl is) first second shut broken =
    second (λ b_broken. first (sym is ∙ b_broken)) (ap (λ body. after body ys) is ∙ sym (after-append a xs ys) ∙ broken)
sound_by a b xs ys (inr is) first second shut broken =
    first (sym (ap (after a) (ap (λ t. xs ++ t) (shut (ap is_open is)) ∙ append-nil xs)) ∙ broken)

sound : {d e : List ℕ} {c : Body} (a b : Body) (xs ys : List ℕ) → Goes a xs d b → Goes b ys e c → a ≢ Broken → after a (xs ++ ys) ≢ Broken
sound a b xs ys first second not =
    sound_by a b xs ys first.counted (first.sound not) second.sound (λ is. (let both = second.shut is in both.0))

goes_on_by : (a b c : Body) (xs ys d e : List ℕ) → Goes a xs d b → Goes b ys e c → (d ≡ []) ⊎ (is_open b ≡ false)
    → (dropped : List ℕ) × ((xs ++ d) ++ (ys ++ e) ≡ (xs ++ ys) ++ dropped) × Goes a (xs ++ ys) dropped c
goes_on_by a b c xs ys d e first second (inl none) = (
  e,
  regrouped_open xs ys d e none,
  record { counted = counted a b c xs ys first.counted second.counted; sound = sound a b xs ys first second; kept = second.kept; shut = shut a b c xs ys first.shut second.shut },
)
goes_on_by a b c xs ys d e first second (inr closed) =
    let after_end = second.shut closed in (
      d ++ e,
      regrouped_shut xs ys d e after_end.0,
      record { counted = counted a b c xs ys first.counted second.counted; sound = sound a b xs ys first second; kept = inr after_end.1; shut = shut a b c xs ys first.shut second.shut },
    )

-- two parts of what a client sends, one after the other
pub goes_on : (a b c : Body) (xs ys d e : List ℕ) → Goes a xs d b → Goes b ys e c
    → (dropped : List ℕ) × ((xs ++ d) ++ (ys ++ e) ≡ (xs ++ ys) ++ dropped) × Goes a (xs ++ ys) dropped c
goes_on a b c xs ys d e first second = goes_on_by a b c xs ys d e first second first.kept

in_order_by : {R : Type 0} (reads : R → List ℕ → R → Type 0) (r t : R) (a c : Body) (xs ys all : List ℕ) → reads r all t
    → ((dropped : List ℕ) × (all ≡ (xs ++ ys) ++ dropped) × Goes a (xs ++ ys) dropped c)
    → (dropped : List ℕ) × reads r ((xs ++ ys) ++ dropped) t × Goes a (xs ++ ys) dropped c
in_order_by reads r t a c xs ys all both on = (on.0, subst (λ octets. reads r octets t) on.1 both, on.2)

-- a write leaves the body unchanged
pub writes_in_turn : {R : Type 0} (writes : R → List ℕ → R → Type 0)
    → ((a : R) (xs : List ℕ) (b : R) (ys : List ℕ) (c : R) → writes a xs b → writes b ys c → writes a (xs ++ ys) c)
    → (r s t : R) (a b c : Body) (xs ys : List ℕ) → writes r xs s × (b ≡ a) → writes s ys t × (c ≡ b)
    → writes r (xs ++ ys) t × (c ≡ a)
writes_in_turn writes order r s t a b c xs ys p q = (order r xs s ys t p.0 q.0, q.1 ∙ p.1)

pub writes_nothing_on : {R : Type 0} (writes : R → List ℕ → R → Type 0) (r : R) (body : Body) → writes r [] r
    → writes r [] r × (body ≡ body)
writes_nothing_on writes r body is = (is, refl)

pub goes_in_order : {R : Type 0} (reads : R → List ℕ → R → Type 0)
    → ((a : R) (xs : List ℕ) (b : R) (ys : List ℕ) (c : R) → reads a xs b → reads b ys c → reads a (xs ++ ys) c)
    → (r s t : R) (a b c : Body) (xs ys : List ℕ)
    → ((dropped : List ℕ) × reads r (xs ++ dropped) s × Goes a xs dropped b)
    → ((dropped : List ℕ) × reads s (ys ++ dropped) t × Goes b ys dropped c)
    → (dropped : List ℕ) × reads r ((xs ++ ys) ++ dropped) t × Goes a (xs ++ ys) dropped c
goes_in_order reads order r s t a b c xs ys p q =
    in_order_by reads r t a c xs ys _ (order r (xs ++ p.0) s (ys ++ q.0) t p.1 q.1) (goes_on a b c xs ys p.0 q.0 p.2 q.2)

closed_next : (body : Body) (x : ℕ) → is_open body ≡ false → next body x ≡ Broken
closed_next Over x is = refl
closed_next Broken x is = refl
closed_next (Left left) x is = cc
closed_next Size x is = cc
closed_next (Digits size) x is = cc
closed_next (Extension size) x is = cc
closed_next (SizeEnd size) x is = cc
closed_next (Data left) x is = cc
closed_next DataEnd x is = cc
closed_next DataLineEnd x is = cc
closed_next Trailer x is = cc
closed_next Name x is = cc
closed_next Value x is = cc
closed_next ValueEnd x is = cc
closed_next LastEnd x is = cc

-- what is taken of what was read
shut_by : (old new : Body) (piece : List ℕ) → new ≡ after old piece → new ≢ Broken → is_open old ≡ false → (piece ≡ []) × (is_open new ≡ false)
shut_by old new [] moved sound is = (refl, ap is_open moved ∙ is)
shut_by old new (x ∷ piece) moved sound is =
    absurd (sound (moved ∙ ap (λ body. after body piece) (closed_next old x is) ∙ stays_broken piece))

kept_by : (piece : List ℕ) (count : ℕ) (new : Body) → (count ≡ length piece) ⊎ (new ≡ Over) → (drop count piece ≡ []) ⊎ (is_open new ≡ false)
kept_by piece count new (inl all) = inl (drop_all count piece (omega arith))
kept_by piece count new (inr over) = inr (ap is_open over)

-- the octets that are counted go on, and the rest is dropped
pub goes_counted : (old new : Body) (piece : List ℕ) (count : ℕ) → Counts old piece new count
    → Goes old (take count piece) (drop count piece) new
goes_counted old new piece count counts = record {
  counted = inl counts.moved;
  sound = λ not broken. counts.sound (counts.moved ∙ broken);
  kept = kept_by piece count new counts.stops;
  shut = λ is. shut_by old new (take count piece) counts.moved counts.sound is;
}

pub goes_taken : {R : Type 0} (reads : R → List ℕ → R → Type 0) (r s : R) (old new : Body) (room : List ℕ) (read count : ℕ)
    → reads r (take read room) s → Counts old (take read room) new count → read ≤ length room
    → (dropped : List ℕ) × reads r (take count room ++ dropped) s × Goes old (take count room) dropped new
goes_taken reads r s old new room read count both counts within =
    let piece : List ℕ = take read room in
    let len : length piece ≡ read = length-take-le read room within in
    let few : count ≤ read = (let most = counts.most in omega arith) in
    let front : take count piece ≡ take count room = take-take count read room few in
    let parts : piece ≡ take count room ++ drop count piece = sym (take-append-drop count piece) ∙ ap (λ t. t ++ drop count piece) front in (
      drop count piece,
      subst (λ octets. reads r octets s) parts both,
      record {
        counted = inl (counts.moved ∙ ap (after old) front);
        sound = λ not broken. counts.sound (counts.moved ∙ ap (after old) front ∙ broken);
        kept = kept_by piece count new counts.stops;
        shut = λ is. let both = shut_by old new (take count piece) counts.moved counts.sound is in (sym front ∙ both.0, both.1);
      },
    )
