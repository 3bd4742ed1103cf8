-- What a cache holds after an answer was kept.
use Rattle.std.proofs.Common.{◌≡◌, ◌⊎◌, ◌≢◌, ℕ, true, false, List, [], ◌∷◌, Option, Some, None, map, refl, sym, ◌∙◌, ap, subst, inl, inr, arith, string_bytes}
use Rattle.std.specs.Prelude.{Result, Ok, Err, OnOk, OnErr}
use Rattle.std.specs.Char.{to_ascii_lowercase}
use Rattle.std.specs.List.{Contains}
use Rattle.std.specs.Str.{bytes_eq}
use Rattle.std.proofs.lemmas.Option.{none-some}
use Rattle.std.proofs.lemmas.Slice.Eq.{bytes_eq-Decides}
use Rattle.std.proofs.lemmas.List.Elements.{Contains-append_right}
use Rattle.he_addr.specs.declared.ip.Family.{Family}
use Rattle.he_addr.specs.declared.ip.Family.TheVariants.{V4, V6}
use Rattle.he_cache.specs.Keeping.{is_same, kept_of, seconds_for}
use Rattle.he_cache.specs.declared.cache.AnswerCache.{AnswerCache}
use Rattle.he_cache.specs.declared.cache.Kept.{Kept}
use Rattle.he_kept.specs.Own.{IsOwn, IsPlaced}
use Rattle.he_kept.specs.declared.answer.KeptAnswer.{KeptAnswer}

pub later : {X : Type 0} (first : X) (past : List X) (x : X) → Contains past x → Contains (first ∷ past) x
later first past x has_it = Contains-append_right (first ∷ []) past x has_it

pub now_first : {X : Type 0} (first : X) (past : List X) → Contains (first ∷ past) first
now_first first past = (0, omega arith, refl)

-- both are IPv4 or IPv6
same_family : (family other : Family) → (family ≡ other) ⊎ (family ≢ other)
same_family V4 V4 = inl refl
same_family V6 V6 = inl refl
same_family V4 V6 = inr (λ is. cc)
same_family V6 V4 = inr (λ is. cc)

module _ {V : Type 0} where
  same_host : (cache : AnswerCache V) (host other : List ℕ) (family : Family) → is_same host other ≡ true
      → kept_of cache other family ≡ kept_of cache host family
  same_host cache host other V6 same = rw ((bytes_eq-Decides (map to_ascii_lowercase host) (map to_ascii_lowercase other)).0 same) refl
  same_host cache host other V4 same = rw ((bytes_eq-Decides (map to_ascii_lowercase host) (map to_ascii_lowercase other)).0 same) refl

  same_kept : (kept put : Kept V) (found : Option (Kept V)) → found ≡ Some kept → found ≡ Some put → kept ≡ put
  same_kept kept put found one two = cc

  of_family : (old new : AnswerCache V) (host : List ℕ) (family : Family) (put : Kept V)
      → kept_of new host family ≡ Some put
      → ((other : List ℕ) → is_same host other ≡ false
      → (kept_of new other family ≡ kept_of old other family) ⊎ (kept_of new other family ≡ None))
      → (wanted : List ℕ) (kept : Kept V) → kept_of new wanted family ≡ Some kept
      → ((is_same host wanted ≡ true) × (kept ≡ put)) ⊎ (kept_of old wanted family ≡ Some kept)
  of_family old new host family put is others wanted kept found =
      (elim (is_same host wanted) as (λ b. is_same host wanted ≡ b
      → ((is_same host wanted ≡ true) × (kept ≡ put)) ⊎ (kept_of old wanted family ≡ Some kept)) [
        | true ↦ λ same. inl (same, same_kept kept put (kept_of new host family) (sym (same_host new host wanted family same) ∙ found) is)
        | false ↦ λ apart. elim (others wanted apart) [
          | inl stays ↦ inr (sym stays ∙ found)
          | inr gone ↦ absurd (none-some kept (sym gone ∙ found))
        ]
      ]) refl

  -- what is found then is what was put, or it was there before
  pub after : (old new : AnswerCache V) (host : List ℕ) (family : Family) (put : Kept V)
      → kept_of new host family ≡ Some put
      → ((other : List ℕ) → is_same host other ≡ false
      → (kept_of new other family ≡ kept_of old other family) ⊎ (kept_of new other family ≡ None))
      → ((other : Family) → other ≢ family → (any : List ℕ) → kept_of new any other ≡ kept_of old any other)
      → (wanted : List ℕ) (f : Family) (kept : Kept V) → kept_of new wanted f ≡ Some kept
      → ((is_same host wanted ≡ true) × (family ≡ f) × (kept ≡ put)) ⊎ (kept_of old wanted f ≡ Some kept)
  after old new host family put is others families wanted f kept found = elim (same_family f family) [
    | inl same ↦
        elim (of_family old new host family put is others wanted kept (subst (λ x. kept_of new wanted x ≡ Some kept) same found)) [
          | inl put_now ↦ inl (put_now.0, sym same, put_now.1)
          | inr before ↦ inr (subst (λ x. kept_of old wanted x ≡ Some kept) (sym same) before)
        ]
    | inr apart ↦ inr (sym (families f apart wanted) ∙ found)
  ]

-- how an answer is kept
abbrev pub put_of : KeptAnswer → Kept KeptAnswer
put_of answer = record { answer = answer; at = answer.life.at; seconds = seconds_for answer.life.ttl }

-- all that it holds was kept
abbrev IsOfPast : List KeptAnswer → AnswerCache KeptAnswer → Type 0
IsOfPast past cache =
    (host : List ℕ) → (family : Family) → (kept : Kept KeptAnswer) → kept_of cache host family ≡ Some kept
    → Contains past kept.answer

module _ (old new : AnswerCache KeptAnswer) (answer : KeptAnswer) (host : List ℕ)
    (its : host ≡ string_bytes answer.question.host)
    (others : (other : List ℕ) → is_same host other ≡ false
    → (kept_of new other answer.question.family ≡ kept_of old other answer.question.family)
    ⊎ (kept_of new other answer.question.family ≡ None))
    (families : (other : Family) → other ≢ answer.question.family → (any : List ℕ)
    → kept_of new any other ≡ kept_of old any other) where
  pub own_kept : {X E : Type 0} (r : Result X E) → OnOk r (kept_of new host answer.question.family ≡ Some (put_of answer))
      → OnErr r (new ≡ old) → IsOwn old → IsOwn new
  own_kept (Ok done) is same own = λ wanted f kept found.
      elim (after old new host answer.question.family (put_of answer) is others families wanted f kept found) [
        | inl put ↦ subst (λ k. IsPlaced k wanted f) (sym put.2)
            ((subst (λ h. is_same h wanted ≡ true) its put.0, put.1), refl, refl)
        | inr before ↦ own wanted f kept before
      ]
  own_kept (Err fault) is same own = subst IsOwn (sym same) own

  pub explains_kept : {X E : Type 0} (r : Result X E)
      → OnOk r (kept_of new host answer.question.family ≡ Some (put_of answer)) → OnErr r (new ≡ old)
      → (past : List KeptAnswer) → IsOfPast past old → IsOfPast (answer ∷ past) new
  explains_kept (Ok done) is same past so = λ wanted f kept found.
      elim (after old new host answer.question.family (put_of answer) is others families wanted f kept found) [
        | inl put ↦ subst (λ (k : Kept KeptAnswer). Contains (answer ∷ past) k.answer) (sym put.2) (now_first answer past)
        | inr before ↦ later answer past kept.answer (so wanted f kept before)
      ]
  explains_kept (Err fault) is same past so = λ wanted f kept found.
      later answer past kept.answer (so wanted f kept (subst (λ c. kept_of c wanted f ≡ Some kept) same found))
