-- What the families of a host wait for, together.
use Rattle.std.proofs.Common.{◌≡◌, ◌⊎◌, ℕ, Bool, true, false, ◌&&◌, not, is_some, refl, sym, ◌∙◌, subst, inl, inr}
use Rattle.std.specs.Prelude.{⊤}
use Rattle.futures.specs.Task.{Covers, Hears, IsArmed, Keeps, Lasting}
use Rattle.futures.specs.declared.task.context.Context.{Context}
use Rattle.he_resolver.specs.declared.family_lookup.FamilyLookup.{FamilyLookup}
use Rattle.he_addr.specs.declared.ip.Family.{Family}
use Rattle.he_addr.specs.declared.ip.Family.TheVariants as families
use Rattle.he_resolver.specs.declared.gathering.Gathering.{Gathering}
use Rattle.he_resolver.specs.declared.resolver.Resolver.{Resolver}
use Rattle.he_resolver.specs.Needs.{IsHeard, IsTold, Listens, family_needs, gathering_needs, is_settled, lookup_needs, names_needs, other_of, resolver_needs, told_of}

pub covers_kept : (old new : Context) (needs : ℕ → Type 0) → Keeps old new → Covers old needs → Covers new needs
covers_kept old new needs keeps h = (keeps Lasting.armed h.0, λ s n. keeps (Lasting.hears s) (h.1 s n))

pub listens_kept : (old new : Context) (asking : FamilyLookup) → Keeps old new → Listens old asking → Listens new asking
listens_kept old new asking keeps (inl told) = inl told
listens_kept old new asking keeps (inr covers) = inr (covers_kept old new (family_needs asking) keeps covers)

-- what is told waits for nothing
told_needs : (asking : FamilyLookup) (s : ℕ) → IsTold asking → family_needs asking s → ⊥
unfolding family_needs
told_needs asking s told n = let e : true ≡ false = sym told ∙ n.0 in cc

pub names_wait : (cx : Context) (six four : FamilyLookup) → Listens cx six → Listens cx four → (is_some six.told && is_some four.told) ≡ false
    → Covers cx (λ s. family_needs six s ⊎ family_needs four s)
names_wait cx six four (inl a) (inl b) some = let e : (is_some six.told && is_some four.told) ≡ true = rw (a, b) refl in cc
names_wait cx six four (inl a) (inr b) some = (b.0, λ s n. elim n [ inl x ↦ absurd (told_needs six s a x) | inr y ↦ b.1 s y ])
names_wait cx six four (inr a) (inl b) some = (a.0, λ s n. elim n [ inl x ↦ a.1 s x | inr y ↦ absurd (told_needs four s b y) ])
names_wait cx six four (inr a) (inr b) some = (a.0, λ s n. elim n [ inl x ↦ a.1 s x | inr y ↦ b.1 s y ])

-- whether it is settled changes nothing that is waited for
settled_needs : (asking : FamilyLookup) (settled : Bool) (s : ℕ) → family_needs (record asking { is_settled = settled }) s → family_needs asking s
unfolding family_needs
settled_needs asking settled s n = n

same_needs : (old new : FamilyLookup) (s : ℕ) → new ≡ record old { is_settled = new.is_settled } → family_needs new s → family_needs old s
same_needs old new s same n = settled_needs old new.is_settled s (subst (λ (a : FamilyLookup). family_needs a s) same n)

-- a poll for one family leaves the other one waiting for all that it needs, or woken where it is settled now what it
-- is told
pub other_waits : {R : Type 0} (cx cx1 cx2 : Context) (old mid new : Resolver R) (family : Family) (ready : Bool)
    → (ready ≡ false → Covers cx1 (names_needs mid)) → (ready ≡ true → (f : Family) → is_settled new f ≡ true)
    → new.v6 ≡ record mid.v6 { is_settled = new.v6.is_settled } → new.v4 ≡ record mid.v4 { is_settled = new.v4.is_settled }
    → ((is_settled new family && not (is_settled old family)) ≡ true → Covers cx2 (λ _. ⊤)) → Keeps cx cx1 → Keeps cx1 cx2
    → Covers cx (resolver_needs old family) → Covers cx2 (resolver_needs new family)
other_waits cx cx1 cx2 old mid new family ready pending over six four woken first second before =
    by_settled (is_settled new family) refl (is_settled old family) refl
  where
    back : (s : ℕ) → names_needs new s → names_needs mid s
    back s (inl n) = inl (same_needs mid.v6 new.v6 s six n)
    back s (inr n) = inr (same_needs mid.v4 new.v4 s four n)

    by_ready : (r : Bool) → ready ≡ r → is_settled new family ≡ false → Covers cx2 (resolver_needs new family)
    by_ready true r e = let no : true ≡ false = sym (over r family) ∙ e in cc
    by_ready false r e =
        let waits = pending r in (
          second Lasting.armed waits.0,
          λ s n. elim n [
            | inl settled ↦ (let no : true ≡ false = sym settled ∙ e in cc)
            | inr names ↦ second (Lasting.hears s) (waits.1 s (back s names))
          ],
        )

    by_settled : (is : Bool) → is_settled new family ≡ is → (was : Bool) → is_settled old family ≡ was → Covers cx2 (resolver_needs new family)
    by_settled true e true w =
        (second Lasting.armed (first Lasting.armed before.0), λ s n. second (Lasting.hears s) (first (Lasting.hears s) (before.1 s (inl w))))
    by_settled true e false w = let all = woken (rw (e, w) refl) in (all.0, λ s n. all.1 s tt)
    by_settled false e was w = by_ready ready refl e

-- a family that is not this one is the other one
pub is_other : (family other : Family) → (other ≡ family → ⊥) → other ≡ other_of family
is_other families.V6 families.V6 distinct = absurd (distinct refl)
is_other families.V6 families.V4 distinct = refl
is_other families.V4 families.V6 distinct = refl
is_other families.V4 families.V4 distinct = absurd (distinct refl)

-- a look-up of which one family is not told has registered for all that it waits for
pub gathering_waits : {R : Type 0} (cx : Context) (gathering : Gathering R) → ((family : Family) → IsHeard cx gathering family)
    → (is_some (told_of gathering families.V6) && is_some (told_of gathering families.V4)) ≡ false → Covers cx (gathering_needs gathering)
gathering_waits cx gathering heard still = (armed (heard families.V6) (heard families.V4), λ s n. own n.0 s n.1 n.2 (heard n.0))
  where
    own : (family : Family) (s : ℕ) → is_some (told_of gathering family) ≡ false → lookup_needs gathering.lookup family s → IsHeard cx gathering family → Hears cx s
    own family s none needs (inl told) = let no : true ≡ false = sym told ∙ none in cc
    own family s none needs (inr covers) = covers.1 s needs

    armed : IsHeard cx gathering families.V6 → IsHeard cx gathering families.V4 → IsArmed cx
    armed (inr covers) four = covers.0
    armed (inl told) (inr covers) = covers.0
    armed (inl told) (inl other) = let no : (is_some gathering.v6 && is_some gathering.v4) ≡ true = rw (told, other) refl in cc

pub both_heard : {R : Type 0} (cx : Context) (gathering : Gathering R) → IsHeard cx gathering families.V6 → IsHeard cx gathering families.V4
    → (family : Family) → IsHeard cx gathering family
both_heard cx gathering six four families.V6 = six
both_heard cx gathering six four families.V4 = four

pub same_six : {R : Type 0} (old new : Gathering R) → new.v6 ≡ old.v6 → (other : Family) → (other ≡ families.V4 → ⊥) → told_of new other ≡ told_of old other
same_six old new same families.V6 distinct = same
same_six old new same families.V4 distinct = absurd (distinct refl)

pub same_four : {R : Type 0} (old new : Gathering R) → new.v4 ≡ old.v4 → (other : Family) → (other ≡ families.V6 → ⊥) → told_of new other ≡ told_of old other
same_four old new same families.V6 distinct = absurd (distinct refl)
same_four old new same families.V4 distinct = same

-- a poll for one family leaves the other one heard
pub other_heard : {R : Type 0} (cx cx' : Context) (old new : Gathering R) (family : Family)
    → ((other : Family) → (other ≡ family → ⊥) → Covers cx (lookup_needs old.lookup other) → Covers cx' (lookup_needs new.lookup other))
    → ((other : Family) → (other ≡ family → ⊥) → told_of new other ≡ told_of old other)
    → (other : Family) → (other ≡ family → ⊥) → IsHeard cx old other → IsHeard cx' new other
other_heard cx cx' old new family waits same other distinct (inl told) =
    inl (subst (λ o. is_some o ≡ true) (sym (same other distinct)) told)
other_heard cx cx' old new family waits same other distinct (inr covers) = inr (waits other distinct covers)
