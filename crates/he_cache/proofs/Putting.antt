-- What is found of a host after an answer of another was put.
use Rattle.std.proofs.Common.{◌≡◌, ◌⊎◌, ◌<◌, ◌≤◌, ℕ, length, arith, zero, suc, Bool, true, false, cond, List, [], ◌∷◌, Option, Some, None, take, ◌-◌, nat_eq, refl, sym, ◌∙◌, ap, inl, inr}
use Rattle.std.specs.Map.{lookup, lookup_entry, remove_entry}
use Rattle.std.specs.Cmp.{nat_eq_equiv}
use Rattle.std.specs.Cmp.Lexicographic.{nat_list_eq_equiv, pointwise}
use Rattle.std.specs.Option.{option_map_or}
use Rattle.lru.specs.LruCache.{LruCache, put_entries}
use Rattle.lru.proofs.CallerLemmas.{Contains-lookup_entry}

module _ {K V : Type 0} where
  -- of the first of some entries one is found as among all, or none
  among_first : (test : K → Bool) (n : ℕ) (es : List (K × V)) → (lookup test (take n es) ≡ lookup test es) ⊎ (lookup test (take n es) ≡ None)
  among_first test zero es = inr refl
  among_first test (suc n) [] = inl refl
  among_first test (suc n) (e ∷ es) = (elim (test e.0) as (λ b. test e.0 ≡ b → (lookup test (take (suc n) (e ∷ es)) ≡ lookup test (e ∷ es)) ⊎ (lookup test (take (suc n) (e ∷ es)) ≡ None)) [
    | true ↦ λ t. inl (rw t refl)
    | false ↦ λ t. rw t (among_first test n es)
  ]) refl

  -- an entry of another key is found as before
  kept_apart : (test other : K → Bool) → ((k : K) → test k ≡ true → other k ≡ false) → (es : List (K × V))
      → lookup other (remove_entry test es) ≡ lookup other es
  kept_apart test other apart [] = refl
  kept_apart test other apart (e ∷ es) = (elim (test e.0) as (λ b. test e.0 ≡ b → lookup other (remove_entry test (e ∷ es)) ≡ lookup other (e ∷ es)) [
    | true ↦ λ t. rw (t, apart e.0 t) refl
    | false ↦ λ t. rw t (ap (λ o. cond (other e.0) (Some e.1) o) (kept_apart test other apart es))
  ]) refl

  by_found : (eq : K → K → Bool) (c : LruCache K V) (k : K) (v : V) (other : K → Bool) (n : ℕ) → other k ≡ false
      → ((j : K) → eq k j ≡ true → other j ≡ false) → (o : Option (K × V)) → lookup_entry (eq k) c.entries ≡ o
      → (lookup other (option_map_or (λ e. (e.0, v) ∷ remove_entry (eq k) c.entries) o ((k, v) ∷ take n c.entries)) ≡ lookup other c.entries)
      ⊎ (lookup other (option_map_or (λ e. (e.0, v) ∷ remove_entry (eq k) c.entries) o ((k, v) ∷ take n c.entries)) ≡ None)
  by_found eq c k v other n own apart None h = rw own (among_first other n c.entries)
  by_found eq c k v other n own apart (Some f) h =
      let is : other f.0 ≡ false = apart f.0 (Contains-lookup_entry (eq k) c.entries f h).1 in
      rw is (inl (kept_apart (eq k) other apart c.entries))

  -- an answer of another host is found as before, or was forgotten
  pub put_apart : (eq : K → K → Bool) (c : LruCache K V) (k : K) (v : V) (other : K → Bool) → other k ≡ false
      → ((j : K) → eq k j ≡ true → other j ≡ false)
      → (lookup other (put_entries eq c k v) ≡ lookup other c.entries) ⊎ (lookup other (put_entries eq c k v) ≡ None)
  put_apart eq c k v other own apart = by_found eq c k v other (c.cap - 1) own apart (lookup_entry (eq k) c.entries) refl

  -- of at most so many entries the first are all
  among_all : (test : K → Bool) (n : ℕ) (es : List (K × V)) → length es ≤ n → lookup test (take n es) ≡ lookup test es
  among_all test zero [] few = refl
  among_all test zero (e ∷ es) few = absurd (omega arith)
  among_all test (suc n) [] few = refl
  among_all test (suc n) (e ∷ es) few =
      ap (λ o. cond (test e.0) (Some e.1) o) (among_all test n es (omega arith))

  by_found_below : (eq : K → K → Bool) (c : LruCache K V) (k : K) (v : V) (other : K → Bool) (n : ℕ) → other k ≡ false
      → length c.entries ≤ n
      → ((j : K) → eq k j ≡ true → other j ≡ false) → (o : Option (K × V)) → lookup_entry (eq k) c.entries ≡ o
      → lookup other (option_map_or (λ e. (e.0, v) ∷ remove_entry (eq k) c.entries) o ((k, v) ∷ take n c.entries)) ≡ lookup other c.entries
  by_found_below eq c k v other n own few apart None h = rw own (among_all other n c.entries few)
  by_found_below eq c k v other n own few apart (Some f) h =
      let is : other f.0 ≡ false = apart f.0 (Contains-lookup_entry (eq k) c.entries f h).1 in
      rw is (kept_apart (eq k) other apart c.entries)

  -- below the cap an answer of another host is found as before
  pub put_below : (eq : K → K → Bool) (c : LruCache K V) (k : K) (v : V) (other : K → Bool) → length c.entries < c.cap
      → other k ≡ false → ((j : K) → eq k j ≡ true → other j ≡ false)
      → lookup other (put_entries eq c k v) ≡ lookup other c.entries
  put_below eq c k v other few own apart =
      by_found_below eq c k v other (c.cap - 1) own (omega arith) apart (lookup_entry (eq k) c.entries) refl

-- a host that is not this one is none that is the same as this one
pub other_bytes : (host other same : List ℕ) → pointwise nat_eq host other ≡ false → pointwise nat_eq host same ≡ true → pointwise nat_eq other same ≡ false
other_bytes host other same apart is =
    nat_list_eq_equiv.symm other same ∙ sym (nat_list_eq_equiv.congr host same other is) ∙ apart

pub not_itself : (host other : List ℕ) → pointwise nat_eq host other ≡ false → pointwise nat_eq other host ≡ false
not_itself host other apart = nat_list_eq_equiv.symm other host ∙ apart

-- a number that is not this one is none that is the same as this one
pub other_number : (own other same : ℕ) → nat_eq other own ≡ false → nat_eq own same ≡ true → nat_eq other same ≡ false
other_number own other same apart is =
    nat_eq_equiv.symm other same ∙ sym (nat_eq_equiv.congr own same other is) ∙ (nat_eq_equiv.symm own other ∙ apart)
