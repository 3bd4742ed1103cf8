-- The records that are read from a message are those that stand there, and the other way round; likewise what they
-- say.
use Rattle.std.proofs.Common.{◌≡◌, ℕ, zero, suc, ◌+◌, ◌<◌, ◌≤◌, Bool, true, false, cond, ltb, eqb, List, [], ◌∷◌, Option, Some, None, length, slice_range, refl, sym, ◌∙◌, ap, subst, arith, inl, inr}
use Rattle.std.specs.Int.{w32, w128, from_be_bytes}
use Rattle.std.specs.Option.{option_map}
use Rattle.std.proofs.lemmas.Bool.{ltb-false, eqb-true, eqb-false, eq-eqb, ne_eqb, le-ltb}
use Rattle.he_addr.specs.declared.ip.Family.{Family}
use Rattle.he_addr.specs.declared.ip.Family.TheVariants as families
use Rattle.he_addr.specs.declared.ip.Ip.{Ip}
use Rattle.he_addr.specs.declared.ip.Ip.TheVariants.{V4, V6}
use Rattle.he_dns.specs.declared.entries.Content.{Content}
use Rattle.he_dns.specs.declared.entries.Content.TheVariants.{Alias, Address, Other}
use Rattle.he_dns.specs.declared.entries.Entry.{Entry}
use Rattle.he_dns.specs.declared.records.Record.{Record}
use Rattle.he_dns.specs.Names.{IsNameAt}
use Rattle.he_dns.specs.Numbers.{type_of}
use Rattle.he_dns.specs.Reading.{address_of, alias_at, content_of, entries_from, entry_at, record_at}
use Rattle.he_dns.specs.Records.{AreEntries, IsAddress, IsEntryAt, IsRecordAt, Says, record_end}
use Rattle.he_dns.proofs.NameLaws.{name_found, name_stands}
use Rattle.he_dns.proofs.Numerals.{allowed, bind_some, not_refused, octet_found, octet_stands, some_same, ttl_found, ttl_stands, word_found, word_stands}

pub record_stands : (m : List ℕ) (at : ℕ) (r : Record) → record_at m at ≡ Some r → IsRecordAt m at r
unfolding record_at
record_stands m at r h =
    let name = bind_some _ _ r h in
    let kind = bind_some _ _ r name.2 in
    let class = bind_some _ _ r kind.2 in
    let ttl = bind_some _ _ r class.2 in
    let ttl_first = bind_some _ _ r ttl.2 in
    let size = bind_some _ _ r ttl_first.2 in
    let made : Record = record { owner = name.0.0; kind = kind.0; class = class.0; ttl = ttl.0; ttl_first = ttl_first.0; place = name.0.1 + 10; size = size.0 } in
    let within = not_refused (ltb (length m) (name.0.1 + 10 + size.0)) (Some made) r size.2 in
    subst (λ (x : Record). IsRecordAt m at x) (some_same made r within.1) (record {
      after = name.0.1;
      owner = name_stands m at name.0.0 name.0.1 name.1;
      kind = word_stands m name.0.1 kind.0 kind.1;
      class = word_stands m (name.0.1 + 2) class.0 class.1;
      ttl = ttl_stands m (name.0.1 + 4) ttl.0 ttl.1;
      ttl_first = sym (octet_stands m (name.0.1 + 4) ttl_first.0 ttl_first.1).1;
      size = word_stands m (name.0.1 + 8) size.0 size.1;
      place = refl;
      within = ltb-false (length m) (name.0.1 + 10 + size.0) within.0;
    })

pub record_found : (m : List ℕ) (at : ℕ) (r : Record) → IsRecordAt m at r → record_at m at ≡ Some r
unfolding record_at
record_found m at r is =
    let name = name_found m at r.owner is.after is.owner in
    let kind = word_found m is.after r.kind is.kind in
    let class = word_found m (is.after + 2) r.class is.class in
    let ttl = ttl_found m (is.after + 4) r.ttl is.ttl in
    let inside : is.after + 4 < length m = omega (arith, is.ttl.high_word.within) in
    let ttl_first = octet_found m (is.after + 4) inside ∙ ap Some (sym is.ttl_first) in
    let size = word_found m (is.after + 8) r.size is.size in
    let fits : is.after + 10 + r.size ≤ length m = omega (arith, is.place, is.within) in
    let within = le-ltb (length m) (is.after + 10 + r.size) fits in
    rw (name, kind, class, ttl, ttl_first, size, within) (ap (λ (place : ℕ). Some (record r { place = place })) (sym is.place))

-- the data of an alias, and of an address
alias_stands : (m : List ℕ) (place size : ℕ) (content : Content) → alias_at m place size ≡ Some content
    → (target : List ℕ) × (content ≡ Alias target) × IsNameAt m place target (place + size)
unfolding alias_at
alias_stands m place size content h =
    let name = bind_some _ _ content h in
    let ends = allowed (eqb name.0.1 (place + size)) (Some (Alias name.0.0)) content name.2 in (
      name.0.0,
      sym (some_same (Alias name.0.0) content ends.1),
      subst (λ (end : ℕ). IsNameAt m place name.0.0 end) (eqb-true name.0.1 (place + size) ends.0) (name_stands m place name.0.0 name.0.1 name.1),
    )

alias_found : (m : List ℕ) (place size : ℕ) (target : List ℕ) → IsNameAt m place target (place + size) → alias_at m place size ≡ Some (Alias target)
unfolding alias_at
alias_found m place size target is =
    let name = name_found m place target (place + size) is in
    let ends = eq-eqb (place + size) (place + size) refl in
    rw (name, ends) refl

address_stands : (octets : List ℕ) (family : Family) (content : Content) → address_of octets family ≡ Some content
    → (ip : Ip) × (content ≡ Address ip) × IsAddress family octets ip
unfolding address_of
address_stands octets families.V4 content h =
    let a = allowed (eqb (length octets) 4) (Some (Address (V4 (from_be_bytes w32 octets)))) content h in
    (V4 (from_be_bytes w32 octets), sym (some_same (Address (V4 (from_be_bytes w32 octets))) content a.1), (eqb-true (length octets) 4 a.0, refl))
address_stands octets families.V6 content h =
    let a = allowed (eqb (length octets) 16) (Some (Address (V6 (from_be_bytes w128 octets)))) content h in
    (V6 (from_be_bytes w128 octets), sym (some_same (Address (V6 (from_be_bytes w128 octets))) content a.1), (eqb-true (length octets) 16 a.0, refl))

address_found : (octets : List ℕ) (family : Family) (ip : Ip) → IsAddress family octets ip → address_of octets family ≡ Some (Address ip)
unfolding address_of
address_found octets families.V4 (V4 n) (len, is) = rw (eq-eqb (length octets) 4 len) (ap (λ (k : ℕ). Some (Address (V4 k))) (sym is))
address_found octets families.V4 (V6 n) is = absurd is
address_found octets families.V6 (V4 n) is = absurd is
address_found octets families.V6 (V6 n) (len, is) = rw (eq-eqb (length octets) 16 len) (ap (λ (k : ℕ). Some (Address (V6 k))) (sym is))

-- what a record says, by the tests of its class and type
by_kind : (m : List ℕ) (family : Family) (r : Record) (content : Content) (z k t : Bool) → eqb r.class 1 ≡ z → eqb r.kind 5 ≡ k → eqb r.kind (type_of family) ≡ t
    → cond z (cond k (alias_at m r.place r.size) (cond t (address_of (slice_range m r.place (r.place + r.size)) family) (Some Other))) (Some Other) ≡ Some content
    → Says m family r content
by_kind m family r content true true t hz hk ht h =
    let a = alias_stands m r.place r.size content h in
    subst (λ (x : Content). Says m family r x) (sym a.1) (eqb-true r.class 1 hz, eqb-true r.kind 5 hk, a.2)
by_kind m family r content true false true hz hk ht h =
    let a = address_stands (slice_range m r.place (r.place + r.size)) family content h in
    subst (λ (x : Content). Says m family r x) (sym a.1) (eqb-true r.class 1 hz, eqb-true r.kind (type_of family) ht, a.2)
by_kind m family r content true false false hz hk ht h =
    subst (λ (x : Content). Says m family r x) (some_same Other content h)
    (λ c e. elim e [ inl alias ↦ eqb-false r.kind 5 hk alias | inr address ↦ eqb-false r.kind (type_of family) ht address ])
by_kind m family r content false k t hz hk ht h =
    subst (λ (x : Content). Says m family r x) (some_same Other content h) (λ c e. eqb-false r.class 1 hz c)

content_stands : (m : List ℕ) (family : Family) (r : Record) (content : Content) → content_of m family r ≡ Some content → Says m family r content
unfolding content_of
content_stands m family r content h = by_kind m family r content (eqb r.class 1) (eqb r.kind 5) (eqb r.kind (type_of family)) refl refl refl h

no_alias : (family : Family) (kind : ℕ) → kind ≡ type_of family → eqb kind 5 ≡ false
no_alias families.V4 kind h = ne_eqb kind 5 (λ e. absurd (omega arith))
no_alias families.V6 kind h = ne_eqb kind 5 (λ e. absurd (omega arith))

nothing_said : (m : List ℕ) (family : Family) (r : Record) (z k t : Bool) → eqb r.class 1 ≡ z → eqb r.kind 5 ≡ k → eqb r.kind (type_of family) ≡ t → Says m family r Other
    → cond z (cond k (alias_at m r.place r.size) (cond t (address_of (slice_range m r.place (r.place + r.size)) family) (Some Other))) (Some Other) ≡ Some Other
nothing_said m family r true true t hz hk ht says = absurd (says (eqb-true r.class 1 hz) (inl (eqb-true r.kind 5 hk)))
nothing_said m family r true false true hz hk ht says = absurd (says (eqb-true r.class 1 hz) (inr (eqb-true r.kind (type_of family) ht)))
nothing_said m family r true false false hz hk ht says = refl
nothing_said m family r false k t hz hk ht says = refl

content_found : (m : List ℕ) (family : Family) (r : Record) (content : Content) → Says m family r content → content_of m family r ≡ Some content
unfolding content_of
content_found m family r (Alias target) (class, kind, is) = rw (eq-eqb r.class 1 class, eq-eqb r.kind 5 kind) (alias_found m r.place r.size target is)
content_found m family r (Address ip) (class, kind, is) =
    rw (eq-eqb r.class 1 class, no_alias family r.kind kind, eq-eqb r.kind (type_of family) kind) (address_found (slice_range m r.place (r.place + r.size)) family ip is)
content_found m family r Other says = nothing_said m family r (eqb r.class 1) (eqb r.kind 5) (eqb r.kind (type_of family)) refl refl refl says

entry_stands : (m : List ℕ) (family : Family) (at : ℕ) (found : Entry × ℕ) → entry_at m family at ≡ Some found → IsEntryAt m family at found.0 found.1
unfolding entry_at
entry_stands m family at found h =
    let source = bind_some _ _ found h in
    let content = bind_some _ _ found source.2 in
    let made : Entry × ℕ = (record { owner = source.0.owner; ttl = source.0.ttl; content = content.0 }, source.0.place + source.0.size) in
    subst (λ (x : Entry × ℕ). IsEntryAt m family at x.0 x.1) (some_same made found content.2) (record {
      source = source.0;
      stands = record_stands m at source.0 source.1;
      owner = refl;
      ttl = refl;
      says = content_stands m family source.0 content.0 content.1;
      ends = refl;
    })

entry_found : (m : List ℕ) (family : Family) (at : ℕ) (entry : Entry) (end : ℕ) → IsEntryAt m family at entry end → entry_at m family at ≡ Some (entry, end)
unfolding entry_at
entry_found m family at entry end is =
    let source = record_found m at is.source is.stands in
    let content = content_found m family is.source entry.content is.says in
    rw (source, content) (ap (λ (owner : List ℕ). Some (record { owner = owner; ttl = is.source.ttl; content = entry.content }, record_end is.source)) (sym is.owner)
    ∙ ap (λ (ttl : ℕ). Some (record { owner = entry.owner; ttl = ttl; content = entry.content }, record_end is.source)) (sym is.ttl)
    ∙ ap (λ (e : ℕ). Some (entry, e)) (sym is.ends))

map_some : {A B : Type 0} (f : A → B) (o : Option A) (y : B) → option_map f o ≡ Some y → (x : A) × (o ≡ Some x) × (y ≡ f x)
map_some f None y h = cc
map_some f (Some x) y h = (x, refl, sym (some_same (f x) y h))

pub entries_stand : (count : ℕ) (m : List ℕ) (family : Family) (at : ℕ) (entries : List Entry) → entries_from count m family at ≡ Some entries
    → AreEntries m family at entries × (length entries ≡ count)
unfolding entries_from
entries_stand zero m family at entries h =
    subst (λ (es : List Entry). AreEntries m family at es × (length es ≡ zero)) (some_same [] entries h) (tt, refl)
entries_stand (suc count) m family at entries h =
    let first = bind_some (entry_at m family at) _ entries h in
    let rest = map_some (λ (more : List Entry). first.0.0 ∷ more) (entries_from count m family first.0.1) entries first.2 in
    let stand = entries_stand count m family first.0.1 rest.0 rest.1 in
    subst (λ (es : List Entry). AreEntries m family at es × (length es ≡ suc count)) (sym rest.2)
    ((first.0.1, entry_stands m family at first.0 first.1, stand.0), ap suc stand.1)

pub entries_found : (m : List ℕ) (family : Family) (at : ℕ) (entries : List Entry) → AreEntries m family at entries → entries_from (length entries) m family at ≡ Some entries
unfolding entries_from
entries_found m family at [] stand = refl
entries_found m family at (entry ∷ more) (end, is, stand) =
    let first = entry_found m family at entry end is in
    let rest = entries_found m family end more stand in
    rw (first, rest) refl
