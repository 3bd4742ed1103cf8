-- The first rule that fits, and what is known of it before a host is looked up.
use Rattle.std.proofs.Common.{◌≡◌, ℕ, ◌<◌, ◌≤◌, ◌++◌, ◌⊎◌, suc, Bool, true, false, not, List, [], ◌∷◌, length, get_or, take, drop, refl, sym, ◌∙◌, ap, subst, inl, inr, drop-cons}
use Rattle.std.specs.Prelude.{Option}
use Rattle.std.specs.List.{All, list_any}
use Rattle.std.proofs.lemmas.List.{take-append-drop, take_all}
use Rattle.std.proofs.lemmas.List.Elements.{All-head, All-tail}
use Rattle.he_addr.specs.declared.ip.Ip.{Ip}
use Rattle.he_access.specs.Rules.{Fits, FitsTargets, IsFirst, MayFit, MayFitTargets, Settles}
use Rattle.he_access.specs.declared.reach.Place.{Place}
use Rattle.he_access.specs.declared.rules.Rule.{Rule}
use Rattle.he_access.specs.declared.rules.Targets.{Targets}
use Rattle.he_access.specs.declared.rules.Targets.TheVariants as targets

module _ (Fit : Rule → Type 0) where
  -- none of them fits
  abbrev pub Passed : List Rule → Type 0
  Passed rules = All (λ rule. Fit rule → ⊥) rules

  split_at : (rules : List Rule) (i : ℕ) (default : Rule) → i < length rules
      → rules ≡ take i rules ++ get_or rules i default ∷ drop (suc i) rules
  split_at rules i default within =
      sym (take-append-drop i rules) ∙ ap (λ (l : List Rule). take i rules ++ l) (drop-cons rules i default within)

  pub settled_at : (rules : List Rule) (i : ℕ) (default : Rule) → i < length rules → Passed (take i rules)
      → Fit (get_or rules i default) → Settles Fit rules (get_or rules i default).allows
  settled_at rules i default within none fits = inl (
    get_or rules i default,
    record {
      before = take i rules;
      behind = drop (suc i) rules;
      is = split_at rules i default within;
      fits = fits;
      none = none;
    },
    refl,
  )

  pub settled_by_none : (rules : List Rule) (i : ℕ) (some answer : Bool) → length rules ≤ i → Passed (take i rules)
      → some ≡ list_any (λ rule. rule.allows) rules → answer ≡ not some → Settles Fit rules answer
  settled_by_none rules i some answer within none is means =
      inr (subst Passed (take_all i rules within) none, means ∙ ap not is)

  -- the first that fits, along the list
  abbrev First : List Rule → Rule → Type 0
  First [] rule = ⊥
  First (x ∷ xs) rule = (Fit x × (rule ≡ x)) ⊎ ((Fit x → ⊥) × First xs rule)

  first_behind : (before behind : List Rule) (rule : Rule) → Fit rule → Passed before → First (before ++ rule ∷ behind) rule
  first_behind [] behind rule fits none = inl (fits, refl)
  first_behind (x ∷ xs) behind rule fits none =
      inr (
        All-head (λ (r : Rule). Fit r → ⊥) x xs none,
        first_behind xs behind rule fits (All-tail (λ (r : Rule). Fit r → ⊥) x xs none),
      )

  first_of : (rules : List Rule) (rule : Rule) → IsFirst Fit rules rule → First rules rule
  first_of rules rule is =
      subst (λ (l : List Rule). First l rule) (sym is.is) (first_behind is.before is.behind rule is.fits is.none)

module _ (P Q : Rule → Type 0) (yes : (r : Rule) → r.allows ≡ true → P r → Q r)
    (no : (r : Rule) → r.allows ≡ false → Q r → P r) where
  not_both : (rules : List Rule) (a b : Rule) → First P rules a → a.allows ≡ true → First Q rules b → b.allows ≡ false → ⊥
  not_both [] a b first allows other refuses = absurd first
  not_both (x ∷ xs) a b (inl (fits, is)) allows (inl (may, same)) refuses =
      let one : x.allows ≡ true = ap (λ (r : Rule). r.allows) (sym is) ∙ allows in
      let two : x.allows ≡ false = ap (λ (r : Rule). r.allows) (sym same) ∙ refuses in cc
  not_both (x ∷ xs) a b (inl (fits, is)) allows (inr (never, rest)) refuses =
      never (yes x (ap (λ (r : Rule). r.allows) (sym is) ∙ allows) fits)
  not_both (x ∷ xs) a b (inr (never, rest)) allows (inl (may, same)) refuses =
      never (no x (ap (λ (r : Rule). r.allows) (sym same) ∙ refuses) may)
  not_both (x ∷ xs) a b (inr (never, rest)) allows (inr (neither, others)) refuses =
      not_both xs a b rest allows others refuses

  not_passed : (rules : List Rule) (a : Rule) → First P rules a → a.allows ≡ true → Passed Q rules → ⊥
  not_passed [] a first allows none = absurd first
  not_passed (x ∷ xs) a (inl (fits, is)) allows none =
      All-head (λ (r : Rule). Q r → ⊥) x xs none (yes x (ap (λ (r : Rule). r.allows) (sym is) ∙ allows) fits)
  not_passed (x ∷ xs) a (inr (never, rest)) allows none = not_passed xs a rest allows (All-tail (λ (r : Rule). Q r → ⊥) x xs none)

  passed_not : (rules : List Rule) (b : Rule) → First Q rules b → b.allows ≡ false → Passed P rules → ⊥
  passed_not [] b first refuses none = absurd first
  passed_not (x ∷ xs) b (inl (may, is)) refuses none =
      All-head (λ (r : Rule). P r → ⊥) x xs none (no x (ap (λ (r : Rule). r.allows) (sym is) ∙ refuses) may)
  passed_not (x ∷ xs) b (inr (never, rest)) refuses none = passed_not xs b rest refuses (All-tail (λ (r : Rule). P r → ⊥) x xs none)

  apart : (rules : List Rule) → Settles P rules true → Settles Q rules false → ⊥
  apart rules (inl (a, first, allows)) (inl (b, other, refuses)) =
      not_both rules a b (first_of P rules a first) (sym allows) (first_of Q rules b other) (sym refuses)
  apart rules (inl (a, first, allows)) (inr (none, means)) = not_passed rules a (first_of P rules a first) (sym allows) none
  apart rules (inr (none, means)) (inl (b, other, refuses)) = passed_not rules b (first_of Q rules b other) (sym refuses) none
  apart rules (inr (none, means)) (inr (others, means_not)) = cc

-- rules have one answer
pub same_answer : (Fit : Rule → Type 0) (rules : List Rule) (answer : Bool) → Settles Fit rules answer → Settles Fit rules true → answer ≡ true
same_answer Fit rules true is other = refl
same_answer Fit rules false is other = absurd (apart Fit Fit (λ r allows fits. fits) (λ r refuses fits. fits) rules other is)

-- ---- before the host is looked up

may_have : (allows : Bool) (t : Targets) (host : List ℕ) (ip : Ip) (embedded : Option ℕ) → allows ≡ true
    → FitsTargets t host ip embedded → MayFitTargets allows t host
may_have allows (targets.Network network) host ip embedded is fits = is
may_have allows targets.All host ip embedded is fits = fits
may_have allows (targets.Host name) host ip embedded is fits = fits
may_have allows (targets.Domain name) host ip embedded is fits = fits

has_all : (allows : Bool) (t : Targets) (host : List ℕ) (ip : Ip) (embedded : Option ℕ) → allows ≡ false
    → MayFitTargets allows t host → FitsTargets t host ip embedded
has_all allows (targets.Network network) host ip embedded is may = absurd (cc is)
has_all allows targets.All host ip embedded is may = may
has_all allows (targets.Host name) host ip embedded is may = may
has_all allows (targets.Domain name) host ip embedded is may = may

module _ (host : List ℕ) (port : ℕ) (to : Place) (embedded : Option ℕ) (same : to.port ≡ port) where
  may_if : (r : Rule) → r.allows ≡ true → Fits r host to embedded → MayFit r host port
  may_if r allows fits = (
    subst (λ (p : ℕ). (r.ports.first ≤ p) × (p ≤ r.ports.last)) same fits.0,
    may_have r.allows r.targets host to.ip embedded allows fits.1,
  )

  fits_if : (r : Rule) → r.allows ≡ false → MayFit r host port → Fits r host to embedded
  fits_if r refuses may = (
    subst (λ (p : ℕ). (r.ports.first ≤ p) × (p ≤ r.ports.last)) (sym same) may.0,
    has_all r.allows r.targets host to.ip embedded refuses may.1,
  )

  -- a host that is refused before it is looked up has no address that may be reached
  pub refused_whole : (rules : List Rule) (answer : Bool) → Settles (λ rule. MayFit rule host port) rules answer
      → answer ≡ false → Settles (λ rule. Fits rule host to embedded) rules true → ⊥
  refused_whole rules answer may is settled =
      apart (λ rule. Fits rule host to embedded) (λ rule. MayFit rule host port) may_if fits_if rules settled
      (subst (λ (b : Bool). Settles (λ rule. MayFit rule host port) rules b) is may)
