-- What a text that is refused lacks.
use Rattle.std.proofs.Common.{◌≡◌, ◌<◌, ◌≤◌, ◌++◌, ◌==◌, ◌∙◌, ◌+◌, ℕ, suc, Bool, true, false, List, [], ◌∷◌, Any, Bor, Err, IfErr, IfNone, MatchOption, None, Ok, Option, Result, Some, ap, ap₂, arith, drop, eqb, get_or, inl, inr, length, lit<, refl, subst, sym, take, take-append-drop, true≢false}
use Rattle.std.specs.Str.{NoCharPasses}
use Rattle.std.specs.Str.Parse.{AllDigits, digits_value}
use Rattle.std.specs.Str.Pattern.{RFindsChar}
use Rattle.std.proofs.lemmas.List.{append_cancel_right, get_or_default}
use Rattle.std.proofs.lemmas.Str.Parse.{digit_at, digit_from_value}
use Rattle.std.proofs.lemmas.Str.Pattern.{IsSplitOnceResult, NoCharPasses-char, drop_at_char, split_after}
use Rattle.clap.specs.declared.parser.matches.Found.{Found}
use Rattle.he_addr.specs.Prefix.{PrefixBits}
use Rattle.he_addr.specs.Text.{Spells, SpellsPrefix}
use Rattle.he_addr.specs.declared.ip.Ip.{Ip}
use Rattle.he_access.specs.declared.rules.Network.{Network}
use Rattle.he_access.specs.declared.rules.Ports.{Ports}
use Rattle.he_access.specs.declared.rules.Targets.{Targets}
use Rattle.he_access.specs.declared.rules.Targets.TheVariants as kinds
use Rattle.he_options.specs.declared.refusal.OptionFault.TheVariants as faults
use Rattle.he_options.specs.declared.refusal.Refusal.{Refusal}
use Rattle.he_proxy_request.specs.Listening.{SpellsPort}
use Rattle.he_proxy_request.specs.Refused.{IsRefusalOf}
use Rattle.he_proxy_request.specs.Rules.{AreWords, HasPorts, LacksName, LacksRules, NamesAnyNetwork, NamesFront, NamesInBrackets, NamesNetwork, NamesNoRule, NamesNoTargets, NamesPorts, NamesRange, NamesRule, NamesTargets, is_bare, is_name}
use Rattle.he_proxy_request.specs.declared.rules.RuleWord.{RuleWord}

-- what a clause on a value that is missing asks for
pub of_none : {A P : Type 0} (r : Option A) → P → IfNone r P
of_none None p = p
of_none (Some x) p = tt

-- ---- networks and names

pub no_network : (text : List ℕ) → ((prefix : PrefixBits) → SpellsPrefix text prefix → ⊥)
    → ((ip : Ip) → Spells text ip → ⊥) → (network : Network) → NamesNetwork text network → ⊥
no_network text no_prefix no_ip network (inl spelled) = no_prefix (record { bits = network.bits; len = network.len }) spelled
no_network text no_prefix no_ip network (inr is) = no_ip is.0 is.1

pub inner_none : (text rest : List ℕ) (r : Option (Bor (List ℕ))) → text ≡ 91 ∷ rest
    → MatchOption r ((front : List ℕ) → rest ≡ front ++ 93 ∷ [] → ⊥) (λ x. rest ≡ x.now ++ 93 ∷ [])
    → IfNone r ((inner : List ℕ) → text ≡ 91 ∷ (inner ++ 93 ∷ []) → ⊥)
inner_none text rest None opens closes = λ inner is. closes inner (ap (drop 1) (sym opens ∙ is))
inner_none text rest (Some x) opens closes = tt

not_bracketed : (text inner bytes : List ℕ) → text ≡ 91 ∷ (inner ++ 93 ∷ []) → bytes ≡ inner
    → ((network : Network) → NamesNetwork bytes network → ⊥) → (network : Network) → NamesInBrackets text network → ⊥
not_bracketed text inner bytes is same none network (other, parts, named) =
    let one : inner ≡ other = append_cancel_right inner other (93 ∷ []) (ap (drop 1) (sym is ∙ parts)) in
    none network (subst (λ (l : List ℕ). NamesNetwork l network) (sym (same ∙ one)) named)

pub bracketed_none : (text inner bytes : List ℕ) (r : Option Network) → text ≡ 91 ∷ (inner ++ 93 ∷ []) → bytes ≡ inner
    → IfNone r ((network : Network) → NamesNetwork bytes network → ⊥)
    → IfNone r ((network : Network) → NamesInBrackets text network → ⊥)
bracketed_none text inner bytes None is same none = not_bracketed text inner bytes is same none
bracketed_none text inner bytes (Some network) is same none = tt

in_neither : (text bytes : List ℕ) → bytes ≡ text → ((network : Network) → NamesNetwork bytes network → ⊥)
    → ((network : Network) → NamesInBrackets text network → ⊥) → (network : Network) → NamesAnyNetwork text network → ⊥
in_neither text bytes same bare brackets network (inl named) =
    bare network (subst (λ (l : List ℕ). NamesNetwork l network) (sym same) named)
in_neither text bytes same bare brackets network (inr named) = brackets network named

pub any_none : (text bytes : List ℕ) (r : Option Network) → bytes ≡ text → ((network : Network) → NamesNetwork bytes network → ⊥)
    → IfNone r ((network : Network) → NamesInBrackets text network → ⊥)
    → IfNone r ((network : Network) → NamesAnyNetwork text network → ⊥)
any_none text bytes None same bare brackets = in_neither text bytes same bare brackets
any_none text bytes (Some network) same bare brackets = tt

pub lacks_host : (text bytes : List ℕ) → ((rest : List ℕ) → text ≡ 46 ∷ rest → ⊥) → bytes ≡ text
    → is_name bytes ≡ false → LacksName text
lacks_host text bytes none same plain = record {
  host = subst (λ (l : List ℕ). is_name l ≡ false) same plain;
  domain = λ other parts. absurd (none other parts);
}

no_targets : (text : List ℕ) → ((network : Network) → NamesAnyNetwork text network → ⊥) → LacksName text
    → (targets : Targets) → NamesTargets text targets → ⊥
no_targets text none lacks kinds.All is = is
no_targets text none lacks (kinds.Network network) is = none network is
no_targets text none lacks (kinds.Host name) is = true≢false (sym is.1 ∙ lacks.host)
no_targets text none lacks (kinds.Domain name) is = true≢false (sym is.1 ∙ lacks.domain name.now is.0)

pub none_of_targets : (text : List ℕ) (r : Option Targets) → ((network : Network) → NamesAnyNetwork text network → ⊥)
    → IfNone r (LacksName text) → IfNone r (NamesNoTargets text)
none_of_targets text None none lacks = no_targets text none lacks
none_of_targets text (Some targets) none lacks = tt

-- ---- ports

digits_lack : (digits : List ℕ) (port : ℕ) → SpellsPort digits port → (i : ℕ) → i < length digits
    → get_or digits i 0 ≡ 45 → ⊥
digits_lack digits port spelled i below is =
    let digit = digit_at digits i spelled.0.numeral.1 below in
    omega (arith, is, digit.0)

in_parts : (text first last : List ℕ) (a b : ℕ) (r : Option (Bor (List ℕ) × Bor (List ℕ))) → IsSplitOnceResult 45 text r
    → MatchOption r (Unit {0}) (λ x. (a b : ℕ) → SpellsPort x.0.now a → SpellsPort x.1.now b → a ≤ b → ⊥)
    → text ≡ first ++ 45 ∷ last → SpellsPort first a → SpellsPort last b → a ≤ b → ⊥
in_parts text first last a b None split none parts one two rising =
    split_after 45 text first last None split (lit< tt) parts (digits_lack first a one)
in_parts text first last a b (Some x) split none parts one two rising =
    let same = split_after 45 text first last (Some x) split (lit< tt) parts (digits_lack first a one) in
    none a b (subst (λ (l : List ℕ). SpellsPort l a) (sym same.0) one)
    (subst (λ (l : List ℕ). SpellsPort l b) (sym same.1) two) rising

pub no_range : (text : List ℕ) (r : Option (Bor (List ℕ) × Bor (List ℕ))) → IsSplitOnceResult 45 text r
    → MatchOption r (Unit {0}) (λ x. (a b : ℕ) → SpellsPort x.0.now a → SpellsPort x.1.now b → a ≤ b → ⊥)
    → (ports : Ports) → NamesRange text ports → ⊥
no_range text r split none ports (first, last, parts, one, two, rising) =
    in_parts text first last ports.first ports.last r split none parts one two rising

no_ports : (text bytes : List ℕ) → bytes ≡ text → ((port : ℕ) → SpellsPort bytes port → ⊥)
    → ((ports : Ports) → NamesRange text ports → ⊥) → (ports : Ports) → NamesPorts text ports → ⊥
no_ports text bytes same alone range ports (inl is) =
    alone ports.first (subst (λ (l : List ℕ). SpellsPort l ports.first) (sym same) is.0)
no_ports text bytes same alone range ports (inr named) = range ports named

pub ports_none : (text bytes : List ℕ) (r : Option Ports) → bytes ≡ text → ((port : ℕ) → SpellsPort bytes port → ⊥)
    → IfNone r ((ports : Ports) → NamesRange text ports → ⊥) → IfNone r ((ports : Ports) → NamesPorts text ports → ⊥)
ports_none text bytes None same alone range = no_ports text bytes same alone range
ports_none text bytes (Some ports) same alone range = tt

pub no_port : (text bytes : List ℕ) → bytes ≡ text → ((port : ℕ) → SpellsPort bytes port → ⊥) → (port : ℕ)
    → SpellsPort text port → ⊥
no_port text bytes same none port spelled = none port (subst (λ (l : List ℕ). SpellsPort l port) (sym same) spelled)

pub same_port : (one other : List ℕ) (p q : ℕ) → one ≡ other → SpellsPort one p → SpellsPort other q → p ≡ q
same_port one other p q same a b = a.0.value ∙ ap (digits_value 10) same ∙ sym b.0.value

pub falling : (front back one two : List ℕ) (p q : ℕ) → one ≡ front → two ≡ back → SpellsPort one p → SpellsPort two q
    → q < p → (a b : ℕ) → SpellsPort front a → SpellsPort back b → a ≤ b → ⊥
falling front back one two p q first last spelled other below a b is_a is_b rising =
    let low : p ≡ a = same_port one front p a first spelled is_a in
    let high : q ≡ b = same_port two back q b last other is_b in
    omega (arith, low, high, below, rising)

-- ---- a colon before ports

abbrev Free : List ℕ → Type 0
Free [] = Unit {0}
Free (b ∷ bs) = (b ≡ 58 → ⊥) × Free bs

free_digits : (digits : List ℕ) → AllDigits 10 digits → Free digits
free_digits [] all = tt
free_digits (d ∷ ds) all = ((λ is. let digit = digit_from_value d all.0 in omega (arith, is, digit.1)), free_digits ds all.1)

free_joined : (xs ys : List ℕ) → Free xs → Free ys → Free (xs ++ 45 ∷ ys)
free_joined [] ys a b = ((λ is. omega (arith, is)), b)
free_joined (x ∷ xs) ys a b = (a.0, free_joined xs ys a.1 b)

free_ports : (digits : List ℕ) (ports : Ports) → NamesPorts digits ports → Free digits
free_ports digits ports (inl is) = free_digits digits is.0.0.numeral.1
free_ports digits ports (inr (first, last, parts, one, two, rising)) =
    subst Free (sym parts) (free_joined first last (free_digits first one.0.numeral.1) (free_digits last two.0.numeral.1))

abbrev HasNoColon : List ℕ → Type 0
HasNoColon text = (i : ℕ) → i < length text → get_or text i 0 ≡ 58 → ⊥

free_from : (text : List ℕ) → HasNoColon text → Free text
free_from [] lacks = tt
free_from (b ∷ bs) lacks = (lacks 0 (omega arith), free_from bs (λ i below. lacks (suc i) (omega (arith, below))))

marked : (front digits : List ℕ) → Free (front ++ 58 ∷ digits) → ⊥
marked [] digits free = free.0 refl
marked (x ∷ xs) digits free = marked xs digits free.1

last_cut : (front other digits more : List ℕ) → Free digits → Free more → front ++ 58 ∷ digits ≡ other ++ 58 ∷ more
    → (front ≡ other) × (digits ≡ more)
last_cut [] [] digits more a b e = (refl, ap (drop 1) e)
last_cut [] (y ∷ ys) digits more a b e = absurd (marked ys more (subst Free (ap (drop 1) e) a))
last_cut (x ∷ xs) [] digits more a b e = absurd (marked xs digits (subst Free (sym (ap (drop 1) e)) b))
last_cut (x ∷ xs) (y ∷ ys) digits more a b e =
    let rest = last_cut xs ys digits more a b (ap (drop 1) e) in
    (ap₂ (λ (n : ℕ) (l : List ℕ). n ∷ l) (ap (λ (l : List ℕ). get_or l 0 0) e) rest.0, rest.1)

-- the parts round the last colon
pub split_last : (text : List ℕ) (r : Option (Bor (List ℕ) × Bor (List ℕ)))
    → MatchOption r (RFindsChar 58 text None) (λ x. (i : ℕ) × (j : ℕ) × RFindsChar 58 text (Some (i, j))
    × (x.0.now ≡ take i text) × (x.1.now ≡ drop j text) × (i ≤ j) × (length x.0.now ≡ i) × (length x.1.now + j ≡ length text))
    → MatchOption r (HasNoColon text) (λ x. (text ≡ x.0.now ++ 58 ∷ x.1.now) × HasNoColon x.1.now)
split_last text None cut = λ i. NoCharPasses-char 58 text i cut (lit< tt)
split_last text (Some x) cut = (
  sym (take-append-drop cut.0 text)
      ∙ ap₂ (λ (a b : List ℕ). a ++ b) (sym cut.3)
      (drop_at_char 58 text cut.0 cut.1 cut.2.1 (lit< tt) ∙ ap (λ (l : List ℕ). 58 ∷ l) (sym cut.4)),
  λ i. NoCharPasses-char 58 x.1.now i (subst (NoCharPasses (λ d. eqb d 58)) (sym cut.4) cut.2.0) (lit< tt),
)

pub has_none : (text : List ℕ) → HasNoColon text → (targets : Targets) (ports : Ports) → HasPorts text targets ports → ⊥
has_none text lacks targets ports has = marked has.front has.digits (subst Free has.parts (free_from text lacks))

pub has_other : (text front digits : List ℕ) → (text ≡ front ++ 58 ∷ digits) × HasNoColon digits
    → ((targets : Targets) (ports : Ports) → NamesFront front targets → NamesPorts digits ports → ⊥)
    → (targets : Targets) (ports : Ports) → HasPorts text targets ports → ⊥
has_other text front digits split none targets ports has =
    let same = last_cut front has.front digits has.digits (free_from digits split.1)
    (free_ports has.digits ports has.at) (sym split.0 ∙ has.parts) in
    none targets ports (subst (λ (l : List ℕ). NamesFront l targets) (sym same.0) has.named)
    (subst (λ (l : List ℕ). NamesPorts l ports) (sym same.1) has.at)

-- ---- targets before ports

full_text : (text : List ℕ) (b : Bool) → b ≡ (length text == 0) → b ≡ false → text ≡ [] → ⊥
full_text text b is f empty = true≢false (sym (is ∙ ap (λ (l : List ℕ). length l == 0) empty) ∙ f)

pub bare_front : (text bytes : List ℕ) (b bare : Bool) → b ≡ (length text == 0) → b ≡ false → bytes ≡ text
    → bare ≡ is_bare bytes → bare ≡ true → (targets : Targets) → NamesFront text targets → ⊥
bare_front text bytes b bare is full same tells holds targets (inl empty) = full_text text b is full empty.0
bare_front text bytes b bare is full same tells holds targets (inr named) =
    true≢false (sym holds ∙ tells ∙ ap is_bare same ∙ named.0)

no_front : (text : List ℕ) (b : Bool) → b ≡ (length text == 0) → b ≡ false
    → ((targets : Targets) → NamesTargets text targets → ⊥) → (targets : Targets) → NamesFront text targets → ⊥
no_front text b is full none targets (inl empty) = full_text text b is full empty.0
no_front text b is full none targets (inr named) = none targets named.1

pub front_none : (text : List ℕ) (b : Bool) (r : Option Targets) → b ≡ (length text == 0) → b ≡ false
    → IfNone r (NamesNoTargets text) → IfNone r ((targets : Targets) → NamesFront text targets → ⊥)
front_none text b None is full none = no_front text b is full none
front_none text b (Some targets) is full none = tt

-- ---- rules

no_rule : (text : List ℕ) → ((targets : Targets) → NamesTargets text targets → ⊥)
    → ((targets : Targets) (ports : Ports) → HasPorts text targets ports → ⊥)
    → (targets : Targets) (ports : Ports) → NamesRule text targets ports → ⊥
no_rule text alone none targets ports (inl named) = alone targets named.0
no_rule text alone none targets ports (inr named) = none targets ports named.1

pub rule_none : (text : List ℕ) (r : Option (Targets × Ports)) → NamesNoTargets text
    → IfNone r ((targets : Targets) (ports : Ports) → HasPorts text targets ports → ⊥) → IfNone r (NamesNoRule text)
rule_none text None alone none = no_rule text alone none
rule_none text (Some named) alone none = tt

-- ---- the words of a line

pub any_at : {X : Type 0} (P : X → Type 0) (xs : List X) (i : ℕ) (d : X) → i < length xs → P (get_or xs i d) → Any P xs
any_at P xs i d below holds = (i, get_or xs i d, below, get_or_default xs i (get_or xs i d) d below, holds)

pub line_lacks : {X : Type 0} (found : Found) (words given : List RuleWord) (r : Result X Refusal)
    → given ≡ words → AreWords found words → IfErr r (IsRefusalOf (λ word. NamesNoRule word.text.now) faults.Rule given) → IfErr r (LacksRules found)
line_lacks found words given (Ok x) same are lacks = tt
line_lacks found words given (Err refusal) same are lacks =
    inr (
      words,
      are,
      subst (λ (l : List RuleWord). IsRefusalOf (λ word. NamesNoRule word.text.now) faults.Rule l refusal) same
          lacks,
    )
