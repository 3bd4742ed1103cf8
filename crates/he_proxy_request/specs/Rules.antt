-- The rules for what clients of a proxy may reach, by the words of the line.
use Rattle.std.specs.Prelude.{◌≡◌, ◌⊎◌, ◌≤◌, ◌<◌, ◌++◌, ◌==◌, ◌&&◌, ◌||◌, Bool, true, false, List, [], ◌∷◌, ℕ, codes, if◌then◌else◌, length, map, nat_eq, not, slice_get, slice_index_or}
use Rattle.std.specs.Char.{is_ascii_alphabetic, is_ascii_alphanumeric}
use Rattle.std.specs.List.{All, AllZip, list_all, list_any, starts_with}
use Rattle.std.specs.List.Sorted.{IsNonDecreasingBy, IsPermutation}
use Rattle.std.specs.Option.{option_map_or, unwrap_or}
use Rattle.clap.specs.Matches.{matched_of}
use Rattle.clap.specs.declared.parser.matches.Found.{Found}
use Rattle.he_addr.specs.Prefix.{PrefixBits, width_of}
use Rattle.he_addr.specs.Text.{Spells, SpellsPrefix, prefix_of}
use Rattle.he_addr.specs.declared.ip.Ip.{Ip}
use Rattle.he_access.specs.declared.rules.Network.{Network}
use Rattle.he_access.specs.declared.rules.Ports.{Ports}
use Rattle.he_access.specs.declared.rules.Rule.{Rule}
use Rattle.he_access.specs.declared.rules.Targets.{Targets}
use Rattle.he_access.specs.declared.rules.Targets.TheVariants as kinds
use Rattle.he_options.specs.declared.limits.TheConstants.{LEAST_PORT, MOST_PORT}
use Rattle.he_options.specs.Words.{values_of}
use Rattle.he_options.specs.declared.refusal.OptionFault.TheVariants as faults
use Rattle.he_options.specs.declared.refusal.Refusal.{Refusal}
use Rattle.he_options.specs.declared.refusal.Refusal.TheVariants as refusals
use Rattle.he_proxy_request.specs.Listening.{SpellsPort}
use Rattle.he_proxy_request.specs.Refused.{IsRefusalOf}
use Rattle.he_proxy_request.specs.declared.rules.RuleWord.{RuleWord}

-- ---- names

-- a letter, a digit, a hyphen, an underscore or a dot
abbrev pub is_name_sign : ℕ → Bool
is_name_sign byte = is_ascii_alphanumeric byte || (byte == 45 || (byte == 95 || byte == 46))

-- no dot is at the front, or after another
abbrev pub are_apart : Bool → List ℕ → Bool
are_apart behind [] = true
are_apart behind (byte ∷ more) = if behind && byte == 46 then false else are_apart (byte == 46) more

-- the name of a host: such signs, a letter among them, without an empty label
abbrev pub is_name : List ℕ → Bool
is_name text = list_all is_name_sign text && (list_any is_ascii_alphabetic text && are_apart true text)

-- ---- the words

-- the network of a prefix or of one address
abbrev pub NamesPrefix : List ℕ → PrefixBits → Type 0
NamesPrefix text prefix =
    SpellsPrefix text prefix ⊎ ((ip : Ip) × Spells text ip × (prefix ≡ prefix_of ip (width_of ip)))

abbrev pub NamesNetwork : List ℕ → Network → Type 0
NamesNetwork text network = NamesPrefix text (record { bits = network.bits; len = network.len })

abbrev pub NamesInBrackets : List ℕ → Network → Type 0
NamesInBrackets text network =
    (inner : List ℕ) × (text ≡ 91 ∷ (inner ++ 93 ∷ [])) × NamesNetwork inner network

abbrev pub NamesAnyNetwork : List ℕ → Network → Type 0
NamesAnyNetwork text network = NamesNetwork text network ⊎ NamesInBrackets text network

-- a text                                     names
-- 192.0.2.0/24, 2001:db8::/32, 192.0.2.1     the addresses of that network, or that one
-- [2001:db8::/32], [2001:db8::1]             also with brackets
-- example.com                                the host of that name
-- .example.com                               that host and all below it
abbrev pub NamesTargets : List ℕ → Targets → Type 0
NamesTargets text kinds.All = ⊥
NamesTargets text (kinds.Network network) = NamesAnyNetwork text network
NamesTargets text (kinds.Host name) = (name.now ≡ text) × (is_name text ≡ true)
NamesTargets text (kinds.Domain name) = (text ≡ 46 ∷ name.now) × (is_name name.now ≡ true)

-- neither a name, nor a dot before one
pub record LacksName (text : List ℕ) : Type 0 where
  pub host : is_name text ≡ false
  pub domain : (name : List ℕ) → text ≡ 46 ∷ name → is_name name ≡ false

-- the first and the last of some ports, as 8000-8999
abbrev pub NamesRange : List ℕ → Ports → Type 0
NamesRange text ports =
    (first : List ℕ) × (last : List ℕ) × (text ≡ first ++ 45 ∷ last) × SpellsPort first ports.first
    × SpellsPort last ports.last × (ports.first ≤ ports.last)

-- a port, as 443, or such a range
abbrev pub NamesPorts : List ℕ → Ports → Type 0
NamesPorts text ports = (SpellsPort text ports.first × (ports.last ≡ ports.first)) ⊎ NamesRange text ports

abbrev pub AreAllPorts : Ports → Type 0
AreAllPorts ports = (ports.first ≡ LEAST_PORT) × (ports.last ≡ MOST_PORT)

-- a colon is in it, and no bracket at its front
abbrev pub is_bare : List ℕ → Bool
is_bare text = list_any (λ byte. byte == 58) text && not (starts_with nat_eq text (codes "["))

-- targets before ports: nothing is all of them, and an IPv6 network has brackets
abbrev pub NamesFront : List ℕ → Targets → Type 0
NamesFront text targets =
    ((text ≡ []) × (targets ≡ kinds.All)) ⊎ ((is_bare text ≡ false) × NamesTargets text targets)

-- targets, a colon and ports
pub record HasPorts (text : List ℕ) (targets : Targets) (ports : Ports) : Type 0 where
  pub front : List ℕ
  pub digits : List ℕ
  pub parts : text ≡ front ++ 58 ∷ digits
  pub named : NamesFront front targets
  pub at : NamesPorts digits ports

abbrev pub NamesNoTargets : List ℕ → Type 0
NamesNoTargets text = (targets : Targets) → NamesTargets text targets → ⊥

-- a rule's text: targets, at all ports; or, where it is no text of targets, targets with ports
abbrev pub NamesRule : List ℕ → Targets → Ports → Type 0
NamesRule text targets ports =
    (NamesTargets text targets × AreAllPorts ports) ⊎ (NamesNoTargets text × HasPorts text targets ports)

abbrev pub NamesNoRule : List ℕ → Type 0
NamesNoRule text = (targets : Targets) (ports : Ports) → NamesRule text targets ports → ⊥

-- the rule of a word: --to allows, --not-to refuses
pub record IsRuleOf (word : RuleWord) (rule : Rule) : Type 0 where
  pub allows : rule.allows ≡ word.allows
  pub named : NamesRule word.text.now rule.targets rule.ports

-- ---- the line

-- the places of an option's words on the line, as clap counts
abbrev pub places_of : Found → List ℕ → List ℕ
places_of found id = option_map_or (λ matched. matched.indices.items) (matched_of found id) []

-- a word for which clap has no place is the last one
abbrev pub place_in : List ℕ → ℕ → ℕ
place_in places k = unwrap_or (slice_get places k) 0xffff_ffff_ffff_ffff

-- the words of an option, by their places and texts
pub record AreWordsOf (allows : Bool) (places : List ℕ) (texts : List (List ℕ)) (words : List RuleWord) : Type 0 where
  pub are : map (λ word. word.text.now) words ≡ texts
  pub all : All (λ word. word.allows ≡ allows) words
  pub placed : (k : ℕ) (default : RuleWord) → k < length words
      → (slice_index_or words k default).place ≡ place_in places k

-- these words come after those that there were
pub record AreAdded (allows : Bool) (places : List ℕ) (texts : List (List ℕ)) (old new : List RuleWord) : Type 0 where
  pub words : List RuleWord
  pub are : AreWordsOf allows places texts words
  pub behind : new ≡ old ++ words

-- the words of both options, in their order on the line
pub record AreWords (found : Found) (words : List RuleWord) : Type 0 where
  pub allowing : List RuleWord
  pub refusing : List RuleWord
  pub are_to : AreWordsOf true (places_of found (codes "to")) (values_of found (codes "to")) allowing
  pub are_not_to : AreWordsOf false (places_of found (codes "not-to")) (values_of found (codes "not-to")) refusing
  pub of_both : IsPermutation (allowing ++ refusing) words
  pub rising : IsNonDecreasingBy (λ word. word.place) words

-- the rules of these words
abbrev pub AsksRules : Found → List Rule → Type 0
AsksRules found rules = (words : List RuleWord) × AreWords found words × AllZip IsRuleOf words rules

-- a line is refused for a word that names no rule, or for want of memory
abbrev pub LacksRules : Found → Refusal → Type 0
LacksRules found refusal =
    (refusal ≡ refusals.Memory)
    ⊎ ((words : List RuleWord) × AreWords found words
    × IsRefusalOf (λ word. NamesNoRule word.text.now) faults.Rule words refusal)
