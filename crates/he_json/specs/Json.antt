-- JSON objects and arrays (RFC 8259), without spaces, and their facts.
use Rattle.std.specs.Prelude.{ℕ, ◌++◌, Bool, true, false, List, [], ◌∷◌, codes, decimal, map, Option, None, Some}
use Rattle.std.specs.List.{flat_map}
use Rattle.he_addr.specs.declared.ip.Ip.{Ip}
use Rattle.he_addr.specs.Printing.{printed}
use Rattle.he_print.specs.Escaping.{string_text}
use Rattle.he_print.specs.declared.part.Fact.{Fact}
use Rattle.he_print.specs.declared.part.Fact.TheVariants as facts
use Rattle.he_json.specs.declared.members.Member.{Member}
use Rattle.he_json.specs.declared.members.Said.{Said}
use Rattle.he_json.specs.declared.members.Said.TheVariants.{Nothing, Truth}
use Rattle.he_json.specs.declared.members.Value.{Value}
use Rattle.he_json.specs.declared.members.Value.TheVariants as values

abbrev pub truth_text : Bool → List ℕ
truth_text true = codes "true"
truth_text false = codes "false"

-- no character of an address needs an escape
abbrev pub address_text : Ip → List ℕ
address_text ip = codes "\"" ++ (printed ip ++ codes "\"")

abbrev pub value_text : Value → List ℕ
value_text (values.Number number) = decimal number
value_text (values.NumberOrNull None) = codes "null"
value_text (values.NumberOrNull (Some number)) = decimal number
value_text (values.Address ip) = address_text ip
value_text (values.AddressOrNull None) = codes "null"
value_text (values.AddressOrNull (Some ip)) = address_text ip
value_text (values.Truth holds) = truth_text holds
value_text (values.Says said words) = string_text words.now

-- "NAME":VALUE
abbrev pub member_text : Member → List ℕ
member_text member = string_text member.0.now ++ (codes ":" ++ value_text member.1)

-- texts one after the other: the first after `gap`, each other one after a comma
abbrev pub parted : List ℕ → List (List ℕ) → List ℕ
parted gap [] = []
parted gap (first ∷ more) = gap ++ (first ++ parted (codes ",") more)

-- {MEMBER,MEMBER,..}
abbrev pub object_text : List Member → List ℕ
object_text members = codes "{" ++ (parted [] (map member_text members) ++ codes "}")

-- [OBJECT,OBJECT,..]
abbrev pub objects_text : List (List Member) → List ℕ
objects_text rows = codes "[" ++ (parted [] (map object_text rows) ++ codes "]")

-- the facts of a member
abbrev pub number_or_nothing : Option ℕ → List (Fact Said)
number_or_nothing None = facts.Said Nothing ∷ []
number_or_nothing (Some number) = facts.Number number ∷ []

abbrev pub address_or_nothing : Option Ip → List (Fact Said)
address_or_nothing None = facts.Said Nothing ∷ []
address_or_nothing (Some ip) = facts.Ip ip ∷ []

abbrev pub value_facts : Value → List (Fact Said)
value_facts (values.Number number) = facts.Number number ∷ []
value_facts (values.NumberOrNull number) = number_or_nothing number
value_facts (values.Address ip) = facts.Ip ip ∷ []
value_facts (values.AddressOrNull ip) = address_or_nothing ip
value_facts (values.Truth holds) = facts.Said (Truth holds) ∷ []
value_facts (values.Says said words) = facts.Said said ∷ []

abbrev pub fact_of : Member → List (Fact Said)
fact_of member = value_facts member.1

abbrev pub facts_of : List Member → List (Fact Said)
facts_of = flat_map fact_of
