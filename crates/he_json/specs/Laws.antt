-- Consequences of the definitions.
use Rattle.std.specs.Prelude.{ℕ, ◌≡◌, ◌++◌, not, IsTrue, List, [], ◌∷◌}
use Rattle.std.specs.List.{list_all}
use Rattle.he_addr.specs.declared.ip.Ip.{Ip}
use Rattle.he_addr.specs.Printing.{printed}
use Rattle.he_print.specs.Escaping.{is_control, is_plain}
use Rattle.he_record.specs.Said.{Said}
use Rattle.he_course.specs.declared.accounts.Times.{Times}
use Rattle.he_json.specs.Documents.{Spot, explanation_text, order_text, transcript_text}
use Rattle.he_json.specs.Machine.{machine_text}
use Rattle.he_json.specs.Names.{names_text}
use Rattle.he_json.specs.declared.members.Member.{Member}

-- a line: no control characters, then a line end
abbrev pub IsLine : List ℕ → Type 0
IsLine text = (line : List ℕ) × (text ≡ line ++ 10 ∷ []) × IsTrue (list_all (λ byte. not (is_control byte)) line)

abbrev pub TranscriptsAreLines : Type 0
TranscriptsAreLines = (spot : Spot) (attempts : List (List Member)) (end : List Member)
    → IsLine (transcript_text spot attempts end)

abbrev pub OrdersAreLines : Type 0
OrdersAreLines = (spot : Spot) (addresses : List (List Member)) → IsLine (order_text spot addresses)

abbrev pub ExplanationsAreLines : Type 0
ExplanationsAreLines = (spot : Spot) (said : List Said) (times : Times) (addresses events : List (List Member))
    → IsLine (explanation_text spot said times addresses events)

abbrev pub MachinesAreLines : Type 0
MachinesAreLines = (sources routes : List (List Member)) → IsLine (machine_text sources routes)

abbrev pub NamesAreLines : Type 0
NamesAreLines = (host : List ℕ) (aaaa a : ℕ × List Ip) → IsLine (names_text host aaaa a)

-- no character of an address needs an escape in a string
abbrev pub AddressesArePlain : Type 0
AddressesArePlain = (ip : Ip) → IsTrue (list_all is_plain (printed ip))
