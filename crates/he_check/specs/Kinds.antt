-- The words for the kinds of faults.
use Rattle.std.specs.Prelude.{ℕ, ◌++◌, List, [], codes, decimal}
use Rattle.he_select.specs.declared.policy.PolicyFault.TheVariants as policies
use Rattle.he_words.specs.declared.fault.TextKind.{TextKind}
use Rattle.he_words.specs.declared.fault.TextKind.TheVariants as kinds

abbrev pub word_of : TextKind → List ℕ
word_of kinds.Header = codes "header"
word_of kinds.Word = codes "word"
word_of kinds.Number = codes "number"
word_of kinds.Address = codes "address"
word_of kinds.Prefix = codes "prefix"
word_of kinds.Repeated = codes "repeated"
word_of kinds.Range = codes "range"
word_of kinds.TooMany = codes "too many"
word_of kinds.Unfinished = codes "unfinished"
word_of kinds.Memory = codes "out of memory"
word_of (kinds.Policy policies.Size) = codes "policy has no row or too many"
word_of (kinds.Policy (policies.Repeated row)) = codes "policy row "
word_of (kinds.Policy policies.NoDefault) = codes "policy has no ::/0"
word_of (kinds.Policy policies.NoMapped) = codes "policy has no ::ffff:0:0/96"
word_of (kinds.Policy (policies.SharedPrecedence row later)) = codes "policy rows "
word_of (kinds.Policy policies.Memory) = codes "out of memory"

-- the rows of a policy table, counted from 0
abbrev pub rows_of : TextKind → List ℕ
rows_of (kinds.Policy (policies.Repeated row)) = decimal row ++ codes " repeats an earlier prefix"
rows_of (kinds.Policy (policies.SharedPrecedence row later)) =
    decimal row ++ (codes " and " ++ (decimal later ++ codes " share a precedence"))
rows_of _ = []

abbrev pub kind_text : TextKind → List ℕ
kind_text kind = word_of kind ++ rows_of kind
