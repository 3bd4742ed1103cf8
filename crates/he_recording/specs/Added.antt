-- Lines that are added to a record one by one. A line that fails a check of a record line is left out.
use Rattle.std.specs.Prelude.{List, [], ◌∷◌, ◌++◌, Option, Some, None}
use Rattle.he_words.specs.declared.fault.TextKind.{TextKind}
use Rattle.he_record.specs.Adding.{add_fault}
use Rattle.he_record.specs.Said.{Said}

abbrev pub unless : Option TextKind → List Said → Said → List Said
unless None before said = before ++ said ∷ []
unless (Some kind) before said = before

-- the line is added if it passes the checks of a record line after the lines before it
unfoldable pub with_line : List Said → Said → List Said
with_line before said = unless (add_fault before said) before said

-- so are the lines, in order
abbrev pub added : List Said → List Said → List Said
added before [] = before
added before (said ∷ more) = added (with_line before said) more
