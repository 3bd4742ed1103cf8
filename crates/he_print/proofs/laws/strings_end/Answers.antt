use Rattle.he_print.proofs.StringLaws.{string_ends, string_stands}
use Rattle.he_print.proofs.laws.strings_end.Goals as goal

pub returns-clause-ends : goal.returns-clause-ends
returns-clause-ends c = string_ends

pub returns-clause-lines : goal.returns-clause-lines
returns-clause-lines c = string_stands
