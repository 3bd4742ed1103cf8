use Rattle.he_record.proofs.LineSays.{line_begins, line_reads, line_says}
use Rattle.he_record.proofs.laws.record_lines_say.Goals as goal

pub returns-clause-says : goal.returns-clause-says
returns-clause-says c = line_says

pub returns-clause-read : goal.returns-clause-read
returns-clause-read c = λ line said says. (line_begins line said says, line_reads line said says)
