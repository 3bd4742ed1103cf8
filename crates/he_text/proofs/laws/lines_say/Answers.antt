use Rattle.he_text.proofs.LineLaws.{line_says, line_is_said}
use Rattle.he_text.proofs.laws.lines_say.Goals as goal

pub returns-clause-says : goal.returns-clause-says
returns-clause-says c = line_says

pub returns-clause-read : goal.returns-clause-read
returns-clause-read c = line_is_said
