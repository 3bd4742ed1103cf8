use Rattle.he_json.proofs.LineLaws.{explanation_is_line, machine_is_line, names_is_line, order_is_line, transcript_is_line}
use Rattle.he_json.proofs.laws.texts_are_lines.Goals as goal

pub returns-clause-transcripts : goal.returns-clause-transcripts
returns-clause-transcripts c = transcript_is_line c.strings_end.ensures.lines

pub returns-clause-orders : goal.returns-clause-orders
returns-clause-orders c = order_is_line c.strings_end.ensures.lines

pub returns-clause-explanations : goal.returns-clause-explanations
returns-clause-explanations c = explanation_is_line c.strings_end.ensures.lines

pub returns-clause-machines : goal.returns-clause-machines
returns-clause-machines c = machine_is_line c.strings_end.ensures.lines

pub returns-clause-names : goal.returns-clause-names
returns-clause-names c = names_is_line c.strings_end.ensures.lines
