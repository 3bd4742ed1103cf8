use Rattle.he_record.proofs.FrontLaws.{begins_found, found_begins}
use Rattle.he_record.proofs.Stands.{some_parts}
use Rattle.he_record.proofs.laws.fronts_are_records.Goals as goal

pub returns : goal.returns
returns c = λ text said left. (found_begins text said left (some_parts 10 text), begins_found text said left)
