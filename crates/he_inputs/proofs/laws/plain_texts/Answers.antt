use Rattle.he_inputs.proofs.PlainTexts.{plain_fault, plain_race}
use Rattle.he_inputs.proofs.laws.plain_texts.Goals as goal

pub returns-clause-race : goal.returns-clause-race
returns-clause-race c = plain_race

pub returns-clause-fault : goal.returns-clause-fault
returns-clause-fault c = plain_fault
