use Rattle.he_course.proofs.Charges.{charges_add_up}
use Rattle.he_course.proofs.laws.charges_add_up.Goals as goal

pub returns : goal.returns
returns c = charges_add_up
