use Rattle.he_course.proofs.ListedLaws.{places_stand}
use Rattle.he_course.proofs.laws.places_stand.Goals as goal

pub returns : goal.returns
returns c = places_stand
