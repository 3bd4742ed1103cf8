use Rattle.std.proofs.Common.{refl}
use Rattle.he_response.proofs.Coming.{breaks}
use Rattle.he_response.proofs.answer.Answer.hear.Goals as goal

pub returns-then-len-ge-MOST_HEAD : goal.returns-then-len-ge-MOST_HEAD
returns-then-len-ge-MOST_HEAD c = breaks c.args.self.now _ refl c.requires c.args.octets.now refl refl
