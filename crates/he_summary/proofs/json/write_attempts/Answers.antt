use Rattle.std.proofs.lemmas.Result.{on_ok_weaker}
use Rattle.he_summary.proofs.json.write_attempts.Goals as goal

pub returns : goal.returns
returns g c = on_ok_weaker c.write_members.result (λ done. rw (c.total_of.ensures, c.greatest_of.ensures) at done) c.write_members.ensures
