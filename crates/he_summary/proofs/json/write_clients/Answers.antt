use Rattle.std.proofs.lemmas.Result.{on_ok_weaker}
use Rattle.he_summary.proofs.json.write_clients.Goals as goal

pub returns : goal.returns
returns g c = on_ok_weaker c.write_members.result (λ done. rw (c.count.ensures, c.count-2.ensures, c.count-3.ensures) at done) c.write_members.ensures
