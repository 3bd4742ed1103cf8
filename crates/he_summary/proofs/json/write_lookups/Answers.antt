use Rattle.std.proofs.lemmas.Result.{on_ok_weaker}
use Rattle.he_summary.proofs.json.write_lookups.Goals as goal

pub returns : goal.returns
returns g c = on_ok_weaker c.write_members.result (λ done. rw (c.lookups.ensures, c.lookups-2.ensures, c.lookups-3.ensures, c.lookups-4.ensures, c.lookups-5.ensures, c.lookups-6.ensures, c.lookups-7.ensures, c.lookups-8.ensures) at done) c.write_members.ensures
