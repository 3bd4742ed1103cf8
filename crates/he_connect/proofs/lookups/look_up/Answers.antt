use Rattle.he_connect.proofs.Synthesized.{comes_embedded, comes_host}
use Rattle.he_connect.proofs.lookups.look_up.Goals as goal

pub returns-in_ok-lookups-clause-comes : goal.returns-in_ok-lookups-clause-comes
returns-in_ok-lookups-clause-comes g c = λ knows.
    comes_embedded c.args.setup.now.embeds c.args.setup.now.request c.in_ok-lookups.lookups (cc) (c.in_ok-lookups.ensures.begin knows)

pub returns-in_ok-lookup-clause-comes : goal.returns-in_ok-lookup-clause-comes
returns-in_ok-lookup-clause-comes g c = λ knows.
    comes_host c.args.setup.now.embeds c.args.setup.now.request _ c.in_ok-lookup.lookup (cc) (c.in_ok-lookup.ensures.begins knows)
