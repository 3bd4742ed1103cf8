use Rattle.he_kept.specs.Past.{WasKept}
use Rattle.he_kept.proofs.Copying.{of_past}
use Rattle.he_kept.proofs.kept.known_in.Goals as goal

pub returns-in-Ok-Some-clause-law : goal.returns-in-Ok-Some-clause-law
returns-in-Ok-Some-clause-law c = λ past so.
    let was : WasKept past c.args.now c.args.host.now c.args.family c.in-Ok-Some.kept.now = rw c.in-Ok-Some.field-0-is at (c.in-Ok-Some.ensures.law past so) in
    of_past past c.args.now c.args.host.now c.args.family c.in-Ok-Some.kept.now c.copied.result c.ok.result was
    c.copied.ensures c.ok.ensures.value
