use Rattle.std.proofs.Common.{◌∙◌, ap, take}
use Rattle.he_forward.specs.Targets.{authority_in}
use Rattle.he_forward.proofs.Named.{of_none}
use Rattle.he_forward.proofs.Refusals.{refused_names}
use Rattle.he_forward.proofs.forward.forward_of.Goals as goal

pub returns-in_default-2 : goal.returns-in_default-2
returns-in_default-2 g c =
    refused_names c.args.octets.now (take c.args.spans.now.headers c.args.room.now) c.args.spans.now c.in-Some.authority.now
    (c.in-Some.ensures.authority ∙ ap authority_in c.of.ensures)
    (of_none _ c.in_ok-asked.field-0 c.in_default-2.is c.in_ok-asked.ensures)
