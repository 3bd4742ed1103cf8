use Rattle.std.proofs.Common.{Bool, subst}
use Rattle.he_setup.specs.Embedding.{MayEmbed}
use Rattle.he_setup.proofs.SetUps.{all_known, all_set_up, made_so}
use Rattle.he_setup.proofs.embedding.set_up_any.Goals as goal

pub returns-then-embeds-clause-setup : goal.returns-then-embeds-clause-setup
returns-then-embeds-clause-setup g c =
    let setup = c.in_ok-setup.setup in
    let made = c.embedding_of.ensures in
    all_set_up c.args.request.now setup c.embedding_of.result c.in_ok-setup.ensures.setup
    (subst (λ (b : Bool). MayEmbed b setup.request) c.if-embeds.true c.in_ok-embeds.ensures)
    (made_so setup c.embedding_of.result made.request made.starts made.to made.known)

pub returns-then-embeds-clause-known : goal.returns-then-embeds-clause-known
returns-then-embeds-clause-known g c =
    let made = c.embedding_of.ensures in
    all_known c.in_ok-setup.setup c.embedding_of.result c.in_ok-setup.ensures.known
    (made_so c.in_ok-setup.setup c.embedding_of.result made.request made.starts made.to made.known)
