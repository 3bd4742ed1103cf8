use Rattle.std.proofs.Common.{ap}
use Rattle.he_addr.specs.declared.ip.Family.TheVariants as families
use Rattle.he_resolver.specs.Heard.{Origin}
use Rattle.he_connect.specs.Embedded.{embedded_origins}
use Rattle.he_connect.proofs.Synthesized.{gives_embedded, same_reach, tells_by}
use Rattle.he_connect.proofs.embedded.EmbeddedAnswers.poll_prefixes.Goals as goal

pub returns-in-Ready-clause-gives : goal.returns-in-Ready-clause-gives
returns-in-Ready-clause-gives g c = λ sound.
    let old = c.args.self.now in
    let new = record old { prefixes = c.poll_told.new.self } in
    gives_embedded (embedded_origins new) old.stage c.in-Ready.told c.embed.result
    (same_reach old new old.stage (ap (λ (o : Origin). record (embedded_origins old) { prefixes = o }) c.poll_told.ensures.origin) sound.reached)
    (tells_by c.poll_told.new.self.lookup.source families.V6 c.in-Ready.told (c.in-Ready.ensures.told sound.prefixes)) c.embed.ensures
