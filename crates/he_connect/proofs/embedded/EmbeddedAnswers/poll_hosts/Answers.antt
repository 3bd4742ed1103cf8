use Rattle.std.proofs.Common.{refl, subst}
use Rattle.he_addr.specs.declared.ip.Family.TheVariants as families
use Rattle.he_connect.specs.Embedded.{HasReached, embedded_origins}
use Rattle.he_connect.specs.declared.embedded.Stage.{Stage}
use Rattle.he_connect.specs.declared.embedded.Stage.TheVariants as stages
use Rattle.he_connect.proofs.Synthesized.{reaches_last, stays, tells_by}
use Rattle.he_connect.proofs.embedded.EmbeddedAnswers.poll_hosts.Goals as goal

pub returns-in-Ok-clause-stays : goal.returns-in-Ok-clause-stays
returns-in-Ok-clause-stays g c =
    let old = c.args.self.now in
    let four = c.poll_told.new.self in
    let new = record old { four = four; stage = stages.Prefixes c.in-Ok.hosts } in
    stays old new refl c.poll_told.ensures.origin refl refl (λ sound. sound) c.poll_told.ensures.sound (λ sound. sound)
    (λ sound. reaches_last (embedded_origins new) c.in-Ready.told c.in-Ok.hosts
    (subst (λ (s : Stage). HasReached (embedded_origins old) s) c.requires.stage sound.reached)
    (tells_by four.lookup.source families.V4 c.in-Ready.told (c.in-Ready.ensures.told sound.four)) c.in-Ok.ensures)
