use Rattle.std.proofs.Common.{inl, subst, sym}
use Rattle.std.specs.Prelude.{Err}
use Rattle.he_addr.specs.declared.ip.Family.{Family}
use Rattle.he_settings.specs.declared.fault.NamesFault.TheVariants as faults
use Rattle.he_connect.specs.Embedded.{GivesEmbedded, embedded_origins}
use Rattle.he_connect.proofs.embedded.EmbeddedAnswers.poll_embedded.Goals as goal

pub returns-in-V4-clause-ready : goal.returns-in-V4-clause-ready
returns-in-V4-clause-ready g c = λ sound. (
  Err faults.NoAddress,
  subst (λ (f : Family). GivesEmbedded (embedded_origins c.args.self.now) f (Err faults.NoAddress)) (sym c.in-V4.is) tt,
  inl (cc),
)
