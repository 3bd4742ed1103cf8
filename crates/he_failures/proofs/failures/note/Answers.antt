use Rattle.std.proofs.Common.{List, ◌∙◌, ap, sym}
use Rattle.std.specs.List.{list_any}
use Rattle.he_addr.specs.Ip.{same_ip}
use Rattle.he_recording.specs.declared.facts.ServerFailure.{ServerFailure}
use Rattle.he_failures.proofs.Noted.{noted_before}
use Rattle.he_failures.proofs.failures.note.Goals as goal

pub returns-then-has_server : goal.returns-then-has_server
returns-then-has_server c =
    noted_before c.args.failed.now.items c.args.failure c.in-Some.failure c.in-Some.is
    (ap (λ (xs : List ServerFailure). list_any (λ other. same_ip other.ip c.in-Some.failure.ip) xs) (sym c.deref.ensures.value)
    ∙ sym c.has_server.ensures ∙ c.if-has_server.true)
