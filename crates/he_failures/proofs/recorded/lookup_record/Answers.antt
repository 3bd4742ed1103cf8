use Rattle.std.proofs.Common.{List, ◌∙◌, subst}
use Rattle.std.proofs.lemmas.Result.{IfOk-weaker}
use Rattle.he_recording.specs.declared.facts.ServerFailure.{ServerFailure}
use Rattle.he_failures.specs.Failures.{failed_servers}
use Rattle.he_failures.specs.Recorded.{IsOfServers}
use Rattle.he_failures.proofs.recorded.lookup_record.Goals as goal

pub returns : goal.returns
returns c =
    let P : List ServerFailure → Type 0 = λ servers. IsOfServers c.args.at c.args.heard servers c.facts_of-facts.result in
    let of : P (failed_servers c.args.heard.events.now) = subst P (c.deref.ensures.value ∙ c.in_ok-servers.ensures) c.facts_of-facts.ensures in
    IfOk-weaker c.text_of.result _ _ (λ text e. (c.facts_of-facts.result, of, e)) c.text_of.ensures
