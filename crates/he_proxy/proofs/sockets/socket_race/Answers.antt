use Rattle.std.proofs.Common.{◌≡◌, rules, subst, sym}
use Rattle.std.specs.Prelude.{string_bytes}
use Rattle.he_addr.specs.declared.ip.Ip.{Ip}
use Rattle.he_live.proofs.Records.{gives_heard}
use Rattle.he_loop.specs.Dials.{GoesTo}
use Rattle.he_loop.specs.declared.dial.Joined.{Joined}
use Rattle.he_source.specs.Answers.{IsSourceFor, hears_session}
use Rattle.he_proxy.proofs.Runs.{runs_so}
use Rattle.he_proxy.proofs.sockets.socket_race.Goals as goal

pub returns-clause-runs : goal.returns-clause-runs
returns-clause-runs g c = λ knows raced gives.
    let connector = c.in_ok-race.race.race.connector in
    let reaches = λ (ip : Ip) (joined : Joined). GoesTo connector.reach (string_bytes connector.host) connector.to ip joined in
    let own = c.in_ok-race.race.source in
    let ends = gives_heard hears_session own reaches c.in_ok-race.race.race.live c.args.setup.now.start raced c.in_ok-race.ensures.recorded gives in
    let same : connector.to ≡ c.args.setup.now.to = search rules in
    let alike : connector.reach ≡ c.args.reach = search rules in
    let named : string_bytes connector.host ≡ c.args.setup.now.request.host.now = search rules in
    let begins = subst (λ s. IsSourceFor c.args.setup.now s) (sym c.in_ok-race.ensures.source) (c.in_ok-source.ensures knows) in
    runs_so c.args.setup.now connector.to connector.reach c.args.reach (string_bytes connector.host) own raced same alike named begins ends
