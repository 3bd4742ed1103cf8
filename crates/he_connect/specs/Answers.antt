-- The answers in the record of a connection's race, by the origin of the host's addresses.
use Rattle.std.specs.Prelude.{ℕ, ◌≡◌, ◌⊎◌, ⊤, List, [], Option, Some, None}
use Rattle.he_addr.specs.declared.ip.Family.{Family}
use Rattle.he_addr.specs.declared.ip.Ip.{Ip}
use Rattle.he_dns.specs.Texts.{HostName}
use Rattle.he_names.specs.Answers.{cleaned}
use Rattle.he_names.specs.Targets.{Means}
use Rattle.he_names.specs.declared.environment.Environment.{Environment}
use Rattle.he_names.specs.declared.target.Target.{Target}
use Rattle.he_turns.specs.Heard.{cleaned as cleaned_again}
use Rattle.he_resolver.specs.Heard.{AreHeard, Asked, BySystem, Listed, Origin}
use Rattle.he_settings.specs.Known.{AsksSystem, IsKnown}
use Rattle.he_settings.specs.Plans.{IsPlanFor}
use Rattle.he_settings.specs.declared.choice.Choice.{Choice}
use Rattle.he_settings.specs.declared.plan.QueryPlan.{QueryPlan}
use Rattle.he_timeline.specs.Race.{Race, Reply, reply_of}

-- the origin of the answers for a host: name servers' messages for the names that resolver(5) gives for it; the
-- addresses known by itself or by the hosts file; or the system's resolver, if it is chosen
abbrev pub IsOriginFor : Choice → Environment → Target → Origin → Type 0
IsOriginFor choice environment target (Asked names) =
    (plan : QueryPlan) × IsPlanFor choice environment target plan × (names ≡ plan.names.items)
IsOriginFor choice environment target (Listed known) = IsKnown target (Some known)
IsOriginFor choice environment target BySystem = AsksSystem choice target

-- for the host in a text
abbrev pub ComesFrom : List ℕ → Choice → Environment → Origin → Type 0
ComesFrom text choice environment origin =
    (target : Target) × Means text target × IsOriginFor choice environment target origin

-- the addresses are those of the family in a message's answer for one of the names, each once
abbrev pub AreAnswered : List HostName → Family → List Ip → Type 0
AreAnswered names family ips =
    (all : List Ip) × AreHeard names family all × (ips ≡ cleaned_again family (cleaned family all))

-- so; or those of the family among the known ones; or there are none. The addresses of the system's resolver may be
-- any.
abbrev pub AreOf : Origin → Family → List Ip → Type 0
AreOf (Asked names) family ips = (ips ≡ []) ⊎ AreAnswered names family ips
AreOf (Listed known) family ips = (ips ≡ []) ⊎ (ips ≡ cleaned_again family (cleaned family known))
AreOf BySystem family ips = ⊤

-- a family without an answer still has none, or has such addresses
abbrev pub IsReplyOf : Origin → Family → Option Reply → Option Reply → Type 0
IsReplyOf origin family (Some given) later = ⊤
IsReplyOf origin family None None = ⊤
IsReplyOf origin family None (Some reply) = AreOf origin family reply.addresses

-- both families of a race do so
abbrev pub AnswersOf : Origin → Race → Race → Type 0
AnswersOf origin race later = (family : Family) → IsReplyOf origin family (reply_of race family) (reply_of later family)
