-- Why a session has no connection, and the reply to its client.
use Rattle.std.specs.Prelude.{ℕ}
use Rattle.he_front.specs.declared.replies.Ended.{Ended}
use Rattle.he_front.specs.declared.replies.Ended.TheVariants as ends
use Rattle.he_live.specs.declared.reason.Reason.{Reason}
use Rattle.he_live.specs.declared.reason.Reason.TheVariants as reasons
use Rattle.he_settings.specs.declared.failure.Failure.{Failure}
use Rattle.he_settings.specs.declared.failure.Failure.TheVariants as failures
use Rattle.he_settings.specs.declared.fault.NamesFault.{NamesFault}
use Rattle.he_settings.specs.declared.fault.NamesFault.TheVariants as faults
use Rattle.he_log.specs.declared.lost.Lost.{Lost}
use Rattle.he_log.specs.declared.lost.Lost.TheVariants as losses

-- a name server refused with RCODE 5 (RFC 1035 section 4.1.1); anything else is a failure
abbrev pub of_failure : Failure → Lost
of_failure failures.Refused = losses.DnsRefused
of_failure failure = losses.DnsFailed

-- by the fault of its look-up
abbrev pub of_names : NamesFault → Lost
of_names (faults.Host fault) = losses.NotAName
of_names (faults.Name fault) = losses.NotAName
of_names faults.NoSuchName = losses.NoSuchName
of_names faults.NoAddress = losses.NoAddress
of_names faults.NotAsked = losses.NoAddress
of_names faults.System = losses.NoAddress
of_names faults.NoAnswer = losses.NoAnswer
of_names (faults.Server server) = of_failure server.failure
of_names faults.Files = losses.NoDescriptor
of_names fault = losses.ProxyFailed

-- by the system's reason for a failed attempt
abbrev pub of_attempt : Reason → Lost
of_attempt reasons.Refused = losses.AllFailed
of_attempt reasons.Reset = losses.AllFailed
of_attempt reasons.TimedOut = losses.TimedOut
of_attempt reasons.NetworkUnreachable = losses.NoNetwork
of_attempt reasons.NetworkDown = losses.NoNetwork
of_attempt reasons.NoFamily = losses.NoNetwork
of_attempt reasons.TooManyFiles = losses.NoDescriptor
of_attempt reasons.TooManyFilesInSystem = losses.NoDescriptor
of_attempt reasons.OutOfMemory = losses.ProxyFailed
of_attempt reasons.NoBuffers = losses.ProxyFailed
of_attempt reason = losses.Unreachable

-- the reply to the client: a fault of this machine is the proxy's own, and a failed look-up is the host's
abbrev pub ended_of : Lost → Ended
ended_of losses.Forbidden = ends.Forbidden
ended_of losses.AllFailed = ends.Refused
ended_of losses.TimedOut = ends.TimedOut
ended_of losses.NoNetwork = ends.NoNetwork
ended_of losses.NoDescriptor = ends.Failed
ended_of losses.ProxyFailed = ends.Failed
ended_of lost = ends.NoHost
