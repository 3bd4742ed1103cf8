-- The log's words as the events that are counted. This file mirrors the code.
use Rattle.he_log.specs.declared.lost.Lost.{Lost}
use Rattle.he_log.specs.declared.lost.Lost.TheVariants as losts
use Rattle.he_metrics.specs.declared.events.End.{End}
use Rattle.he_metrics.specs.declared.events.End.TheVariants as ends
use Rattle.he_metrics.specs.declared.events.Loss.{Loss}
use Rattle.he_metrics.specs.declared.events.Loss.TheVariants as losses
use Rattle.he_sessions.specs.declared.ending.Ending.{Ending}
use Rattle.he_sessions.specs.declared.ending.Ending.TheVariants as endings

abbrev pub end_of : Ending → End
end_of endings.Closed = ends.Closed
end_of endings.ClientBroke = ends.ClientBroke
end_of endings.ServerBroke = ends.ServerBroke
end_of endings.Idle = ends.Idle
end_of endings.Left = ends.ClientLeft
end_of endings.Displaced = ends.Displaced
end_of endings.Late = ends.TooLate
end_of endings.Refused = ends.Refused
end_of endings.NoResponse = ends.NoResponse
end_of endings.Page = ends.Page
end_of endings.Unknown = ends.UnknownProtocol
end_of endings.Failed = ends.NoMemory

abbrev pub loss_of : Lost → Loss
loss_of losts.Forbidden = losses.Forbidden
loss_of losts.AllFailed = losses.AllFailed
loss_of losts.TimedOut = losses.TimedOut
loss_of losts.Unreachable = losses.Unreachable
loss_of losts.NoNetwork = losses.NoNetwork
loss_of losts.NoDescriptor = losses.NoDescriptor
loss_of losts.NotAName = losses.NotAName
loss_of losts.NoSuchName = losses.NoSuchName
loss_of losts.NoAddress = losses.NoAddress
loss_of losts.NoAnswer = losses.NoAnswer
loss_of losts.DnsRefused = losses.DnsRefused
loss_of losts.DnsFailed = losses.DnsFailed
loss_of losts.ProxyFailed = losses.ProxyFailed
