-- The result of a race for its session.
use Rattle.std.specs.Prelude.{ℕ, ◌≡◌, ⊤, List, Some, Result, Ok, Err, IfOk, slice_get}
use Rattle.std.specs.Net.Socket.{socket_ip}
use Rattle.std.specs.declared.net.socket_addr.SocketAddr.{SocketAddr}
use Rattle.std.specs.Global.{Global}
use Rattle.he_course.specs.Course.{IsCourse, lost}
use Rattle.he_course.specs.declared.course.Course.{Course}
use Rattle.he_front.specs.declared.replies.Ended.{Ended}
use Rattle.he_plan.specs.Transcript.{Report}
use Rattle.he_plan.specs.declared.transcript.Line.{Line}
use Rattle.he_plan.specs.declared.transcript.Outcome3.TheVariants as results
use Rattle.he_turns.specs.declared.live.Raced.{Raced}
use Rattle.he_sessions.specs.declared.racer.Winner.{Winner}
use Rattle.he_sessions.specs.declared.racer.Won.{Won}
use Rattle.he_timeline.specs.Race.{Race}
use Rattle.tokio.specs.declared.net.stream.TcpStream.{TcpStream}
use Rattle.he_setup.specs.Embedding.{MayEmbed}
use Rattle.he_setup.specs.Races.{IsSetUp}
use Rattle.he_setup.specs.declared.request.ConnectRequest.{ConnectRequest}
use Rattle.he_setup.specs.declared.setup.Setup.{Setup}
use Rattle.he_addr.specs.Text.{ip_of}
use Rattle.he_turns.specs.Resolving.{ReplaysGiven}
use Rattle.he_turns.specs.Winner.{WinnerGoes}
use Rattle.he_loop.specs.Dials.{GoesTo}
use Rattle.he_access.specs.declared.reach.Place.{Place}
use Rattle.he_loop.specs.declared.access.Reach.{Reach}
use Rattle.he_loop.specs.declared.dial.Joined.{Joined}
use Rattle.he_source.specs.Answers.{AnswersFor}
use Rattle.he_proxy.specs.declared.request.ProxyRequest.{ProxyRequest}

-- the race was won at this place and tick: by this address, in this number of milliseconds, of which it lost `lost`
pub record IsWinner (recorded : Race) (report : Report) (winner : Winner) : Type 0 where
  pub place : ℕ
  pub won : report.result ≡ results.Won place winner.ticks
  pub line : Line
  pub stands : slice_get report.lines place ≡ Some line
  pub ip : line.ip ≡ winner.ip
  pub course : Course Global
  pub is_course : IsCourse recorded 1 1 course
  pub lost : lost course ≡ Some winner.lost

-- the result is this race's winner, with its connection
pub record IsWonOf (raced : Raced Joined) (won : Won TcpStream) : Type 0 where
  pub winner : IsWinner raced.recorded raced.transcript won.winner
  pub joined : Joined
  pub is_winner : raced.winner ≡ Some joined
  pub stream : won.stream ≡ joined.stream

-- the results that the race may have: a winner only if the race gave one, and that one
abbrev pub HandsOut : (Raced Joined → Type 0) → Result (Won TcpStream) Ended → Type 0
HandsOut gives (Ok won) = (raced : Raced Joined) × gives raced × IsWonOf raced won
HandsOut gives (Err ended) = ⊤

-- the request of a session's race: for the session's host and port, and otherwise as for the proxy
pub record AsksFor (proxy : ProxyRequest) (host : List ℕ) (port : ℕ) (request : ConnectRequest) : Type 0 where
  pub host_is : request.host.now ≡ host
  pub port_is : request.port ≡ port
  pub families : request.families ≡ proxy.families
  pub settings : request.settings ≡ proxy.settings
  pub lines : request.lines ≡ proxy.lines
  pub resolver : request.resolver ≡ proxy.resolver
  pub environment : request.environment ≡ proxy.environment

-- the reach of a client's races: these places of the proxy, this client, private addresses for clients of other
-- machines if the proxy allows them, and the proxy's rules
pub record IsReachOf (proxy : ProxyRequest) (places : List Place) (client : SocketAddr) (reach : Reach) : Type 0 where
  pub own : reach.own.now ≡ places
  pub of_client : reach.client.ip ≡ ip_of (socket_ip client)
  pub allowed : reach.allows_private ≡ proxy.allows_private
  pub ruled : reach.rules.now ≡ proxy.rules.now

-- the race of the set-up was run: its record keeps the start, has the answers of a source for the set-up, and replays
-- to its transcript; and its connection goes to the address of the winning line, at the endpoint, which the client's
-- races for the requested host may reach
pub record RunsFrom (R : Type 0) (setup : Setup) (reach : Reach) (raced : Raced Joined) : Type 0 where
  pub replays : ReplaysGiven setup.start raced
  pub answers : AnswersFor R setup raced.recorded
  pub goes : WinnerGoes (GoesTo reach setup.request.host.now setup.to) raced

-- the result is the winner of the requested race: it started as in he_setup, and was run like this. IPv4 hosts are
-- embedded only if this machine's lines and IPv6 are requested
pub record IsWonFor (R : Type 0) (request : ConnectRequest) (reach : Reach) (won : Won TcpStream) : Type 0 where
  pub setup : Setup
  pub set_up : IsSetUp request setup
  pub chosen : MayEmbed setup.embeds request
  pub raced : Raced Joined
  pub runs : RunsFrom R setup reach raced
  pub handed : IsWonOf raced won

-- a result for a session of the client, for the host at the port
pub record IsWonBy (R : Type 0) (proxy : ProxyRequest) (places : List Place) (client : SocketAddr) (host : List ℕ)
    (port : ℕ) (won : Won TcpStream) : Type 0 where
  pub request : ConnectRequest
  pub asks : AsksFor proxy host port request
  pub reach : Reach
  pub reaches : IsReachOf proxy places client reach
  pub winner : IsWonFor R request reach won

-- whatever it ends with, a winner that it gives satisfies this
abbrev pub Wins : (Won TcpStream → Type 0) → (Result (Won TcpStream) Ended → Type 0) → Type 0
Wins So gives = (end : Result (Won TcpStream) Ended) → gives end → IfOk end So
