-- The progress of a session: the octets its client has sent and was sent, and the result of its race.
use Rattle.std.specs.Prelude.{◌≡◌, ◌⊎◌, ℕ, ⊤, List, [], ◌++◌, Option, Some, Result, Err, drop, string_bytes}
use Rattle.std.specs.declared.alloc.Global.{Global}
use Rattle.tokio.specs.Io.Moved.{Passes}
use Rattle.futures.specs.Task.{IsArmed, Keeps}
use Rattle.futures.specs.declared.future.Future.{Ghosts as FutureOf}
use Rattle.futures.specs.declared.task.context.Context.{Context}
use Rattle.httparse.specs.declared.spans.Span.{Span}
use Rattle.he_front.specs.declared.asked.Asked.{Asked}
use Rattle.he_front.specs.declared.replies.Ended.{Ended}
use Rattle.he_front.specs.declared.replies.Ended.TheVariants as ends
use Rattle.he_bounded.specs.declared.bounded.Bounded.{Bounded}
use Rattle.he_relay.specs.Ways.{held}
use Rattle.he_relay.specs.declared.sockets.Cut.{Cut}
use Rattle.he_relay.specs.declared.tunnel.Broke.{Broke}
use Rattle.he_relay.specs.declared.tunnel.Broke.TheVariants as brokes
use Rattle.he_relay.specs.declared.tunnel.Tunnel.{Tunnel}
use Rattle.he_response.specs.declared.returned.Returned.{Returned}
use Rattle.he_users.specs.declared.users.Users.{Users}
use Rattle.he_handshake.specs.Asks.{Asks, AsksPage, greets, protocol_of}
use Rattle.he_handshake.specs.Replies.{step_reply}
use Rattle.he_sessions.specs.Follows.{Follows}
use Rattle.he_sessions.specs.Forwarding.{IsForwarding, IsParting}
use Rattle.he_sessions.specs.Talks.{AsksBy, HasGreeted, IsOpened, IsRefused, IsTurnedAway, Talks, welcome}
use Rattle.he_sessions.specs.Went.{Went}
use Rattle.he_sessions.specs.Won.{IsWon}
use Rattle.he_handshake.specs.declared.asking.Ask.{Ask}
use Rattle.he_handshake.specs.declared.asking.Extent.{Extent}
use Rattle.he_handshake.specs.declared.asking.Stage.{Stage}
use Rattle.he_handshake.specs.declared.asking.Wanted.{Wanted}
use Rattle.he_sessions.specs.declared.ending.Ending.{Ending}
use Rattle.he_sessions.specs.declared.ending.Ending.TheVariants as endings
use Rattle.he_sessions.specs.declared.racer.Racer.{Ghosts as RacerOf}
use Rattle.he_sessions.specs.declared.racer.Winner.{Winner}
use Rattle.he_sessions.specs.declared.racer.Won.{Won}
use Rattle.he_sessions.specs.declared.session.Next.{Next}
use Rattle.he_sessions.specs.declared.session.Next.TheVariants as nexts
use Rattle.he_sessions.specs.declared.session.Session.{Session}
use Rattle.he_sessions.specs.declared.states.Answering.{Answering}
use Rattle.he_sessions.specs.declared.states.Asking.{Asking}
use Rattle.he_sessions.specs.declared.states.Closing.{Closing}
use Rattle.he_sessions.specs.declared.states.Cutting.{Cutting}
use Rattle.he_sessions.specs.declared.states.Racing.{Racing}
use Rattle.he_sessions.specs.declared.states.State.{State}
use Rattle.he_sessions.specs.declared.states.State.TheVariants as states

-- if one of these two connections broke off, the session ends by that one, and the other one is reset
abbrev pub IsCutOf : {S : Type 0} → (S → Cut → Type 0) → S → S → Broke → Cut → Ending → Type 0
IsCutOf cuts client server brokes.Client cut how = (how ≡ endings.ClientBroke) × cuts server cut
IsCutOf cuts client server brokes.Server cut how = (how ≡ endings.ServerBroke) × cuts client cut

-- the octets so far make this request, and everything due to the client before the answer is written
pub record MayAnswer {S : Type 0} (users : Users) (asking : Asking S) (ask : Ask) : Type 0 where
  pub asks : Asks users asking.stage asking.come.items ask
  pub told : asking.reply.items ≡ []

-- the message of `len` octets is answered, and the octets after it will be read at this stage
pub record IsAdvanced {S : Type 0} (next : Stage) (len : ℕ) (old new : Asking S) : Type 0 where
  pub client : new.client ≡ old.client
  pub rest : new.come.items ≡ drop len old.come.items
  pub stage : new.stage ≡ next
  pub reply : new.reply.items ≡ step_reply next

-- everything sent to a client with these octets that gets no tunnel: a page that it asked for; that its server gave no
-- response; or a refusal, by an end that is the session's result, for the log
abbrev pub IsLast : Users → Option (Result Winner Ended) → Ending → List ℕ → List ℕ → Type 0
IsLast users result endings.Page said told =
    (extent : Extent) × (path : Span) × (host : Option Span) × AsksPage said extent path host
IsLast users result endings.NoResponse said told = IsRefused ends.Refused told
IsLast users result endings.Refused said told =
    (ended : Ended) × (result ≡ Some (Err ended)) × IsTurnedAway users ended told
IsLast users result _ said told = ⊥

module _ {S : Type 0} (reads writes : Passes S) (first : S) where
  -- it has sent what leads to its stage, and the octets that have come, and is sent only the answers that lead there
  pub record IsAsking (users : Users) (asking : Asking S) : Type 0 where
    pub greeting : List ℕ
    pub greeted : HasGreeted users asking.stage greeting
    pub talks : Talks reads writes first (greeting ++ asking.come.items) asking.client asking.reply.items (welcome asking.stage)

  -- it has requested this of this host and port, and has sent the early octets after that
  pub record HasAsked (users : Users) (target : Asked Global) (client : S) (early : List ℕ) (wanted : Wanted) : Type 0 where
    pub asks : List ℕ
    pub asked : AsksBy users wanted target asks
    pub talks : Talks reads writes first (asks ++ early) client [] (welcome (greets (protocol_of wanted)))

  -- the race has only results that may be
  pub record IsRacing {F : Type 0} (race : FutureOf F (Result (Won S) Ended)) (users : Users) (MayEnd : Result (Won S) Ended → Type 0) (asked : Asked Global) (racing : Racing F S) : Type 0 where
    pub has_asked : HasAsked users asked racing.client racing.early.items racing.wanted
    pub can : race.can_poll racing.race
    pub gives : (end : Result (Won S) Ended) → race.gives racing.race end → MayEnd end

  -- the race was won, and the client is being sent the success
  pub record IsAnswering (users : Users) (MayEnd : Result (Won S) Ended → Type 0) (asked : Asked Global) (result : Option (Result Winner Ended)) (answering : Answering S) : Type 0 where
    pub asks : List ℕ
    pub told : List ℕ
    pub opened : IsOpened users asked asks told
    pub is_won : IsWon MayEnd result answering.won
    pub talks : Talks reads writes first (asks ++ answering.early.items) answering.client answering.reply.items told

  -- The tunnel is between the client and the connection that the race gave. That connection was sent the client's
  -- octets after its request, up to those held for it; and after the success the client was sent that connection's
  -- octets, up to those held for it.
  pub record IsRelaying (users : Users) (MayEnd : Result (Won S) Ended → Type 0) (asked : Asked Global) (result : Option (Result Winner Ended)) (tunnel : Tunnel S S) : Type 0 where
    pub asks : List ℕ
    pub told : List ℕ
    pub opened : IsOpened users asked asks told
    pub won : Won S
    pub is_won : IsWon MayEnd result won
    pub sent : List ℕ
    pub received : List ℕ
    pub client : Talks reads writes first (asks ++ (sent ++ held tunnel.there)) tunnel.client [] (told ++ received)
    pub server : Went reads writes won.stream (received ++ held tunnel.back) sent tunnel.server

  -- after its request, it is sent the final reply why there is no tunnel, or a page
  pub record IsClosing (users : Users) (result : Option (Result Winner Ended)) (closing : Closing S) : Type 0 where
    pub asks : List ℕ
    pub later : List ℕ
    pub told : List ℕ
    pub last : IsLast users result closing.how asks told
    pub talks : Talks reads writes first (asks ++ later) closing.client closing.reply.items told

  -- a tunnel was open between these two
  pub record WasOpen (users : Users) (MayEnd : Result (Won S) Ended → Type 0) (asked : Asked Global) (result : Option (Result Winner Ended)) (client server : S) : Type 0 where
    pub tunnel : Tunnel S S
    pub was : IsRelaying users MayEnd asked result tunnel
    pub is_client : tunnel.client ≡ client
    pub is_server : tunnel.server ≡ server

  -- a request was being forwarded between these two
  pub record WasForwarding (users : Users) (MayEnd : Result (Won S) Ended → Type 0) (asked : Asked Global) (result : Option (Result Winner Ended)) (client server : S) : Type 0 where
    pub tunnel : Tunnel (Bounded S) (Returned S)
    pub was : IsForwarding reads writes first users MayEnd asked result tunnel
    pub is_client : tunnel.client.inner ≡ client
    pub is_server : tunnel.server.inner ≡ server

  -- one of two such connections broke off, and the other one will be reset
  pub record IsCutting (cuts : S → Cut → Type 0) (users : Users) (MayEnd : Result (Won S) Ended → Type 0) (asked : Asked Global) (result : Option (Result Winner Ended)) (cutting : Cutting) : Type 0 where
    pub client : S
    pub server : S
    pub was : WasOpen users MayEnd asked result client server ⊎ WasForwarding users MayEnd asked result client server
    pub broke : Broke
    pub is_cut : IsCutOf cuts client server broke cutting.cut cutting.how

module _ {K Q S F P : Type 0} (racer : RacerOf Q S F P) (race : FutureOf F (Result (Won S) Ended)) (reads writes : Passes S) (cuts : S → Cut → Type 0) where
  -- a possible result of the race of the session's client for the host and the port of its request
  abbrev pub MayEnd : Session K Q S F P → Result (Won S) Ended → Type 0
  MayEnd session end =
      racer.answers session.asker.racer.now session.asker.address (string_bytes session.asked.host) session.asked.port end

  -- the users of its racer
  abbrev pub users_of : Session K Q S F P → Users
  users_of session = racer.all_users session.asker.racer.now

  -- the progress of the session, since its client was accepted as `first`
  abbrev pub IsAt : S → Session K Q S F P → State F S → Type 0
  IsAt first session (states.Asking asking) = IsAsking reads writes first (users_of session) asking
  IsAt first session (states.Racing racing) =
      IsRacing reads writes first race (users_of session) (MayEnd session) session.asked racing
  IsAt first session (states.Answering answering) =
      IsAnswering reads writes first (users_of session) (MayEnd session) session.asked session.result answering
  IsAt first session (states.Closing closing) =
      IsClosing reads writes first (users_of session) session.result closing
  IsAt first session (states.Relaying relaying) =
      IsRelaying reads writes first (users_of session) (MayEnd session) session.asked session.result relaying.tunnel
  IsAt first session (states.Forwarding forwarding) =
      IsForwarding reads writes first (users_of session) (MayEnd session) session.asked session.result forwarding.tunnel
  IsAt first session (states.Parting parting) =
      IsParting reads writes first (users_of session) (MayEnd session) session.asked session.result parting
  IsAt first session (states.Cutting cutting) =
      IsCutting reads writes first cuts (users_of session) (MayEnd session) session.asked session.result cutting
  IsAt first session states.Over = ⊤

  -- the client, which was sent exactly this, whatever it has sent, goes on in its session
  abbrev pub TellsOn : S → List ℕ → Session K Q S F P → Type 0
  TellsOn client told session =
      (first : S) (said : List ℕ) → Talks reads writes first said client [] told → IsAt first session session.state

  -- the session has this progress since some client was accepted
  abbrev pub MayPoll : Session K Q S F P → State F S → Type 0
  MayPoll session state = (first : S) × IsAt first session state

  -- it went on from this state: in all octets sent either way since this client was accepted, and in the order of
  -- states
  pub record IsStep (old : Session K Q S F P) (from : State F S) (new : Session K Q S F P) : Type 0 where
    pub goes_on : (first : S) → IsAt first old from → IsAt first new new.state
    pub follows : Follows from new.state
    pub same : new.asker ≡ old.asker

-- it went on for the same client and request, to a state that may come after any race
pub record IsNext {K Q S F P : Type 0} (old new : Session K Q S F P) : Type 0 where
  pub follows : (racing : Racing F S) → Follows (states.Racing racing) new.state
  pub same : new.asker ≡ old.asker
  pub asked : new.asked ≡ old.asked

-- it has asked to be woken, if it waits
pub record IsPolled (next : Next) (old new : Context) : Type 0 where
  pub armed : next ≡ nexts.Waits → IsArmed new
  pub kept : Keeps old new
