-- The request in a client's octets.
use Rattle.std.specs.Prelude.{◌≡◌, ◌⊎◌, ℕ, ⊤, true, List, Option, Some, string_bytes, if◌then◌else◌}
use Rattle.std.specs.declared.alloc.Global.{Global}
use Rattle.httparse.specs.declared.spans.Span.{Span}
use Rattle.httparse.specs.Spans.{span_bytes}
use Rattle.he_front.specs.declared.asked.Asked.{Asked}
use Rattle.he_front.specs.declared.http.Head.{Head}
use Rattle.he_front.specs.declared.http.Head.TheVariants as heads
use Rattle.he_front.specs.declared.passwords.Credentials.{Credentials}
use Rattle.he_front.specs.declared.replies.Ended.{Ended}
use Rattle.he_front.specs.declared.replies.Ended.TheVariants as ends
use Rattle.he_front.specs.declared.socks.Method.{Method}
use Rattle.he_front.specs.declared.socks.Method.TheVariants as ways
use Rattle.he_front.specs.declared.socks.Request.{Request}
use Rattle.he_front.specs.Asked.{asked_in}
use Rattle.he_front.specs.Authority.{IsAuthority}
use Rattle.he_front.specs.Authorizations.{IsAuthorizedBy}
use Rattle.he_front.specs.Http.{HasHead}
use Rattle.he_front.specs.OldSocks.{IsOldRequest}
use Rattle.he_front.specs.Passwords.{IsPassword}
use Rattle.he_front.specs.Socks.{IsGreeting, IsRequest}
use Rattle.he_forward.specs.Requests.{Reads}
use Rattle.he_forward.specs.declared.forward.Fault.{Fault}
use Rattle.he_forward.specs.declared.forward.Fault.TheVariants as faults
use Rattle.he_forward.specs.declared.forward.Forward.{Forward}
use Rattle.he_forward.specs.declared.forward.ReadForward.TheVariants as forwards
use Rattle.he_users.specs.Basic.{AdmitsBasic}
use Rattle.he_users.specs.Users.{admits, is_open}
use Rattle.he_users.specs.declared.users.Users.{Users}
use Rattle.he_handshake.specs.declared.asking.Ask.{Ask}
use Rattle.he_handshake.specs.declared.asking.Ask.TheVariants as asks
use Rattle.he_handshake.specs.declared.asking.Extent.{Extent}
use Rattle.he_handshake.specs.declared.asking.Extent.TheVariants as extents
use Rattle.he_handshake.specs.declared.asking.Outgoing.{Outgoing}
use Rattle.he_handshake.specs.declared.asking.Protocol.{Protocol}
use Rattle.he_handshake.specs.declared.asking.Protocol.TheVariants as protocols
use Rattle.he_handshake.specs.declared.asking.Stage.{Stage}
use Rattle.he_handshake.specs.declared.asking.Stage.TheVariants as stages
use Rattle.he_handshake.specs.declared.asking.Wanted.{Wanted}
use Rattle.he_handshake.specs.declared.asking.Wanted.TheVariants as wanteds

-- The octets begin with a request of `len` octets for a tunnel to this host and port: a request of SOCKS 4 or 4A, one
-- of SOCKS 5 (RFC 1928 section 4), or the head of a CONNECT with its target (RFC 9110 section 9.3.6).
abbrev pub AsksTunnel : List ℕ → Protocol → Asked Global → ℕ → Type 0
AsksTunnel octets protocols.OldSocks asked len =
    (request : Request) × IsOldRequest octets request len
    × (asked_in request ≡ Some (string_bytes asked.host, asked.port))
AsksTunnel octets (protocols.Socks method) asked len =
    (request : Request) × IsRequest octets request len × (asked_in request ≡ Some (string_bytes asked.host, asked.port))
AsksTunnel octets protocols.Http asked len =
    (target : Span) × HasHead octets (heads.Tunnel target) len
    × IsAuthority (span_bytes octets target) (string_bytes asked.host) asked.port

-- The octets begin with a head of `len` octets of a request to forward to this host and port, and this is what the
-- server gets in its place (RFC 9112 section 3.2.2).
pub record AsksResponse (octets : List ℕ) (outgoing : Outgoing) (asked : Asked Global) (len : ℕ) : Type 0 where
  pub forward : Forward Global
  pub reads : Reads octets (forwards.Whole forward)
  pub asked_is : forward.asked ≡ asked
  pub head_is : forward.head ≡ outgoing.head
  pub framing_is : forward.framing ≡ outgoing.framing
  pub len_is : forward.len ≡ len

-- the octets begin with a request of `len` octets for this, of this host and port
abbrev pub AsksServer : List ℕ → Wanted → Asked Global → ℕ → Type 0
AsksServer octets (wanteds.Tunnel protocol) asked len = AsksTunnel octets protocol asked len
AsksServer octets (wanteds.Response outgoing) asked len = AsksResponse octets outgoing asked len

-- the protocol of the reply
abbrev pub protocol_of : Wanted → Protocol
protocol_of (wanteds.Tunnel protocol) = protocol
protocol_of (wanteds.Response outgoing) = protocols.Http

-- any end other than a connection
abbrev pub IsFailure : Ended → Type 0
IsFailure ends.Connected = ⊥
IsFailure ends.Failed = ⊤
IsFailure ends.Forbidden = ⊤
IsFailure ends.NoUser = ⊤
IsFailure ends.NoNetwork = ⊤
IsFailure ends.NoHost = ⊤
IsFailure ends.Refused = ⊤
IsFailure ends.TimedOut = ⊤
IsFailure ends.Command = ⊤
IsFailure ends.Kind = ⊤
IsFailure ends.Coding = ⊤

-- the end of a request that is not forwarded: 501 for a transfer coding that is not understood (RFC 9112 section 6.1),
-- otherwise 400
abbrev pub ended_of : Fault → Ended
ended_of faults.Malformed = ends.Kind
ended_of faults.Coding = ends.Coding

-- the stage of a client whose request is read: one of SOCKS 5 has greeted (RFC 1928 section 3), and has shown its name
-- and password if it was asked for them (RFC 1929 section 2)
abbrev pub greeted_by : Method → Stage
greeted_by ways.Open = stages.Greeted
greeted_by ways.Password = stages.Admitted

abbrev pub greets : Protocol → Stage
greets protocols.OldSocks = stages.New
greets (protocols.Socks method) = greeted_by method
greets protocols.Http = stages.New

-- the method that a greeting must offer: with users, name and password
abbrev pub method_of : Users → Method
method_of users = if is_open users then ways.Open else ways.Password

-- the end of a client whose greeting doesn't offer it
abbrev pub ended_without_method : Users → Ended
ended_without_method users = if is_open users then ends.Kind else ends.NoUser

-- the stage after the answer to a greeting that offers it
abbrev pub stage_by : Method → Stage
stage_by ways.Open = stages.Greeted
stage_by ways.Password = stages.Authenticating

-- the octets begin with a message of `len` octets that has the name and the password of a user
abbrev pub IsOfUser : Users → List ℕ → ℕ → Type 0
IsOfUser users octets len =
    (given : Credentials) × IsPassword octets given len × (admits users given.name.now given.password.now ≡ true)

-- a message of `len` octets before the request leads from one stage to the next
abbrev pub LeadsTo : Users → Stage → List ℕ → Stage → ℕ → Type 0
LeadsTo users stages.New octets next len =
    IsGreeting (method_of users) octets true len × (next ≡ stage_by (method_of users))
LeadsTo users stages.Authenticating octets next len = IsOfUser users octets len × (next ≡ stages.Admitted)
LeadsTo users stages.Greeted octets next len = ⊥
LeadsTo users stages.Admitted octets next len = ⊥

-- the octets begin with a head of HTTP whose credentials are those of the user of this name (RFC 9110 section 11.7.2)
abbrev pub HasUser : Users → List ℕ → List ℕ → Type 0
HasUser users octets name = (value : List ℕ) × IsAuthorizedBy octets value × AdmitsBasic users value name

-- The request in the octets shows that its client may use the proxy: there are no users, or its head has the
-- credentials of one. A client of SOCKS 5 has shown it before.
abbrev pub IsAdmitted : Users → Protocol → List ℕ → Type 0
IsAdmitted users protocols.OldSocks octets = is_open users ≡ true
IsAdmitted users (protocols.Socks method) octets = ⊤
IsAdmitted users protocols.Http octets = (is_open users ≡ true) ⊎ ((name : List ℕ) × HasUser users octets name)

-- GET and HEAD (RFC 9110 sections 9.3.1 and 9.3.2)
abbrev pub page_head : Extent → Span → Option Span → Head
page_head extents.Whole path host = heads.Get path host
page_head extents.Head path host = heads.Head path host

-- the octets begin with a request for a page
abbrev pub AsksPage : List ℕ → Extent → Span → Option Span → Type 0
AsksPage octets extent path host = (len : ℕ) × HasHead octets (page_head extent path host) len

-- The octets begin with the message, tunnel, request or page, and a refusal is not a connection. A request for a
-- server is of a client that is admitted.
abbrev pub Asks : Users → Stage → List ℕ → Ask → Type 0
Asks users stage octets asks.More = ⊤
Asks users stage octets (asks.Step next len) = LeadsTo users stage octets next len
Asks users stage octets asks.NoMethod = stage ≡ stages.New
Asks users stage octets asks.WrongUser = stage ≡ stages.Authenticating
Asks users stage octets (asks.Server wanted asked len) =
    (greets (protocol_of wanted) ≡ stage) × AsksServer octets wanted asked len
    × IsAdmitted users (protocol_of wanted) octets
Asks users stage octets (asks.Page extent path host) = (stage ≡ stages.New) × AsksPage octets extent path host
Asks users stage octets (asks.Refused protocol ended) = (greets protocol ≡ stage) × IsFailure ended
Asks users stage octets asks.Unknown = ⊤
