-- A name server's answer for a name, by a message that it sent (RFC 1035 section 4.1), and the query that it was
-- sent, both by he_dns.
use Rattle.std.specs.Prelude.{◌≡◌, ⊤, Bool, true, false, ℕ, List, [], ◌++◌, Option, Result, Ok, Err, length}
use Rattle.std.specs.Global.{Global}
use Rattle.std.specs.Int.{w16, to_be_bytes}
use Rattle.he_addr.specs.declared.ip.Family.{Family}
use Rattle.he_addr.specs.declared.ip.Ip.{Ip}
use Rattle.he_dns.specs.Answers.{Answers, Fails}
use Rattle.he_dns.specs.Queries.{query_of}
use Rattle.he_dns.specs.Ttls.{MayKeep}
use Rattle.he_dns.specs.declared.answer.Answer.{Answer}
use Rattle.he_dns.specs.declared.fault.AnswerFault.TheVariants as answers
use Rattle.he_asking.specs.declared.datagrams.Datagrams.{Datagrams}
use Rattle.he_settings.specs.declared.fault.NamesFault.{NamesFault}
use Rattle.he_settings.specs.declared.fault.NamesFault.TheVariants as faults
use Rattle.he_asking.specs.declared.query.Transport.{Transport}
use Rattle.he_asking.specs.declared.query.Transport.TheVariants as transports
use Rattle.he_asking.specs.declared.replies.Reply.{Reply}
use Rattle.he_asking.specs.declared.replies.Reply.TheVariants as replies
use Rattle.he_asking.specs.declared.streams.Stage.{Stage}
use Rattle.he_asking.specs.declared.streams.Stage.TheVariants as stages

-- ---- one message

-- a message with this id gives these addresses for the query for the family of the name with these octets
abbrev pub IsAnswered : ℕ → List ℕ → Family → List Ip → Type 0
IsAnswered id octets family ips = (message : List ℕ) × Answers message id octets family ips

-- a message with this id answers to that query that there is no such name
abbrev pub Denies : ℕ → List ℕ → Family → Type 0
Denies id octets family = (message : List ℕ) × Fails message id octets family answers.NoSuchName

-- and, with its addresses, how long they may be kept
abbrev pub IsAnswer : ℕ → List ℕ → Family → Answer Global → Type 0
IsAnswer id octets family answer =
    (message : List ℕ) × Answers message id octets family answer.addresses.items
    × MayKeep message id octets family answer.ttl

-- the addresses of a reply are those of a message with this id that answers the query; so is that there are none, or
-- that there is no such name: RCODE 3 is an answer for the queried type (RFC 4074 section 4.2)
abbrev pub RepliesTo : ℕ → List ℕ → Family → Reply → Type 0
RepliesTo id octets family (replies.Addresses answer) = IsAnswer id octets family answer
RepliesTo id octets family replies.NoAddress = IsAnswered id octets family []
RepliesTo id octets family replies.NoSuchName = Denies id octets family
RepliesTo id octets family other = ⊤

-- ---- the query sent

-- the query sent over UDP has the id that its answers must have
abbrev pub IsSent : List ℕ → Family → Datagrams → Type 0
IsSent octets family datagrams = (room : Option ℕ) × (datagrams.query.items ≡ query_of datagrams.id octets family room)

-- so has the query sent over TCP, after its length in two bytes (RFC 1035 section 4.2.2)
abbrev pub IsToSend : ℕ → List ℕ → Family → Stage → Type 0
IsToSend id octets family (stages.Connecting connecting request) =
    (room : Option ℕ) × (query : List ℕ) × (query ≡ query_of id octets family room)
    × (request.items ≡ to_be_bytes w16 (length query) ++ query)
IsToSend id octets family other = ⊥

-- the id that answers must have
abbrev pub id_of : Transport → ℕ
id_of (transports.Datagrams datagrams) = datagrams.id
id_of (transports.Stream stream) = stream.id

-- a server is first asked over TCP if the options have use-vc (resolver(5)), otherwise over UDP
abbrev pub IsWay : Bool → Transport → Type 0
IsWay true (transports.Stream stream) = ⊤
IsWay false (transports.Datagrams datagrams) = ⊤
IsWay use_vc other = ⊥

-- ---- one family of a name

-- a name server's answer, or why there is none
abbrev pub Heard : Type 0
Heard = Result (Answer Global) NamesFault

-- that there is no address, or no such name, is a message's answer to the query for the name with these octets
abbrev pub IsSaidOf : List ℕ → Family → NamesFault → Type 0
IsSaidOf octets family faults.NoAddress = (id : ℕ) × IsAnswered id octets family []
IsSaidOf octets family faults.NoSuchName = (id : ℕ) × Denies id octets family
IsSaidOf octets family fault = ⊤

-- the answer is a message's answer to the query for the name with these octets
abbrev pub IsHeardOf : List ℕ → Family → Heard → Type 0
IsHeardOf octets family (Ok answer) = (id : ℕ) × IsAnswer id octets family answer
IsHeardOf octets family (Err fault) = IsSaidOf octets family fault
