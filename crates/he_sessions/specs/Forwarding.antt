-- A request that is forwarded, and its response.
use Rattle.std.specs.Prelude.{◌≡◌, ◌⊎◌, ℕ, ⊤, Bool, ◌&&◌, true, List, [], ◌++◌, codes, length, nat_le, take, Option, None, Result, Ok, Err}
use Rattle.std.specs.Str.{bytes_eq}
use Rattle.std.specs.declared.alloc.Global.{Global}
use Rattle.tokio.specs.Io.Moved.{Passes}
use Rattle.he_body.specs.Steps.{Counts, begun}
use Rattle.he_body.specs.declared.body.Framing.{Framing}
use Rattle.he_bounded.specs.Goes.{Goes, IsInBody}
use Rattle.he_bounded.specs.declared.bounded.Bounded.{Bounded}
use Rattle.he_front.specs.declared.asked.Asked.{Asked}
use Rattle.he_front.specs.declared.replies.Ended.{Ended}
use Rattle.he_relay.specs.Ways.{Begins, IsOver, held}
use Rattle.he_relay.specs.declared.tunnel.Tunnel.{Tunnel}
use Rattle.he_response.specs.Answers.{Stands}
use Rattle.he_response.specs.Answers as Answers
use Rattle.he_response.specs.declared.answer.Answer.{Answer}
use Rattle.he_response.specs.declared.part.Part.TheVariants.{Rest}
use Rattle.he_response.specs.declared.returned.Returned.{Returned}
use Rattle.he_users.specs.declared.users.Users.{Users}
use Rattle.he_sessions.specs.Talks.{AsksBy, Talks}
use Rattle.he_sessions.specs.Went.{Went}
use Rattle.he_sessions.specs.Won.{IsWon}
use Rattle.he_handshake.specs.declared.asking.Outgoing.{Outgoing}
use Rattle.he_handshake.specs.declared.asking.Wanted.TheVariants.{Response}
use Rattle.he_sessions.specs.declared.racer.Winner.{Winner}
use Rattle.he_sessions.specs.declared.racer.Won.{Won}
use Rattle.he_sessions.specs.declared.states.Parting.{Parting}

-- so many of the octets are of a body that is framed like this, and no more of the client is read than that body
abbrev pub IsBoundedBy : {S : Type 0} → S → Framing → List ℕ → Bounded S → ℕ → Type 0
IsBoundedBy client framing early bounded count =
    (bounded.inner ≡ client) × Counts (begun framing) early bounded.body count

abbrev pub IsGivenBack : {S T : Type 0} → S → Result T S → Type 0
IsGivenBack client (Ok bounded) = ⊤
IsGivenBack client (Err given) = given ≡ client

-- a request for a head alone (RFC 9110 section 9.3.2), by the method at its start
abbrev pub is_to_head : List ℕ → Bool
is_to_head head = nat_le 5 (length head) && bytes_eq (take 5 head) (codes "HEAD ")

-- The tunnel is between these two, and first writes the head and the body's early octets to the server. Nothing was
-- read of the server yet.
pub record IsSentOn {S : Type 0} (client : Bounded S) (server : S) (head early : List ℕ) (tunnel : Tunnel (Bounded S) (Returned S)) : Type 0 where
  pub is_client : tunnel.client ≡ client
  pub is_server : tunnel.server.inner ≡ server
  pub unread : Stands (is_to_head head) [] [] tunnel.server.answer
  pub there : Begins (head ++ early) tunnel.there
  pub back : Begins [] tunnel.back
  pub whole : tunnel.broke ≡ None

-- the response is whole, or the rest of what the server sends is of it
abbrev pub Ends : Answer → Type 0
Ends answer = Answers.IsOver answer ⊎ (answer.part ≡ Rest)

module _ {S : Type 0} (reads writes : Passes S) (first : S) where
  -- The client has sent the head of a request and some octets after it, of which the first went on and the rest was
  -- dropped. The connection that the race gave was sent the new head, and then those that went on, up to the octets
  -- held for it; none of these is after the body. Of the response that came, the client was sent the heads in their
  -- new form and the body, up to the octets held for it, and nothing else; and the response ended only where it is
  -- whole or ends with the connection.
  pub record IsForwarding (users : Users) (MayEnd : Result (Won S) Ended → Type 0) (asked : Asked Global) (result : Option (Result Winner Ended)) (tunnel : Tunnel (Bounded S) (Returned S)) : Type 0 where
    pub asks : List ℕ
    pub outgoing : Outgoing
    pub asks_by : AsksBy users (Response outgoing) asked asks
    pub won : Won S
    pub is_won : IsWon MayEnd result won
    pub passed : List ℕ
    pub dropped : List ℕ
    pub goes : Goes (begun outgoing.framing) passed dropped tunnel.client.body
    pub in_body : IsInBody outgoing.framing passed dropped
    pub sent : List ℕ
    pub in_order : outgoing.head.items ++ passed ≡ sent ++ held tunnel.there
    pub came : List ℕ
    pub received : List ℕ
    pub returned : Stands (is_to_head outgoing.head.items) came (received ++ held tunnel.back) tunnel.server.answer
    pub counted : tunnel.back.moved ≡ 0 → received ≡ []
    pub ended : tunnel.back.has_ended ≡ true → Ends tunnel.server.answer
    pub client : Talks reads writes first (asks ++ (passed ++ dropped)) tunnel.client.inner [] received
    pub server : Went reads writes won.stream came sent tunnel.server.inner

  -- the response was written to the client up to its end, and from then on nothing was
  pub record IsParting (users : Users) (MayEnd : Result (Won S) Ended → Type 0) (asked : Asked Global) (result : Option (Result Winner Ended)) (parting : Parting S) : Type 0 where
    pub tunnel : Tunnel (Bounded S) (Returned S)
    pub was : IsForwarding users MayEnd asked result tunnel
    pub answered : IsOver tunnel.back
    pub later : List ℕ
    pub since : Went reads writes tunnel.client.inner later [] parting.client
