-- How a request is forwarded, step by step.
use Rattle.std.proofs.Common.{◌≡◌, ◌⊎◌, inl, inr, ℕ, Bool, true, List, [], ◌∷◌, ◌++◌, take, drop, refl, sym, ap, ◌∙◌, subst, append_assoc, append-nil, arith}
use Rattle.std.proofs.lemmas.Bool.{false≢true}
use Rattle.std.proofs.lemmas.List.{take-append-drop}
use Rattle.std.specs.Prelude.{Option, Result}
use Rattle.std.specs.declared.alloc.Global.{Global}
use Rattle.tokio.specs.Io.Moved.{Passes}
use Rattle.he_body.specs.Steps.{begun}
use Rattle.he_body.specs.declared.body.Body.{Body}
use Rattle.he_bounded.proofs.Within.{nothing_after}
use Rattle.he_bounded.specs.Goes.{Goes}
use Rattle.he_bounded.specs.InOrder.{goes_counted, goes_on}
use Rattle.he_bounded.specs.declared.bounded.Bounded.{Bounded}
use Rattle.he_front.specs.declared.asked.Asked.{Asked}
use Rattle.he_front.specs.declared.replies.Ended.{Ended}
use Rattle.he_relay.specs.Tunnels.{MovesBoth}
use Rattle.he_relay.specs.Ways.{IsOver, held}
use Rattle.he_relay.specs.declared.tunnel.Tunnel.{Tunnel}
use Rattle.he_response.specs.Answers.{Stands}
use Rattle.he_response.specs.Answers as Answers
use Rattle.he_response.specs.Returns.{Returns}
use Rattle.he_response.specs.declared.answer.Answer.{Answer}
use Rattle.he_response.specs.declared.part.Part.TheVariants.{Rest}
use Rattle.he_response.specs.declared.returned.Returned.{Returned}
use Rattle.he_users.specs.declared.users.Users.{Users}
use Rattle.he_sessions.proofs.Talking.{talks_as}
use Rattle.tokio.specs.Io.Copying.{count_after}
use Rattle.he_sessions.specs.Follows.{Follows, come_to}
use Rattle.he_sessions.specs.Forwarding.{Ends, IsBoundedBy, IsForwarding, IsParting, IsSentOn, is_to_head}
use Rattle.he_sessions.specs.Sessions.{HasAsked}
use Rattle.he_sessions.specs.Talks.{Talks}
use Rattle.he_sessions.specs.Went.{Lingers, Went, nothing, read, wrote}
use Rattle.he_sessions.specs.Won.{IsWon}
use Rattle.he_handshake.specs.declared.asking.Outgoing.{Outgoing}
use Rattle.he_handshake.specs.declared.asking.Wanted.TheVariants.{Response}
use Rattle.he_sessions.specs.declared.racer.Winner.{Winner}
use Rattle.he_sessions.specs.declared.racer.Won.{Won}
use Rattle.he_sessions.specs.declared.states.Forwarding.{Forwarding}
use Rattle.he_sessions.specs.declared.states.Parting.{Parting}
use Rattle.he_sessions.specs.declared.states.State.{State}
use Rattle.he_sessions.specs.declared.states.State.TheVariants as states

-- what a client whose octets are bounded gave and was dropped
abbrev BoundedReads : {S : Type 0} → Passes S → Passes (Bounded S)
BoundedReads reads a xs b = (dropped : List ℕ) × reads a.inner (xs ++ dropped) b.inner × Goes a.body xs dropped b.body

abbrev BoundedWrites : {S : Type 0} → Passes S → Passes (Bounded S)
BoundedWrites writes a xs b = writes a.inner xs b.inner × (b.body ≡ a.body)

-- what is read of a server with a response in progress, which a write leaves unchanged
abbrev ReturnedWrites : {S : Type 0} → Passes S → Passes (Returned S)
ReturnedWrites writes a xs b = writes a.inner xs b.inner × (b.answer ≡ a.answer)

abbrev ReturnedEnds : {S : Type 0} → (S → Type 0) → Returned S → Type 0
ReturnedEnds ends r = Answers.IsOver r.answer ⊎ ((r.answer.part ≡ Rest) × ends r.inner)

-- a count of octets that is still 0 has counted none
counts_none : (old new : ℕ) (put : List ℕ) → new ≡ count_after old put → new ≡ 0 → (old ≡ 0) × (put ≡ [])
counts_none old new [] counted none = (omega (arith, counted, none), refl)
counts_none old new (x ∷ put) counted none = absurd (omega (arith, counted, none))

counts_all : (received put : List ℕ) (old new : ℕ) → new ≡ count_after old put → (old ≡ 0 → received ≡ []) → new ≡ 0 → received ++ put ≡ []
counts_all received put old new counted before none =
    let both = counts_none old new put counted none in
    ap (λ xs. xs ++ put) (before both.0) ∙ both.1

-- a response that has ended stays so
ends_by : {S : Type 0} (ends : S → Type 0) (was : Bool) (before server : Returned S) → (was ≡ true → server.answer ≡ before.answer)
    → (was ≡ true → Ends before.answer) → (was ≡ true) ⊎ ReturnedEnds ends server → Ends server.answer
ends_by ends was before server same ended (inl is) = subst Ends (sym (same is)) (ended is)
ends_by ends was before server same ended (inr (inl over)) = inl over
ends_by ends was before server same ended (inr (inr rest)) = inr rest.0

-- the client that is taken out of a tunnel
pub inner_of : {S : Type 0} (tunnel_client out : Bounded S) (client : S) → out ≡ tunnel_client → client ≡ out.inner
    → client ≡ tunnel_client.inner
inner_of {S} tunnel_client out client same is = is ∙ ap (λ (b : Bounded S). b.inner) same

-- the server that is taken out of one
pub server_of : {S : Type 0} (tunnel_server out : Returned S) (server : S) → out ≡ tunnel_server → server ≡ out.inner
    → server ≡ tunnel_server.inner
server_of {S} tunnel_server out server same is = is ∙ ap (λ (r : Returned S). r.inner) same

-- after a request was forwarded, the last reply may come
pub last_follows : {F S : Type 0} (forwarding : Forwarding S) (state : State F S) → (come_to state).2 ≡ 1 → Follows (states.Forwarding forwarding) state
last_follows forwarding (states.Asking asking) is = absurd (omega (arith, is))
last_follows forwarding (states.Racing racing) is = absurd (omega (arith, is))
last_follows forwarding (states.Answering answering) is = absurd (omega (arith, is))
last_follows forwarding (states.Closing closing) is = (omega arith, omega arith, omega arith, omega arith)
last_follows forwarding (states.Relaying relaying) is = absurd (omega (arith, is))
last_follows forwarding (states.Forwarding other) is = absurd (omega (arith, is))
last_follows forwarding (states.Parting parting) is = absurd (omega (arith, is))
last_follows forwarding (states.Cutting cutting) is = absurd (omega (arith, is))
last_follows forwarding states.Over is = (omega arith, omega arith, omega arith, omega arith)

module _ {S : Type 0} (reads writes : Passes S) (first : S) where
  -- the head goes first, and then what came early of the body
  pub is_sent_on : (users : Users) (MayEnd : Result (Won S) Ended → Type 0) (asked : Asked Global) (result : Option (Result Winner Ended)) (given : S) (client : Bounded S) (won : Won S) (outgoing : Outgoing) (early : List ℕ) (count : ℕ) (tunnel : Tunnel (Bounded S) (Returned S))
      → IsSentOn client won.stream outgoing.head.items (take count early) tunnel
      → IsBoundedBy given outgoing.framing early client count → IsWon MayEnd result won
      → HasAsked reads writes first users asked given early (Response outgoing)
      → IsForwarding reads writes first users MayEnd asked result tunnel
  is_sent_on users MayEnd asked result given client won outgoing early count tunnel sent (inner, counts) is_won has =
      let goes : Goes (begun outgoing.framing) (take count early) (drop count early) tunnel.client.body =
      subst (λ (b : Bounded S). Goes (begun outgoing.framing) (take count early) (drop count early) b.body) (sym sent.is_client)
      (goes_counted (begun outgoing.framing) client.body early count counts) in
      let none : held tunnel.back ≡ [] = sent.back.0 in
      record {
        asks = has.asks;
        outgoing = outgoing;
        asks_by = has.asked;
        won = won;
        is_won = is_won;
        passed = take count early;
        dropped = drop count early;
        goes = goes;
        in_body = nothing_after outgoing.framing _ _ _ goes;
        sent = [];
        in_order = sym sent.there.0;
        came = [];
        received = [];
        returned = subst (λ (xs : List ℕ). Stands (is_to_head outgoing.head.items) [] xs tunnel.server.answer) (sym none) sent.unread;
        counted = λ _. refl;
        ended = λ is. absurd (false≢true (sym sent.back.2 ∙ is));
        client = talks_as reads writes first _ _ _ _ _ _ _ _
            (ap (λ xs. has.asks ++ xs) (sym (take-append-drop count early)))
            (sym inner ∙ ap (λ (b : Bounded S). b.inner) (sym sent.is_client)) refl refl has.talks;
        server = subst (λ (s : S). Went reads writes won.stream [] [] s) (sym sent.is_server) nothing;
      }

  -- the same, of octets that were looked at twice
  pub is_sent_of : (users : Users) (MayEnd : Result (Won S) Ended → Type 0) (asked : Asked Global) (result : Option (Result Winner Ended)) (given : S) (client : Bounded S) (won : Won S) (outgoing : Outgoing) (early counted written : List ℕ) (count : ℕ) (tunnel : Tunnel (Bounded S) (Returned S))
      → counted ≡ early → written ≡ early → IsSentOn client won.stream outgoing.head.items (take count written) tunnel
      → IsBoundedBy given outgoing.framing counted client count → IsWon MayEnd result won
      → HasAsked reads writes first users asked given early (Response outgoing)
      → IsForwarding reads writes first users MayEnd asked result tunnel
  is_sent_of users MayEnd asked result given client won outgoing early counted written count tunnel same_counted same_written sent bounded is_won has =
      is_sent_on users MayEnd asked result given client won outgoing early count tunnel
      (subst (λ (xs : List ℕ). IsSentOn client won.stream outgoing.head.items (take count xs) tunnel) same_written sent)
      (subst (λ (xs : List ℕ). IsBoundedBy given outgoing.framing xs client count) same_counted bounded)
      is_won has

  -- octets went both ways
  pub is_forwarded : (users : Users) (MayEnd : Result (Won S) Ended → Type 0) (asked : Asked Global) (result : Option (Result Winner Ended)) (client_ends : Bounded S → Type 0) (server_ends : S → Type 0) (old new : Tunnel (Bounded S) (Returned S))
      → MovesBoth (BoundedReads reads) (BoundedWrites writes) client_ends (Returns reads) (ReturnedWrites writes) (ReturnedEnds server_ends) old new
      → IsForwarding reads writes first users MayEnd asked result old → IsForwarding reads writes first users MayEnd asked result new
  is_forwarded users MayEnd asked result client_ends server_ends old new moves at =
      let there = moves.there in
      let back = moves.back in
      let more = there.read in
      let on = goes_on (begun at.outgoing.framing) old.client.body moves.client.body at.passed there.got at.dropped more.0 at.goes more.2 in
      let goes : Goes (begun at.outgoing.framing) (at.passed ++ there.got) on.0 new.client.body =
      subst (λ (b : Body). Goes (begun at.outgoing.framing) (at.passed ++ there.got) on.0 b) (sym back.written.1) on.2 in
      let said : (at.asks ++ (at.passed ++ at.dropped)) ++ (there.got ++ more.0) ≡ at.asks ++ ((at.passed ++ there.got) ++ on.0) =
      append_assoc at.asks (at.passed ++ at.dropped) (there.got ++ more.0) ∙ ap (λ xs. at.asks ++ xs) on.1 in
      let order : at.outgoing.head.items ++ (at.passed ++ there.got) ≡ (at.sent ++ there.put) ++ held new.there =
      sym (append_assoc at.outgoing.head.items at.passed there.got) ∙ ap (λ xs. xs ++ there.got) at.in_order
      ∙ append_assoc at.sent (held old.there) there.got ∙ ap (λ xs. at.sent ++ xs) there.in_order
      ∙ sym (append_assoc at.sent there.put (held new.there)) in
      let given : (at.received ++ held old.back) ++ back.got ≡ (at.received ++ back.put) ++ held new.back =
      append_assoc at.received (held old.back) back.got ∙ ap (λ xs. at.received ++ xs) back.in_order
      ∙ sym (append_assoc at.received back.put (held new.back)) in
      let answer : Stands (is_to_head at.outgoing.head.items) (at.came ++ back.read.came) ((at.received ++ held old.back) ++ back.got) new.server.answer =
      back.read.goes_on (is_to_head at.outgoing.head.items) at.came (at.received ++ held old.back)
      (subst (λ (a : Answer). Stands (is_to_head at.outgoing.head.items) at.came (at.received ++ held old.back) a) (sym there.written.1) at.returned) in
      let told : (at.client.told ++ back.put) ++ [] ≡ at.received ++ back.put =
      append-nil (at.client.told ++ back.put)
      ∙ ap (λ xs. xs ++ back.put) (sym (append-nil at.client.told) ∙ at.client.whole) in
      record {
        asks = at.asks;
        outgoing = at.outgoing;
        asks_by = at.asks_by;
        won = at.won;
        is_won = at.is_won;
        passed = at.passed ++ there.got;
        dropped = on.0;
        goes = goes;
        in_body = nothing_after at.outgoing.framing _ _ _ goes;
        sent = at.sent ++ there.put;
        in_order = order;
        came = at.came ++ back.read.came;
        received = at.received ++ back.put;
        returned = subst (λ (xs : List ℕ). Stands (is_to_head at.outgoing.head.items) (at.came ++ back.read.came) xs new.server.answer) given answer;
        counted = counts_all at.received back.put old.back.moved new.back.moved back.counted at.counted;
        ended = λ is. ends_by server_ends old.back.has_ended old.server new.server
            (λ was. ap (λ (r : Returned S). r.answer) (back.stays_ended was).1 ∙ there.written.1) at.ended (back.gets_ended is);
        client = talks_as reads writes first _ _ _ _ _ _ _ _ said refl refl refl (record {
          told = at.client.told ++ back.put;
          went = wrote _ _ back.put moves.client.inner new.client.inner
              (read _ _ (there.got ++ more.0) old.client.inner moves.client.inner at.client.went more.1) back.written.0;
          whole = told;
        });
        server = read _ _ back.read.came moves.server.inner new.server.inner
            (wrote _ _ there.put old.server.inner moves.server.inner at.server there.written.0) back.read.read;
      }

  -- the same tunnel
  pub is_forwarding : (users : Users) (MayEnd : Result (Won S) Ended → Type 0) (asked : Asked Global) (result : Option (Result Winner Ended)) (old new : Tunnel (Bounded S) (Returned S))
      → new ≡ old → IsForwarding reads writes first users MayEnd asked result old → IsForwarding reads writes first users MayEnd asked result new
  is_forwarding users MayEnd asked result old new same at =
      subst (λ (t : Tunnel (Bounded S) (Returned S)). IsForwarding reads writes first users MayEnd asked result t) (sym same) at

  -- the response is written
  pub is_parting : (users : Users) (MayEnd : Result (Won S) Ended → Type 0) (asked : Asked Global) (result : Option (Result Winner Ended)) (tunnel : Tunnel (Bounded S) (Returned S)) (parting : Parting S)
      → parting.client ≡ tunnel.client.inner → IsOver tunnel.back → IsForwarding reads writes first users MayEnd asked result tunnel
      → IsParting reads writes first users MayEnd asked result parting
  is_parting users MayEnd asked result tunnel parting same over at = record {
    tunnel = tunnel;
    was = at;
    answered = over;
    later = [];
    since = subst (λ (s : S). Went reads writes tunnel.client.inner [] [] s) (sym same) nothing;
  }

  -- the client says more, and is told nothing
  pub is_parted : (users : Users) (MayEnd : Result (Won S) Ended → Type 0) (asked : Asked Global) (result : Option (Result Winner Ended)) (old new : Parting S)
      → Lingers reads writes old.client new.client → IsParting reads writes first users MayEnd asked result old
      → IsParting reads writes first users MayEnd asked result new
  is_parted users MayEnd asked result old new (between, ended, (octets, given)) at = record {
    tunnel = at.tunnel;
    was = at.was;
    answered = at.answered;
    later = at.later ++ octets;
    since = read _ _ octets between new.client (wrote _ _ [] old.client between at.since ended) given;
  }

  -- a client that was sent nothing
  pub is_unanswered : (users : Users) (MayEnd : Result (Won S) Ended → Type 0) (asked : Asked Global) (result : Option (Result Winner Ended)) (tunnel : Tunnel (Bounded S) (Returned S)) (client : S)
      → client ≡ tunnel.client.inner → tunnel.back.moved ≡ 0 → (at : IsForwarding reads writes first users MayEnd asked result tunnel)
      → Talks reads writes first (at.asks ++ (at.passed ++ at.dropped)) client [] []
  is_unanswered users MayEnd asked result tunnel client same none at =
      talks_as reads writes first _ _ _ _ _ _ _ _ refl (sym same) refl (at.counted none) at.client
