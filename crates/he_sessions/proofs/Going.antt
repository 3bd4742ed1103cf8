-- How a session goes from one state to the next.
use Rattle.std.proofs.Common.{◌≡◌, ℕ, List, [], ◌++◌, take, drop, refl, sym, ap, ◌∙◌, subst, inr, arith, append_assoc, append-nil}
use Rattle.std.proofs.lemmas.List.{take-append-drop}
use Rattle.std.specs.Prelude.{Option, Some, Result, Err}
use Rattle.std.specs.declared.alloc.Global.{Global}
use Rattle.std.specs.declared.net.socket_addr.SocketAddr.{SocketAddr}
use Rattle.tokio.specs.Io.Moved.{Passes}
use Rattle.futures.specs.declared.future.Future.{Ghosts as FutureOf}
use Rattle.he_front.specs.declared.asked.Asked.{Asked}
use Rattle.he_front.specs.declared.replies.Ended.{Ended}
use Rattle.he_front.specs.declared.replies.Ended.TheVariants as ends
use Rattle.he_relay.specs.Tunnels.{IsBegun, MovesBoth}
use Rattle.he_relay.specs.Ways.{held}
use Rattle.he_relay.specs.declared.sockets.Cut.{Cut}
use Rattle.he_relay.specs.declared.tunnel.Tunnel.{Tunnel}
use Rattle.he_users.specs.declared.users.Users.{Users}
use Rattle.he_sessions.proofs.Talking.{talks_as, talks_heard, talks_more, talks_written}
use Rattle.he_handshake.specs.Asks.{IsFailure, greets, protocol_of}
use Rattle.he_sessions.specs.Follows.{Follows}
use Rattle.he_handshake.specs.Replies.{IsReply}
use Rattle.he_sessions.specs.Sessions.{HasAsked, IsAnswering, IsAsking, IsAt, IsClosing, IsLast, IsRelaying, IsStep, MayAnswer}
use Rattle.he_sessions.specs.Talks.{HasGreeted, IsRefused, Talks, welcome}
use Rattle.he_sessions.specs.Went.{Hears, Lingers, Went, nothing, read, wrote}
use Rattle.he_handshake.specs.declared.asking.Ask.TheVariants as asks
use Rattle.he_handshake.specs.declared.asking.Protocol.{Protocol}
use Rattle.he_handshake.specs.declared.asking.Protocol.TheVariants as protocols
use Rattle.he_handshake.specs.declared.asking.Stage.{Stage}
use Rattle.he_handshake.specs.declared.asking.Stage.TheVariants as stages
use Rattle.he_handshake.specs.declared.asking.Wanted.{Wanted}
use Rattle.he_sessions.specs.declared.ending.Ending.{Ending}
use Rattle.he_sessions.specs.declared.ending.Ending.TheVariants as endings
use Rattle.he_sessions.specs.declared.racer.Racer.{Ghosts as RacerOf}
use Rattle.he_sessions.specs.declared.racer.Winner.{Winner}
use Rattle.he_sessions.specs.declared.racer.Won.{Won}
use Rattle.he_sessions.specs.declared.session.Asker.{Asker}
use Rattle.he_sessions.specs.declared.session.Session.{Session}
use Rattle.he_sessions.specs.declared.states.Answering.{Answering}
use Rattle.he_sessions.specs.declared.states.Asking.{Asking}
use Rattle.he_sessions.specs.declared.states.Closing.{Closing}
use Rattle.he_sessions.specs.declared.states.State.{State}

-- what comes after a state that comes after another one comes after that
pub follows_on : {F S : Type 0} (a b c : State F S) → Follows a b → Follows b c → Follows a c
follows_on a b c p q = (omega arith, omega arith, omega arith, omega arith)

-- its client is served where it stays the same one
pub served : {Q : Type 0} (serves : Q → SocketAddr → Type 0) (old new : Asker Q) → new ≡ old → serves old.racer.now old.address
    → serves new.racer.now new.address
served {Q} serves old new same is = subst (λ (a : Asker Q). serves a.racer.now a.address) (sym same) is

-- a refusal after what the client was told before
pub refused_last : (users : Users) (protocol : Protocol) (ended : Ended) (reply said : List ℕ) → IsFailure ended → IsReply protocol ended reply
    → IsLast users (Some (Err ended)) endings.Refused said (welcome (greets protocol) ++ reply)
refused_last users protocol ended reply said failure is = (
  ended,
  refl,
  inr (inr (record {
    protocol = protocol;
    failure = failure;
    told_of = record { reply = reply; replied = is; whole = refl };
  })),
)

-- that the server gave no response
pub no_response_last : (reply : List ℕ) → IsReply protocols.Http ends.Refused reply → IsRefused ends.Refused ([] ++ reply)
no_response_last reply is = record {
  protocol = protocols.Http;
  failure = tt;
  told_of = record { reply = reply; replied = is; whole = refl };
}

module _ {K Q S F P : Type 0} (racer : RacerOf Q S F P) (race : FutureOf F (Result (Won S) Ended)) (reads writes : Passes S) (cuts : S → Cut → Type 0) where
  -- two steps, one after the other
  pub step_on : (a b c : Session K Q S F P) → IsStep racer race reads writes cuts a a.state b
      → IsStep racer race reads writes cuts b b.state c → IsStep racer race reads writes cuts a a.state c
  step_on a b c p q = record {
    goes_on = λ first at. q.goes_on first (p.goes_on first at);
    follows = follows_on a.state b.state c.state p.follows q.follows;
    same = q.same ∙ p.same;
  }

  -- a step from the state that it is in
  pub step_from : (old new : Session K Q S F P) (from : State F S) → old.state ≡ from
      → ((first : S) → IsAt racer race reads writes cuts first old from → IsAt racer race reads writes cuts first new new.state)
      → Follows from new.state → new.asker ≡ old.asker → IsStep racer race reads writes cuts old old.state new
  step_from old new from is goes_on follows same = record {
    goes_on = λ first at. goes_on first (subst (λ (s : State F S). IsAt racer race reads writes cuts first old s) is at);
    follows = subst (λ (s : State F S). Follows s new.state) (sym is) follows;
    same = same;
  }

module _ {S : Type 0} (reads writes : Passes S) (first : S) where
  -- where all is written that the client was to be told, it was told this
  pub spoken : (users : Users) (asking : Asking S) (protocol : Protocol) → asking.reply.items ≡ [] → greets protocol ≡ asking.stage
      → (at : IsAsking reads writes first users asking)
      → Talks reads writes first (at.greeting ++ asking.come.items) asking.client [] (welcome (greets protocol))
  spoken users asking protocol written greeted at =
      talks_as reads writes first _ _ _ _ _ _ _ _ refl refl written (ap welcome (sym greeted)) at.talks

  -- the reply is of this protocol
  pub as_protocol : (said : List ℕ) (client : S) (protocol other : Protocol) → protocol ≡ other
      → Talks reads writes first said client [] (welcome (greets other))
      → Talks reads writes first said client [] (welcome (greets protocol))
  as_protocol said client protocol other same talks =
      subst (λ (p : Protocol). Talks reads writes first said client [] (welcome (greets p))) (sym same) talks

  -- before any greeting it has said what has come, and was told nothing
  pub silent : (users : Users) (asking : Asking S) → asking.reply.items ≡ [] → asking.stage ≡ stages.New
      → IsAsking reads writes first users asking
      → Talks reads writes first asking.come.items asking.client [] []
  silent users asking written new at =
      let none : at.greeting ≡ [] = subst (λ (s : Stage). HasGreeted users s at.greeting) new at.greeted in
      talks_as reads writes first _ _ _ _ _ _ _ _ (ap (λ xs. xs ++ asking.come.items) none) refl written (ap welcome new) at.talks

  -- the server was asked for, and what came after the request came early
  pub has_asked : (users : Users) (asking : Asking S) (wanted : Wanted) (target : Asked Global) (len : ℕ) (early : List ℕ)
      → MayAnswer users asking (asks.Server wanted target len) → early ≡ drop len asking.come.items
      → IsAsking reads writes first users asking
      → HasAsked reads writes first users target asking.client early wanted
  has_asked users asking wanted target len early may rest at =
      let request = take len asking.come.items in
      let said : at.greeting ++ asking.come.items ≡ (at.greeting ++ request) ++ early =
      ap (λ xs. at.greeting ++ xs) (sym (take-append-drop len asking.come.items) ∙ ap (λ xs. request ++ xs) (sym rest))
      ∙ sym (append_assoc at.greeting request early) in
      record {
        asks = at.greeting ++ request;
        asked = record {
          greeting = at.greeting;
          greeted = subst (λ (s : Stage). HasGreeted users s at.greeting) (sym may.asks.0) at.greeted;
          request = request;
          requested = record { come = asking.come.items; len = len; begins = (may.asks.1, may.asks.2); front = refl };
          whole = refl;
        };
        talks = talks_as reads writes first _ _ _ _ _ _ _ _ said refl refl refl (spoken users asking (protocol_of wanted) may.told may.asks.0 at);
      }

  -- more came early
  pub early_heard : (users : Users) (asked : Asked Global) (old new : S) (early more : List ℕ) (wanted : Wanted) → Hears reads old new early more
      → HasAsked reads writes first users asked old early wanted → HasAsked reads writes first users asked new more wanted
  early_heard users asked old new early more wanted hears has = record {
    asks = has.asks;
    asked = has.asked;
    talks = talks_heard reads writes first has.asks early more old new _ _ hears has.talks;
  }

  -- it was accepted, and nothing has come from it yet
  pub is_new : (users : Users) (asking : Asking S) → asking.client ≡ first → asking.come.items ≡ [] → asking.stage ≡ stages.New
      → asking.reply.items ≡ [] → IsAsking reads writes first users asking
  is_new users asking same none new silence = record {
    greeting = [];
    greeted = subst (λ (s : Stage). HasGreeted users s []) (sym new) refl;
    talks = talks_as reads writes first _ _ _ _ _ _ _ _ (sym none) (sym same) (sym silence) (ap welcome (sym new))
        (record { told = []; went = nothing; whole = refl });
  }

  -- its way was ended, and it said more
  pub is_lingering : (users : Users) (result : Option (Result Winner Ended)) (old new : Closing S) → old.how ≡ new.how
      → old.reply.items ≡ new.reply.items → Lingers reads writes old.client new.client
      → IsClosing reads writes first users result old → IsClosing reads writes first users result new
  is_lingering users result old new how reply (between, ended, (octets, given)) at = record {
    asks = at.asks;
    later = at.later ++ octets;
    told = at.told;
    last = subst (λ (e : Ending). IsLast users result e at.asks at.told) how at.last;
    talks = talks_heard reads writes first at.asks at.later (at.later ++ octets) between new.client _ _ (octets, given, refl)
        (talks_as reads writes first _ _ _ _ _ _ _ _ refl refl reply refl
        (talks_written reads writes first _ _ _ _ _ _ ([], ended, refl) at.talks));
  }

  -- the client is told last of all
  pub is_closed : (users : Users) (result : Option (Result Winner Ended)) (client : S) (said told reply : List ℕ) (closing : Closing S)
      → closing.client ≡ client → closing.reply.items ≡ reply → Talks reads writes first said client [] told
      → IsLast users result closing.how said (told ++ reply) → IsClosing reads writes first users result closing
  is_closed users result client said told reply closing same_client same_reply talks last = record {
    asks = said;
    later = [];
    told = told ++ reply;
    last = last;
    talks = talks_as reads writes first _ _ _ _ _ _ _ _ (sym (append-nil said)) (sym same_client) (sym same_reply) refl
        (talks_more reads writes first said client told reply talks);
  }

  -- the tunnel is opened between the client and the connection that its race gave
  pub is_opened : (users : Users) (MayEnd : Result (Won S) Ended → Type 0) (asked : Asked Global) (result : Option (Result Winner Ended)) (answering : Answering S) (tunnel : Tunnel S S) → answering.reply.items ≡ []
      → IsBegun answering.client answering.won.stream answering.early.items tunnel
      → IsAnswering reads writes first users MayEnd asked result answering
      → IsRelaying reads writes first users MayEnd asked result tunnel
  is_opened users MayEnd asked result answering tunnel written (is_client, is_server, there, back, whole) at =
      let early : held tunnel.there ≡ answering.early.items = there.0 in
      let none : held tunnel.back ≡ [] = back.0 in
      record {
        asks = at.asks;
        told = at.told;
        opened = at.opened;
        won = answering.won;
        is_won = at.is_won;
        sent = [];
        received = [];
        client = talks_as reads writes first _ _ _ _ _ _ _ _ (ap (λ xs. at.asks ++ xs) (sym early)) (sym is_client) written
            (sym (append-nil at.told)) at.talks;
        server = subst (λ (s : S). Went reads writes answering.won.stream (held tunnel.back) [] s) (sym is_server)
            (subst (λ (xs : List ℕ). Went reads writes answering.won.stream xs [] answering.won.stream) (sym none) nothing);
      }

  -- the same tunnel
  pub is_relaying : (users : Users) (MayEnd : Result (Won S) Ended → Type 0) (asked : Asked Global) (result : Option (Result Winner Ended)) (old new : Tunnel S S)
      → new ≡ old → IsRelaying reads writes first users MayEnd asked result old → IsRelaying reads writes first users MayEnd asked result new
  is_relaying users MayEnd asked result old new same at =
      subst (λ (t : Tunnel S S). IsRelaying reads writes first users MayEnd asked result t) (sym same) at

  -- octets went both ways
  pub is_relayed : (users : Users) (MayEnd : Result (Won S) Ended → Type 0) (asked : Asked Global) (result : Option (Result Winner Ended)) (is_at_end : S → Type 0) (old new : Tunnel S S) → MovesBoth reads writes is_at_end reads writes is_at_end old new
      → IsRelaying reads writes first users MayEnd asked result old → IsRelaying reads writes first users MayEnd asked result new
  is_relayed users MayEnd asked result is_at_end old new moves at =
      let there = moves.there in
      let back = moves.back in
      let said : (at.asks ++ (at.sent ++ held old.there)) ++ there.got ≡ at.asks ++ ((at.sent ++ there.put) ++ held new.there) =
      append_assoc at.asks (at.sent ++ held old.there) there.got
      ∙ ap (λ xs. at.asks ++ xs) (append_assoc at.sent (held old.there) there.got
      ∙ ap (λ xs. at.sent ++ xs) there.in_order ∙ sym (append_assoc at.sent there.put (held new.there))) in
      let given : (at.received ++ held old.back) ++ back.got ≡ (at.received ++ back.put) ++ held new.back =
      append_assoc at.received (held old.back) back.got ∙ ap (λ xs. at.received ++ xs) back.in_order
      ∙ sym (append_assoc at.received back.put (held new.back)) in
      let read_on = read _ _ there.got old.client moves.client at.client.went there.read in
      let told : (at.client.told ++ back.put) ++ [] ≡ at.told ++ (at.received ++ back.put) =
      append-nil (at.client.told ++ back.put)
      ∙ ap (λ xs. xs ++ back.put) (sym (append-nil at.client.told) ∙ at.client.whole)
      ∙ append_assoc at.told at.received back.put in
      record {
        asks = at.asks;
        told = at.told;
        opened = at.opened;
        won = at.won;
        is_won = at.is_won;
        sent = at.sent ++ there.put;
        received = at.received ++ back.put;
        client = talks_as reads writes first _ _ _ _ _ _ _ _ said refl refl refl (record {
          told = at.client.told ++ back.put;
          went = wrote _ _ back.put moves.client new.client read_on back.written;
          whole = told;
        });
        server = subst (λ (xs : List ℕ). Went reads writes at.won.stream xs (at.sent ++ there.put) new.server) given
            (read _ _ back.got moves.server new.server
            (wrote _ _ there.put old.server moves.server at.server there.written) back.read);
      }
