-- The octets between a client and its session.
use Rattle.std.specs.Prelude.{◌≡◌, ◌⊎◌, ℕ, List, [], ◌∷◌, ◌++◌, take}
use Rattle.std.specs.declared.alloc.Global.{Global}
use Rattle.tokio.specs.Io.Moved.{Passes}
use Rattle.he_front.specs.declared.asked.Asked.{Asked}
use Rattle.he_front.specs.declared.replies.Ended.{Ended}
use Rattle.he_front.specs.declared.replies.Ended.TheVariants as ends
use Rattle.he_users.specs.declared.users.Users.{Users}
use Rattle.he_handshake.specs.Asks.{AsksServer, IsAdmitted, IsFailure, LeadsTo, ended_without_method, greets, protocol_of}
use Rattle.he_handshake.specs.Replies.{IsReply}
use Rattle.he_sessions.specs.Went.{Went}
use Rattle.he_handshake.specs.declared.asking.Protocol.{Protocol}
use Rattle.he_handshake.specs.declared.asking.Stage.{Stage}
use Rattle.he_handshake.specs.declared.asking.Stage.TheVariants as stages
use Rattle.he_handshake.specs.declared.asking.Wanted.{Wanted}
use Rattle.he_handshake.specs.declared.asking.Wanted.TheVariants as wanteds

-- Since the client was accepted, as `first`, it has sent `said`; of `all` that it is sent, `rest` is not written yet.
pub record Talks {S : Type 0} (reads writes : Passes S) (first : S) (said : List ℕ) (client : S) (rest all : List ℕ) : Type 0 where
  pub told : List ℕ
  pub went : Went reads writes first said told client
  pub whole : told ++ rest ≡ all

-- these are the first octets of some that came, and the part that those begin with ends there
pub record IsFront (Begins : List ℕ → ℕ → Type 0) (octets : List ℕ) : Type 0 where
  pub come : List ℕ
  pub len : ℕ
  pub begins : Begins come len
  pub front : octets ≡ take len come

-- all octets of a client before it came to this stage: a greeting, and the name and the password of a user, if it was
-- asked for them
abbrev pub HasGreeted : Users → Stage → List ℕ → Type 0
HasGreeted users stages.New octets = octets ≡ []
HasGreeted users stages.Greeted octets =
    IsFront (λ come len. LeadsTo users stages.New come stages.Greeted len) octets
HasGreeted users stages.Authenticating octets =
    IsFront (λ come len. LeadsTo users stages.New come stages.Authenticating len) octets
HasGreeted users stages.Admitted octets =
    (greeting : List ℕ) × (message : List ℕ)
    × IsFront (λ come len. LeadsTo users stages.New come stages.Authenticating len) greeting
    × IsFront (λ come len. LeadsTo users stages.Authenticating come stages.Admitted len) message
    × (octets ≡ greeting ++ message)

-- all answers to a client before it came to this stage
abbrev pub welcome : Stage → List ℕ
welcome stages.New = []
welcome stages.Greeted = 5 ∷ 0 ∷ []
welcome stages.Authenticating = 5 ∷ 2 ∷ []
welcome stages.Admitted = 5 ∷ 2 ∷ 1 ∷ 0 ∷ []

-- All octets of a client's request for this: those before the request, if the protocol has any, and its request,
-- without the body. With users, it has the name and the password of one: in the message before a request of SOCKS 5,
-- or in the head of a request of HTTP.
pub record AsksBy (users : Users) (wanted : Wanted) (asked : Asked Global) (octets : List ℕ) : Type 0 where
  pub greeting : List ℕ
  pub greeted : HasGreeted users (greets (protocol_of wanted)) greeting
  pub request : List ℕ
  pub requested : IsFront (λ come len. AsksServer come wanted asked len × IsAdmitted users (protocol_of wanted) come) request
  pub whole : octets ≡ greeting ++ request

-- all octets sent to a client whose request ended like this: the answers before its request, and one reply
pub record IsToldOf (protocol : Protocol) (ended : Ended) (octets : List ℕ) : Type 0 where
  pub reply : List ℕ
  pub replied : IsReply protocol ended reply
  pub whole : octets ≡ welcome (greets protocol) ++ reply

-- it requested this tunnel like this, and is sent that it is open
pub record IsOpened (users : Users) (asked : Asked Global) (asks told : List ℕ) : Type 0 where
  pub protocol : Protocol
  pub asks_by : AsksBy users (wanteds.Tunnel protocol) asked asks
  pub told_of : IsToldOf protocol ends.Connected told

-- it is sent this failure
pub record IsRefused (ended : Ended) (told : List ℕ) : Type 0 where
  pub protocol : Protocol
  pub failure : IsFailure ended
  pub told_of : IsToldOf protocol ended told

-- The end of its request, and all that it is sent: that no method of its greeting is acceptable (RFC 1928 section 3);
-- that its name and password are those of no user (RFC 1929 section 2); or the failure.
abbrev pub IsTurnedAway : Users → Ended → List ℕ → Type 0
IsTurnedAway users ended told =
    ((told ≡ 5 ∷ 255 ∷ []) × (ended ≡ ended_without_method users))
    ⊎ ((told ≡ 5 ∷ 2 ∷ 1 ∷ 1 ∷ []) × (ended ≡ ends.NoUser))
    ⊎ IsRefused ended told
