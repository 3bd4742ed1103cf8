-- The replies to a client.
use Rattle.std.specs.Prelude.{◌≡◌, ℕ, List, [], ◌∷◌}
use Rattle.he_front.specs.declared.replies.Ended.{Ended}
use Rattle.he_front.specs.Replies.{code_of, old_code_of}
use Rattle.he_front.specs.Responses.{response_text}
use Rattle.he_handshake.specs.declared.asking.Protocol.{Protocol}
use Rattle.he_handshake.specs.declared.asking.Protocol.TheVariants as protocols
use Rattle.he_handshake.specs.declared.asking.Stage.{Stage}
use Rattle.he_handshake.specs.declared.asking.Stage.TheVariants as stages

-- the answer that leads to this stage: no authentication, or name and password (RFC 1928 section 3); success (RFC 1929
-- section 2)
abbrev pub step_reply : Stage → List ℕ
step_reply stages.New = []
step_reply stages.Greeted = 5 ∷ 0 ∷ []
step_reply stages.Authenticating = 5 ∷ 2 ∷ []
step_reply stages.Admitted = 1 ∷ 0 ∷ []

-- the reply at the end of its request: by SOCKS 4 that of 8 octets with its code; by SOCKS 5 that with its code and
-- the address 0.0.0.0:0 (RFC 1928 section 6); by HTTP the response with its status and some reason (RFC 9110 section
-- 15)
abbrev pub IsReply : Protocol → Ended → List ℕ → Type 0
IsReply protocols.OldSocks ended octets = octets ≡ 0 ∷ old_code_of ended ∷ 0 ∷ 0 ∷ 0 ∷ 0 ∷ 0 ∷ 0 ∷ []
IsReply (protocols.Socks method) ended octets = octets ≡ 5 ∷ code_of ended ∷ 0 ∷ 1 ∷ 0 ∷ 0 ∷ 0 ∷ 0 ∷ 0 ∷ 0 ∷ []
IsReply protocols.Http ended octets = (reason : List ℕ) × (octets ≡ response_text ended reason)
