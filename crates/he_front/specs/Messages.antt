-- The results of reading a message.
use Rattle.std.specs.Prelude.{ℕ, List, ◌++◌}
use Rattle.he_front.specs.declared.socks.Read.{Read}
use Rattle.he_front.specs.declared.socks.Read.TheVariants as reads

-- the octets begin with no message
abbrev pub HasNone : {T : Type 0} → (List ℕ → T → ℕ → Type 0) → List ℕ → Type 0
HasNone {T} Is octets = (message : T) (len : ℕ) → Is octets message len → ⊥

-- more octets can complete a message
abbrev pub MayBecome : {T : Type 0} → (List ℕ → T → ℕ → Type 0) → List ℕ → Type 0
MayBecome {T} Is octets = (more : List ℕ) × (message : T) × (len : ℕ) × Is (octets ++ more) message len

-- the octets begin with this message, of this length; or with none yet, and more can complete one; or with none,
-- whatever follows
abbrev pub Reads : {T : Type 0} → (List ℕ → T → ℕ → Type 0) → List ℕ → Read T → Type 0
Reads Is octets (reads.Whole message len) = Is octets message len
Reads Is octets reads.Partial = HasNone Is octets × MayBecome Is octets
Reads Is octets (reads.Refused refusal) = (more : List ℕ) → HasNone Is (octets ++ more)
