-- Texts that are written from their end to their front: the effect of a call on the buffer.
use Rattle.std.specs.Prelude.{ℕ, ◌≡◌, ◌+◌, List, ◌++◌, length, take, drop}

-- the call puts the part before the text that begins at `end` in the buffer: the new text begins at `start`, and the
-- bytes before it are unchanged
pub record Prepends (old : List ℕ) (end : ℕ) (new : List ℕ) (start : ℕ) (part : List ℕ) : Type 0 where
  pub place : start + length part ≡ end
  pub text : drop start new ≡ part ++ drop end old
  pub before : take start new ≡ take start old
