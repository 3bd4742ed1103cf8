-- The effect of one step of a stream on the bytes that are left, or that are held.
use Rattle.std.specs.Prelude.{ℕ, ◌≤◌, ◌<◌, List, length, take, Option}
use Rattle.std.specs.Io.KnownBytes.{Appends, Consumes, IsAtEnd, Keeps}
use Rattle.he_stream.specs.declared.answer.Taken.{Taken}
use Rattle.he_stream.specs.declared.answer.Taken.TheVariants as taken
use Rattle.he_stream.specs.declared.answer.Put.{Put}
use Rattle.he_stream.specs.declared.answer.Put.TheVariants as put

-- bytes are removed from the front, and only at `Bytes`; at the end none is left
abbrev pub Takes : Option (List ℕ) → Option (List ℕ) → Taken → List ℕ → Type 0
Takes before after (taken.Bytes count) room =
    (0 < count) × (count ≤ length room) × Consumes before after (take count room)
Takes before after taken.End room = Keeps before after × (0 < length room → IsAtEnd after)
Takes before after taken.Interrupted room = Keeps before after
Takes before after taken.Failed room = Keeps before after

-- bytes from the front of the text are added, and only at `Bytes`
abbrev pub Puts : Option (List ℕ) → Option (List ℕ) → Put → List ℕ → Type 0
Puts before after (put.Bytes count) text = (0 < count) × (count ≤ length text) × Appends before after (take count text)
Puts before after put.Full text = Keeps before after
Puts before after put.Interrupted text = Keeps before after
Puts before after put.Failed text = Keeps before after
