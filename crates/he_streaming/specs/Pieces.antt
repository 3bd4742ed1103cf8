-- Mirrors the code: pieces of some bytes, which workers take from a board and write. It helps the proofs; `Output`
-- has the text for an input.
use Rattle.std.specs.Option.{option_map_or}
use Rattle.std.specs.Prelude.{ℕ, ◌≡◌, ◌≢◌, ◌≤◌, ◌<◌, ◌+◌, ◌*◌, ◌-◌, ◌⊎◌, List, [], All, Option, drop, length, map, min, slice_range}
use Rattle.he_board.specs.declared.board.Board.{Board}
use Rattle.he_board.specs.declared.pass.Pass.{Pass}
use Rattle.he_board.specs.Notes.{times}
use Rattle.he_board.specs.Passes.{IsPassOf, jobs_of, notes}
use Rattle.he_board.specs.Workers.{IsTried}
use Rattle.memchr.specs.Find.{FindsNeedle}
use Rattle.he_timeline.specs.Race.{Race}
use Rattle.he_record.specs.Said.{Said}
use Rattle.he_inputs.specs.declared.race_reader.Ending.TheVariants as endings
use Rattle.he_inputs.specs.declared.race_reader.RaceReader.{RaceReader}
use Rattle.he_words.specs.Ranges.{most_races}
use Rattle.he_streaming.specs.declared.limits.TheConstants.{MOST_PIECES, PIECE_BYTES, RACE_END}
use Rattle.he_streaming.specs.declared.pieces.Piece.{Piece}
use Rattle.he_streaming.specs.declared.pieces.Work.{Work}
use Rattle.he_streaming.specs.declared.pieces.Worked.{Worked}
use Rattle.he_streaming.specs.Output.{TextRelation}
use Rattle.he_streaming.specs.Rounds.{HasTold, IsAsked, Reaches}

-- the text of a race does not depend on the race's place in the input
abbrev pub IsAnywhere : TextRelation → Type 0
IsAnywhere IsText =
    (number line other_number other_line : ℕ) (text : List ℕ) (said : List Said) (race : Race)
    → IsText number line text said race → IsText other_number other_line text said race

-- the text is that of the races at the front of the bytes from this place on
pub record IsPiece (IsText : TextRelation) (bytes : List ℕ) (from : ℕ) (text : List ℕ)
    (reader : RaceReader) : Type 0 where
  pub within : from ≤ length bytes
  pub told : HasTold IsText (drop from bytes) 0 0 text reader

-- each of them is a piece of the bytes
abbrev pub ArePieces : {A : Type 0} → TextRelation → List ℕ → List (Piece A) → Type 0
ArePieces IsText bytes pieces = All (λ piece. IsPiece IsText bytes piece.from piece.text.items piece.reader) pieces

-- the place from which the search begins for the end of a race that ends the pieces before the one of this number
abbrev pub front_of : List ℕ → ℕ → ℕ
front_of bytes number = min (length bytes) (number * PIECE_BYTES)

-- the start of the piece of this number: after the first race whose end is found from there on, else the end of the
-- bytes
abbrev pub IsStart : List ℕ → ℕ → ℕ → Type 0
IsStart bytes number at =
    ((number ≡ 0) × (at ≡ 0))
    ⊎ ((found : Option ℕ) × FindsNeedle (drop (front_of bytes number) bytes) RACE_END.now 0 found
    × (at ≡ option_map_or (λ place. front_of bytes number + place + length RACE_END.now) found (length bytes)))

-- the end of the piece of this number, of `count` pieces
abbrev pub IsEnd : List ℕ → ℕ → ℕ → ℕ → Type 0
IsEnd bytes count number at =
    ((number + 1 ≡ count) × (at ≡ length bytes)) ⊎ ((number + 1 ≢ count) × IsStart bytes (number + 1) at)

-- the piece is that of its number, of `count` pieces, and was written to its end, or up to the first bytes that are
-- no whole race
pub record IsWhole {A : Type 0} (bytes : List ℕ) (count : ℕ) (piece : Piece A) : Type 0 where
  pub near : piece.number < count
  pub start : IsStart bytes piece.number piece.from
  pub end : ℕ
  pub stop : IsEnd bytes count piece.number end
  pub reached : Reaches endings.Open (slice_range bytes piece.from end) (end - piece.from) piece.reader

-- the numbers of pieces
abbrev pub numbers_of : {A : Type 0} → List (Piece A) → List ℕ
numbers_of = map (λ piece. piece.number)

-- all `count` pieces of the bytes, each once
pub record AreAllPieces {A : Type 0} (IsText : TextRelation) (bytes : List ℕ) (count : ℕ)
    (pieces : List (Piece A)) : Type 0 where
  pub each : ArePieces IsText bytes pieces
  pub whole : All (IsWhole bytes count) pieces
  pub once : (number : ℕ) → number < count → times number (numbers_of pieces) ≡ 1

-- the piece does not go on where the reader is: it begins elsewhere, has no race, or too many
abbrev pub IsPast : {A : Type 0} → RaceReader → Piece A → Type 0
IsPast reader piece =
    piece.from ≡ reader.end → (piece.reader.end ≡ 0) ⊎ (most_races < reader.races + piece.reader.races)

-- no piece is left that goes on where the reader is
abbrev pub IsJoined : {A : Type 0} → List (Piece A) → RaceReader → Type 0
IsJoined pieces reader = All (IsPast reader) pieces

-- with a pass of `share` parts, workers have tried `upto` pieces of all, and written those that they took
pub record HasWorked {A : Type 0} (IsText : TextRelation) (board : Board A) (bytes : List ℕ) (count upto share : ℕ)
    (pass : Pass) (pieces : List (Piece A)) : Type 0 where
  pub own : IsPassOf board pass
  pub parts : (notes pass).parts ≡ share
  pub tried : IsTried 0 upto (notes pass).known
  pub taken : (notes pass).taken ≡ numbers_of pieces
  pub each : ArePieces IsText bytes pieces
  pub whole : All (IsWhole bytes count) pieces

-- they have tried all
abbrev pub IsWorked : {A : Type 0} → TextRelation → Board A → List ℕ → ℕ → ℕ → Worked A → Type 0
IsWorked IsText board bytes count parts worked =
    HasWorked IsText board bytes count count parts worked.pass worked.pieces.items

-- with a pass of this number of parts, workers have done the work
abbrev pub IsDone : {A : Type 0} → Work A → ℕ → Worked A → Type 0
IsDone work parts worked =
    IsWorked (IsAsked work.asked.now) work.board.now work.bytes.now work.count parts worked

-- this number of workers may take this number of pieces with the pass
pub record MayTake {A : Type 0} (board : Board A) (pass : Pass) (count workers : ℕ) : Type 0 where
  pub own : IsPassOf board pass
  pub some : 1 ≤ workers
  pub parts : workers ≤ (notes pass).parts
  pub jobs : count ≤ jobs_of board
  pub pieces : count ≤ MOST_PIECES
  pub fresh : (notes pass).taken ≡ []
