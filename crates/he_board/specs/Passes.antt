-- The parts of a board and of a pass that the contracts use.
use Rattle.std.specs.Prelude.{◌≡◌, ℕ}
use Rattle.he_board.specs.declared.view.View.{View}
use Rattle.he_board.specs.declared.pass.Pass.{Pass}
use Rattle.he_board.specs.declared.board.Board.{Board}

-- the notes of the pass, with its parts
abbrev pub notes : Pass → View
notes pass = pass.seat.me.0

abbrev pub jobs_of : {A : Type 0} → Board A → ℕ
jobs_of board = board.table.shared.key.jobs

abbrev pub races_of : {A : Type 0} → Board A → ℕ
races_of board = board.table.shared.key.races

-- the pass was made with this board, or by a fork or a rejoin there
abbrev pub IsPassOf : {A : Type 0} → Board A → Pass → Type 0
IsPassOf board pass = pass.seat.table_id ≡ board.table.shared.table_id
