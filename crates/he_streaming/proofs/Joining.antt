-- Pieces that are put together: one more that does not go on where the reader stands.
use Rattle.std.proofs.Common.{◌≡◌, ◌≤◌, ◌∷◌, ◌++◌, [], List, get_or, inl, inr, sym, ◌∙◌, subst, arith}
use Rattle.std.proofs.lemmas.List.Elements.{All-push}
use Rattle.he_inputs.specs.declared.race_reader.RaceReader.{RaceReader}
use Rattle.he_streaming.specs.declared.pieces.Piece.{Piece}
use Rattle.he_streaming.specs.Pieces.{IsJoined, IsPast}

module _ {A : Type 0} where
  still_past : (old new : RaceReader) → old.end ≡ new.end → old.races ≤ new.races → (piece : Piece A) → IsPast old piece
      → IsPast new piece
  still_past old new same more piece past from =
      elim (past (from ∙ sym same)) [
        | inl none ↦ inl none
        | inr many ↦ inr (omega arith)
      ]

  pub next_past : (old new : RaceReader) (pieces next : List (Piece A)) (piece : Piece A) → next ≡ pieces ++ piece ∷ []
      → old.end ≡ new.end → old.races ≤ new.races → IsJoined pieces old → IsPast new piece → IsJoined next new
  next_past old new pieces next piece all same more joined past =
      subst (λ (xs : List (Piece A)). IsJoined xs new) (sym all)
      (All-push (IsPast new) pieces piece (λ k d below. still_past old new same more (get_or pieces k d) (joined k d below)) past)
