-- Workers that take pieces from a board: what one more take, and a rejoin of two passes, leave.
use Rattle.std.proofs.Common.{◌≡◌, ℕ, ◌+◌, ◌<◌, List, [], ◌∷◌, ◌++◌, sym, ap, ◌∙◌, subst, arith}
use Rattle.std.proofs.lemmas.List.{map-append}
use Rattle.std.proofs.lemmas.List.Elements.{All-append, All-push}
use Rattle.he_board.specs.declared.board.Board.{Board}
use Rattle.he_board.specs.declared.pass.Pass.{Pass}
use Rattle.he_board.specs.declared.view.View.{View}
use Rattle.he_board.specs.Notes.{joined, times}
use Rattle.he_board.specs.Passes.{IsPassOf, notes}
use Rattle.he_board.proofs.Lists.{times-append}
use Rattle.he_board.proofs.Trying.{tried-next}
use Rattle.he_streaming.specs.declared.pieces.Piece.{Piece}
use Rattle.he_streaming.specs.Output.{TextRelation}
use Rattle.he_streaming.specs.Pieces.{HasWorked, IsPiece, IsWhole, numbers_of}

module _ {A : Type 0} (IsText : TextRelation) (board : Board A) (bytes : List ℕ) (count : ℕ) where
  abbrev pub Told : Piece A → Type 0
  Told piece = IsPiece IsText bytes piece.from piece.text.items piece.reader

  -- the piece of this number was taken and told
  pub one_told : (share number next : ℕ) (old new : Pass) (pieces more : List (Piece A)) (piece : Piece A)
      → HasWorked IsText board bytes count number share old pieces → IsPassOf board new
      → (notes new).parts ≡ (notes old).parts → (notes new).taken ≡ (notes old).taken ++ number ∷ []
      → (notes new).known ≡ (notes old).known ++ number ∷ [] → more ≡ pieces ++ piece ∷ [] → next ≡ number + 1
      → piece.number ≡ number → Told piece → IsWhole bytes count piece
      → HasWorked IsText board bytes count next share new more
  one_told share number next old new pieces more piece before own same taken known all end is told whole =
      subst (λ (xs : List (Piece A)). HasWorked IsText board bytes count next share new xs) (sym all) (record {
        own = own;
        parts = same ∙ before.parts;
        tried = tried-next 0 number next (notes old).known (notes new).known before.tried known end;
        taken = taken ∙ ap (λ (xs : List ℕ). xs ++ number ∷ []) before.taken
            ∙ ap (λ (n : ℕ). numbers_of pieces ++ n ∷ []) (sym is)
            ∙ sym (map-append (λ (p : Piece A). p.number) pieces (piece ∷ []));
        each = All-push Told pieces piece before.each told;
        whole = All-push (IsWhole bytes count) pieces piece before.whole whole;
      })

  -- somebody else has the piece of this number
  pub one_known : (share number next : ℕ) (old new : Pass) (pieces : List (Piece A))
      → HasWorked IsText board bytes count number share old pieces → IsPassOf board new
      → (notes new).parts ≡ (notes old).parts → (notes new).taken ≡ (notes old).taken
      → (notes new).known ≡ (notes old).known ++ number ∷ [] → next ≡ number + 1
      → HasWorked IsText board bytes count next share new pieces
  one_known share number next old new pieces before own same taken known end = record {
    own = own;
    parts = same ∙ before.parts;
    tried = tried-next 0 number next (notes old).known (notes new).known before.tried known end;
    taken = taken ∙ before.taken;
    each = before.each;
    whole = before.whole;
  }

  -- two passes were made one
  pub both_told : (near far : ℕ) (p q u : Pass) (left right pieces : List (Piece A))
      → HasWorked IsText board bytes count count near p left → HasWorked IsText board bytes count count far q right
      → IsPassOf board u → notes u ≡ joined (notes p) (notes q) → pieces ≡ left ++ right
      → HasWorked IsText board bytes count count (near + far) u pieces
  both_told near far p q u left right pieces first second own noted all =
      let known : (notes u).known ≡ (notes p).known ++ (notes q).known = ap (λ (v : View). v.known) noted in
      let taken : (notes u).taken ≡ (notes p).taken ++ (notes q).taken = ap (λ (v : View). v.taken) noted in
      let parts : (notes u).parts ≡ (notes p).parts + (notes q).parts = ap (λ (v : View). v.parts) noted in
      let here = first.parts in
      let there = second.parts in
      subst (λ (xs : List (Piece A)). HasWorked IsText board bytes count count (near + far) u xs) (sym all) (record {
        own = own;
        parts = omega arith;
        tried = λ job from to.
            let some : 0 < times job (notes p).known = first.tried job from to in
            let sum : times job (notes u).known ≡ times job (notes p).known + times job (notes q).known =
            ap (times job) known ∙ times-append job (notes p).known (notes q).known in
            omega arith;
        taken = taken ∙ ap (λ (xs : List ℕ). xs ++ (notes q).taken) first.taken
            ∙ ap (λ (xs : List ℕ). numbers_of left ++ xs) second.taken
            ∙ sym (map-append (λ (p : Piece A). p.number) left right);
        each = All-append Told left right first.each second.each;
        whole = All-append (IsWhole bytes count) left right first.whole second.whole;
      })
