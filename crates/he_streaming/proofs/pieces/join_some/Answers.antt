use Rattle.std.proofs.Common.{ℕ, suc, ◌≡◌, ◌≤◌, ◌+◌, ◌++◌, ◌∷◌, ◌∙◌, [], List, ap, arith, drop, inl, length-drop, refl, subst, sym, take}
use Rattle.std.proofs.lemmas.List.Elements.{All-get_or}
use Rattle.he_inputs.specs.declared.race_reader.RaceReader.{RaceReader}
use Rattle.he_words.specs.Ranges.{most_races}
use Rattle.he_streaming.specs.Rounds.{IsAsked, HasTold}
use Rattle.he_streaming.specs.Pieces.{IsPiece}
use Rattle.std.proofs.Math.Seq.{take-suc}
use Rattle.he_streaming.proofs.Joining.{next_past}
use Rattle.he_streaming.proofs.RoundEnd.{more_told, told_lines}
use Rattle.he_streaming.proofs.pieces.join_some.Goals as goal
use Rattle.he_streaming.proofs.pieces.join_some.Goals.{then-follows+in_ok-extend_from_slice, else-follows}

pub loop-piece-init : goal.loop-piece-init
loop-piece-init g c = (c.requires.within, λ races lines told. told, omega arith, λ e k d below. absurd (omega arith))

pub loop-piece-preserved : goal.loop-piece-preserved
loop-piece-preserved g c =
    let bytes = c.args.bytes.now in
    let piece = c.piece-item.result in
    let before = c.loop-piece.invariant in
    let here : IsPiece (IsAsked c.args.asked.now) bytes piece.from piece.text.items piece.reader =
    subst (λ x. IsPiece (IsAsked c.args.asked.now) bytes x.from x.text.items x.reader) (sym c.piece-item.is) (All-get_or (λ x. IsPiece (IsAsked c.args.asked.now) bytes x.from x.text.items x.reader) c.args.pieces.now c.loop-piece.piece-index piece c.loop-piece-test.true c.requires.told) in
    let step : suc c.loop-piece.piece-index ≡ c.loop-piece.piece-index + 1 = omega arith in
    let all : take (c.loop-piece.piece-index + 1) c.args.pieces.now ≡ take c.loop-piece.piece-index c.args.pieces.now ++ piece ∷ [] =
    ap (λ (n : ℕ). take n c.args.pieces.now) (sym step) ∙ take-suc c.args.pieces.now c.loop-piece.piece-index piece c.loop-piece-test.true
    ∙ ap (λ x. take c.loop-piece.piece-index c.args.pieces.now ++ x ∷ []) (sym c.piece-item.is) in
    let begun = c.loop-piece.begun in
    let on = before.2 in
    let few = before.0.few in
    let place = before.0.place in
    let left = before.0.room in
    elim c.if-follows.branch [
      | then-follows+in_ok-extend_from_slice w ↦
          let follows = c.follows.ensures.on w.if-follows.true in
          let next : piece.from ≡ begun.end = follows.0 in
          let most : begun.races + piece.reader.races ≤ most_races = follows.1 in
          let beyond = here.told.within in
          let lines = told_lines (IsAsked c.args.asked.now) (drop piece.from bytes) piece.text.items 0 0 piece.reader here.told in
          let RoundEnd : ℕ → Type 0 = λ (from : ℕ). HasTold (IsAsked c.args.asked.now) (drop from bytes) 0 0 piece.text.items piece.reader in
          let joined : w.extend_from_slice.new.self.items ≡ c.loop-piece.text.items ++ piece.text.items = w.in_ok-extend_from_slice.ensures.items ∙ ap (λ (xs : List ℕ). c.loop-piece.text.items ++ xs) w.deref.ensures.value in
          let after : RaceReader = record {
            end = begun.end + piece.reader.end;
            races = begun.races + piece.reader.races;
            lines = begun.lines + piece.reader.lines;
          } in
          rw w.text-is (rw w.begun-is (
            record {
              place = omega (arith, place, beyond, next, length-drop {A = ℕ});
              few = most;
              room = omega (arith, left, lines, beyond, next, place, length-drop {A = ℕ});
            },
            λ races lines told. subst (λ (text : List ℕ). HasTold (IsAsked c.args.asked.now) bytes races lines text _) (sym joined)
                (more_told (IsAsked c.args.asked.now) c.requires.anywhere bytes c.loop-piece.text.items piece.text.items races lines begun piece.reader _ (before.1 races lines told) (subst RoundEnd next here.told) refl most),
            omega arith,
            λ e. next_past begun after _ _ piece all (omega arith) (omega arith) (before.3 (omega arith)) (λ from. inl (omega arith)),
          ))
      | else-follows w ↦ rw w.text-is (rw w.begun-is (before.0, before.1, before.2, λ e. next_past begun begun _ _ piece all refl (omega arith) (before.3 e) (c.follows.ensures.past w.if-follows.false)))
    ]
