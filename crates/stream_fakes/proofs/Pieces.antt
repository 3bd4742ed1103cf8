-- What a read takes from the front of the bytes that are left.
use Rattle.std.proofs.Common.{◌≡◌, ℕ, ◌+◌, ◌<◌, ◌≤◌, List, [], ◌++◌, length, take, drop, min, sym, ap, ◌∙◌, arith, take-append-drop, drop_of_length-le, length-drop, length-take-le, take_at}
use Rattle.std.proofs.lemmas.List.{drop-drop}

-- the piece and what is left after it
pub piece_and_rest : (bytes piece room : List ℕ) (at count : ℕ) → count ≤ length (drop at bytes) → piece ≡ take count (drop at bytes)
    → drop at bytes ≡ take count (piece ++ room) ++ drop (at + count) bytes
piece_and_rest bytes piece room at count within is =
    let long : length piece ≡ count = ap length is ∙ length-take-le count (drop at bytes) within in
    sym (take-append-drop count (drop at bytes)) ∙ ap (λ l. l ++ drop count (drop at bytes)) (sym (take_at piece room count long ∙ is))
    ∙ ap (λ l. take count (piece ++ room) ++ l) (drop-drop count at bytes)

-- a read that gave nothing in some room was at the end
pub nothing_left : (bytes : List ℕ) (at step room count : ℕ) → count ≡ min (min step room) (length (drop at bytes)) → 0 < step → 0 < room → count ≡ 0
    → drop (at + count) bytes ≡ []
nothing_left bytes at step room count is some_step some_room none =
    drop_of_length-le bytes (omega (arith, length-drop at bytes))
