use Rattle.std.proofs.Common.{◌≡◌, ℕ, ◌<◌, ◌≤◌, length, drop, take, min, ap, sym, ◌∙◌, arith, length-append, length-take, length-drop}
use Rattle.std.proofs.lemmas.List.{take_rest}
use Rattle.stream_fakes.specs.Fakes.{Source}
use Rattle.stream_fakes.proofs.Pieces.{piece_and_rest, nothing_left}
use Rattle.stream_fakes.proofs.reader.FakeReaderRead.read.Goals as goal

pub returns-clause-bytes : goal.returns-clause-bytes
returns-clause-bytes c =
    let bytes = c.self.inside.bytes.now in
    let at = c.self.inside.at in
    let count = c.min-count.result in
    let rest = take_rest bytes at in
    let left : c.args.self.now.left ≡ drop at bytes = sym (ap (λ (s : Source). s.left) c.self.view_is) in
    let counted : count ≡ min (min c.self.inside.step (length c.args.buf.now)) (length (drop at bytes)) =
    c.min-count.ensures ∙ ap (λ l. min c.min.result (length l)) rest ∙ ap (λ n. min n (length (drop at bytes))) c.min.ensures in
    let within : count ≤ length (drop at bytes) = omega arith in
    let copied = c.copy_from_slice.ensures.after ∙ ap (take count) rest in (
      left ∙ piece_and_rest bytes _ _ at count within copied,
      λ none some.
          let room : 0 < length c.args.buf.now = omega (arith, c.copy_from_slice.ensures.len, length-append {A = ℕ}, length-take {A = ℕ}, length-drop {A = ℕ}) in
          nothing_left bytes at c.self.inside.step (length c.args.buf.now) count counted (omega (arith, c.self.invariant.1)) room none,
    )
