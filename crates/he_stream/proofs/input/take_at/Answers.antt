use Rattle.std.proofs.Common.{rules, ◌≡◌, ◌+◌, ◌-◌, ◌∙◌, ap, sym, subst, arith, length, take, drop, ℕ}
use Rattle.std.proofs.lemmas.Slice.{between-put_mid}
use Rattle.he_stream.specs.Steps.{Takes}
use Rattle.he_stream.proofs.input.take_at.Goals as goal
use borrow.Rule.Slice.PartMut.{put_mid}

pub returns-clause-step : goal.returns-clause-step
returns-clause-step g c =
    let end = c.args.at + c.args.room in
    let size : end - c.args.at ≡ c.args.room = omega arith in
    let whole = put_mid c.args.at (end - c.args.at) c.args.bytes.now c.take.new.buffer in
    let long : length c.take.new.buffer ≡ end - c.args.at = search rules in
    let part : take (end - c.args.at) (drop c.args.at whole) ≡ c.take.new.buffer = between-put_mid c.args.at (end - c.args.at) c.args.bytes.now c.take.new.buffer end (omega arith) long in
    let room : take c.args.room (drop c.args.at whole) ≡ c.take.new.buffer = ap (λ (n : ℕ). take n (drop c.args.at whole)) (sym size) ∙ part in
    subst (Takes (g.S.InputStream.remaining c.args.input.now) (g.S.InputStream.remaining c.take.new.self) c.take.result) (sym room) c.take.ensures.bytes
