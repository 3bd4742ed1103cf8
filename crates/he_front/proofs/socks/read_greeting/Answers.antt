use Rattle.std.proofs.Common.{◌≡◌, length, arith, sym, ◌∙◌}
use Rattle.std.proofs.lemmas.Bool.{eqb-true}
use Rattle.he_front.proofs.Begun.{greeting-may, greeting-of-none, no-count, too-short}
use Rattle.he_front.proofs.socks.read_greeting.Goals as goal

pub returns-then-is_empty : goal.returns-then-is_empty
returns-then-is_empty c =
    let none : length c.args.octets.now ≡ 0 = eqb-true (length c.args.octets.now) 0 (sym c.is_empty.ensures ∙ c.if-is_empty.true) in
    (no-count c.args.method c.args.octets.now (omega (arith, none)), greeting-of-none c.args.method c.args.octets.now none)

pub returns-then-octets-lt2 : goal.returns-then-octets-lt2
returns-then-octets-lt2 c =
    (no-count c.args.method c.args.octets.now c.if-octets-lt2.true, greeting-may c.args.method c.args.octets.now c.if-octets-ne-VERSION.false)

pub returns-then-octets-end : goal.returns-then-octets-end
returns-then-octets-end c =
    (too-short c.args.method c.args.octets.now c.if-octets-end.true, greeting-may c.args.method c.args.octets.now c.if-octets-ne-VERSION.false)
