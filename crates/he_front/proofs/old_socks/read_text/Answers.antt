use Rattle.std.proofs.Common.{[], append-nil, arith, refl, sym}
use Rattle.std.specs.Prelude.{◌∷◌}
use Rattle.he_addr.proofs.Cuts.{cut_some}
use Rattle.he_front.proofs.OldMessages.{cut_front, cut_none}
use Rattle.he_front.proofs.old_socks.read_text.Goals as goal

pub returns-then-text-most : goal.returns-then-text-most
returns-then-text-most c = record {
  front = c.in-Some.text.now;
  rest = 0 ∷ c.in-Some.field-0-1.now;
  parts = (cut_some 0 c.args.octets.now (c.in-Some.text.now, c.in-Some.field-0-1.now) (sym c.in-Some.ensures)).joined;
  bare = cut_front 0 c.args.octets.now (c.in-Some.text.now, c.in-Some.field-0-1.now) (sym c.in-Some.ensures);
  more = c.if-text-most.true;
}

pub returns-then-octets-most : goal.returns-then-octets-most
returns-then-octets-most c = record {
  front = c.args.octets.now;
  rest = [];
  parts = sym (append-nil c.args.octets.now);
  bare = cut_none 0 c.args.octets.now (sym c.in-None.ensures);
  more = c.if-octets-most.true;
}

pub returns-else-text-most : goal.returns-else-text-most
returns-else-text-most c = record {
  rest = c.in-Some.field-0-1.now;
  parts = (cut_some 0 c.args.octets.now (c.in-Some.text.now, c.in-Some.field-0-1.now) (sym c.in-Some.ensures)).joined;
  bare = cut_front 0 c.args.octets.now (c.in-Some.text.now, c.in-Some.field-0-1.now) (sym c.in-Some.ensures);
  fits = omega (arith, c.if-text-most.false);
  ends = refl;
}

pub returns-else-octets-most : goal.returns-else-octets-most
returns-else-octets-most c = (cut_none 0 c.args.octets.now (sym c.in-None.ensures), omega (arith, c.if-octets-most.false))
