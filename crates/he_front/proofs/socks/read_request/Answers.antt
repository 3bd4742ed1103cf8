use Rattle.std.proofs.Common.{◌<◌, ◌++◌, length, arith, refl}
use Rattle.he_front.proofs.Begun.{is-there, may-become, no-address, none-yet, refused, refused-more}
use Rattle.he_front.proofs.socks.read_request.Goals as goal

pub returns-in-Some : goal.returns-in-Some
returns-in-Some c more =
    refused (c.args.octets.now ++ more) c.in-Some.refusal (refused-more c.args.octets.now more c.in-Some.refusal c.in-Some.ensures.refused)

pub returns-then-octets-le-ADDRESS : goal.returns-then-octets-le-ADDRESS
returns-then-octets-le-ADDRESS c =
    (no-address c.args.octets.now c.if-octets-le-ADDRESS.true, may-become c.args.octets.now c.in_default.ensures.begun)

pub returns-then-octets-end : goal.returns-then-octets-end
returns-then-octets-end c =
    (none-yet c.args.octets.now c.end_of-end.result c.end_of-end.ensures c.if-octets-end.true, may-become c.args.octets.now c.in_default.ensures.begun)

pub returns : goal.returns
returns c =
    let octets = c.args.octets.now in
    let begun = c.in_default.ensures.begun in
    let room : 4 < length octets = c.if-octets-le-ADDRESS.false in
    record {
      version = is-there octets 0 5 (omega (arith, room)) begun.version;
      command = is-there octets 1 1 (omega (arith, room)) begun.command;
      reserved = is-there octets 2 0 (omega (arith, room)) begun.reserved;
      end = c.end_of-end.result;
      address = c.target_of.ensures;
      ends = refl;
      whole = omega (arith, c.if-octets-end.false);
      port = c.port_at.ensures;
    }
