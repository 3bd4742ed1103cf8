use Rattle.std.proofs.Common.{ℕ, ◌+◌, ap, drop, subst, ◌∙◌}
use Rattle.std.specs.Int.{w32, from_be_bytes}
use Rattle.std.specs.Prelude.{List, slice_range}
use Rattle.he_front.specs.OldSocks.{GoesOn, IsText, IsTooLong}
use Rattle.he_front.proofs.OldMessages.{name_may, name_not_yet, name_too_long, rest_of, signed}
use Rattle.he_front.proofs.old_socks.read_old_target.Goals as goal

pub returns-in-Whole : goal.returns-in-Whole
returns-in-Whole c =
    let octets : List ℕ = c.args.octets.now in
    let user = c.requires.user in
    record {
      version = c.requires.version;
      command = c.requires.command;
      port = c.port_at-port.ensures;
      user = user.0;
      user_len = user.1;
      user_is = user.2;
      target = (
        signed c.is_name_sign.result c.v4_at-ip.result (from_be_bytes w32 (slice_range octets 4 8)) c.is_name_sign.ensures c.if-not-is_name_sign.false c.v4_at-ip.ensures,
        (c.in-Whole.len, subst (λ (xs : List ℕ). IsText 255 xs c.in-Whole.name c.in-Whole.len) (rest_of octets c.args.after ∙ ap (λ n. drop n octets) user.3) c.in-Whole.ensures, ap (λ n. n + c.in-Whole.len) user.3),
      );
    }

pub returns-in-Partial : goal.returns-in-Partial
returns-in-Partial c =
    let octets : List ℕ = c.args.octets.now in
    let user = c.requires.user in
    let named = signed c.is_name_sign.result c.v4_at-ip.result (from_be_bytes w32 (slice_range octets 4 8)) c.is_name_sign.ensures c.if-not-is_name_sign.false c.v4_at-ip.ensures in (
      name_not_yet octets user.0 user.1 c.args.after user.2 user.3 named (subst (λ (xs : List ℕ). GoesOn 255 xs) (rest_of octets c.args.after) c.in-Partial.ensures),
      name_may octets user.0 user.1 c.args.after user.2 user.3 c.requires.version c.requires.command named (subst (λ (xs : List ℕ). GoesOn 255 xs) (rest_of octets c.args.after) c.in-Partial.ensures),
    )

pub returns-in-Refused : goal.returns-in-Refused
returns-in-Refused c more =
    let octets : List ℕ = c.args.octets.now in
    let user = c.requires.user in
    let named = signed c.is_name_sign.result c.v4_at-ip.result (from_be_bytes w32 (slice_range octets 4 8)) c.is_name_sign.ensures c.if-not-is_name_sign.false c.v4_at-ip.ensures in
    name_too_long octets more user.0 user.1 c.args.after user.2 user.3 named (subst (λ (xs : List ℕ). IsTooLong 255 xs) (rest_of octets c.args.after) c.in-Refused.ensures)
