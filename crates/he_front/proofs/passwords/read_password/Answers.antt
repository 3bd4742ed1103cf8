use Rattle.std.proofs.Common.{◌+◌, ◌∙◌, arith, refl, slice_index_or, sym}
use Rattle.he_front.proofs.GivenPasswords.{no-length, no-password, other-version, part-of-password, password-may, password-whole}
use Rattle.he_front.proofs.passwords.read_password.Goals as goal

pub returns-then-is_other : goal.returns-then-is_other
returns-then-is_other c more = other-version c.args.octets.now more (sym c.is_other.ensures ∙ c.if-is_other.true)

pub returns-then-octets-lt-NAME : goal.returns-then-octets-lt-NAME
returns-then-octets-lt-NAME c = (no-length c.args.octets.now c.if-octets-lt-NAME.true, password-may c.args.octets.now (sym c.is_other.ensures ∙ c.if-is_other.false))

pub returns-then-octets-after : goal.returns-then-octets-after
returns-then-octets-after c = (no-password c.args.octets.now c.if-octets-after.true, password-may c.args.octets.now (sym c.is_other.ensures ∙ c.if-is_other.false))

pub returns-then-octets-end : goal.returns-then-octets-end
returns-then-octets-end c =
    (part-of-password c.args.octets.now (2 + slice_index_or c.args.octets.now 1 0) refl c.if-octets-end.true, password-may c.args.octets.now (sym c.is_other.ensures ∙ c.if-is_other.false))

pub returns : goal.returns
returns c =
    password-whole c.args.octets.now (2 + slice_index_or c.args.octets.now 1 0) _ _ (sym c.is_other.ensures ∙ c.if-is_other.false) refl (omega (arith, c.if-octets-after.false))
    (omega (arith, c.if-octets-end.false)) refl refl
