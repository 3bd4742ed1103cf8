use Rattle.std.proofs.Common.{ℕ, arith, subst, sym}
use Rattle.std.specs.Prelude.{List}
use Rattle.he_front.specs.OldSocks.{GoesOn, IsTooLong}
use Rattle.he_front.proofs.Begun.{is-there}
use Rattle.he_front.proofs.OldMessages.{rest_of, short_may, too_short, user_may, user_not_yet, user_too_long}
use Rattle.he_front.proofs.old_socks.read_old_request.Goals as goal

pub returns-then-octets-lt-USER : goal.returns-then-octets-lt-USER
returns-then-octets-lt-USER c = (
  too_short c.args.octets.now c.if-octets-lt-USER.true,
  short_may c.args.octets.now c.if-octets-lt-USER.true (sym c.if-is_other.ensures) (sym c.if-is_other-2.ensures),
)

pub returns-in-Partial : goal.returns-in-Partial
returns-in-Partial c =
    let octets = c.args.octets.now in
    let room = c.if-octets-lt-USER.false in (
      user_not_yet octets (subst (λ (xs : List ℕ). GoesOn 255 xs) (rest_of c.args.octets.now 8) c.in-Partial.ensures),
      user_may octets (omega (arith, room)) (is-there octets 0 4 (omega (arith, room)) (sym c.if-is_other.ensures))
          (is-there octets 1 1 (omega (arith, room)) (sym c.if-is_other-2.ensures)) (subst (λ (xs : List ℕ). GoesOn 255 xs) (rest_of c.args.octets.now 8) c.in-Partial.ensures),
    )

pub returns-in-Refused : goal.returns-in-Refused
returns-in-Refused c more =
    user_too_long c.args.octets.now more (omega (arith, c.if-octets-lt-USER.false)) (subst (λ (xs : List ℕ). IsTooLong 255 xs) (rest_of c.args.octets.now 8) c.in-Refused.ensures)
