use Rattle.std.proofs.Common.{◌≡◌, nat_le, subst}
use Rattle.he_addr.specs.Bits.{agrees}
use Rattle.he_addr.specs.Prefix.{PrefixBits}
use Rattle.he_addr.proofs.Between.{from_first}
use Rattle.he_addr.proofs.prefix.Prefix.begins.Goals as goal

pub returns-then-number-self : goal.returns-then-number-self
returns-then-number-self c =
    let P : PrefixBits → Type 0 = λ p. nat_le c.args.number c.self.inside.last ≡ agrees 128 c.args.number p.bits p.len in
    subst P c.self.view_is (from_first c.self.inside.bits c.self.inside.last c.self.inside.len c.args.number c.self.invariant.0 c.self.invariant.1 c.if-number-self.true)
