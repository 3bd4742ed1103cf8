use Rattle.std.proofs.Common.{ℕ, List, ◌++◌, ap, IsAscii, subst, sym, ◌∙◌}
use Rattle.he_addr.specs.Printing.{printed}
use Rattle.he_addr.proofs.TextLaws.{addresses_read_back}
use Rattle.he_front.proofs.AddressOctets.{address_is_ascii}
use Rattle.he_front.proofs.asked.address_text.Goals as goal

pub text-requires : goal.text-requires
text-requires g c =
    let ascii : IsAscii (printed c.args.ip) = address_is_ascii (printed c.args.ip) c.args.ip (addresses_read_back c.args.ip c.is_usable-usable.ensures.range).0 in
    subst IsAscii (ap (λ (items : List ℕ). items ++ printed c.args.ip) (sym {A = List ℕ} c.new-octets.ensures.items) ∙ sym {A = List ℕ} c.in_ok-write_ip.ensures.ok ∙ sym {A = List ℕ} c.deref.ensures.value) ascii
