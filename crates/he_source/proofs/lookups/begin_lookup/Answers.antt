use Rattle.std.proofs.Common.{List, subst, sym}
use Rattle.std.specs.Borrow.{Bor}
use Rattle.std.specs.Prelude.{Option, option_map}
use Rattle.he_addr.specs.declared.ip.Ip.{Ip}
use Rattle.he_source.specs.Kept.{BeginsKnown}
use Rattle.he_source.proofs.lookups.begin_lookup.Goals as goal

pub returns-in-Some : goal.returns-in-Some
returns-in-Some g c =
    subst (λ (known : Option (Bor (List Ip))). BeginsKnown c.args.request.now c.args.sought.host.now c.args.sought.only
    (option_map (λ (ips : Bor (List Ip)). ips.now) known) c.in_ok-of_known.field-0.source) (sym c.in-Some.is)
    (c.in_ok-known.known, c.in_ok-known.ensures.items, c.in_ok-of_known.ensures)
