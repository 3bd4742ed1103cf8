use Rattle.std.proofs.Common.{◌≡◌, ◌∙◌, List, ◌++◌, map, subst}
use Rattle.std.specs.Prelude.{OnOk}
use Rattle.he_addr.specs.declared.ip.Family.TheVariants.{V4, V6}
use Rattle.he_record.specs.Said.{Said}
use Rattle.he_recording.specs.Facts.{lookup_lines, nat64_line, server_line}
use Rattle.he_recording.proofs.Adding.{then_rest}
use Rattle.he_recording.proofs.making.add_names.Goals as goal

pub returns : goal.returns
returns c =
    let six : List Said = lookup_lines V6 c.args.facts.now.six in
    let four : List Said = lookup_lines V4 c.args.facts.now.four in
    let prefixes : List Said = map nat64_line c.args.facts.now.nat64.now in
    let servers : List Said = map server_line c.args.facts.now.servers.now in
    let P : List Said → Type 0 = λ all. OnOk c.add_servers.result (c.add_servers.new.told ≡ all) in
    subst P
    (then_rest c.add_lookup-2.new.told c.add_nat64.new.told prefixes servers c.in_ok-add_nat64.ensures
    ∙ then_rest c.add_lookup.new.told c.add_lookup-2.new.told four (prefixes ++ servers) c.in_ok-add_lookup-2.ensures
    ∙ then_rest c.args.told.now c.add_lookup.new.told six (four ++ (prefixes ++ servers)) c.in_ok-add_lookup.ensures)
    c.add_servers.ensures
