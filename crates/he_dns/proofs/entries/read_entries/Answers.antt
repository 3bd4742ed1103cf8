use Rattle.std.proofs.Common.{◌++◌, ◌+◌, ◌-◌, sym, ◌∙◌, ap, arith}
use Rattle.std.specs.Option.{option_map}
use Rattle.he_dns.specs.Reading.{entries_from}
use Rattle.he_dns.proofs.Gathered.{entry_left, none_left, all_read}
use Rattle.he_dns.proofs.entries.read_entries.Goals as goal

pub returns-in-None : goal.returns-in-None
returns-in-None g c =
    none_left c.args.count c.records.read c.args.message.now c.args.family c.records.at c.records.entries.items
    (entries_from c.args.count c.args.message.now c.args.family c.args.at) (omega arith) c.records.invariant c.in-None.ensures

pub records-preserved : goal.records-preserved
records-preserved g c =
    entry_left c.args.count c.records.read c.args.message.now c.args.family c.records.at c.records.entries.items c.in-Some.entry c.in-Some.end
    (entries_from c.args.count c.args.message.now c.args.family c.args.at) (omega arith) c.records.invariant c.in-Some.ensures
    ∙ ap (λ items. option_map (λ more. items ++ more) (entries_from (c.args.count - (c.records.read + 1)) c.args.message.now c.args.family c.in-Some.end)) (sym c.in_ok-push-in-Some.ensures.items)

pub returns : goal.returns
returns g c =
    all_read c.args.count c.records.read c.args.message.now c.args.family c.records.at c.records.entries.items
    (entries_from c.args.count c.args.message.now c.args.family c.args.at) (omega arith) c.records.invariant
