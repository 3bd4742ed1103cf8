use Rattle.std.proofs.Common.{None, Some, ap, sym, ◌∙◌, arith}
use Rattle.he_dns.specs.Reading.{extension_from}
use Rattle.he_dns.proofs.Passed.{all_looked, none_looked, record_looked, wrong_looked}
use Rattle.he_dns.proofs.codes.read_additional.Goals as goal

pub returns-in_err-source : goal.returns-in_err-source
returns-in_err-source c =
    c.from_residual.ensures ∙ sym (none_looked c.args.count c.records.read c.args.message.now c.records.extension c.records.at (extension_from c.args.count c.args.message.now None c.args.at) (omega arith) c.records.invariant c.in_err-source.ensures.value)

pub returns-in_err-extension : goal.returns-in_err-extension
returns-in_err-extension c =
    c.from_residual-in_err-extension.ensures
    ∙ sym (wrong_looked c.args.count c.records.read c.args.message.now c.records.extension c.records.at c.in_ok-source.source (extension_from c.args.count c.args.message.now None c.args.at) (omega arith) c.records.invariant c.in_ok-source.ensures.value c.in_err-extension.ensures)

pub records-preserved : goal.records-preserved
records-preserved c =
    record_looked c.args.count c.records.read c.args.message.now c.records.extension c.in_ok-extension.extension c.records.at c.in_ok-source.source (extension_from c.args.count c.args.message.now None c.args.at) (omega arith) c.records.invariant c.in_ok-source.ensures.value c.in_ok-extension.ensures

pub returns : goal.returns
returns c =
    ap Some c.unwrap_or.ensures
    ∙ sym (all_looked c.args.count c.records.read c.args.message.now c.records.extension c.records.at (extension_from c.args.count c.args.message.now None c.args.at) (omega arith) c.records.invariant)
