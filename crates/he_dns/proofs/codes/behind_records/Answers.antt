use Rattle.std.proofs.Common.{sym, ◌∙◌, arith}
use Rattle.he_dns.specs.Reading.{behind_records}
use Rattle.he_dns.proofs.Passed.{all_passed, none_passed, record_passed}
use Rattle.he_dns.proofs.codes.behind_records.Goals as goal

pub returns-in_err-source : goal.returns-in_err-source
returns-in_err-source c =
    c.from_residual.ensures ∙ sym (none_passed c.args.count c.records.passed c.args.message.now c.records.at (behind_records c.args.count c.args.message.now c.args.at) (omega arith) c.records.invariant c.in_err-source.ensures.value)

pub records-preserved : goal.records-preserved
records-preserved c =
    record_passed c.args.count c.records.passed c.args.message.now c.records.at c.in_ok-source.source (behind_records c.args.count c.args.message.now c.args.at) (omega arith) c.records.invariant c.in_ok-source.ensures.value

pub returns : goal.returns
returns c = sym (all_passed c.args.count c.records.passed c.args.message.now c.records.at (behind_records c.args.count c.args.message.now c.args.at) (omega arith) c.records.invariant)
