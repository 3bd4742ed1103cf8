use Rattle.he_addr.proofs.PrintedTexts.{printed_source}
use Rattle.he_addr.proofs.writing.write_source.Goals as goal

pub returns-in_err-extend_from_slice-clause-text : goal.returns-in_err-extend_from_slice-clause-text
returns-in_err-extend_from_slice-clause-text g c = printed_source c.args.ip c.args.len

pub returns-clause-text : goal.returns-clause-text
returns-clause-text g c = printed_source c.args.ip c.args.len
