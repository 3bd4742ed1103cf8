use Rattle.he_addr.proofs.PrintedTexts.{printed-IsPrinted}
use Rattle.he_addr.proofs.writing.write_ip.Goals as goal

pub returns-in_err-extend_from_slice-clause-text : goal.returns-in_err-extend_from_slice-clause-text
returns-in_err-extend_from_slice-clause-text g c = printed-IsPrinted c.args.ip

pub returns-clause-text : goal.returns-clause-text
returns-clause-text g c = printed-IsPrinted c.args.ip
