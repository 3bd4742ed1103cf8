use Rattle.std.proofs.Common.{Option, sym, ◌∙◌, ap}
use Rattle.std.specs.Option.{ok_or}
use Rattle.he_addr.specs.declared.ip.Ip.{Ip}
use Rattle.he_words.specs.declared.fault.TextKind.TheVariants as kinds
use Rattle.he_reading.proofs.FormLaws.{address_of}
use Rattle.he_reading.proofs.forms.answers.address.Goals as goal

pub returns-in-Some : goal.returns-in-Some
returns-in-Some c = ap (λ (read : Option Ip). ok_or read kinds.Address) c.in-Some.ensures.value ∙ sym (address_of c.args.family c.args.token.now)

pub returns-in-None : goal.returns-in-None
returns-in-None c = ap (λ (read : Option Ip). ok_or read kinds.Address) c.in-None.ensures.value ∙ sym (address_of c.args.family c.args.token.now)
