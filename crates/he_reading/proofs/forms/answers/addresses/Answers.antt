use Rattle.std.proofs.Common.{rules, ◌≡◌, List, Err, sym, ◌∙◌, ap}
use Rattle.he_addr.specs.declared.ip.Ip.{Ip}
use Rattle.he_reading.specs.Forms.{addresses_in}
use Rattle.he_reading.specs.Left.{tokens_left}
use Rattle.he_reading.specs.Reading.{prepend}
use Rattle.he_reading.proofs.FormLaws.{addresses_begin, addresses_more, addresses_wrong, addresses_end}
use Rattle.he_reading.proofs.forms.answers.addresses.Goals as goal

pub returns-in_err-address : goal.returns-in_err-address
returns-in_err-address g c =
    let wrong : addresses_in c.args.family (tokens_left c.args.tokens) ≡ Err c.in_err-address.field-0.0 =
    sym c.loop-token.invariant
    ∙ addresses_wrong c.loop-token.ips.items c.args.family (tokens_left c.loop-token.left) (tokens_left c.next.new.self) c.in-Some.token.now c.in_err-address.field-0.0 c.in-Some.ensures.token (sym c.in_err-address.ensures) in
    search rules

pub loop-token-init : goal.loop-token-init
loop-token-init g c = addresses_begin c.args.ips.now.items (addresses_in c.args.family (tokens_left c.args.tokens)) c.requires

pub loop-token-preserved : goal.loop-token-preserved
loop-token-preserved g c =
    let pushed = c.push.ensures in
    ap (λ (ips : List Ip). prepend ips (addresses_in c.args.family (tokens_left c.next.new.self))) (search rules)
    ∙ sym (addresses_more c.loop-token.ips.items c.args.family (tokens_left c.loop-token.left) (tokens_left c.next.new.self) c.in-Some.token.now c.in_ok-address.field-0 c.in-Some.ensures.token (sym c.in_ok-address.ensures))
    ∙ c.loop-token.invariant

pub returns : goal.returns
returns g c =
    sym c.loop-token.invariant
    ∙ addresses_end c.loop-token.ips.items c.args.family (tokens_left c.loop-token.left) c.in_default.ensures.token
