use Rattle.std.proofs.Common.{None, Some}
use Rattle.he_proxy_request.proofs.Refusing.{falling, no_port, no_range, of_none}
use Rattle.he_proxy_request.proofs.rules.read_range.Goals as goal

pub returns-in_err-front-clause-none : goal.returns-in_err-front-clause-none
returns-in_err-front-clause-none c =
    of_none c.from_residual.result (no_range c.args.text.now None c.in_err-front.ensures.cases tt)

pub returns-in_err-first-clause-none : goal.returns-in_err-first-clause-none
returns-in_err-first-clause-none c =
    of_none c.from_residual-in_err-first.result
    (no_range c.args.text.now (Some (c.in_ok-front.front, c.in_ok-front.back)) c.in_ok-front.ensures.cases
    (λ a b one two rising. no_port c.in_ok-front.front.now c.as_bytes.result.now c.as_bytes.ensures.value c.in_err-first.ensures.none a one))

pub returns-in_err-last-clause-none : goal.returns-in_err-last-clause-none
returns-in_err-last-clause-none c =
    of_none c.from_residual-in_err-last.result
    (no_range c.args.text.now (Some (c.in_ok-front.front, c.in_ok-front.back)) c.in_ok-front.ensures.cases
    (λ a b one two rising. no_port c.in_ok-front.back.now c.as_bytes-2.result.now c.as_bytes-2.ensures.value c.in_err-last.ensures.none b two))

pub returns-else-first-last-clause-none : goal.returns-else-first-last-clause-none
returns-else-first-last-clause-none c =
    no_range c.args.text.now (Some (c.in_ok-front.front, c.in_ok-front.back)) c.in_ok-front.ensures.cases
    (falling c.in_ok-front.front.now c.in_ok-front.back.now c.as_bytes.result.now c.as_bytes-2.result.now
    c.in_ok-first.first c.in_ok-last.last
    c.as_bytes.ensures.value c.as_bytes-2.ensures.value c.in_ok-first.ensures.some c.in_ok-last.ensures.some c.if-first-last.false)
