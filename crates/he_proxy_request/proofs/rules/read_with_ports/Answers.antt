use Rattle.std.proofs.Common.{None, Some}
use Rattle.he_proxy_request.proofs.Refusing.{has_none, has_other, of_none, split_last}
use Rattle.he_proxy_request.proofs.rules.read_with_ports.Goals as goal

pub returns-in_err-front-clause-none : goal.returns-in_err-front-clause-none
returns-in_err-front-clause-none c =
    of_none c.from_residual.result (has_none c.args.text.now (split_last c.args.text.now None c.in_err-front.ensures.cases))

pub returns-in_err-targets-clause-none : goal.returns-in_err-targets-clause-none
returns-in_err-targets-clause-none c =
    of_none c.from_residual-in_err-targets.result (has_other c.args.text.now c.in_ok-front.front.now c.in_ok-front.digits.now
    (split_last c.args.text.now (Some (c.in_ok-front.front, c.in_ok-front.digits)) c.in_ok-front.ensures.cases)
    (λ targets ports named at. c.in_err-targets.ensures.none targets named))

pub returns-in_err-ports-clause-none : goal.returns-in_err-ports-clause-none
returns-in_err-ports-clause-none c =
    of_none c.from_residual-in_err-ports.result (has_other c.args.text.now c.in_ok-front.front.now c.in_ok-front.digits.now
    (split_last c.args.text.now (Some (c.in_ok-front.front, c.in_ok-front.digits)) c.in_ok-front.ensures.cases)
    (λ targets ports named at. c.in_err-ports.ensures.none ports at))

pub returns-clause-some : goal.returns-clause-some
returns-clause-some c =
    record {
      front = c.in_ok-front.front.now;
      digits = c.in_ok-front.digits.now;
      parts = (split_last c.args.text.now (Some (c.in_ok-front.front, c.in_ok-front.digits)) c.in_ok-front.ensures.cases).0;
      named = c.in_ok-targets.ensures.some;
      at = c.in_ok-ports.ensures.some;
    }
