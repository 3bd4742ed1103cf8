use Rattle.std.proofs.Common.{◌≡◌, Bool, true, sym, ◌∙◌, subst}
use Rattle.he_addr.specs.Ip.{mapped_of}
use Rattle.he_access.specs.Registries.{Says, judged, rows}
use Rattle.he_access.proofs.Decisions.{here_from, here_to, own_to, own_from}
use Rattle.he_access.proofs.Refused.{carried_global, one_answer, private_refused}
use Rattle.he_access.proofs.reach.may_reach.Goals as goal

pub returns-then-is_own-clause-wide : goal.returns-then-is_own-clause-wide
returns-then-is_own-clause-wide c = λ wide other. absurd (other (own_from c.args.places.now c.args.to c.args.source (sym c.is_own.ensures ∙ c.if-is_own.true)))

pub returns-then-is_own-clause-others : goal.returns-then-is_own-clause-others
returns-then-is_own-clause-others c = λ far other here global. absurd (other (own_from c.args.places.now c.args.to c.args.source (sym c.is_own.ensures ∙ c.if-is_own.true)))

pub returns-then-is_wide-clause-reached : goal.returns-then-is_wide-clause-reached
returns-then-is_wide-clause-reached c = λ t. record {
  itself = λ own. let is : c.is_own.result ≡ true = c.is_own.ensures ∙ own_to c.args.places.now c.args.to c.args.source own in cc;
  here = λ far here. cc;
  private = λ far private. cc;
  global = λ far. cc;
  carried = λ far n carries. cc;
}

pub returns-then-not-is_here-clause-reached : goal.returns-then-not-is_here-clause-reached
returns-then-not-is_here-clause-reached c = λ t. record {
  itself = λ own. let is : c.is_own.result ≡ true = c.is_own.ensures ∙ own_to c.args.places.now c.args.to c.args.source own in cc;
  here = λ far here. let is : c.is_here.result ≡ true = c.is_here.ensures ∙ here_to c.args.to.ip c.args.source here in cc;
  private = λ far private. private_refused c.args.to.ip private (subst (λ (b : Bool). Says rows (judged (mapped_of c.args.to.ip)) b) t c.is_global.ensures);
  global = λ far. subst (λ (b : Bool). Says rows (judged (mapped_of c.args.to.ip)) b) t c.is_global.ensures;
  carried = λ far n carries. carried_global c.args.to.ip n carries (subst (λ (b : Bool). Says rows (judged (mapped_of c.args.to.ip)) b) t c.is_global.ensures);
}

pub returns-then-not-is_here-clause-others : goal.returns-then-not-is_here-clause-others
returns-then-not-is_here-clause-others c = λ far other here global.
    one_answer (judged (mapped_of c.args.to.ip)) c.is_global.result true c.is_global.ensures global

pub returns-else-not-is_here-clause-others : goal.returns-else-not-is_here-clause-others
returns-else-not-is_here-clause-others c = λ far other here global.
    absurd (here (here_from c.args.to.ip c.args.source (sym c.is_here.ensures ∙ c.if-not-is_here.false)))
