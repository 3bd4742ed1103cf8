use Rattle.std.proofs.Common.{◌≡◌, ◌∙◌, Bool, true, subst, sym}
use Rattle.he_access.proofs.Ruled.{same_answer}
use Rattle.he_access.specs.Reaching.{IsReached}
use Rattle.he_access.specs.declared.reach.Place.{Place}
use Rattle.he_access.specs.Rules.{Fits}
use Rattle.he_access.specs.declared.rules.Rule.{Rule}
use Rattle.he_loop.proofs.Reaching.{reached_all}
use Rattle.he_loop.proofs.access.Reach.has.Goals as goal
use Rattle.he_loop.proofs.access.Reach.has.Goals.{then-may_reach, else-may_reach}

pub returns-then-has_host-clause-all : goal.returns-then-has_host-clause-all
returns-then-has_host-clause-all c = λ reaches.
    same_answer
    (λ (rule : Rule). Fits rule c.args.asked.now (record { ip = c.args.to.way.to; port = c.args.port }) c.args.to.host)
    c.args.self.rules.now c.may_go.result c.may_go.ensures reaches.ruled

pub returns-else-has_host-clause-all : goal.returns-else-has_host-clause-all
returns-else-has_host-clause-all c = λ reaches.
    elim c.if-may_reach.branch [
      | then-may_reach w ↦ w.value-is ∙ w.has_host.ensures.all reaches.host
      | else-may_reach w ↦
          let own = c.args.self.own.now in
          let to : Place = record { ip = c.args.to.way.to; port = c.args.port } in
          let reached : c.may_reach.result ≡ true =
          reached_all c.is_wide-is_wide.result own to c.args.to.way.from c.may_reach.result
          (subst (λ (is_wide : Bool). IsReached is_wide own to c.args.to.way.from) (sym c.is_wide-is_wide.ensures) reaches.reached)
          c.may_reach.ensures.wide c.may_reach.ensures.others in
          cc
    ]
