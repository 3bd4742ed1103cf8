use Rattle.std.proofs.Common.{ℕ, Bool, subst, sym}
use Rattle.std.specs.Prelude.{IfSome, None, Option}
use Rattle.he_access.specs.Reaching.{IsReached}
use Rattle.he_access.specs.declared.reach.Place.{Place}
use Rattle.he_addr.specs.declared.ip.Ip.TheVariants.{V4}
use Rattle.he_loop.proofs.Reaching.{reached_all}
use Rattle.he_loop.specs.Access.{ReachesHost}
use Rattle.he_loop.proofs.access.Reach.has_host.Goals as goal

pub returns-clause-all : goal.returns-clause-all
returns-clause-all c = λ all.
    let own = c.args.self.own.now in
    let to : Place = record { ip = V4 c.in-Some.host; port = c.args.port } in
    let reaches = subst (λ (host : Option ℕ). IfSome host (ReachesHost c.args.self c.args.port)) c.in-Some.is all in
    reached_all c.is_wide.result own to None c.may_reach.result
    (subst (λ (is_wide : Bool). IsReached is_wide own to None) (sym c.is_wide.ensures) reaches) c.may_reach.ensures.wide
    c.may_reach.ensures.others
