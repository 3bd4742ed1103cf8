-- What a look-up of name servers begins with.
use Rattle.std.proofs.Common.{◌≡◌, List, ℕ, Option, subst, sym}
use Rattle.he_addr.specs.declared.ip.Family.{Family}
use Rattle.he_names.specs.Targets.{Means}
use Rattle.he_names.specs.declared.environment.Environment.{Environment}
use Rattle.he_names.specs.declared.target.Target.{Target}
use Rattle.he_resolver.specs.Begins.{AsksFor, BeginsFor}
use Rattle.he_resolver.specs.Heard.{IsFaithful}
use Rattle.he_settings.specs.Plans.{IsPlanFor}
use Rattle.he_settings.specs.declared.choice.Choice.{Choice}
use Rattle.he_resolver.specs.declared.lookup.Source.{Source}
use Rattle.he_resolver.specs.declared.lookup.Source.TheVariants as sources
use Rattle.he_settings.specs.declared.plan.QueryPlan.{QueryPlan}
use Rattle.he_resolver.specs.declared.resolver.Resolver.{Resolver}

pub begins_asking : {R : Type 0} (text : List ℕ) (choice : Choice) (environment : Environment) (only : Option Family) (target : Target)
    (plan : QueryPlan) (resolver : Resolver R) (source : Source R)
    → Means text target → IsPlanFor choice environment target plan → resolver.setup.plan ≡ plan
    → AsksFor only resolver → IsFaithful resolver → source ≡ sources.Servers resolver
    → BeginsFor text choice environment only source
begins_asking text choice environment only target plan resolver source means planned is asks faithful from =
    subst (BeginsFor text choice environment only) (sym from) (
      target,
      means,
      (subst (λ (p : QueryPlan). IsPlanFor choice environment target p) (sym is) planned, asks, faithful),
    )
