use Rattle.std.proofs.Common.{◌≡◌, ◌<◌, length, length-set, slice_get, Some, sym, subst, arith}
use Rattle.he_plan.specs.declared.finish.Fate.TheVariants.{Running}
use Rattle.he_plan.specs.RaceState.{EndsOne, IsUnderway, Progress}
use Rattle.he_plan.proofs.Ends.{fewer_failures, underway-ended, underway-ran}
use Rattle.he_plan.proofs.Finishing.{get_below}
use Rattle.he_plan.proofs.race_state.RaceState.end.Goals as goal

pub index_mut-requires : goal.index_mut-requires
index_mut-requires g c =
    let old : Progress = record { attempts = c.self.inside.attempts.items; fates = c.self.inside.fates.items; failed = c.self.inside.failed; latest = c.self.inside.latest; queue = c.self.inside.queue } in
    let under : IsUnderway c.requires.ends.0 old = subst (λ (u : Progress). IsUnderway c.requires.ends.0 u) (sym c.self.view_is) c.requires.ends.2 in
    let ends : EndsOne c.requires.ends.0 c.args.timeline.now old.attempts c.args.attempt = subst (λ (u : Progress). EndsOne c.requires.ends.0 c.args.timeline.now u.attempts c.args.attempt) (sym c.self.view_is) c.requires.ends.3 in
    let lt : c.args.attempt.place < length c.self.inside.fates.items = get_below old.fates c.args.attempt.place Running (underway-ran c.requires.ends.0 c.args.timeline.now old c.args.attempt under ends) in
    omega arith

pub count-requires : goal.count-requires
count-requires g c =
    let old : Progress = record { attempts = c.self.inside.attempts.items; fates = c.self.inside.fates.items; failed = c.self.inside.failed; latest = c.self.inside.latest; queue = c.self.inside.queue } in
    let under : IsUnderway c.requires.ends.0 old = subst (λ (u : Progress). IsUnderway c.requires.ends.0 u) (sym c.self.view_is) c.requires.ends.2 in
    let ends : EndsOne c.requires.ends.0 c.args.timeline.now old.attempts c.args.attempt = subst (λ (u : Progress). EndsOne c.requires.ends.0 c.args.timeline.now u.attempts c.args.attempt) (sym c.self.view_is) c.requires.ends.3 in
    let ran : slice_get old.fates c.args.attempt.place ≡ Some Running = underway-ran c.requires.ends.0 c.args.timeline.now old c.args.attempt under ends in
    omega (arith, under.failed, fewer_failures old.fates c.args.attempt.place ran, length-set old.fates c.args.attempt.place c.fate_of-fate.result)

pub returns-clause-underway : goal.returns-clause-underway
returns-clause-underway g c =
    let old : Progress = record { attempts = c.self.inside.attempts.items; fates = c.self.inside.fates.items; failed = c.self.inside.failed; latest = c.self.inside.latest; queue = c.self.inside.queue } in
    let under : IsUnderway c.requires.ends.0 old = subst (λ (u : Progress). IsUnderway c.requires.ends.0 u) (sym c.self.view_is) c.requires.ends.2 in
    let ends : EndsOne c.requires.ends.0 c.args.timeline.now old.attempts c.args.attempt = subst (λ (u : Progress). EndsOne c.requires.ends.0 c.args.timeline.now u.attempts c.args.attempt) (sym c.self.view_is) c.requires.ends.3 in
    rw (c.count.ensures, c.fate_of-fate.ensures.value) (underway-ended c.requires.ends.0 c.args.timeline.now c.requires.ends.1 c.fate_of-fate.ensures.race old c.args.attempt under ends)
