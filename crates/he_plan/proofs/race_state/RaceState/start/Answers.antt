use Rattle.std.proofs.Common.{[], ◌∷◌, List, length, length-append, sym, ◌∙◌, ap, arith, subst}
use Rattle.he_plan.specs.declared.attempts.Attempt.{Attempt}
use Rattle.he_timeline.specs.Seen.{IsLeast}
use Rattle.he_plan.specs.Attempts.{MayStart}
use Rattle.he_plan.specs.RaceState.{IsAtNext, IsQueue, IsUnderway, Progress}
use Rattle.he_plan.proofs.Ends.{few_failures}
use Rattle.he_plan.proofs.Stopped.{underway-more}
use Rattle.he_plan.proofs.race_state.RaceState.start.Goals as goal

pub returns-in_err-advance-clause-underway : goal.returns-in_err-advance-clause-underway
returns-in_err-advance-clause-underway g c =
    let old : Progress = record { attempts = c.self.inside.attempts.items; fates = c.self.inside.fates.items; failed = c.self.inside.failed; latest = c.self.inside.latest; queue = c.self.inside.queue } in
    let was : IsUnderway c.args.timeline.now old = subst (λ (u : Progress). IsUnderway c.args.timeline.now u) (sym c.self.view_is) c.requires.underway in
    let queue : IsQueue c.args.timeline.now old.attempts c.advance.new.self = subst (λ (done : List Attempt). IsQueue c.args.timeline.now done c.advance.new.self) (c.deref.ensures.value ∙ c.make_room.ensures.same) c.in_err-advance.ensures.kept in
    rw (c.make_room.ensures.same, c.make_room-2.ensures.same) (record { in_turn = was.in_turn; in_range = was.in_range; fates = was.fates; failed = was.failed; latest = was.latest; queue = queue })

pub count-requires : goal.count-requires
count-requires g c =
    let old : Progress = record { attempts = c.self.inside.attempts.items; fates = c.self.inside.fates.items; failed = c.self.inside.failed; latest = c.self.inside.latest; queue = c.self.inside.queue } in
    let was : IsUnderway c.args.timeline.now old = subst (λ (u : Progress). IsUnderway c.args.timeline.now u) (sym c.self.view_is) c.requires.underway in
    rw (c.push_reserved-2.ensures.items, c.make_room-2.ensures.same)
    (omega (arith, was.failed, few_failures old.fates, length-append old.fates (c.fate_of-fate.result ∷ [])))

pub returns-clause-underway : goal.returns-clause-underway
returns-clause-underway g c =
    let old : Progress = record { attempts = c.self.inside.attempts.items; fates = c.self.inside.fates.items; failed = c.self.inside.failed; latest = c.self.inside.latest; queue = c.self.inside.queue } in
    let was : IsUnderway c.args.timeline.now old = subst (λ (u : Progress). IsUnderway c.args.timeline.now u) (sym c.self.view_is) c.requires.underway in
    let least : IsLeast (MayStart c.args.timeline.now old.attempts) c.args.tick = subst (λ (u : Progress). IsLeast (MayStart c.args.timeline.now u.attempts) c.args.tick) (sym c.self.view_is) c.requires.least in
    let next : IsAtNext c.args.timeline.now old.attempts c.args.tick c.advance.new.self = subst (λ (done : List Attempt). IsAtNext c.args.timeline.now done c.args.tick c.advance.new.self) (c.deref.ensures.value ∙ c.make_room.ensures.same) c.in_ok-advance.ensures.next in
    let x : Attempt = record { place = c.len.result; tick = c.args.tick; ip = c.take.result } in
    rw (c.count.ensures, c.push_reserved.ensures.items, c.push_reserved-2.ensures.items, c.make_room.ensures.same, c.make_room-2.ensures.same, c.take.ensures.rest, c.fate_of-fate.ensures.value)
    (underway-more c.args.timeline.now c.requires.race old c.advance.new.self x was least next (c.len.ensures ∙ sym c.deref.ensures.len ∙ ap length (c.deref.ensures.value ∙ c.make_room.ensures.same)) c.take.ensures.first)
