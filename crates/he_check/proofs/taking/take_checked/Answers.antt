use Rattle.std.proofs.Common.{◌++◌, ◌∙◌, ap, refl, subst, sym, List, ℕ, true≢false}
use Rattle.he_stream.specs.Input.{Gives, GivesSoFar}
use Rattle.he_inputs.specs.HeldInputs.{GivesBy}
use Rattle.he_inputs.specs.declared.race_reader.Ending.{Ending}
use Rattle.he_inputs.specs.declared.race_reader.Ending.TheVariants as endings
use Rattle.he_inputs.proofs.HeldInputLaws.{gives_ended, gives_so_far}
use Rattle.he_check.specs.Steps.{IsTaken}
use Rattle.he_check.proofs.Holding.{ends_found, ends_taken, looked_on, none_taken, taken_on}
use Rattle.he_check.proofs.taking.take_checked.Goals as goal

pub loop-held-init : goal.loop-held-init
loop-held-init g c = (none_taken c.args.is_all c.args.form g.I.InputStream c.args.input.now c.new-held.result c.new-held.ensures.none.0 c.new-held.ensures.none.1 c.new-held.ensures.counted, λ _. c.new-held.ensures.counted.none, refl)

pub returns-then-not-is_open : goal.returns-then-not-is_open
returns-then-not-is_open g c =
    let input = g.I.InputStream in
    let first = c.args.input.now in
    let last = c.take.new.input in
    let held = record c.loop-held.held { input = c.take.new.self } in
    let Took : List ℕ → Type 0 = GivesBy input first last held.input.steps c.in_ok-ending.ending in
    let is = taken_on c.args.is_all c.args.form input first c.loop-held.input last c.loop-held.held c.take.new.self c.in_ok-ending.ending c.in_ok-ending.ensures.more c.loop-held.invariant.0 in
    let whole : List ℕ = is.before ++ held.input.bytes in
    let given = λ (took : Took whole).
    subst (Gives input.remaining input.takes first last whole) (sym c.is_broken-is_broken.ensures) (gives_ended input first last held.input.steps whole c.in_ok-ending.ending (λ may. true≢false (sym (c.is_open.ensures.1 may) ∙ c.if-not-is_open.true)) took) in
    let ends = ends_taken c.args.is_all c.args.form (λ found. found.0) (λ found. found.1.items) Took held c.finish.new.self is c.is_broken-is_broken.result (Gives input.remaining input.takes first last)
    (GivesSoFar input.remaining input.takes first last) given c.args.explanation.now.items c.loop-held.explanation.items c.conclude.new.explanation.items (ap (λ e. e.items) c.loop-held.invariant.2) c.in_ok-finish.ensures.same
    c.in_ok-finish.ensures.gone c.in_ok-finish.ensures.stopped c.conclude.result c.conclude.ensures.ok c.conclude.ensures.err in
    record { right = ends.0; wrong = ends.1 }

pub returns-then-is_done-clause-wrong : goal.returns-then-is_done-clause-wrong
returns-then-is_done-clause-wrong g c =
    let input = g.I.InputStream in
    let first = c.args.input.now in
    let last = c.take.new.input in
    let held = record c.loop-held.held { input = c.take.new.self } in
    let Took : List ℕ → Type 0 = GivesBy input first last held.input.steps endings.Open in
    let Is : Ending → Type 0 = λ e. IsTaken c.args.is_all c.args.form (GivesBy input first last held.input.steps e) held in
    let is = subst Is (c.is_open.ensures.0 c.if-not-is_open.false)
    (taken_on c.args.is_all c.args.form input first c.loop-held.input last c.loop-held.held c.take.new.self c.in_ok-ending.ending c.in_ok-ending.ensures.more c.loop-held.invariant.0) in
    let looked = c.in_ok-gain.ensures in
    let done = c.is_done.ensures.done c.if-is_done.true in
    let next = c.gain.new.self in
    let now = looked_on c.args.is_all c.args.form Took held next is looked.held looked.all looked.form looked.steps looked.on in
    ends_found c.args.is_all c.args.form (λ found. found.0) (λ found. found.1.items) Took next now (Gives input.remaining input.takes first last) (GivesSoFar input.remaining input.takes first last)
    (gives_so_far input first last held.input.steps (now.before ++ next.input.bytes)) c.args.explanation.now.items c.loop-held.explanation.items c.conclude-then-is_done.new.explanation.items
    (ap (λ e. e.items) c.loop-held.invariant.2) done.0 done.1 c.conclude-then-is_done.result c.conclude-then-is_done.ensures.ok c.conclude-then-is_done.ensures.err

pub loop-held-preserved : goal.loop-held-preserved
loop-held-preserved g c =
    let input = g.I.InputStream in
    let first = c.args.input.now in
    let last = c.take.new.input in
    let held = record c.loop-held.held { input = c.take.new.self } in
    let Is : Ending → Type 0 = λ e. IsTaken c.args.is_all c.args.form (GivesBy input first last held.input.steps e) held in
    let is = subst Is (c.is_open.ensures.0 c.if-not-is_open.false)
    (taken_on c.args.is_all c.args.form input first c.loop-held.input last c.loop-held.held c.take.new.self c.in_ok-ending.ending c.in_ok-ending.ensures.more c.loop-held.invariant.0) in
    let looked = c.in_ok-gain.ensures in
    let next = c.gain.new.self in
    let Steps : ℕ → Type 0 = λ n. IsTaken c.args.is_all c.args.form (GivesBy input first last n endings.Open) next in
    let now = looked_on c.args.is_all c.args.form (GivesBy input first last held.input.steps endings.Open) held next is looked.held looked.all looked.form looked.steps looked.on in
    (subst Steps (sym looked.steps) now, c.is_done.ensures.more c.if-is_done.false, c.loop-held.invariant.2)
