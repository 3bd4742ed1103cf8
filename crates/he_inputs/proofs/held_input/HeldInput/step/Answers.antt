use Rattle.std.proofs.Common.{rules, ◌≡◌, ◌+◌, ◌<◌, ◌≤◌, ℕ, ap, arith, length, subst, take}
use Rattle.std.proofs.lemmas.List.{places}
use Rattle.he_stream.specs.Limits.{most_reads}
use Rattle.he_inputs.specs.HeldInputs.{HeldBytes, TakesMore, ending_after, gained}
use Rattle.he_inputs.proofs.HeldInputLaws.{step_taken}
use Rattle.he_inputs.proofs.held_input.HeldInput.step.Goals as goal

pub returns-clause-more : goal.returns-clause-more
returns-clause-more g c =
    let fields = c.self.inside in
    let items = c.take_piece.new.bytes.items in
    let to : ℕ = fields.filled + c.gained.result in
    let same = ap (λ (h : HeldBytes). h.steps) c.self.view_is in
    let few : fields.steps < most_reads = let more = c.requires.more in omega arith in
    let inside : fields.filled + c.args.room ≤ length items = search (rules, places) in
    let sum : to ≡ fields.filled + gained c.in_ok-taken.taken = ap (λ (n : ℕ). fields.filled + n) c.gained.ensures in
    let step = c.in_ok-taken.ensures.step in
    subst (λ (h : HeldBytes). TakesMore g.I.InputStream c.args.input.now c.take_piece.new.input h (record { bytes = take to items; steps = fields.steps + 1 }) (ending_after c.in_ok-taken.taken)) c.self.view_is
    (step_taken g.I.InputStream c.args.input.now c.take_piece.new.input fields.bytes.items items fields.filled to c.args.room fields.steps c.in_ok-taken.ensures.front inside c.requires.some few c.requires.few
    c.in_ok-taken.taken sum step.0 step.1)
