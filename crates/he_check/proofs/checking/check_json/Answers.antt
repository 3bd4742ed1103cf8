use Rattle.std.proofs.Common.{rules, ◌∙◌, List, ℕ, subst₂, sym}
use Rattle.he_stream.specs.Input.{Gives, GivesSoFar}
use Rattle.he_check.specs.Steps.{TakesWrong}
use Rattle.he_check.specs.declared.form.Form.TheVariants.{Json}
use Rattle.he_check.proofs.PutObjects.{right_put, wrong_broke}
use Rattle.he_check.proofs.checking.check_json.Goals as goal

pub returns-in-Ok : goal.returns-in-Ok
returns-in-Ok g c =
    let right = rw c.in-Ok.checked-is at rw c.in-Ok.warnings-is at c.in-Ok.ensures.right in
    let members = c.deref-in-Ok.ensures.value ∙ rw c.deref.ensures.value at c.in_ok-members-in-Ok.ensures in
    right_put _ _ _ _ _ _ _ c.in-Ok.checked c.in-Ok.warnings.items right.0 c.deref-in-Ok.result.now members c.put_object.result c.put_object.ensures

pub returns : goal.returns
returns g c =
    let wrong = subst₂
    (λ (old new : List ℕ). TakesWrong c.args.is_all Json (Gives g.I.InputStream.remaining g.I.InputStream.takes c.args.input.now c.take_checked.new.input)
    (GivesSoFar g.I.InputStream.remaining g.I.InputStream.takes c.args.input.now c.take_checked.new.input) old new c.in-Err.fault) c.new-faults.ensures.items (sym c.deref-in-Err.ensures.value) c.in-Err.ensures.wrong in
    let puts = rw c.in-Err-put_object.is at c.put_object-in-Err.ensures in
    wrong_broke _ _ _ _ _ _ _ c.deref-in-Err.result.now c.in-Err.fault wrong (search rules) c.in-Err-put_object.unwritten puts
