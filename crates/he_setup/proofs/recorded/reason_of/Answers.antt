use Rattle.std.proofs.Common.{◌≡◌, Bool, false, ◌∙◌, ap, sym}
use Rattle.std.specs.Prelude.{Option, Some, if◌then◌else◌}
use Rattle.he_failures.specs.Recorded.{fault_reason}
use Rattle.he_record.specs.declared.reasons.LookupReason.TheVariants.{NotAsked}
use Rattle.he_settings.specs.declared.fault.NamesFault.{NamesFault}
use Rattle.he_setup.specs.Recorded.{fault_of, is_left_out}
use Rattle.he_setup.proofs.recorded.reason_of.Goals as goal

pub returns : goal.returns
returns c =
    let asked : is_left_out c.args.families c.args.family ≡ false = sym c.is_left_out.ensures ∙ c.if-is_left_out.false in
    c.fault_reason.ensures ∙ ap (λ (fault : Option NamesFault). fault_reason fault) c.of.ensures
    ∙ sym (ap (λ (b : Bool). if b then Some NotAsked else fault_reason (fault_of c.args.why c.args.family)) asked)
