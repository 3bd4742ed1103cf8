use Rattle.std.proofs.Common.{◌∙◌, ap, sym, map, Bool}
use Rattle.he_words.specs.declared.fault.TextKind.TheVariants as kinds
use Rattle.he_reading.specs.Faults.{test}
use Rattle.he_record.specs.Faults.{repeated}
use Rattle.he_record.specs.Left.{said_of}
use Rattle.he_record.proofs.checks.repeats.Goals as goal

pub returns-in-Lookup : goal.returns-in-Lookup
returns-in-Lookup c =
    c.repeated_if.ensures ∙ ap (λ (b : Bool). test b kinds.Repeated) c.is_looked_up.ensures
    ∙ ap (λ l. repeated (map said_of c.args.before.now) (said_of l)) (sym c.in-Lookup.is)

pub returns-in-Attempt : goal.returns-in-Attempt
returns-in-Attempt c =
    c.repeated_if-in-Attempt.ensures ∙ ap (λ (b : Bool). test b kinds.Repeated) c.is_told.ensures
    ∙ ap (λ l. repeated (map said_of c.args.before.now) (said_of l)) (sym c.in-Attempt.is)
