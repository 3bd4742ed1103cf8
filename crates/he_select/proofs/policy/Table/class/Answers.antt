use Rattle.std.proofs.Common.{◌∙◌, ℕ, sym, ap}
use Rattle.std.specs.Prelude.{None}
use Rattle.he_addr.specs.Bits.{agrees}
use Rattle.he_select.specs.declared.policy.Table.{Table}
use Rattle.he_select.specs.LookUps.{class_of, rows_of}
use Rattle.he_select.specs.Standard.{standard_rows}
use Rattle.he_select.specs.Tables.{is_longer_row, row_of}
use Rattle.he_select.specs.Walking.{walk_fitting}
use Rattle.he_select.proofs.LookUps.{row_walked}
use Rattle.he_select.proofs.policy.Table.class.Goals as goal

pub returns-in-Standard : goal.returns-in-Standard
returns-in-Standard c =
    c.standard_class.ensures
    ∙ ap (λ (n : ℕ). class_of (walk_fitting (λ row. agrees 128 n row.prefix.bits row.prefix.len) is_longer_row None standard_rows)) c.mapped.ensures
    ∙ ap class_of (row_walked standard_rows c.args.ip)
    ∙ ap (λ (table : Table). class_of (row_of (rows_of table) c.args.ip)) (sym c.in-Standard.is)
