use Rattle.std.proofs.Common.{◌∙◌, ℕ, ap}
use Rattle.std.specs.Prelude.{None}
use Rattle.he_addr.specs.Bits.{agrees}
use Rattle.he_select.specs.Tables.{is_longer_row}
use Rattle.he_select.specs.Walking.{walk_fitting}
use Rattle.he_select.proofs.LookUps.{row_walked}
use Rattle.he_select.proofs.lookup.find_row.Goals as goal

pub returns : goal.returns
returns c =
    c.longest_row.ensures
    ∙ ap (λ (n : ℕ). walk_fitting (λ row. agrees 128 n row.prefix.bits row.prefix.len) is_longer_row None c.args.rows.now) c.mapped.ensures
    ∙ row_walked c.args.rows.now c.args.ip
