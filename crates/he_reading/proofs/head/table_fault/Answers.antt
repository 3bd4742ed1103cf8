use Rattle.std.proofs.Common.{sym, ◌∙◌, ap, arith}
use Rattle.he_select.specs.TableFaults.{table_fault}
use Rattle.he_reading.proofs.Tables.{too_many_rows, put_rows}
use Rattle.he_reading.proofs.head.table_fault.Goals as goal

pub returns-then-count-ge-ROWS : goal.returns-then-count-ge-ROWS
returns-then-count-ge-ROWS c = sym (too_many_rows c.args.rows.now c.args.last (omega arith))

pub returns : goal.returns
returns c = c.find.ensures ∙ ap table_fault (put_rows c.args.rows.now c.copy_from_slice.new.self c.args.last c.copy_from_slice.ensures.after c.if-count-ge-ROWS.false)
