use Rattle.std.proofs.Common.{[], ◌∷◌, map, arith}
use Rattle.he_summary.proofs.Told.{behind_words, told_before}
use Rattle.he_compare.specs.Table.{told_facts}
use Rattle.he_compare.proofs.table.write_table.Goals as goal

pub loop-row-init : goal.loop-row-init
loop-row-init g c = λ new table.
    let (rows, long, are, tells) = table in (
      rows,
      omega arith,
      are,
      behind_words (map (told_facts c.args.form) rows) c.args.text.now.items c.extend_from_slice.new.self.items new (_, c.in_ok-extend_from_slice.ensures.items) tells,
    )

pub loop-row-preserved : goal.loop-row-preserved
loop-row-preserved g c = λ new table.
    let (rows, long, are, tells) = table in
    c.loop-row.invariant new (
      c.in_ok-of.field-0 ∷ rows,
      omega arith,
      (c.in_ok-of.ensures, are),
      told_before (told_facts c.args.form c.in_ok-of.field-0) (map (told_facts c.args.form) rows) c.loop-row.text.items c.extend_from_slice-in-loop-row.new.self.items c.write_row.new.text.items
          c.write_name.new.text.items new (_, c.in_ok-extend_from_slice-2.ensures.items) c.in_ok-write_row.ensures c.in_ok-write_name.ensures tells,
    )

pub returns : goal.returns
returns g c = c.loop-row.invariant _ ([], omega arith, tt, (_, c.in_ok-extend_from_slice-3.ensures.items))
