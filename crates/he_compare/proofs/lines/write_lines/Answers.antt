use Rattle.std.proofs.Common.{ℕ, ◌≡◌, ◌+◌, ◌<◌, List, [], ◌∷◌, length, drop, get_or, sym, subst}
use Rattle.std.proofs.lemmas.List.{append-nil, drop_all, drop_more}
use Rattle.he_summary.specs.Written.{HasWords, Tells}
use Rattle.he_summary.specs.declared.figures.Form.{Form}
use Rattle.he_totals.specs.declared.kept.Kept.{Kept}
use Rattle.he_summary.proofs.Told.{told_before}
use Rattle.he_compare.specs.Lines.{AreLines, line_facts, lines_facts}
use Rattle.he_compare.specs.Verdicts.{own_after}
use Rattle.he_compare.specs.declared.verdict.Finish.{Finish}
use Rattle.he_compare.proofs.lines.write_lines.Goals as goal

one_more : (form : Form) (kept : List Kept) (i : ℕ) (d : Kept) (own last : Finish) (old before behind end new : List ℕ) → i < length kept → last ≡ own_after own (get_or kept i d)
    → HasWords old before → Tells (line_facts form last (get_or kept i d)) before behind → HasWords behind end → AreLines form last (drop (i + 1) kept) end new
    → AreLines form own (drop i kept) old new
one_more form kept i d own last old before behind end new lt is words tells more rest =
    subst (λ (l : List Kept). AreLines form own l old new) (sym (drop_more kept i d lt))
    (subst (λ (s : Finish). HasWords old before → Tells (line_facts form s (get_or kept i d)) before behind → AreLines form s (drop (i + 1) kept) end new → AreLines form own (get_or kept i d ∷ drop (i + 1) kept) old new) (sym is)
    (λ words tells rest. told_before (line_facts form (own_after own (get_or kept i d)) (get_or kept i d)) (lines_facts form (own_after own (get_or kept i d)) (drop (i + 1) kept)) old before behind end new words tells more rest) words tells rest)

pub loop-race-preserved : goal.loop-race-preserved
loop-race-preserved g c = λ new rest.
    c.loop-race.invariant new
    (one_more c.args.form c.args.kept.now c.loop-race.race-index _ c.loop-race.own c.own_after-own.result c.loop-race.text.items c.write_name.new.text.items c.write_line.new.text.items
    c.write_name-in-loop-race.new.text.items new c.loop-race-test.true c.own_after-own.ensures c.in_ok-write_name.ensures c.in_ok-write_line.ensures c.in_ok-write_name-2.ensures rest)

pub returns : goal.returns
returns g c =
    c.loop-race.invariant c.loop-race.text.items
    (subst (λ (l : List Kept). AreLines c.args.form c.loop-race.own l c.loop-race.text.items c.loop-race.text.items) (sym (drop_all c.loop-race.race-index c.args.kept.now c.loop-race-test.false))
    ([], sym (append-nil c.loop-race.text.items)))
