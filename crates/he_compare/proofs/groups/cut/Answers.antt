use Rattle.std.proofs.Common.{[], ◌∷◌, ◌++◌, ◌∙◌, ap, rules, subst, sym, append_assoc}
use Rattle.std.specs.List.Sorted.{IsNonDecreasingBy}
use Rattle.std.proofs.lemmas.List.{append-nil}
use Rattle.std.proofs.lemmas.List.Sorted.{IsNonDecreasingBy-drop}
use Rattle.he_compare.specs.Groups.{AreGroups, division_of, key_of}
use Rattle.he_compare.specs.declared.groups.Group.{Group}
use Rattle.he_compare.proofs.Grouped.{cut_off, none_left}
use Rattle.he_compare.proofs.groups.cut.Goals as goal

pub loop-first-preserved : goal.loop-first-preserved
loop-first-preserved g c =
    let division = division_of c.args.grouping in
    let group : Group = record { key = c.key_of-key.result; totals = c.in_ok-of.field-0 } in
    record {
      rises = subst (λ l. IsNonDecreasingBy (key_of division) l) (sym c.split_at.ensures.back) (IsNonDecreasingBy-drop (key_of division) c.end_of.result c.loop-first.rest.now c.loop-first.invariant.rises);
      are = λ more is.
          subst (λ l. AreGroups division c.args.sorted.now l) (sym (ap (λ l. l ++ more) c.in_ok-push.ensures.items ∙ append_assoc c.loop-first.groups.items (group ∷ []) more))
          (c.loop-first.invariant.are (group ∷ more)
          (cut_off division c.loop-first.rest.now c.split_at.result.0.now c.split_at.result.1.now group more c.in-Some.first.now c.end_of.result
          c.loop-first.invariant.rises c.in-Some.ensures.value c.key_of-key.ensures c.end_of.ensures.most c.end_of.ensures.point c.split_at.ensures.front c.split_at.ensures.back c.in_ok-of.ensures is));
    }

pub returns : goal.returns
returns g c =
    subst (λ l. AreGroups (division_of c.args.grouping) c.args.sorted.now l) (append-nil c.loop-first.groups.items)
    (c.loop-first.invariant.are [] (none_left (division_of c.args.grouping) c.loop-first.rest.now (search rules)))
