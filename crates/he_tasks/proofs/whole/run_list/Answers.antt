use Rattle.std.proofs.Common.{inl, inr, map}
use Rattle.he_tasks.proofs.whole.run_list.Goals as goal

pub returns-in-Ok : goal.returns-in-Ok
returns-in-Ok g c = inl (
  map (λ name. name.now) c.in-Ok.names.items,
  c.in-Ok.ensures,
  elim c.run_named.ensures [
    | inl (named, has, does) ↦ inl (named, record { files = has.files; others = has.others }, does)
    | inr fault ↦ inr fault
  ],
)
