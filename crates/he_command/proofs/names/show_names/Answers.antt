use Rattle.std.proofs.Common.{◌≡◌, inl, refl, rules}
use Rattle.he_command.specs.Names.{names_output}
use Rattle.he_command.proofs.Shown.{shows_such}
use Rattle.he_command.proofs.names.show_names.Goals as goal

pub returns-then-shown-ne-DONE-clause-shows : goal.returns-then-shown-ne-DONE-clause-shows
returns-then-shown-ne-DONE-clause-shows g c = (
  c.show_text-shown.result,
  shows_such g.O.OutputStream
      (λ text. text ≡ names_output c.args.names.is_json c.args.names.host.now c.args.found.now) _ _ _ _
      c.text_of-text.ensures.text c.show_text-shown.ensures,
  search rules,
  inl refl,
)
