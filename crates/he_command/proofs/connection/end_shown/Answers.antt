use Rattle.std.proofs.Common.{List, ℕ, inl, inr, refl, subst, rules}
use Rattle.he_command.specs.Objects.{ShowsRace}
use Rattle.he_command.proofs.connection.end_shown.Goals as goal

pub returns-then-show_race-ne-DONE : goal.returns-then-show_race-ne-DONE
returns-then-show_race-ne-DONE g c =
    let Shows : List ℕ → Type 0 = λ text. ShowsRace {O = g.row.O.Denot} g.O.OutputStream text c.args.session.now.output c.show_race.new.session.output c.show_race.result in
    (c.show_race.new.session.output, c.show_race.result, subst Shows c.deref.ensures.value c.show_race.ensures, inr (search rules, refl, refl))

pub returns : goal.returns
returns g c =
    let Shows : List ℕ → Type 0 = λ text. ShowsRace {O = g.row.O.Denot} g.O.OutputStream text c.args.session.now.output c.show_race.new.session.output c.show_race.result in
    (c.show_race.new.session.output, c.show_race.result, subst Shows c.deref.ensures.value c.show_race.ensures, inl (search rules, c.end_won.ensures))
