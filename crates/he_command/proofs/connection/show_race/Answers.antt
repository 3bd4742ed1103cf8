use Rattle.he_command.specs.Objects.{IsRaceObject}
use Rattle.he_command.proofs.Shown.{shows_such}
use Rattle.he_command.proofs.connection.show_race.Goals as goal

pub returns : goal.returns
returns g c =
    shows_such {O = g.row.O.Denot} g.O.OutputStream (IsRaceObject c.args.text.now) c.race_object.result _ _ _ c.race_object.ensures c.show_text.ensures
