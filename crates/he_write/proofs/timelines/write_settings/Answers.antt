use Rattle.std.proofs.Common.{◌++◌}
use Rattle.he_write.specs.Written.{delays_text, bounds_text, floor_text}
use Rattle.he_words.proofs.Appending.{writes_then}
use Rattle.he_write.proofs.timelines.write_settings.Goals as goal

pub returns : goal.returns
returns g c =
    writes_then c.args.out.now.items c.write_delays.new.out.items c.write_limits.new.out.items
    (delays_text c.args.settings)
    (bounds_text c.args.settings ++ floor_text c.args.settings.floor)
    c.write_limits.result c.in_ok-write_delays.ensures c.write_limits.ensures
