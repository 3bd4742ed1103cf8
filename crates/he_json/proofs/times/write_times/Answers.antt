use Rattle.std.proofs.Common.{codes}
use Rattle.he_json.specs.Times.{millis_text}
use Rattle.he_json.proofs.WriteLaws.{six_ok}
use Rattle.he_json.proofs.times.write_times.Goals as goal

pub returns : goal.returns
returns g c =
    let times = c.args.times in
    six_ok c.write_millis-6.result c.args.text.now.items c.write_millis.new.text.items c.write_millis-2.new.text.items c.write_millis-3.new.text.items c.write_millis-4.new.text.items c.write_millis-5.new.text.items c.write_millis-6.new.text.items
    (millis_text (codes ",\"ms\":") times.all) (millis_text (codes ",\"names_ms\":") times.names) (millis_text (codes ",\"lost_ms\":") times.lost)
    (millis_text (codes ",\"unknown_ms\":") times.unknown) (millis_text (codes ",\"machine_ms\":") times.machine) (millis_text (codes ",\"connecting_ms\":") times.connecting)
    c.in_ok-write_millis.ensures c.in_ok-write_millis-2.ensures c.in_ok-write_millis-3.ensures c.in_ok-write_millis-4.ensures c.in_ok-write_millis-5.ensures c.write_millis-6.ensures
