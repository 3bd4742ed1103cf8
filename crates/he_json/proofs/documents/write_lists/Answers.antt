use Rattle.std.proofs.Common.{codes, map}
use Rattle.he_json.specs.Json.{objects_text}
use Rattle.he_json.proofs.WriteLaws.{five_ok}
use Rattle.he_json.proofs.documents.write_lists.Goals as goal

pub returns : goal.returns
returns g c =
    five_ok c.write_words-3.result c.args.text.now.items c.write_words.new.text.items c.write_objects.new.text.items c.write_words-2.new.text.items c.write_objects-2.new.text.items c.write_words-3.new.text.items
    (codes ",\"order\":") (objects_text (map (λ row. row.items) c.args.addresses.now)) (codes ",\"events\":") (objects_text (map (λ row. row.items) c.args.events.now)) (codes "}\n")
    c.in_ok-write_words.ensures c.in_ok-write_objects.ensures c.in_ok-write_words-2.ensures c.in_ok-write_objects-2.ensures c.write_words-3.ensures
