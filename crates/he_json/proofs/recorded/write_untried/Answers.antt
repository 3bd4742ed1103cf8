use Rattle.std.proofs.Common.{ℕ, List, ◌++◌, ◌∙◌, ap, codes}
use Rattle.he_json.specs.Json.{address_text}
use Rattle.he_json.proofs.WriteLaws.{three_ok}
use Rattle.he_json.proofs.recorded.write_untried.Goals as goal

pub returns : goal.returns
returns g c =
    three_ok c.write_words-2.result c.args.text.now.items c.write_words.new.text.items c.write_address.new.text.items c.write_words-2.new.text.items
    (codes "{\"address\":") (address_text c.args.ip) (codes ",\"untried\":true}")
    c.in_ok-write_words.ensures c.in_ok-write_address.ensures c.write_words-2.ensures
