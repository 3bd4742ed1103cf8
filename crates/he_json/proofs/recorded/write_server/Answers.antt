use Rattle.std.proofs.Common.{ℕ, List, ◌++◌, ◌∙◌, ap, codes, decimal}
use Rattle.he_print.specs.Escaping.{string_text}
use Rattle.he_record.specs.Words.{server_spelling}
use Rattle.he_json.specs.Json.{address_text}
use Rattle.he_json.proofs.WriteLaws.{seven_ok}
use Rattle.he_json.proofs.recorded.write_server.Goals as goal

pub returns : goal.returns
returns g c =
    seven_ok c.write_words-4.result c.args.text.now.items c.write_words.new.text.items c.write_address.new.text.items c.write_words-2.new.text.items c.write_string.new.text.items c.write_words-3.new.text.items c.write_number.new.out.items c.write_words-4.new.text.items
    (codes "{\"address\":") (address_text c.args.ip) (codes ",\"reason\":") (string_text (server_spelling c.args.reason)) (codes ",\"ms\":") (decimal c.args.ticks) (codes "}")
    c.in_ok-write_words.ensures c.in_ok-write_address.ensures c.in_ok-write_words-2.ensures
    (c.in_ok-write_string.ensures ∙ ap (λ (w : List ℕ). c.write_words-2.new.text.items ++ string_text w) (c.as_bytes.ensures.value ∙ c.spelling.ensures))
    c.in_ok-write_words-3.ensures c.in_ok-write_number.ensures.ok c.write_words-4.ensures
