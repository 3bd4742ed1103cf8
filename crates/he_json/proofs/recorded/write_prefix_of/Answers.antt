use Rattle.std.proofs.Common.{ℕ, List, ◌++◌, ◌∙◌, ap, codes}
use Rattle.he_addr.specs.declared.ip.Ip.TheVariants.{V6}
use Rattle.he_addr.specs.Printing.{source_text}
use Rattle.he_json.proofs.WriteLaws.{three_ok}
use Rattle.he_json.proofs.recorded.write_prefix_of.Goals as goal

pub returns : goal.returns
returns g c =
    three_ok c.write_words-2.result c.args.text.now.items c.write_words.new.text.items c.write_source.new.out.items c.write_words-2.new.text.items
    (codes "\"") (source_text (V6 c.args.prefix.bits) c.args.prefix.len) (codes "\"")
    c.in_ok-write_words.ensures c.in_ok-write_source.ensures.ok c.write_words-2.ensures
