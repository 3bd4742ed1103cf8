use Rattle.std.proofs.Common.{rules, ◌++◌, ◌∷◌, ◌∙◌, ap}
use Rattle.he_words.specs.Appending.{Grows}
use Rattle.he_words.proofs.Appending.{grows_after}
use Rattle.he_record.specs.declared.words.RecordWord.{RecordWord}
use Rattle.he_record.specs.Left.{said_of}
use Rattle.he_record.specs.Words.{first_token, word_spelling}
use Rattle.he_record.proofs.WrittenLines.{line_written}
use Rattle.he_record.proofs.writing.write_line.Goals as goal

pub returns-in_err-write_values : goal.returns-in_err-write_values
returns-in_err-write_values g c =
    let kept : Grows c.args.out.now.items c.write_values.new.out.items =
    grows_after c.args.out.now.items (first_token ++ 32 ∷ word_spelling c.word.result) c.write_head.new.out.items c.write_values.new.out.items c.in_ok-write_head.ensures c.in_err-write_values.ensures in
    search rules

pub returns : goal.returns
returns g c =
    line_written (said_of c.args.line.now) c.args.out.now.items c.write_head.new.out.items c.write_values.new.out.items c.write_byte.new.out.items c.write_byte.result
    (c.in_ok-write_head.ensures ∙ ap (λ (word : RecordWord). c.args.out.now.items ++ (first_token ++ 32 ∷ word_spelling word)) c.word.ensures)
    c.in_ok-write_values.ensures c.write_byte.ensures.ok c.write_byte.ensures.err
