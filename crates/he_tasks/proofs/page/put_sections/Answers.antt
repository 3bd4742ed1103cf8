use Rattle.std.proofs.Common.{◌∙◌, Err, subst, sym}
use Rattle.he_json.specs.Documents.{name_of}
use Rattle.he_tasks.proofs.PageParts.{IsKept, IsKeptBy, sections_kept, sections_lost}
use Rattle.he_tasks.proofs.page.put_sections.Goals as goal

pub returns-in-Ok : goal.returns-in-Ok
returns-in-Ok g c =
    sections_kept g.I.InputStream g.O.OutputStream c.args.changes (name_of c.args.name) c.args.input.now c.put_parts-end.new.input c.args.session.now.output c.put_parts-end.new.session.output c.args.session.now.place c.args.sums.now c.in-Some.races c.put_parts-end.new.races
    (sym c.take.ensures.value ∙ c.in-Some.is) c.put_parts-end.result c.put_parts-end.ensures (subst IsKept (sym c.in-Ok.is) tt)

pub returns-in-Text : goal.returns-in-Text
returns-in-Text g c =
    sections_kept g.I.InputStream g.O.OutputStream c.args.changes (name_of c.args.name) c.args.input.now c.put_parts-end.new.input c.args.session.now.output c.put_parts-end.new.session.output c.args.session.now.place c.args.sums.now c.in-Some.races c.put_parts-end.new.races
    (sym c.take.ensures.value ∙ c.in-Some.is) (Err c.in-Err.fault) c.in-Err.ensures (subst IsKeptBy (sym c.in-Text.is) tt)

pub returns-in-Read : goal.returns-in-Read
returns-in-Read g c =
    sections_kept g.I.InputStream g.O.OutputStream c.args.changes (name_of c.args.name) c.args.input.now c.put_parts-end.new.input c.args.session.now.output c.put_parts-end.new.session.output c.args.session.now.place c.args.sums.now c.in-Some.races c.put_parts-end.new.races
    (sym c.take.ensures.value ∙ c.in-Some.is) (Err c.in-Err.fault) c.in-Err.ensures (subst IsKeptBy (sym c.in-Read.is) tt)

pub returns-in-Write : goal.returns-in-Write
returns-in-Write g c =
    sections_lost g.I.InputStream g.O.OutputStream c.args.changes (name_of c.args.name) c.args.input.now c.put_parts-end.new.input c.args.session.now.output c.put_parts-end.new.session.output c.args.session.now.place c.args.sums.now c.in-Some.races c.put_parts-end.new.races
    (sym c.take.ensures.value ∙ c.in-Some.is) c.take.new.self c.take.ensures.after (Err c.in-Err.fault) c.in-Err.ensures (λ kept. subst IsKeptBy c.in-Write.is kept)

pub returns-in-Memory : goal.returns-in-Memory
returns-in-Memory g c =
    sections_lost g.I.InputStream g.O.OutputStream c.args.changes (name_of c.args.name) c.args.input.now c.put_parts-end.new.input c.args.session.now.output c.put_parts-end.new.session.output c.args.session.now.place c.args.sums.now c.in-Some.races c.put_parts-end.new.races
    (sym c.take.ensures.value ∙ c.in-Some.is) c.take.new.self c.take.ensures.after (Err c.in-Err.fault) c.in-Err.ensures (λ kept. subst IsKeptBy c.in-Memory.is kept)
