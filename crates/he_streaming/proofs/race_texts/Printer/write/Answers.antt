use Rattle.std.proofs.Common.{◌≤◌}
use Rattle.he_draw.specs.Picture.{picture_facts}
use Rattle.he_draw.specs.declared.frame.TheConstants.{LEAST_COLUMNS}
use Rattle.he_print.specs.Parts.{States}
use Rattle.he_story.specs.Story.{name_of}
use Rattle.he_streaming.proofs.Printed.{written, written_by}
use Rattle.he_streaming.proofs.race_texts.Printer.write.Goals as goal

pub returns-in-Story : goal.returns-in-Story
returns-in-Story g c = rw c.in-Story.is (written _ _ _ _ c.write_story.ensures.ok)

pub returns-in-Json : goal.returns-in-Json
returns-in-Json g c = rw c.in-Json.is (written _ _ _ _ c.write_explanation_json.ensures.ok)

pub returns-in-Picture : goal.returns-in-Picture
returns-in-Picture g c =
    rw c.in-Picture.is
    (written_by _ (λ columns. LEAST_COLUMNS ≤ columns) (λ columns. States (picture_facts columns c.args.recorded.now (name_of c.args.file) c.args.course.now)) _ _ c.write_picture.ensures.ok)

pub returns-in-Image : goal.returns-in-Image
returns-in-Image g c = rw c.in-Image.is (written _ _ _ _ c.write_svg.ensures.ok)

pub returns-in-Section : goal.returns-in-Section
returns-in-Section g c = rw c.in-Section.is (written _ _ _ _ c.write_section.ensures)
