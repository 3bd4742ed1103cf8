-- A text is told of a race's course, whichever allocator the course has.
use Rattle.std.proofs.Common.{ℕ, ◌≡◌, ◌++◌, List, Result, Ok, Err, OnOk}
use Rattle.std.specs.Prelude.{Option}
use Rattle.std.specs.declared.vec.Vec.{Vec}
use Rattle.he_timeline.specs.Race.{Race}
use Rattle.he_plan.specs.Transcript.{IsTranscript, Report}
use Rattle.he_addr.specs.declared.ip.Ip.{Ip}
use Rattle.he_course.specs.Course.{IsRecordedCourse}
use Rattle.he_course.specs.declared.accounts.Account.{Account}
use Rattle.he_course.specs.declared.course.Course.{Course}
use Rattle.he_draw.specs.Page.{section_facts}
use Rattle.he_draw.specs.Picture.{picture_facts}
use Rattle.he_draw.specs.Rows.{rows_of}
use Rattle.he_draw.specs.Svg.{svg_facts}
use Rattle.he_json.specs.Documents.{Spot}
use Rattle.he_record.specs.Given.{untried_given}
use Rattle.he_record.specs.Said.{Said}
use Rattle.he_streaming.specs.Output.{IsOfCourse, IsPrinted}
use Rattle.he_streaming.specs.Rounds.{WritesText}
use Rattle.he_streaming.specs.declared.race_texts.Printer.{Printer}
use Rattle.he_streaming.specs.declared.race_texts.Printer.TheVariants as printers

-- what a writer of one text says
pub written : {A E : Type 0} (result : Result A E) (IsSuch : List ℕ → Type 0) (old new : List ℕ) → OnOk result ((text : List ℕ) × IsSuch text × (new ≡ old ++ text)) → OnOk result (WritesText IsSuch old new)
written (Ok done) IsSuch old new (text, such, appended) = record { told = text; is_told = such; appended = appended }
written (Err fault) IsSuch old new none = none

-- of a writer whose text is one by some number
pub written_by : {A E : Type 0} (result : Result A E) (IsNumber : ℕ → Type 0) (IsSuch : ℕ → List ℕ → Type 0) (old new : List ℕ)
    → OnOk result ((n : ℕ) × IsNumber n × ((text : List ℕ) × IsSuch n text × (new ≡ old ++ text)))
    → OnOk result (WritesText (λ text. (n : ℕ) × IsNumber n × IsSuch n text) old new)
written_by (Ok done) IsNumber IsSuch old new (n, is, (text, such, appended)) =
    record { told = text; is_told = (n, is, such); appended = appended }
written_by (Err fault) IsNumber IsSuch old new none = none

-- or by the race's transcript
pub transcript_written : {A E : Type 0} (result : Result A E) (race : Race) (report : Report) (IsSuch : Report → List ℕ → Type 0) (old new : List ℕ) → IsTranscript race report
    → OnOk result ((text : List ℕ) × IsSuch report text × (new ≡ old ++ text))
    → OnOk result (WritesText (λ text. (report : Report) × IsTranscript race report × IsSuch report text) old new)
transcript_written (Ok done) race report IsSuch old new is (text, such, appended) =
    record { told = text; is_told = (report, is, such); appended = appended }
transcript_written (Err fault) race report IsSuch old new is none = none

bare_items : {X A : Type 0} → Vec X A → Vec X (Unit {0})
bare_items v = record { ptr = v.ptr; len = v.len; cap = v.cap; alloc = tt; items = v.items; ok = v.ok; small = v.small }

bare_account : {A : Type 0} → Account A → Account (Unit {0})
bare_account account = record {
  names = account.names;
  tried = bare_items account.tried;
  nobody = account.nobody;
  unknown = account.unknown;
  machine = account.machine;
  connecting = account.connecting;
  lost = account.lost;
}

bare : {A : Type 0} → Course A → Course (Unit {0})
bare course = record {
  number = course.number;
  line = course.line;
  aaaa = course.aaaa;
  a = course.a;
  addresses = bare_items course.addresses;
  transcript = course.transcript;
  ended = course.ended;
  sooner = course.sooner;
  events = bare_items course.events;
  account = bare_account course.account;
  delay = course.delay;
}

is_course : {A : Type 0} (race : Race) (untried : List Ip) (number line : ℕ) (course : Course A) → IsRecordedCourse race untried number line course → IsRecordedCourse race untried number line (bare course)
unfolding bare bare_items bare_account
is_course race untried number line course is = record {
  numbered = is.numbered;
  begins = is.begins;
  transcript = is.transcript;
  aaaa = is.aaaa;
  a = is.a;
  addresses = is.addresses;
  ended = is.ended;
  sooner = is.sooner;
  events = is.events;
  account = record { as_many = is.account.as_many; each = is.account.each };
  lost = is.lost;
  delay = is.delay;
}

is_printed : {A : Type 0} (printer : Printer) (file : Option (List ℕ)) (said : List Said) (course : Course A) (text : List ℕ) → IsPrinted printer file said course text → IsPrinted printer file said (bare course) text
unfolding bare bare_items bare_account picture_facts svg_facts section_facts rows_of
is_printed printers.Story file said course text is = is
is_printed printers.Json file said course text is = is
is_printed (printers.Picture look width) file said course text is = is
is_printed printers.Image file said course text is = is
is_printed (printers.Section place) file said course text is = record {
  links = is.links;
  heading = is.heading;
  rows = is.rows;
  story = is.story;
  last = is.last;
  opened = is.opened;
  headed = is.headed;
  drawn = is.drawn;
  told = is.told;
  parts = is.parts;
}

pub of_course : {A F E : Type 0} (result : Result F E) (printer : Printer) (spot : Spot) (said : List Said) (race : Race) (course : Course A) (old new : List ℕ)
    → IsRecordedCourse race (untried_given said) spot.number spot.line course → OnOk result (WritesText (IsPrinted printer spot.file said course) old new)
    → OnOk result (WritesText (λ told. IsOfCourse printer spot told said race) old new)
of_course (Ok done) printer spot said race course old new is told =
    record { told = told.told; is_told = (bare course, is_course race (untried_given said) spot.number spot.line course is, is_printed printer spot.file said course told.told told.is_told); appended = told.appended }
of_course (Err fault) printer spot said race course old new is told = tt
