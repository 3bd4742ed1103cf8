use Rattle.std.proofs.Common.{◌≡◌, ◌∙◌, List, Some, refl, slice_get, subst, sym}
use Rattle.std.proofs.lemmas.Option.{slice_get_read}
use Rattle.he_plan.specs.declared.transcript.Line.{Line}
use Rattle.he_proxy.proofs.keeping.winner_of.Goals as goal

pub returns-in-Some-lost : goal.returns-in-Some-lost
returns-in-Some-lost c = record {
  place = c.in-Won.place;
  won = sym c.result.ensures ∙ c.in-Won.is;
  line = c.in-Some.line.now;
  stands = subst (λ (l : List Line). slice_get l c.in-Won.place ≡ Some c.in-Some.line.now) c.attempts.ensures (slice_get_read c.attempts.result.now _ c.in-Won.place c.in-Some.line.now refl c.in-Some.ensures.lookup.3.0 c.in-Some.ensures.lookup.1);
  ip = refl;
  course = c.in_ok-course.course;
  is_course = c.in_ok-course.ensures;
  lost = sym c.lost-lost.ensures ∙ c.in-Some-lost.is;
}
