-- What is carried from one attempt of a transcript to the next.
use Rattle.std.proofs.Common.{◌≡◌, ◌++◌, ◌∙◌, ◌&&◌, ◌||◌, Bool, true, false, not, List, [], ◌∷◌, map, refl, ap}
use Rattle.std.specs.List.{list_any}
use Rattle.std.proofs.lemmas.List.Folds.{list_any-append}
use Rattle.std.proofs.lemmas.List.{map-append}
use Rattle.he_addr.specs.declared.ip.Ip.{Ip}
use Rattle.he_addr.specs.Ip.{is_usable, same_ip}
use Rattle.he_plan.specs.declared.transcript.Line.{Line}
use Rattle.he_timeline.specs.Race.{Race}
use Rattle.he_course.specs.Accounts.{is_left, is_started}
use Rattle.he_course.specs.Causes.{failure_of, last_failure, later_of}
use Rattle.he_course.specs.Events.{attempt_of}
use Rattle.he_course.proofs.FloorLaws.{last_failure_more}

fewer : (usable started more : Bool) → (usable && not started) ≡ false → (usable && not (started || more)) ≡ false
fewer false started more h = refl
fewer true true more h = refl
fewer true false more h = cc

left_less : (started : List Line) (line : Line) (ip : Ip) → is_left started ip ≡ false → is_left (started ++ line ∷ []) ip ≡ false
left_less started line ip h =
    ap (λ b. is_usable ip && not b) (list_any-append (λ l. same_ip l.ip ip) started (line ∷ []))
    ∙ fewer (is_usable ip) (is_started started ip) (is_started (line ∷ []) ip) h

none_first : (a b : Bool) → (a || b) ≡ false → a ≡ false
none_first false b h = refl
none_first true b h = h

none_later : (a b : Bool) → (a || b) ≡ false → b ≡ false
none_later false b h = h
none_later true b h = cc

-- an address that is not left stays so
pub left_fewer : (started : List Line) (line : Line) (ips : List Ip) → list_any (is_left started) ips ≡ false
    → list_any (is_left (started ++ line ∷ [])) ips ≡ false
left_fewer started line [] h = refl
left_fewer started line (ip ∷ ips) h =
    let here = left_less started line ip (none_first (is_left started ip) (list_any (is_left started) ips) h) in
    let more = left_fewer started line ips (none_later (is_left started ip) (list_any (is_left started) ips) h) in
    rw (here, more) refl

pub failed_more : (race : Race) (lines : List Line) (line : Line)
    → last_failure race (map attempt_of (lines ++ line ∷ []))
    ≡ later_of (last_failure race (map attempt_of lines)) (failure_of race (attempt_of line))
failed_more race lines line =
    ap (last_failure race) (map-append attempt_of lines (line ∷ []))
    ∙ last_failure_more race (map attempt_of lines) (attempt_of line)
