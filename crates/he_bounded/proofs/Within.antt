-- What goes on is of the body.
use Rattle.std.proofs.Common.{◌≡◌, ◌≢◌, ◌⊎◌, ◌≤◌, ◌+◌, ◌==◌, inl, inr, ℕ, Bool, true, false, cond, List, [], ◌∷◌, ◌++◌, length, arith, sym, ◌∙◌, ap, append_assoc}
use Rattle.std.proofs.lemmas.List.{append-nil, length-append}
use Rattle.he_body.specs.declared.body.Body.{Body}
use Rattle.he_body.specs.declared.body.Body.TheVariants.{Left, Over, Broken}
use Rattle.he_body.specs.declared.body.Framing.{Framing}
use Rattle.he_body.specs.declared.body.Framing.TheVariants.{Chunked, Length}
use Rattle.he_body.specs.Bodies.{IsBody}
use Rattle.he_body.specs.Steps.{Came, after, begun}
use Rattle.he_body.proofs.Complete.{is_over}
use Rattle.he_body.proofs.Moves.{after-append}
use Rattle.he_body.proofs.Sound.{is_body}
use Rattle.he_body.proofs.Taken.{Fronts, fronts, longer, past, same, shorter}
use Rattle.he_bounded.specs.Goes.{EndsWhole, NothingAfterTheBody, StaysWithin}

came : (framing : Framing) (early xs : List ℕ) (old : Body) → Came framing early old → after (begun framing) (early ++ xs) ≡ after old xs
came framing early xs old is = after-append (begun framing) early xs ∙ ap (λ body. after body xs) (sym is)

within_by : (framing : Framing) (front body : List ℕ) → after (begun framing) front ≢ Broken → IsBody framing body → Fronts front body → length front ≤ length body
within_by framing front body not is (same e) = let n : length front ≡ length body = ap length e in omega arith
within_by framing front body not is (shorter x more e) =
    let n : length body ≡ length (front ++ (x ∷ more)) = ap length e in
    let m = length-append front (x ∷ more) in
    omega arith
within_by framing front body not is (longer x more e) =
    absurd (not (ap (after (begun framing)) e ∙ past framing body x more (is_over framing body is)))

pub stays_within : (new : Body) → StaysWithin new
stays_within new framing early xs dropped body rest old is not goes ends whole =
    within_by framing (early ++ xs) body (λ broken. goes.sound not (sym (came framing early xs old is) ∙ broken)) ends
    (fronts (early ++ xs) dropped body rest (append_assoc early xs dropped ∙ whole))

ends_by : (framing : Framing) (early xs : List ℕ) (old new : Body) → Came framing early old → (new ≡ after old xs) ⊎ (new ≡ Broken) → new ≡ Over → IsBody framing (early ++ xs)
ends_by framing early xs old new is (inl counted) over = is_body framing (early ++ xs) (came framing early xs old is ∙ sym counted ∙ over)
ends_by framing early xs old new is (inr broken) over = let clash : Over ≡ Broken = sym over ∙ broken in cc

pub ends_whole : (new : Body) (over : Bool) → (over ≡ true → new ≡ Over) → EndsWhole new over
ends_whole new over is framing early xs dropped old came goes holds = ends_by framing early xs old new came goes.counted (is holds)

begun_by : (count : ℕ) (none : Bool) → cond none Over (Left count) ≢ Broken
begun_by count true is = cc
begun_by count false is = cc

pub begins_sound : (framing : Framing) → begun framing ≢ Broken
begins_sound (Length count) is = begun_by count (count == 0) is
begins_sound Chunked is = cc

in_body_by : (framing : Framing) (front body : List ℕ) → after (begun framing) front ≢ Broken → IsBody framing body → Fronts front body
    → (more : List ℕ) × (body ≡ front ++ more)
in_body_by framing front body not is (same e) = ([], sym e ∙ sym (append-nil front))
in_body_by framing front body not is (shorter x more e) = (x ∷ more, e)
in_body_by framing front body not is (longer x more e) =
    absurd (not (ap (after (begun framing)) e ∙ past framing body x more (is_over framing body is)))

pub nothing_after : NothingAfterTheBody
nothing_after framing xs dropped new goes body rest is whole =
    in_body_by framing xs body (goes.sound (begins_sound framing)) is (fronts xs dropped body rest whole)
