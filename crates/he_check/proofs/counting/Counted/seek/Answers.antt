use Rattle.std.proofs.Common.{ℕ, ◌≡◌, ◌+◌, ◌-◌, ◌≤◌, ◌∙◌, ◌++◌, [], ◌∷◌, List, length, take, drop, true, false, true≢false, refl, sym, subst, ap, append_assoc, arith, inr, length-drop, length-take, Some}
use Rattle.std.proofs.lemmas.List.{take_rest}
use Rattle.memchr.specs.Find.{IsFirstByte, is_byte}
use Rattle.he_check.specs.Steps.{begins_part}
use Rattle.he_check.proofs.NextParts.{HasNoEnd, is_line, no_lines, no_part, no_part_there, part_next}
use Rattle.he_check.proofs.Stepping.{found_stepped, passed_stepped}
use Rattle.he_check.proofs.counting.Counted.seek.Goals as goal

pub returns-in_default : goal.returns-in_default
returns-in_default g c ending may =
    let bytes = c.args.bytes.now in
    let old = c.args.self.now in
    let left : List ℕ = drop old.reader.end bytes in
    let place = may.within.place in
    let none : HasNoEnd left (length left) = subst (λ (r : List ℕ). HasNoEnd r (length r)) (take_rest bytes old.reader.end) (rw c.in_default.is at c.memchr.ensures) in
    let size : length left ≡ length bytes - old.reader.end = length-drop old.reader.end bytes in
    let zero = no_lines left (length left) (omega arith) none in
    let gone : length (drop (length bytes) bytes) ≡ length bytes - length bytes = length-drop (length bytes) bytes in
    passed_stepped ending bytes old old may c.requires.more (record old.reader { end = length bytes }) c.requires.seeks (length left) (omega arith) (omega arith) (omega arith) (omega arith)
    (λ more other is. no_part left more (length left) other (omega arith) none is) false (λ wrong. absurd (true≢false (sym wrong))) (λ _. omega arith)

pub returns-then-next-lt-PART_START : goal.returns-then-next-lt-PART_START
returns-then-next-lt-PART_START g c ending may =
    let bytes = c.args.bytes.now in
    let old = c.args.self.now in
    let at = c.in-Some.at in
    let left : List ℕ = drop old.reader.end bytes in
    let first : IsFirstByte (is_byte 10) left (Some at) = subst (λ (r : List ℕ). IsFirstByte (is_byte 10) r (Some at)) (take_rest bytes old.reader.end) (rw c.in-Some.is at c.memchr.ensures) in
    let line = is_line left at (drop (at + 1) left) first refl in
    let inside = line.inside in
    let zero = no_lines left at (omega arith) line.none in
    let short = c.if-next-lt-PART_START.true in
    let size : length left ≡ length bytes - old.reader.end = length-drop old.reader.end bytes in
    let rest : length (drop (old.reader.end + at) bytes) ≡ length bytes - (old.reader.end + at) = length-drop (old.reader.end + at) bytes in
    passed_stepped ending bytes old old may c.requires.more (record old.reader { end = old.reader.end + at }) c.requires.seeks at (omega arith) refl (omega arith) (omega arith)
    (λ more other is. no_part left more at other (omega arith) line.none is) false (λ wrong. absurd (true≢false (sym wrong))) (λ _. omega (arith, short, size, rest, inside, length-take {A = ℕ}, length-drop {A = ℕ}))

pub returns-then-begins_part : goal.returns-then-begins_part
returns-then-begins_part g c ending may =
    let bytes = c.args.bytes.now in
    let old = c.args.self.now in
    let at = c.in-Some.at in
    let left : List ℕ = drop old.reader.end bytes in
    let next : List ℕ = drop (at + 1) left in
    let whole = take_rest bytes old.reader.end in
    let first : IsFirstByte (is_byte 10) left (Some at) = subst (λ (r : List ℕ). IsFirstByte (is_byte 10) r (Some at)) whole (rw c.in-Some.is at c.memchr.ensures) in
    let line = is_line left at next first refl in
    let one = line.one in
    let inside = line.inside in
    let long : 7 ≤ length next = omega (arith, c.if-next-lt-PART_START.false, inside, length-take {A = ℕ}, length-drop {A = ℕ}) in
    let race : begins_part next ≡ true = sym (ap begins_part (take_rest _ (at + 1) ∙ ap (drop (at + 1)) whole)) ∙ sym c.begins_part.ensures ∙ c.if-begins_part.true in
    found_stepped ending bytes old old may c.requires.more (record { end = old.reader.end + (at + 1); races = 0; lines = old.reader.lines + 1 }) c.requires.seeks (at + 1) inside refl (omega arith) (omega arith) refl one
    (omega arith)
    (λ before. inr (before ++ take at left, ap (λ (t : List ℕ). before ++ t) line.line ∙ sym (append_assoc before (take at left) (10 ∷ [])))) (λ more. part_next left more next at line long race)

pub returns-else-begins_part : goal.returns-else-begins_part
returns-else-begins_part g c ending may =
    let bytes = c.args.bytes.now in
    let old = c.args.self.now in
    let at = c.in-Some.at in
    let left : List ℕ = drop old.reader.end bytes in
    let next : List ℕ = drop (at + 1) left in
    let whole = take_rest bytes old.reader.end in
    let first : IsFirstByte (is_byte 10) left (Some at) = subst (λ (r : List ℕ). IsFirstByte (is_byte 10) r (Some at)) whole (rw c.in-Some.is at c.memchr.ensures) in
    let line = is_line left at next first refl in
    let one = line.one in
    let inside = line.inside in
    let long : 7 ≤ length next = omega (arith, c.if-next-lt-PART_START.false, inside, length-take {A = ℕ}, length-drop {A = ℕ}) in
    let other_line : begins_part next ≡ false = sym (ap begins_part (take_rest _ (at + 1) ∙ ap (drop (at + 1)) whole)) ∙ sym c.begins_part.ensures ∙ c.if-begins_part.false in
    passed_stepped ending bytes old old may c.requires.more (record { end = old.reader.end + (at + 1); races = old.reader.races; lines = old.reader.lines + 1 }) c.requires.seeks (at + 1) inside refl (omega arith) (omega arith)
    (λ more other is. no_part_there left more next at line long other_line other is) true (λ _. omega arith) (λ wrong. absurd (true≢false wrong))
