-- Lines that are made from their end to their front are the lines that were defined.
use Rattle.std.proofs.Common.{◌≡◌, ℕ, decimal, codes, List, [], ◌∷◌, ◌++◌, Option, Some, None, append_assoc}
use Rattle.he_addr.specs.declared.ip.Ip.{Ip}
use Rattle.he_addr.specs.Printing.{printed}
use Rattle.he_plan.specs.declared.transcript.Line.{Line}
use Rattle.he_plan.specs.declared.transcript.Mark.{Mark}
use Rattle.he_plan.specs.declared.transcript.Mark.TheVariants as marks
use Rattle.he_write.specs.Writing.{start_text, mark_end, origin_text, source_ip_text}
use Rattle.he_write.specs.Written.{written_line, fate_text}

attempt_shape : (first place tick ip word number : List ℕ)
    → ((first ++ 32 ∷ []) ++ (place ++ 32 ∷ (tick ++ 32 ∷ []))) ++ (ip ++ ((32 ∷ (word ++ 32 ∷ [])) ++ (number ++ 10 ∷ [])))
    ≡ (first ++ 32 ∷ (place ++ 32 ∷ (tick ++ 32 ∷ (ip ++ 32 ∷ (word ++ 32 ∷ number))))) ++ 10 ∷ []
attempt_shape first place tick ip word number = simp append_assoc

pub attempt_is : (line : Line) (mark : Mark) → start_text line.place line.tick ++ (printed line.ip ++ mark_end mark) ≡ written_line (codes "attempt" ∷ decimal line.place ∷ decimal line.tick ∷ printed line.ip ∷ fate_text mark)
attempt_is line (marks.Won tick) = attempt_shape (codes "attempt") (decimal line.place) (decimal line.tick) (printed line.ip) (codes "won") (decimal tick)
attempt_is line (marks.Failed tick) = attempt_shape (codes "attempt") (decimal line.place) (decimal line.tick) (printed line.ip) (codes "failed") (decimal tick)
attempt_is line (marks.Cancelled tick) = attempt_shape (codes "attempt") (decimal line.place) (decimal line.tick) (printed line.ip) (codes "cancelled") (decimal tick)

place_shape : (place ip source : List ℕ) → place ++ 32 ∷ (ip ++ (codes " from " ++ (source ++ 10 ∷ []))) ≡ (place ++ 32 ∷ (ip ++ 32 ∷ (codes "from" ++ 32 ∷ source))) ++ 10 ∷ []
place_shape place ip source = simp append_assoc

pub place_is : (place : ℕ) (ip : Ip) (source : Option Ip) → decimal place ++ 32 ∷ (printed ip ++ origin_text source) ≡ written_line (decimal place ∷ printed ip ∷ codes "from" ∷ source_ip_text source ∷ [])
place_is place ip None = place_shape (decimal place) (printed ip) (codes "none")
place_is place ip (Some source) = place_shape (decimal place) (printed ip) (printed source)
