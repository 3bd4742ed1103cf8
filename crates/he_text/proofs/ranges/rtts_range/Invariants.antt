use Rattle.std.proofs.Common.{ℕ}
use Rattle.he_addr.specs.Ip.{InRange}
use Rattle.he_addr.specs.declared.ip.Ip.{Ip}
use Rattle.he_text.proofs.ranges.rtts_range.Given as goal
use Rattle.std.specs.List.{AllWithin}

abbrev pub invariant-loop-told : goal.invariant-loop-told
invariant-loop-told l = AllWithin (λ (told : Ip × ℕ). InRange told.0) l.rtts 0 l.told-index
