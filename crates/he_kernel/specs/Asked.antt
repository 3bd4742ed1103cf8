-- The kernel's answers in one race.
use Rattle.std.specs.Prelude.{ℕ, ◌&&◌, ◌==◌, Bool}
use Rattle.he_addr.specs.declared.ip.Ip.{Ip}
use Rattle.he_addr.specs.Ip.{same_ip}
use Rattle.he_kernel.specs.declared.asked.Answered.{Answered}

-- the answer is for this destination over this interface
abbrev pub is_for : Ip → ℕ → Answered → Bool
is_for to scope answer = same_ip answer.way.to to && answer.scope == scope
