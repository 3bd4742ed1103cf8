-- Each answer in a cache is at the place of its own host and family, with its own time.
use Rattle.std.specs.Prelude.{ℕ, ◌≡◌, List, Some}
use Rattle.he_addr.specs.declared.ip.Family.{Family}
use Rattle.he_cache.specs.Keeping.{kept_of, seconds_for}
use Rattle.he_cache.specs.declared.cache.AnswerCache.{AnswerCache}
use Rattle.he_cache.specs.declared.cache.Kept.{Kept}
use Rattle.he_kept.specs.Answers.{IsAbout}
use Rattle.he_kept.specs.declared.answer.KeptAnswer.{KeptAnswer}

abbrev pub IsPlaced : Kept KeptAnswer → List ℕ → Family → Type 0
IsPlaced kept host family =
    IsAbout kept.answer.question host family × (kept.at ≡ kept.answer.life.at)
    × (kept.seconds ≡ seconds_for kept.answer.life.ttl)

abbrev pub IsOwn : AnswerCache KeptAnswer → Type 0
IsOwn cache =
    (host : List ℕ) → (family : Family) → (kept : Kept KeptAnswer) → kept_of cache host family ≡ Some kept
    → IsPlaced kept host family
