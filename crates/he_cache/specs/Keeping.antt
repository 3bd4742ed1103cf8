-- The answer kept for a host, and how long it is valid.
use Rattle.std.specs.Prelude.{ℕ, ◌-◌, ◌<◌, Bool, List, Option, Some, None, String, length, map, min, nat_lt, string_bytes, if◌then◌else◌}
use Rattle.std.specs.Global.{Global}
use Rattle.std.specs.Char.{to_ascii_lowercase}
use Rattle.std.specs.Map.{lookup}
use Rattle.std.specs.Option.{option_and_then}
use Rattle.std.specs.Str.{bytes_eq}
use Rattle.he_addr.specs.declared.ip.Family.{Family}
use Rattle.he_addr.specs.declared.ip.Family.TheVariants.{V4, V6}
use Rattle.he_cache.specs.declared.cache.AnswerCache.{AnswerCache}
use Rattle.he_cache.specs.declared.cache.Kept.{Kept}

-- hosts are compared without regard to the case of ASCII letters (RFC 4343)
abbrev pub is_same : List ℕ → List ℕ → Bool
is_same host other = bytes_eq (map to_ascii_lowercase host) (map to_ascii_lowercase other)

-- the number of seconds for which an answer is kept: its TTL, at most 300; without a TTL, 5
abbrev pub seconds_for : Option ℕ → ℕ
seconds_for None = 5
seconds_for (Some ttl) = min ttl 300

module _ {V : Type 0} where
  -- the entry of a host in lower case
  abbrev pub kept_in : List (String Global × Kept V) → List ℕ → Option (Kept V)
  kept_in entries host = lookup (λ key. bytes_eq host (string_bytes key)) entries

  -- the entry of a family of a host
  abbrev pub kept_of : AnswerCache V → List ℕ → Family → Option (Kept V)
  kept_of cache host V6 = kept_in cache.v6.entries (map to_ascii_lowercase host)
  kept_of cache host V4 = kept_in cache.v4.entries (map to_ascii_lowercase host)

  -- the number of hosts of the family is below its maximum
  abbrev pub has_room : AnswerCache V → Family → Type 0
  has_room cache V6 = length cache.v6.entries < cache.v6.cap
  has_room cache V4 = length cache.v4.entries < cache.v4.cap

  -- the entry is valid for its seconds, counted from the second in which it was kept
  abbrev pub counted : ℕ → Kept V → Option V
  counted now kept = if nat_lt (now - kept.at) kept.seconds then Some kept.answer else None

  -- the answer of the entry, if it is still valid
  abbrev pub answer_at : ℕ → Option (Kept V) → Option V
  answer_at now kept = option_and_then (counted now) kept
