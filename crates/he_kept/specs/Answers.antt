-- The host of an answer or a question, how long an answer is valid, and its addresses or why there are none.
use Rattle.std.specs.Prelude.{ℕ, ◌≡◌, ◌-◌, ◌<◌, List, [], Option, None, Some, IsSomeAnd, true, string_bytes}
use Rattle.std.specs.Prelude.{Result, Ok, Err}
use Rattle.std.specs.Global.{Vec}
use Rattle.he_addr.specs.declared.ip.Family.{Family}
use Rattle.he_addr.specs.declared.ip.Family.TheVariants.{V4, V6}
use Rattle.he_addr.specs.declared.ip.Ip.{Ip}
use Rattle.he_cache.specs.Keeping.{is_same, seconds_for}
use Rattle.he_kept.specs.declared.answer.KeptAnswer.{KeptAnswer}
use Rattle.he_kept.specs.declared.answer.KeptHost.{KeptHost}
use Rattle.he_kept.specs.declared.answer.Question.{Question}
use Rattle.he_settings.specs.declared.fault.NamesFault.{NamesFault}

-- the question is for this family of the host
abbrev pub IsAbout : Question → List ℕ → Family → Type 0
IsAbout question host family = (is_same (string_bytes question.host) host ≡ true) × (question.family ≡ family)

-- an answer for this family of the host, kept less than its TTL ago (at most 300 seconds; 5 without a TTL)
abbrev pub Serves : KeptAnswer → ℕ → List ℕ → Family → Type 0
Serves answer now host family = IsAbout answer.question host family × (now - answer.life.at < seconds_for answer.life.ttl)

-- the addresses of an answer, if there is one
abbrev pub ips_told : Result (Vec Ip) NamesFault → List Ip
ips_told (Ok ips) = ips.items
ips_told (Err fault) = []

abbrev pub ips_in : Option KeptAnswer → List Ip
ips_in None = []
ips_in (Some answer) = ips_told answer.told

-- why an answer has no address, if that is the answer
abbrev pub fault_told : Result (Vec Ip) NamesFault → Option NamesFault
fault_told (Ok ips) = None
fault_told (Err fault) = Some fault

abbrev pub fault_in : Option KeptAnswer → Option NamesFault
fault_in None = None
fault_in (Some answer) = fault_told answer.told

-- the answer for a family of the host
abbrev pub answer_of : KeptHost → Family → Option KeptAnswer
answer_of known V6 = known.six
answer_of known V4 = known.four

-- the answer for a family of the host, which is valid now
abbrev pub IsServed : Option KeptAnswer → ℕ → List ℕ → Family → Type 0
IsServed answer now host family = IsSomeAnd answer (λ a. Serves a now host family)

-- the answers valid for the host now: one for each family that is tried, and none for another
abbrev pub IsOfHost : Option Family → KeptHost → ℕ → List ℕ → Type 0
IsOfHost None known now host = IsServed known.six now host V6 × IsServed known.four now host V4
IsOfHost (Some V6) known now host = IsServed known.six now host V6 × (known.four ≡ None)
IsOfHost (Some V4) known now host = (known.six ≡ None) × IsServed known.four now host V4

-- a copy has these addresses, or this reason that there are none
abbrev pub IsCopied : Result (Vec Ip) NamesFault → Result (Vec Ip) NamesFault → Type 0
IsCopied (Ok ips) (Ok copy) = copy.items ≡ ips.items
IsCopied (Err fault) (Err copy) = copy ≡ fault
IsCopied told copy = ⊥

-- the copy has the question, addresses or reason, and lifetime of the answer
abbrev pub IsCopy : KeptAnswer → KeptAnswer → Type 0
IsCopy answer copy =
    (string_bytes copy.question.host ≡ string_bytes answer.question.host) × (copy.question.family ≡ answer.question.family)
    × IsCopied answer.told copy.told × (copy.life ≡ answer.life)
