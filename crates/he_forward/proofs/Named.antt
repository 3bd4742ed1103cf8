-- The host and the port that an authority names.
use Rattle.std.proofs.Common.{◌≡◌, inl, inr, ℕ, List, ◌++◌, Option, None, Some, Result, Ok, Err, codes}
use Rattle.std.specs.Prelude.{IfOk, MatchOption, string_bytes}
use Rattle.he_front.specs.Authority.{IsAuthority, IsNoAuthority}
use Rattle.he_front.specs.declared.asked.Asked.{Asked}
use Rattle.he_forward.specs.Targets.{Names, NamesNone}

neither : (authority : List ℕ) → IsNoAuthority authority → IsNoAuthority (authority ++ codes ":80") → NamesNone authority
neither authority none never host port (inl is) = none host port is
neither authority none never host port (inr is) = never host port is

-- an authority without a port names port 80, or nothing
pub at_80 : {A E : Type 0} (authority : List ℕ) (result : Result (Option (Asked A)) E) → IsNoAuthority authority
    → IfOk result (λ asked. MatchOption asked (IsNoAuthority (authority ++ codes ":80"))
    (λ asked. IsAuthority (authority ++ codes ":80") (string_bytes asked.host) asked.port))
    → IfOk result (λ asked. MatchOption asked (NamesNone authority) (λ asked. Names authority (string_bytes asked.host) asked.port))
at_80 authority (Ok (Some asked)) none is = inr is
at_80 authority (Ok None) none is = neither authority none is
at_80 authority (Err refused) none is = tt

-- what there is of None
pub of_none : {T P : Type 0} (Q : T → Type 0) (value : Option T) → value ≡ None → MatchOption value P Q → P
of_none Q None same is = is
of_none Q (Some x) same is = cc
