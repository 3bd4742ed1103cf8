use Rattle.std.proofs.Common.{◌≡◌, ℕ, List, ◌++◌, codes, subst, ◌∙◌, ap}
use Rattle.std.specs.Prelude.{IfOk, MatchOption, string_bytes}
use Rattle.he_front.specs.Authority.{IsAuthority, IsNoAuthority}
use Rattle.he_forward.proofs.target.asked_at_80.Goals as goal

pub returns : goal.returns
returns g c =
    let text : c.deref.result.now ≡ c.args.authority.now ++ codes ":80" =
    c.deref.ensures.value ∙ c.in_ok-extend_from_slice-2.ensures.items
    ∙ ap (λ (t : List ℕ). t ++ codes ":80") (c.in_ok-extend_from_slice.ensures.items
    ∙ ap (λ (t : List ℕ). t ++ c.args.authority.now) c.new-text.ensures.items) in
    subst (λ (t : List ℕ). IfOk c.by_connect.result (λ asked. MatchOption asked (IsNoAuthority t)
    (λ asked. IsAuthority t (string_bytes asked.host) asked.port))) text c.by_connect.ensures
