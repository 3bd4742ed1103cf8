use Rattle.std.proofs.Common.{ℕ, List, inr, refl, subst, sym}
use Rattle.he_addr.specs.Text.{SpellsPrefix}
use Rattle.he_proxy_request.specs.Proxies.{SpellsNoPrefix}
use Rattle.he_proxy_request.proofs.Named.{all_named, one_named}
use Rattle.he_proxy_request.proofs.Refusing.{any_at}
use Rattle.he_proxy_request.proofs.proxy.networks_in.Goals as goal

pub loop-text-preserved : goal.loop-text-preserved
loop-text-preserved c =
    one_named SpellsPrefix c.args.texts.now c.loop-text.text-index _ c.loop-text.allow.items _ c.as_bytes.result.now c.in-Some.network c.loop-text-test.true c.loop-text.invariant c.as_bytes.ensures.value c.in-Some.ensures.found c.in-Ok.ensures.items

pub returns-clause-ok : goal.returns-clause-ok
returns-clause-ok c = all_named SpellsPrefix c.args.texts.now c.loop-text.text-index c.loop-text.allow.items c.loop-text-test.false c.loop-text.invariant

pub returns-in_default-clause-err : goal.returns-in_default-clause-err
returns-in_default-clause-err c =
    inr (
      refl,
      any_at (λ text. SpellsNoPrefix text.now) c.args.texts.now c.loop-text.text-index _ c.loop-text-test.true
          (λ prefix spelled. c.in_default.ensures.none prefix (subst (λ (l : List ℕ). SpellsPrefix l prefix) (sym c.as_bytes.ensures.value) spelled)),
    )
