use Rattle.std.proofs.Common.{map, take}
use Rattle.he_addr.specs.Text.{SpellsPrefix}
use Rattle.he_proxy_request.specs.Proxies.{AreNamed}
use Rattle.he_proxy_request.proofs.proxy.networks_in.Given as goal

abbrev pub invariant-loop-text : goal.invariant-loop-text
invariant-loop-text l = AreNamed SpellsPrefix (map (λ text. text.now) (take l.text-index l.texts)) l.allow.items
