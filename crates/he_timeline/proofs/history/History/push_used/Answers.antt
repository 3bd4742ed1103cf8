use Rattle.std.proofs.Common.{◌≡◌, ◌++◌, Bool, false, List, [], ◌∷◌, cond, sym, ◌∙◌, ap}
use Rattle.std.specs.List.{list_any}
use Rattle.std.specs.Option.{option_map_or}
use Rattle.he_addr.specs.contracts.ip.IpPartialEq.TheImpl.{eq-value}
use Rattle.he_addr.specs.declared.ip.Ip.{Ip}
use Rattle.he_timeline.specs.Race.{History, has_ip}
use Rattle.he_timeline.proofs.Addressed.{found_is}
use Rattle.he_timeline.proofs.ByAddress.{same_as}
use Rattle.he_timeline.proofs.history.History.push_used.Goals as goal

pub returns-in_ok-insert-in-Some-clause-ok : goal.returns-in_ok-insert-in-Some-clause-ok
returns-in_ok-insert-in-Some-clause-ok g c =
    let keys : List Ip = c.deref_mut.result.now.keys in
    let used : List Ip = c.args.self.now.used in
    let are_used : keys ≡ used =
    ap (λ s. s.keys) c.deref_mut.ensures.value
    ∙ sym (ap (λ o. option_map_or (λ u. u.value.keys) o []) c.in-Some.is)
    ∙ ap (λ (h : History). h.used) c.self.view_is in
    let absent : list_any (eq-value.it c.args.ip) keys ≡ false = found_is eq-value.it same_as c.args.ip keys ∙ ap (has_ip c.args.ip) are_used ∙ c.requires in
    let grown : c.insert.new.self.keys ≡ used ++ c.args.ip ∷ [] =
    c.in_ok-insert-in-Some.ensures.keys
    ∙ ap (λ (b : Bool). cond b keys (keys ++ c.args.ip ∷ [])) absent
    ∙ ap (λ (ips : List Ip). ips ++ c.args.ip ∷ []) are_used in
    let made : List Ip → History = λ ips. record { rtts = c.self.inside.rtts; used = ips } in
    ap made grown ∙ ap (λ (h : History). record { rtts = h.rtts; used = used ++ c.args.ip ∷ [] }) c.self.view_is
