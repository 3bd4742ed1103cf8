use Rattle.std.proofs.Common.{◌≡◌, ◌∙◌, ℕ, List, ap, map, subst, sym, vec_items}
use Rattle.std.specs.List.{fold}
use Rattle.std.proofs.lemmas.Result.{on_ok_weaker}
use Rattle.he_addr.specs.declared.ip.Ip.{Ip}
use Rattle.he_plan.specs.declared.transcript.Line.{Line}
use Rattle.he_totals.specs.Hosts.{AreNamed, HasTried, Named, host_said, target_text, with_pair}
use Rattle.he_totals.proofs.Hosted.{one_host}
use Rattle.he_totals.proofs.hosts.Hosts.add_host.Goals as goal

pub returns-clause-named : goal.returns-clause-named
returns-clause-named g c = λ texts named.
    let (stored, at, same) = c.in_ok-place.ensures.stored in
    on_ok_weaker c.add.result
    (λ done. one_host vec_items c.self.inside.names.keys c.insert_full.new.self.keys c.in_ok-name.name stored c.in_ok-place.place c.self.inside.places.items c.push.new.self.items c.self.inside.tried c.add.new.self texts
    (host_said c.args.told.now) c.in_ok-place.ensures.keys at same (c.in_ok-name.ensures ∙ ap target_text c.to.ensures) c.in_ok-push.ensures.items (subst (AreNamed texts) (sym c.self.view_is) named))
    c.add.ensures

pub returns-clause-paired : goal.returns-clause-paired
returns-clause-paired g c =
    on_ok_weaker c.add.result
    (λ done. subst (λ (n : Named). HasTried c.args.told.now c.args.lines.now n (record { names = map vec_items c.insert_full.new.self.keys; places = c.push.new.self.items; pairs = c.add.new.self })) c.self.view_is (
      c.in_ok-place.place,
      c.in_ok-push.ensures.items,
      subst (λ (lines : List Line). c.add.new.self ≡ fold with_pair c.self.inside.tried (map (λ line. (line.ip, c.in_ok-place.place)) lines)) c.tried_lines.ensures done,
    ))
    c.add.ensures
