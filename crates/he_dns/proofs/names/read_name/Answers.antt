use Rattle.std.proofs.Common.{◌≡◌, ◌+◌, ◌++◌, ◌≤◌, ◌<◌, Some, None, length, take, drop, sym, ◌∙◌, ap, subst, arith}
use Rattle.std.specs.Option.{IfSome, unwrap_or}
use Rattle.he_dns.specs.declared.parts.NamePart.TheVariants.{Root, Label, Pointer}
use Rattle.he_dns.specs.Reading.{name_at, name_from, part_at}
use Rattle.he_dns.proofs.Named.{Left, none_left, root_left, long_left, forward_left, label_left, pointer_left, nothing_left, ended_within}
use Rattle.he_dns.proofs.names.read_name.Goals as goal
use Rattle.he_dns.proofs.names.read_name.Goals.{in-Label+in_ok-append-in-Label, in-Pointer+else-to-begin}

pub parts-init : goal.parts-init
unfolding name_at
parts-init c = record {
  same = ap (λ o. name_from 255 c.args.message.now c.args.at c.args.at None o) c.new-octets.ensures;
  within = tt;
}

pub returns-in_err-part_at-clause-value : goal.returns-in_err-part_at-clause-value
returns-in_err-part_at-clause-value c =
    let l : Left c.args.message.now c.parts.begin c.parts.place c.parts.end c.parts.octets c.parts.read (name_at c.args.message.now c.args.at) =
    record { same = c.parts.invariant.same; more = omega arith } in
    let e = none_left c.args.message.now c.parts.begin c.parts.place c.parts.end c.parts.octets c.parts.read (name_at c.args.message.now c.args.at) l c.in_err-part_at.ensures.value in
    cc

pub returns-in-Root-clause-value : goal.returns-in-Root-clause-value
returns-in-Root-clause-value c =
    let l : Left c.args.message.now c.parts.begin c.parts.place c.parts.end c.parts.octets c.parts.read (name_at c.args.message.now c.args.at) =
    record { same = c.parts.invariant.same; more = omega arith } in
    let stands : Some Root ≡ part_at c.args.message.now c.parts.place = ap Some (sym c.in-Root.is) ∙ c.in_ok-part_at.ensures.value in
    ap (λ end. Some (c.parts.octets, end)) c.unwrap_or.ensures
    ∙ root_left c.args.message.now c.parts.begin c.parts.place c.parts.end c.parts.octets c.parts.read (name_at c.args.message.now c.args.at) l stands

pub returns-in_err-append-in-Label-clause-value : goal.returns-in_err-append-in-Label-clause-value
returns-in_err-append-in-Label-clause-value c =
    let l : Left c.args.message.now c.parts.begin c.parts.place c.parts.end c.parts.octets c.parts.read (name_at c.args.message.now c.args.at) =
    record { same = c.parts.invariant.same; more = omega arith } in
    let stands : Some (Label c.in-Label.len) ≡ part_at c.args.message.now c.parts.place = ap Some (sym c.in-Label.is) ∙ c.in_ok-part_at.ensures.value in
    let long : 254 < length c.parts.octets + (1 + c.in-Label.len) = omega (arith, c.in_err-append-in-Label.ensures.appended, c.label_octets.ensures.len) in
    let e = long_left c.args.message.now c.parts.begin c.parts.place c.parts.end c.parts.octets c.parts.read (name_at c.args.message.now c.args.at) l c.in-Label.len stands long in
    cc

pub returns-then-to-begin-clause-value : goal.returns-then-to-begin-clause-value
returns-then-to-begin-clause-value c =
    let l : Left c.args.message.now c.parts.begin c.parts.place c.parts.end c.parts.octets c.parts.read (name_at c.args.message.now c.args.at) =
    record { same = c.parts.invariant.same; more = omega arith } in
    let stands : Some (Pointer c.in-Pointer.to) ≡ part_at c.args.message.now c.parts.place = ap Some (sym c.in-Pointer.is) ∙ c.in_ok-part_at.ensures.value in
    forward_left c.args.message.now c.parts.begin c.parts.place c.parts.end c.parts.octets c.parts.read (name_at c.args.message.now c.args.at) l c.in-Pointer.to stands (omega arith)

pub parts-preserved : goal.parts-preserved
parts-preserved c =
    let l : Left c.args.message.now c.parts.begin c.parts.place c.parts.end c.parts.octets c.parts.read (name_at c.args.message.now c.args.at) =
    record { same = c.parts.invariant.same; more = omega arith } in
    elim c.match-branch-2.branch [
      | in-Label+in_ok-append-in-Label w ↦
          let stands : Some (Label w.in-Label.len) ≡ part_at c.args.message.now c.parts.place = ap Some (sym w.in-Label.is) ∙ c.in_ok-part_at.ensures.value in
          let fits : length c.parts.octets + (1 + w.in-Label.len) ≤ 254 = omega (arith, w.in_ok-append-in-Label.ensures.room, w.label_octets.ensures.len) in
          let e = label_left c.args.message.now c.parts.begin c.parts.place c.parts.end c.parts.octets c.parts.read (name_at c.args.message.now c.args.at) l w.in-Label.len stands fits in
          let o : c.match-branch-2.octets ≡ c.parts.octets ++ take (1 + w.in-Label.len) (drop c.parts.place c.args.message.now) =
          w.octets-is ∙ w.in_ok-append-in-Label.ensures.appended ∙ ap (λ part. c.parts.octets ++ part) w.label_octets.ensures.value in
          record {
            same = rw (w.begin-is, w.place-is, w.end-is, o) e;
            within = subst (λ end. IfSome end (λ end. end ≤ length c.args.message.now)) (sym w.end-is) c.parts.invariant.within;
          }
      | in-Pointer+else-to-begin w ↦
          let stands : Some (Pointer w.in-Pointer.to) ≡ part_at c.args.message.now c.parts.place = ap Some (sym w.in-Pointer.is) ∙ c.in_ok-part_at.ensures.value in
          let e = pointer_left c.args.message.now c.parts.begin c.parts.place c.parts.end c.parts.octets c.parts.read (name_at c.args.message.now c.args.at) l w.in-Pointer.to stands (omega arith) in
          let inside : c.parts.place + 1 < length c.args.message.now = rw w.in-Pointer.is at c.in_ok-part_at.ensures.within in
          let ends : c.match-branch-2.end ≡ Some (unwrap_or c.parts.end (c.parts.place + 2)) = w.end-is ∙ ap Some w.unwrap_or-in-Pointer.ensures in
          record {
            same = rw (w.begin-is, w.place-is, ends, w.octets-is) e;
            within = subst (λ end. IfSome end (λ end. end ≤ length c.args.message.now)) (sym ends)
                (ended_within c.parts.end (c.parts.place + 2) (length c.args.message.now) c.parts.invariant.within (omega arith));
          }
    ]

pub returns-clause-value : goal.returns-clause-value
returns-clause-value c =
    nothing_left c.args.message.now c.parts.begin c.parts.place c.parts.end c.parts.octets c.parts.read (name_at c.args.message.now c.args.at) (omega arith) c.parts.invariant.same
