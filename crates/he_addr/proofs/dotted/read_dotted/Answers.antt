use Rattle.std.proofs.Common.{◌∷◌, [], Some, refl, sym, ◌∙◌, ap}
use Rattle.he_addr.proofs.NetTexts.{v4_some}
use Rattle.he_addr.proofs.OctetTexts.{dotted_parts}
use Rattle.he_addr.proofs.dotted.read_dotted.Goals as goal

pub returns : goal.returns
returns k =
    let a = k.in_ok-a.ensures in
    let b = k.in_ok-b.ensures in
    let c = k.in_ok-c.ensures in
    let d = k.in_ok-d.ensures in
    v4_some k.args.text.now (k.in_ok-a.a ∷ k.in_ok-b.b ∷ k.in_ok-c.c ∷ k.in_ok-d.d ∷ []) (record {
      a = k.in_ok-a.a;
      b = k.in_ok-b.b;
      c = k.in_ok-c.c;
      d = k.in_ok-d.d;
      fit = (a.0, b.0, c.0, d.0);
      value = refl;
      spelled = dotted_parts k.args.text.now k.in_ok-a.text.now k.in_ok-b.text.now k.in_ok-c.text.now k.in_ok-a.a k.in_ok-b.b k.in_ok-c.c k.in_ok-d.d a.1 b.1 c.1 d.1;
    }) ∙ ap Some (sym k.from_be_bytes.ensures)
