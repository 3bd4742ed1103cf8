use Rattle.std.proofs.Common.{◌≡◌, ◌++◌, codes, drop, map}
use Rattle.std.specs.List.{flat_map}
use Rattle.he_print.specs.Escaping.{string_text}
use Rattle.he_summary.proofs.json.write_strings.Given as goal

abbrev pub invariant-loop-name : goal.invariant-loop-name
invariant-loop-name g l =
    l.text.items ++ flat_map (λ name. codes "," ++ string_text name) (map (λ name. name.now) (drop l.name-index l.more))
    ≡ l.initial.text.items ++ flat_map (λ name. codes "," ++ string_text name) (map (λ name. name.now) l.more)
