use Rattle.std.proofs.Common.{◌≡◌, [], filter, length, map, nat_lt, take}
use Rattle.he_names.specs.Conf.{domains_of, entry_of, last_of}
use Rattle.he_names.specs.Fields.{texts}
use Rattle.he_names.proofs.conf.last_search.Given as goal

abbrev pub invariant-loop-line : goal.invariant-loop-line
invariant-loop-line g l = texts l.search.items
    ≡ last_of [] (filter (λ domains. nat_lt 0 (length domains)) (map domains_of (map entry_of (texts (take l.line-index l.line-items)))))
