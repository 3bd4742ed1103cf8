use Rattle.std.proofs.Common.{sym, ◌∙◌, ap, take}
use Rattle.std.proofs.lemmas.List.{take-map}
use Rattle.he_names.proofs.conf.read_search.Goals as goal

pub returns : goal.returns
returns g c = rw (c.truncate.ensures.items) (sym (take-map (λ reference. reference.now) 32 c.in_ok-search.search.items) ∙ ap (take 32) c.in_ok-search.ensures)
