use Rattle.std.proofs.Common.{ℕ, ◌≡◌, ◌∙◌, List, ap, codes, map, string_bytes, subst}
use Rattle.std.proofs.lemmas.Result.{on_ok_weaker}
use Rattle.he_compare.specs.Worst.{IsWorst}
use Rattle.he_compare.specs.declared.grouping.By.TheVariants as dividing
use Rattle.he_totals.specs.Hosts.{AreNamed, Named, at_hosts}
use Rattle.he_totals.specs.Kept.{Run, kept_of}
use Rattle.he_totals.specs.Summed.{host_of}
use Rattle.he_totals.specs.declared.kept.Kept.{Kept}
use Rattle.he_tasks.specs.Summaries.{IsWorstHost}
use Rattle.he_tasks.proofs.sums.tell_worst_host.Goals as goal

worst_host : (runs : List Run) (hosts : Named) (summed kept : List Kept) (names : List (List ℕ)) (old new : List ℕ) → AreNamed (map host_of runs) hosts → summed ≡ map kept_of runs
    → names ≡ hosts.names → kept ≡ at_hosts hosts.places summed → IsWorst (codes "worst host: ") (record { by = dividing.Host; names = names }) kept old new → IsWorstHost runs old new
worst_host runs hosts summed kept names old new named is_summed is_names is_kept line = (
  hosts,
  named,
  subst (λ (k : List Kept). IsWorst (codes "worst host: ") (record { by = dividing.Host; names = hosts.names }) k old new) (is_kept ∙ ap (at_hosts hosts.places) is_summed)
      (subst (λ (n : List (List ℕ)). IsWorst (codes "worst host: ") (record { by = dividing.Host; names = n }) kept old new) is_names line),
)

pub returns : goal.returns
returns c = λ runs summed.
    on_ok_weaker c.write_worst.result
    (worst_host runs c.args.races.now.hosts c.args.races.now.kept c.as_slice-2.result.now (map string_bytes c.as_slice.result.now) c.args.text.now.items c.write_worst.new.text.items summed.hosts summed.kept
    (ap (map string_bytes) c.as_slice.ensures.value ∙ c.in_ok-hosts.ensures) (c.as_slice-2.ensures.value ∙ c.in_ok-kept.ensures))
    c.write_worst.ensures
