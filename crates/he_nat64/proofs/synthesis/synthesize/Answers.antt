use Rattle.std.proofs.Common.{◌≡◌, ◌++◌, ◌∙◌, [], ℕ, List, sym, subst}
use Rattle.std.specs.List.{filter_map, flat_map}
use Rattle.std.proofs.lemmas.List.{append-nil, drop_all}
use Rattle.he_nat64.specs.Embedding.{PrefixBits}
use Rattle.he_nat64.specs.Synthesis.{synthesized_one}
use Rattle.he_nat64.proofs.synthesis.synthesize.Goals as goal

pub returns : goal.returns
returns c =
    let prefixes = c.args.prefixes.now in
    let f : PrefixBits → List ℕ = λ prefix. filter_map (synthesized_one prefix) c.args.hosts.now in
    let addresses = c.loop-prefix.addresses.items in
    let all : addresses ++ flat_map f [] ≡ flat_map f prefixes =
    subst (λ xs. addresses ++ flat_map f xs ≡ flat_map f prefixes)
    (drop_all c.loop-prefix.prefix-index prefixes c.loop-prefix-test.false) c.loop-prefix.invariant in
    sym (append-nil addresses) ∙ all
