use Rattle.std.proofs.Common.{◌++◌, ◌∙◌, List, ap, rules, subst}
use Rattle.std.specs.List.Sorted.{IsPermutation}
use Rattle.std.proofs.lemmas.List.Sorted.{IsNonDecreasingBy-from_sort_by_key}
use Rattle.he_proxy_request.specs.declared.rules.RuleWord.{RuleWord}
use Rattle.he_proxy_request.proofs.rules.words_of.Goals as goal

pub returns : goal.returns
returns c =
    let to = c.in_ok-add_words.ensures in
    let not_to = c.in_ok-add_words-2.ensures in
    record {
      allowing = to.words;
      refusing = not_to.words;
      are_to = to.are;
      are_not_to = not_to.are;
      of_both = subst (λ (words : List RuleWord). IsPermutation words c.sort_by_key.new.self.items)
          (not_to.behind ∙ ap (λ (l : List RuleWord). l ++ not_to.words)
          (to.behind ∙ ap (λ (l : List RuleWord). l ++ to.words) c.new-words.ensures.items)) c.sort_by_key.ensures.permutation;
      rising = IsNonDecreasingBy-from_sort_by_key (λ (word : RuleWord). word.place) _ c.in_ok-sort_by_key.ensures.sorted
          (λ a r q k. search rules);
    }
