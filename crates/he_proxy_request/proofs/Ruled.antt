-- The rules of a line's words.
use Rattle.std.proofs.Common.{◌≡◌, ◌+◌, ◌<◌, ◌++◌, ◌∙◌, ℕ, Bool, List, [], ◌∷◌, ap, arith, get_or, inl, inr, length, map, min, subst, sym, take}
use Rattle.std.specs.Borrow.{Bor}
use Rattle.std.specs.List.{AllZip}
use Rattle.std.proofs.lemmas.Bool.{cases_lt}
use Rattle.std.proofs.lemmas.List.{append_assoc, get_or_append_left, length-append, length-map, length-take, map-append, take_more}
use Rattle.std.proofs.lemmas.List.Elements.{All-push}
use Rattle.std.proofs.Math.Seq.{get_or-append_seam}
use Rattle.he_addr.specs.Ip.{mapped_of}
use Rattle.he_addr.specs.Prefix.{PrefixBits, width_of}
use Rattle.he_addr.specs.Text.{prefix_of}
use Rattle.he_addr.specs.declared.ip.Ip.{Ip}
use Rattle.he_addr.specs.declared.ip.Ip.TheVariants.{V4, V6}
use Rattle.he_access.specs.declared.rules.Rule.{Rule}
use Rattle.he_proxy_request.specs.Rules.{AreAdded, IsRuleOf, NamesRule, place_in}
use Rattle.he_proxy_request.specs.declared.rules.RuleWord.{RuleWord}

-- the prefix of one address
pub one_address : (ip : Ip) (n : ℕ) → n ≡ mapped_of ip → record { bits = n; len = 128 } ≡ prefix_of ip (width_of ip)
one_address (V4 m) n is = ap (λ (b : ℕ). let p : PrefixBits = record { bits = b; len = 128 } in p) is
one_address (V6 m) n is = ap (λ (b : ℕ). let p : PrefixBits = record { bits = b; len = 128 } in p) is

-- ---- the words of an option

module _ (allows : Bool) (places : List ℕ) where
  placed_more : (words : List RuleWord) (word : RuleWord)
      → ((k : ℕ) (d : RuleWord) → k < length words → (get_or words k d).place ≡ place_in places k)
      → word.place ≡ place_in places (length words)
      → (k : ℕ) (d : RuleWord) → k < length (words ++ word ∷ [])
      → (get_or (words ++ word ∷ []) k d).place ≡ place_in places k
  placed_more words word are at k d below = elim (cases_lt k (length words)) [
    | inl less ↦ ap (λ (w : RuleWord). w.place) (get_or_append_left words (word ∷ []) d k less) ∙ are k d less
    | inr not_less ↦
        let whole : length (words ++ word ∷ []) ≡ length words + 1 = length-append words (word ∷ []) in
        let last : k ≡ length words = omega arith in
        subst (λ (n : ℕ). (get_or (words ++ word ∷ []) n d).place ≡ place_in places n) (sym last)
        (ap (λ (w : RuleWord). w.place) (get_or-append_seam words word [] d) ∙ at)
  ]

  pub one_added : (texts : List (Bor (List ℕ))) (i : ℕ) (default : Bor (List ℕ)) (old mid new : List RuleWord) (word : RuleWord)
      → new ≡ mid ++ word ∷ [] → i < length texts
      → AreAdded allows places (map (λ text. text.now) (take i texts)) old mid
      → word.allows ≡ allows → word.text.now ≡ (get_or texts i default).now → word.place ≡ place_in places i
      → AreAdded allows places (map (λ text. text.now) (take (i + 1) texts)) old new
  one_added texts i default old mid new word pushed below added is text at =
      let words : List RuleWord = added.words in
      let taken : length (take i texts) ≡ min i (length texts) = length-take i texts in
      let of_words : length (map (λ (w : RuleWord). w.text.now) words) ≡ length words = length-map words (λ (w : RuleWord). w.text.now) in
      let of_texts : length (map (λ (t : Bor (List ℕ)). t.now) (take i texts)) ≡ length (take i texts) =
      length-map (take i texts) (λ (t : Bor (List ℕ)). t.now) in
      let same : length (map (λ (w : RuleWord). w.text.now) words) ≡ length (map (λ (t : Bor (List ℕ)). t.now) (take i texts)) = ap length added.are.are in
      let count : length words ≡ i = omega arith in
      record {
        words = words ++ word ∷ [];
        are = record {
          are = map-append (λ (w : RuleWord). w.text.now) words (word ∷ [])
              ∙ ap (λ (l : List (List ℕ)). l ++ word.text.now ∷ []) added.are.are
              ∙ ap (λ (b : List ℕ). map (λ (t : Bor (List ℕ)). t.now) (take i texts) ++ b ∷ []) text
              ∙ sym (map-append (λ (t : Bor (List ℕ)). t.now) (take i texts) (get_or texts i default ∷ []))
              ∙ sym (ap (map (λ (t : Bor (List ℕ)). t.now)) (take_more texts i default below));
          all = All-push (λ (w : RuleWord). w.allows ≡ allows) words word added.are.all is;
          placed = placed_more words word added.are.placed (at ∙ ap (place_in places) (sym count));
        };
        behind = pushed ∙ ap (λ (l : List RuleWord). l ++ word ∷ []) added.behind ∙ append_assoc old words (word ∷ []);
      }

-- ---- their rules

zip_push : (words : List RuleWord) (rules : List Rule) (word : RuleWord) (rule : Rule) → AllZip IsRuleOf words rules
    → IsRuleOf word rule → AllZip IsRuleOf (words ++ word ∷ []) (rules ++ rule ∷ [])
zip_push [] [] word rule are is = (is, tt)
zip_push [] (r ∷ rs) word rule are is = absurd are
zip_push (w ∷ ws) [] word rule are is = absurd are
zip_push (w ∷ ws) (r ∷ rs) word rule are is = (are.0, zip_push ws rs word rule are.1 is)

pub one_ruled : (words : List RuleWord) (i : ℕ) (default : RuleWord) (rules longer : List Rule) (rule : Rule)
    → longer ≡ rules ++ rule ∷ [] → i < length words → AllZip IsRuleOf (take i words) rules
    → rule.allows ≡ (get_or words i default).allows
    → NamesRule (get_or words i default).text.now rule.targets rule.ports
    → AllZip IsRuleOf (take (i + 1) words) longer
one_ruled words i default rules longer rule pushed below are allows named =
    rw (take_more words i default below, pushed)
    (zip_push (take i words) rules (get_or words i default) rule are (record { allows = allows; named = named }))
