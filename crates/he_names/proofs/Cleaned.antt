-- What is cleaned is a family's answer.
use Rattle.std.proofs.Common.{◌≡◌, ◌≢◌, ℕ, true, not, All, AllPairs, List, [], ◌∷◌, filter, take, refl, sym, ◌∙◌, ap, arith, subst}
use Rattle.std.proofs.lemmas.Grind.{common_steps}
use Rattle.std.proofs.lemmas.List.{get_or-take, length-take}
use Rattle.std.proofs.lemmas.List.Elements.{All-cons, All-filter, All-head, All-tail, All-take, filter_passes}
use Rattle.std.proofs.lemmas.List.Kept.{AllPairs-cons, AllPairs-filter}
use Rattle.he_addr.specs.declared.ip.Family.{Family}
use Rattle.he_addr.specs.declared.ip.Family.TheVariants as families
use Rattle.he_addr.specs.declared.ip.Ip.{Ip}
use Rattle.he_addr.specs.declared.ip.Ip.TheVariants.{V4, V6}
use Rattle.he_addr.specs.Ip.{family_of, is_of, same_ip}
use Rattle.he_names.specs.Answers.{IsAnswer, cleaned, each_once}

of_is : (family : Family) (ip : Ip) → is_of family ip ≡ true → family_of ip ≡ family
of_is families.V6 (V6 n) e = refl
of_is families.V6 (V4 n) e = cc
of_is families.V4 (V4 n) e = refl
of_is families.V4 (V6 n) e = cc

same_self : (ip : Ip) → same_ip ip ip ≡ true
same_self (V4 n) = grind (arith, common_steps)
same_self (V6 n) = grind (arith, common_steps)

other_is : (ip other : Ip) → not (same_ip ip other) ≡ true → ip ≢ other
other_is ip other e same = let h : same_ip ip other ≡ true = ap (same_ip ip) (sym same) ∙ same_self ip in cc

all_once : (P : Ip → Type 0) (ips : List Ip) → All P ips → All P (each_once ips)
all_once P [] h = h
all_once P (ip ∷ ips) h =
    All-cons P ip _ (All-head P ip ips h) (All-filter (λ other. not (same_ip ip other)) P _ (all_once P ips (All-tail P ip ips h)))

once_distinct : (ips : List Ip) → AllPairs (λ ip other. ip ≢ other) (each_once ips)
once_distinct [] = λ i j d a b. omega (arith, b)
once_distinct (ip ∷ ips) =
    let others = filter_passes (λ other. not (same_ip ip other)) (each_once ips) in
    AllPairs-cons (λ ip other. ip ≢ other) ip _ (λ k d l. other_is ip _ (others k d l)) (AllPairs-filter (λ ip other. ip ≢ other) _ _ (once_distinct ips))

all_pairs_taken : (R : Ip → Ip → Type 0) (n : ℕ) (ips : List Ip) → AllPairs R ips → AllPairs R (take n ips)
all_pairs_taken R n ips h i j d below within =
    let size = length-take n ips in
    rw (get_or-take n ips i d (omega arith), get_or-take n ips j d (omega arith)) (h i j d below (omega arith))

cleaned_is : (family : Family) (ips : List Ip) → IsAnswer family (cleaned family ips)
cleaned_is family ips =
    let own = filter_passes (is_of family) ips in
    let all = filter (is_of family) ips in
    record {
      own = All-take (λ ip. family_of ip ≡ family) 256 _ (all_once (λ ip. family_of ip ≡ family) all (λ k d l. of_is family _ (own k d l)));
      once = all_pairs_taken (λ ip other. ip ≢ other) 256 _ (once_distinct all);
      few = omega (arith, length-take 256 (each_once all));
    }

-- the same of a list that the definition is found equal to in two steps
pub answer_is : (family : Family) (ips own kept : List Ip) → own ≡ filter (is_of family) ips → kept ≡ take 256 (each_once own) → IsAnswer family kept
answer_is family ips own kept is_own is_kept =
    subst (IsAnswer family) (sym (is_kept ∙ ap (λ all. take 256 (each_once all)) is_own)) (cleaned_is family ips)
