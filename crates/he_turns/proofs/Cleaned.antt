-- What a race takes of the addresses that are told for a family: they are of it, each once, and few enough.
use Rattle.std.proofs.Common.{◌≡◌, ℕ, suc, ◌+◌, ◌≤◌, ◌<◌, ◌&&◌, ◌++◌, Bool, true, false, not, List, [], ◌∷◌, if◌then◌else◌, length, take, nat_lt, get_or, refl, sym, ◌∙◌, ap, arith}
use Rattle.std.proofs.lemmas.List.{map-append}
use Rattle.std.proofs.Math.Seq.{take-suc}
use Rattle.he_addr.specs.declared.ip.Family.{Family}
use Rattle.he_addr.specs.declared.ip.Ip.{Ip}
use Rattle.he_addr.specs.Ip.{same_ip}
use Rattle.he_timeline.specs.declared.limits.TheConstants.{MAX_ADDRESSES}
use Rattle.he_timeline.specs.Race.{has_ip}
use Rattle.he_timeline.specs.Timeline.{are_distinct, are_of, is_of}
use Rattle.he_timeline.proofs.Ranges.{same_ip-sym}
use Rattle.he_select.proofs.Equality.{ip_from}
use Rattle.he_select.specs.declared.known.Known.{Known}
use Rattle.he_turns.specs.Heard.{cleaned, ips_of}
use Rattle.he_turns.proofs.Once.{are_apart, taken-all, taken-apart, taken-few, taken-more}

pub ip_alike : (x y z : Ip) → same_ip x y ≡ true → same_ip z x ≡ same_ip z y
ip_alike x y z h = ap (same_ip z) (ip_from x y h)

distinct_from : (ips : List Ip) → are_distinct ips ≡ are_apart same_ip ips
distinct_from [] = refl
distinct_from (ip ∷ ips) = ap (λ (b : Bool). not (has_ip ip ips) && b) (distinct_from ips)

pub cleaned-own : (family : Family) (told : List Ip) → are_of family (cleaned family told) ≡ true
cleaned-own family told = taken-all same_ip same_ip-sym ip_alike (is_of family) MAX_ADDRESSES told

pub cleaned-few : (family : Family) (told : List Ip) → length (cleaned family told) ≤ MAX_ADDRESSES
cleaned-few family told = taken-few same_ip same_ip-sym ip_alike (is_of family) MAX_ADDRESSES told

pub cleaned-distinct : (family : Family) (told : List Ip) → are_distinct (cleaned family told) ≡ true
cleaned-distinct family told = distinct_from (cleaned family told) ∙ taken-apart same_ip same_ip-sym ip_alike (is_of family) MAX_ADDRESSES told

-- what is cleaned of one more address that is told
pub cleaned-more : (family : Family) (told : List Ip) (ip : Ip)
    → cleaned family (told ++ ip ∷ []) ≡ (if nat_lt (length (cleaned family told)) MAX_ADDRESSES && (is_of family ip && not (has_ip ip (cleaned family told))) then cleaned family told ++ ip ∷ [] else cleaned family told)
cleaned-more family told ip = taken-more same_ip same_ip-sym ip_alike (is_of family) MAX_ADDRESSES told ip

-- the step of the loop that cleans
module _ (family : Family) (told : List Known) (ys : List Ip) (i : ℕ) (d : Known) (below : i < length told) (was : ys ≡ cleaned family (ips_of (take i told))) where
  abbrev next_ip : Ip
  next_ip = (get_or told i d).ip

  abbrev pub wanted : Bool
  wanted = nat_lt (length ys) MAX_ADDRESSES && (is_of family next_ip && not (has_ip next_ip ys))

  step : cleaned family (ips_of (take (i + 1) told)) ≡ (if wanted then ys ++ next_ip ∷ [] else ys)
  step =
      let grown : List Ip → List Ip = λ zs. if nat_lt (length zs) MAX_ADDRESSES && (is_of family next_ip && not (has_ip next_ip zs)) then zs ++ next_ip ∷ [] else zs in
      let suc_is : i + 1 ≡ suc i = omega arith in
      let one_more : ips_of (take (suc i) told) ≡ ips_of (take i told) ++ next_ip ∷ [] = ap ips_of (take-suc told i d below) ∙ map-append (λ (one : Known). one.ip) (take i told) (get_or told i d ∷ []) in
      ap (λ (k : ℕ). cleaned family (ips_of (take k told))) suc_is ∙ ap (cleaned family) one_more ∙ cleaned-more family (ips_of (take i told)) next_ip ∙ ap grown (sym was)

  pub cleaned_next : (zs : List Ip) → wanted ≡ true → zs ≡ ys ++ next_ip ∷ [] → zs ≡ cleaned family (ips_of (take (i + 1) told))
  cleaned_next zs is grown = grown ∙ sym (step ∙ ap (λ (b : Bool). if b then ys ++ next_ip ∷ [] else ys) is)

  pub cleaned_left : wanted ≡ false → ys ≡ cleaned family (ips_of (take (i + 1) told))
  cleaned_left is = sym (step ∙ ap (λ (b : Bool). if b then ys ++ next_ip ∷ [] else ys) is)
