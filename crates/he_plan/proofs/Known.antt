-- The usable addresses with what is known of them.
use Rattle.std.proofs.Common.{◌≡◌, true, List, [], ◌∷◌, map, refl, sym, ◌∙◌, ap}
use Rattle.std.specs.List.{list_all}
use Rattle.std.proofs.lemmas.List.Folds.{list_all-map}
use Rattle.he_addr.specs.Ip.{is_usable}
use Rattle.he_addr.specs.declared.ip.Ip.{Ip}
use Rattle.he_plan.specs.Planning.{parts_of}
use Rattle.he_timeline.specs.Race.{History, Race, known_of, usable_addresses}
use Rattle.he_plan.proofs.Listed.{all_parts}
use Rattle.he_plan.proofs.Queued.{parts-usable}
use Rattle.he_select.specs.declared.known.Known.{Known}

pub known_ips : (history : History) (ips : List Ip) → map (λ (one : Known). one.ip) (map (known_of history) ips) ≡ ips
known_ips history [] = refl
known_ips history (ip ∷ ips) = ap (λ (xs : List Ip). ip ∷ xs) (known_ips history ips)

pub known_usable : (race : Race) (known : List Known) → known ≡ map (known_of race.history) (usable_addresses race) → list_all (λ (one : Known). is_usable one.ip) known ≡ true
known_usable race known is =
    ap (list_all (λ (one : Known). is_usable one.ip)) (is ∙ ap (map (known_of race.history)) (sym (all_parts race)))
    ∙ list_all-map (λ (one : Known). is_usable one.ip) (known_of race.history) (parts_of race true true)
    ∙ parts-usable race true true
