-- What the code computes of addresses is what the rules look at of them.
use Rattle.std.proofs.Common.{◌≡◌, ℕ, ◌+◌, List, [], ◌∷◌, map, refl, sym, ◌∙◌, ap}
use Rattle.std.specs.Prelude.{Option, None, Some, option_map, option_and_then, ◌&&◌}
use Rattle.std.specs.List.{list_all}
use Rattle.he_addr.specs.declared.ip.Ip.{Ip}
use Rattle.he_select.specs.declared.host.Source.{Source}
use Rattle.he_select.specs.declared.host.Route.{Route}
use Rattle.he_select.specs.declared.known.Known.{Known}
use Rattle.he_select.specs.declared.policy.Row.{Row}
use Rattle.he_select.specs.declared.ranking.Key.{Key}
use Rattle.he_select.specs.declared.selection.LabelledSource.{LabelledSource}
use Rattle.he_select.specs.declared.attributes.DestinationAttributes.{DestinationAttributes}
use Rattle.he_select.specs.DestinationKeys.{destination_key, keys_of}
use Rattle.he_select.specs.HostFaults.{is_sound_source}
use Rattle.he_select.specs.LabelledRules.{admits, is_better_labelled, labelled_of}
use Rattle.he_select.specs.Preference.{members_from}
use Rattle.he_select.specs.Selection.{SelectionInput, route_of, source_of}
use Rattle.he_select.specs.Attributes.{chosen_over, attributes_from, attributes_of, attributes_with, told_of}
use Rattle.he_select.specs.Tables.{label_of}
use Rattle.he_select.specs.Walking.{walk_fitting}
use Rattle.he_select.proofs.KnownLists.{attributes_told}
use Rattle.he_select.proofs.Sources.{destined, no_source, source_walked}

-- the source that the code chooses is the source, with what the rules look at of it
chosen_is : (input : SelectionInput) (ip : Ip)
    → chosen_over (route_of input ip) (map (labelled_of input.rows) input.sources) ip (label_of input.rows ip) ≡ option_map (labelled_of input.rows) (source_of input ip)
unfolding chosen_over
chosen_is input ip = by_route (route_of input ip) refl
  where
    find : Route → Option LabelledSource
    find route = walk_fitting (admits (destined input ip route)) (is_better_labelled (destined input ip route)) None (map (labelled_of input.rows) input.sources)

    by_route : (route : Option Route) → route_of input ip ≡ route → option_and_then find (route_of input ip) ≡ option_map (labelled_of input.rows) (source_of input ip)
    by_route None e = ap (option_and_then find) e ∙ ap (option_map (labelled_of input.rows)) (sym (no_source input ip e))
    by_route (Some route) e = ap (option_and_then find) e ∙ source_walked input ip route e

attributes_are : (input : SelectionInput) (ip : Ip) → attributes_from input.rows input.routes (map (labelled_of input.rows) input.sources) (told_of input.known) ip ≡ attributes_of input ip
attributes_are input ip =
    ap (λ source. attributes_with input.rows (route_of input ip) source (told_of input.known) ip) (chosen_is input ip)
    ∙ attributes_told input.rows (route_of input ip) (option_map (labelled_of input.rows) (source_of input ip)) input.known ip

pub labelled_sound : (rows : List Row) (sources : List Source) → list_all is_sound_source sources ≡ list_all (λ labelled. is_sound_source labelled.source) (map (labelled_of rows) sources)
labelled_sound rows [] = refl
labelled_sound rows (source ∷ sources) = ap (λ t. is_sound_source source && t) (labelled_sound rows sources)

-- the all_attributes that the code makes of a list, by the labels that it took before
pub all_attributes_are : (input : SelectionInput) (ips : List Ip) (labelled : List LabelledSource) (told : List Known) (all_attributes : List DestinationAttributes)
    → labelled ≡ map (labelled_of input.rows) input.sources → told ≡ told_of input.known → all_attributes ≡ map (attributes_from input.rows input.routes labelled told) ips
    → all_attributes ≡ map (attributes_of input) ips
all_attributes_are input ips labelled told all_attributes by_label by_told is =
    is ∙ ap (λ t. map (attributes_from input.rows input.routes labelled t) ips) by_told
    ∙ ap (λ l. map (attributes_from input.rows input.routes l (told_of input.known)) ips) by_label ∙ each_made ips
  where
    each_made : (some : List Ip) → map (attributes_from input.rows input.routes (map (labelled_of input.rows) input.sources) (told_of input.known)) some ≡ map (attributes_of input) some
    each_made [] = refl
    each_made (ip ∷ more) =
        ap (λ s. s ∷ map (attributes_from input.rows input.routes (map (labelled_of input.rows) input.sources) (told_of input.known)) more) (attributes_are input ip)
        ∙ ap (λ l. attributes_of input ip ∷ l) (each_made more)

keys_counted : (input : SelectionInput) (place : ℕ) (ips : List Ip) → keys_of place (map (attributes_of input) ips) ≡ map (destination_key input) (members_from place ips)
unfolding destination_key
keys_counted input place [] = refl
keys_counted input place (ip ∷ ips) = ap (λ l. destination_key input (record { ip = ip; place = place }) ∷ l) (keys_counted input (place + 1) ips)

-- and their keys
pub all_keys : (input : SelectionInput) (ips : List Ip) (all_attributes : List DestinationAttributes) (keys : List Key)
    → all_attributes ≡ map (attributes_of input) ips → keys ≡ keys_of 0 all_attributes → keys ≡ map (destination_key input) (members_from 0 ips)
all_keys input ips all_attributes keys made is = is ∙ ap (keys_of 0) made ∙ keys_counted input 0 ips
