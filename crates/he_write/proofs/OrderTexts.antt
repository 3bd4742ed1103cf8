-- What an order is of, and how it is written, place by place.
use Rattle.std.proofs.Common.{◌≡◌, ℕ, ◌+◌, ◌<◌, map, decimal, codes, refl, List, [], ◌∷◌, ◌++◌, Option, Some, None, option_map, length, take, get_or, sym, ◌∙◌, ap, arith, append_assoc}
use Rattle.std.proofs.lemmas.List.{append-nil, take_more, length-take-le}
use Rattle.he_addr.specs.declared.ip.Ip.{Ip}
use Rattle.he_plan.specs.Attempts.{order}
use Rattle.he_timeline.specs.Race.{Race, race_input, usable_addresses}
use Rattle.he_select.specs.declared.policy.Row.{Row}
use Rattle.he_select.specs.declared.host.Source.{Source}
use Rattle.he_select.specs.declared.attributes.DestinationAttributes.{DestinationAttributes}
use Rattle.he_select.specs.LabelledRules.{labelled_of}
use Rattle.he_select.specs.Selection.{SelectionInput, source_of}
use Rattle.he_select.specs.Attributes.{attributes_of}
use Rattle.he_addr.specs.Printing.{printed}
use Rattle.he_write.specs.Orders.{from_text, order_line, order_lines}
use Rattle.he_write.specs.Writing.{source_ip_text, attributes_line, attributes_lines}
use Rattle.he_write.specs.Written.{written_line}

plus_zero : (n : ℕ) → n + 0 ≡ n
plus_zero n = omega arith

-- one place more
places_more : (place : ℕ) (sorted : List DestinationAttributes) (last : DestinationAttributes)
    → attributes_lines place (sorted ++ last ∷ []) ≡ attributes_lines place sorted ++ attributes_line (place + length sorted) last
places_more place [] last = append-nil (attributes_line place last) ∙ ap (λ (n : ℕ). attributes_line n last) (sym (plus_zero place))
places_more place (first ∷ sorted) last =
    let next : (place + 1) + length sorted ≡ place + length (first ∷ sorted) = omega arith in
    ap (λ text. attributes_line place first ++ text) (places_more (place + 1) sorted last)
    ∙ sym (append_assoc (attributes_line place first) (attributes_lines (place + 1) sorted) (attributes_line ((place + 1) + length sorted) last))
    ∙ ap (λ (n : ℕ). (attributes_line place first ++ attributes_lines (place + 1) sorted) ++ attributes_line n last) next

length_up_to : (n : ℕ) (ips : List DestinationAttributes) → n < length ips → 0 + length (take n ips) ≡ n
length_up_to n ips below = let all : length (take n ips) ≡ n = length-take-le n ips (omega (arith, below)) in omega (arith, all)

-- the line of the next place is written behind those of the places before it
pub place_written : (sorted : List DestinationAttributes) (place : ℕ) (default : DestinationAttributes) (old out new : List ℕ) → place < length sorted
    → out ≡ old ++ attributes_lines 0 (take place sorted) → new ≡ out ++ attributes_line place (get_or sorted place default)
    → new ≡ old ++ attributes_lines 0 (take (place + 1) sorted)
place_written sorted place default old out new below before after =
    let last = get_or sorted place default in
    let lines : attributes_lines 0 (take (place + 1) sorted) ≡ attributes_lines 0 (take place sorted) ++ attributes_line place last =
    ap (attributes_lines 0) (take_more sorted place default below)
    ∙ places_more 0 (take place sorted) last
    ∙ ap (λ (n : ℕ). attributes_lines 0 (take place sorted) ++ attributes_line n last) (length_up_to place sorted below) in
    after
    ∙ ap (λ text. text ++ attributes_line place last) before
    ∙ append_assoc old (attributes_lines 0 (take place sorted)) (attributes_line place last)
    ∙ ap (λ text. old ++ text) (sym lines)

source_text_is : (rows : List Row) (source : Option Source) → source_ip_text (option_map (λ labelled. labelled.source.ip) (option_map (labelled_of rows) source)) ≡ from_text source
source_text_is rows None = refl
source_text_is rows (Some source) = refl

-- the lines of addresses with the sources that the host uses are those of the order
ordered_lines : (input : SelectionInput) (place : ℕ) (ips : List Ip) → attributes_lines place (map (attributes_of input) ips) ≡ order_lines input place ips
ordered_lines input place [] = refl
ordered_lines input place (ip ∷ ips) =
    ap (λ source. written_line (decimal place ∷ printed ip ∷ codes "from" ∷ source ∷ []) ++ attributes_lines (place + 1) (map (attributes_of input) ips)) (source_text_is input.rows (source_of input ip))
    ∙ ap (λ text. order_line input place ip ++ text) (ordered_lines input (place + 1) ips)

-- the lines of the race's own order
pub order_written : (race : Race) (sorted : List DestinationAttributes) (old new : List ℕ)
    → sorted ≡ map (attributes_of (race_input race)) (order race (usable_addresses race))
    → new ≡ old ++ attributes_lines 0 sorted
    → new ≡ old ++ order_lines (race_input race) 0 (order race (usable_addresses race))
order_written race sorted old new of_sorted written =
    written
    ∙ ap (λ lines. old ++ attributes_lines 0 lines) of_sorted
    ∙ ap (λ text. old ++ text) (ordered_lines (race_input race) 0 (order race (usable_addresses race)))
