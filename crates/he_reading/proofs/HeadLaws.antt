-- A line of the first groups is taken as its checks say, and what these lines give makes a race.
use Rattle.std.proofs.Common.{◌≡◌, ℕ, Bool, true, false, cond, List, [], ◌∷◌, ◌++◌, Option, Some, None, Result, Ok, Err, refl, sym, ◌∙◌, ap}
use Rattle.std.specs.Prelude.{option_map}
use Rattle.std.specs.List.{list_any}
use Rattle.std.specs.Option.{option_map_or}
use Rattle.he_addr.specs.declared.ip.Ip.{Ip}
use Rattle.he_select.specs.declared.policy.Row.{Row}
use Rattle.he_select.specs.declared.policy.PolicyFault.{PolicyFault}
use Rattle.he_select.specs.declared.host.Source.{Source}
use Rattle.he_select.specs.declared.host.Route.{Route}
use Rattle.he_select.specs.Hosts.{same_source, same_route}
use Rattle.he_select.specs.TableFaults.{table_fault}
use Rattle.he_select.specs.Tables.{same_row}
use Rattle.he_reading.specs.declared.draft.GivenSettings.{GivenSettings}
use Rattle.he_words.specs.declared.fault.TextKind.{TextKind}
use Rattle.he_words.specs.declared.fault.TextKind.TheVariants as kinds
use Rattle.he_words.specs.declared.words.Name.{Name}
use Rattle.he_words.specs.declared.words.Word.{Word}
use Rattle.he_words.specs.declared.words.Word.TheVariants as words
use Rattle.he_reading.specs.Faults.{first_fault, test, wrong_bounds, repeated, is_next, wrong_group}
use Rattle.he_reading.specs.Forms.{◌>>=◌, setting_in, row_in, host_source_in, host_route_in, said_by}
use Rattle.he_reading.specs.Reading.{HeadGiven, given_is_above, settled, add_setting, with_row, add_row, add_source, add_route, take_given}
use Rattle.he_words.specs.Words.{is_head_word}
use Rattle.he_reading.specs.Said.{Said, Setting, PolicyRow, HostSource, HostRoute, row_said, source_said, route_said, rows_given, sources_given, routes_given}
use Rattle.he_reading.proofs.GivenLaws.{given_of, given_kept, put_agrees}
use Rattle.he_reading.proofs.SaidLaws.{none_more, one_more}
use Rattle.he_reading.proofs.ToldLaws.{no_group, outcome}

abbrev made : GivenSettings → List Row → List Source → List Route → HeadGiven
made given rows sources routes = record { settings = given; rows = rows; sources = sources; routes = routes }

-- what the lines of the first groups gave
abbrev pub head_given : List Said → HeadGiven
head_given said = made (given_of said) (rows_given said) (sources_given said) (routes_given said)

-- the last three checks, and what is given with what was said
abbrev pub judged_head : List (List ℕ) → List Said → Said → Result HeadGiven TextKind
judged_head after said s = outcome (first_fault (wrong_bounds said s ∷ repeated said s ∷ wrong_group said after s ∷ [])) (head_given (said ++ s ∷ []))

head_same : (g g' : GivenSettings) (r r' : List Row) (s s' : List Source) (t t' : List Route) → g ≡ g' → r ≡ r' → s ≡ s' → t ≡ t' → made g r s t ≡ made g' r' s' t'
head_same g g' r r' s s' t t' eg er es et =
    ap (λ x. made x r s t) eg ∙ ap (λ x. made g' x s t) er ∙ ap (λ x. made g' r' x t) es ∙ ap (made g' r' s') et

-- settings
setting_judged : (again more : Bool) (head final : HeadGiven) (given : GivenSettings) → record head { settings = given } ≡ final
    → ((outcome (first_fault (None ∷ test again kinds.Repeated ∷ [])) given >>= settled more) >>= λ (m : GivenSettings). Ok (record head { settings = m }))
    ≡ outcome (first_fault (None ∷ test again kinds.Repeated ∷ cond more None (test (given_is_above given) kinds.Range) ∷ [])) final
setting_judged true more head final given same = refl
setting_judged false true head final given same = ap Ok same
setting_judged false false head final given same = by_above (given_is_above given)
  where
    by_above : (above : Bool) → (cond above (Err kinds.Range) (Ok given) >>= λ (m : GivenSettings). Ok (record head { settings = m })) ≡ outcome (first_fault (None ∷ None ∷ test above kinds.Range ∷ [])) final
    by_above true = refl
    by_above false = ap Ok same

setting_agrees : (after : List (List ℕ)) (name : Name) (value : ℕ) (said : List Said) → add_setting (is_next words.Set after) name value (head_given said) ≡ judged_head after said (Setting name value)
unfolding add_setting
setting_agrees after name value said =
    ap (λ r. (r >>= settled (is_next words.Set after)) >>= λ (more : GivenSettings). Ok (record (head_given said) { settings = more })) (put_agrees name value said)
    ∙ setting_judged _ (is_next words.Set after) (head_given said) (head_given (said ++ Setting name value ∷ [])) (given_of (said ++ Setting name value ∷ []))
    (head_same _ _ _ _ _ _ _ _ refl (sym (none_more row_said said (Setting name value) refl)) (sym (none_more source_said said (Setting name value) refl)) (sym (none_more route_said said (Setting name value) refl)))

-- rows
row_judged : (again more : Bool) (fault : Option PolicyFault) (head final : HeadGiven) → head ≡ final
    → cond again (Err kinds.Repeated) (cond more (Ok head) (option_map_or Err (option_map kinds.Policy fault) (Ok head)))
    ≡ outcome (first_fault (None ∷ test again kinds.Repeated ∷ cond more None (option_map kinds.Policy fault) ∷ [])) final
row_judged true more fault head final same = refl
row_judged false true fault head final same = ap Ok same
row_judged false false None head final same = ap Ok same
row_judged false false (Some fault) head final same = refl

row_agrees : (after : List (List ℕ)) (row : Row) (said : List Said) → add_row (is_next words.Policy after) row (head_given said) ≡ judged_head after said (PolicyRow row)
unfolding add_row
row_agrees after row said =
    row_judged (list_any (same_row row) (rows_given said)) (is_next words.Policy after) (table_fault (rows_given said ++ row ∷ [])) (with_row row (head_given said)) (head_given (said ++ PolicyRow row ∷ []))
    (head_same _ _ _ _ _ _ _ _ (sym (given_kept said (PolicyRow row) (λ name. refl))) (sym (one_more row_said said (PolicyRow row) row refl)) (sym (none_more source_said said (PolicyRow row) refl)) (sym (none_more route_said said (PolicyRow row) refl)))

-- sources and routes
once_judged : (again : Bool) (head final : HeadGiven) → head ≡ final
    → cond again (Err kinds.Repeated) (Ok head) ≡ outcome (first_fault (None ∷ test again kinds.Repeated ∷ None ∷ [])) final
once_judged true head final same = refl
once_judged false head final same = ap Ok same

source_agrees : (after : List (List ℕ)) (source : Source) (said : List Said) → add_source source (head_given said) ≡ judged_head after said (HostSource source)
unfolding add_source
source_agrees after source said =
    once_judged (list_any (same_source source) (sources_given said)) (record (head_given said) { sources = sources_given said ++ source ∷ [] }) (head_given (said ++ HostSource source ∷ []))
    (head_same _ _ _ _ _ _ _ _ (sym (given_kept said (HostSource source) (λ name. refl))) (sym (none_more row_said said (HostSource source) refl)) (sym (one_more source_said said (HostSource source) source refl)) (sym (none_more route_said said (HostSource source) refl)))
    ∙ sym (no_group after said (HostSource source) (head_given (said ++ HostSource source ∷ [])) None (test (list_any (same_source source) (sources_given said)) kinds.Repeated) refl)

route_agrees : (after : List (List ℕ)) (route : Route) (said : List Said) → add_route route (head_given said) ≡ judged_head after said (HostRoute route)
unfolding add_route
route_agrees after route said =
    once_judged (list_any (same_route route) (routes_given said)) (record (head_given said) { routes = routes_given said ++ route ∷ [] }) (head_given (said ++ HostRoute route ∷ []))
    (head_same _ _ _ _ _ _ _ _ (sym (given_kept said (HostRoute route) (λ name. refl))) (sym (none_more row_said said (HostRoute route) refl)) (sym (none_more source_said said (HostRoute route) refl)) (sym (one_more route_said said (HostRoute route) route refl)))
    ∙ sym (no_group after said (HostRoute route) (head_given (said ++ HostRoute route ∷ [])) None (test (list_any (same_route route) (routes_given said)) kinds.Repeated) refl)

by_setting : (after : List (List ℕ)) (said : List Said) (read : Result (Name × ℕ) TextKind)
    → (read >>= λ setting. add_setting (is_next words.Set after) setting.0 setting.1 (head_given said)) ≡ ((read >>= λ setting. Ok (Setting setting.0 setting.1)) >>= judged_head after said)
by_setting after said (Err kind) = refl
by_setting after said (Ok setting) = setting_agrees after setting.0 setting.1 said

by_row : (after : List (List ℕ)) (said : List Said) (read : Result Row TextKind)
    → (read >>= λ row. add_row (is_next words.Policy after) row (head_given said)) ≡ ((read >>= λ row. Ok (PolicyRow row)) >>= judged_head after said)
by_row after said (Err kind) = refl
by_row after said (Ok row) = row_agrees after row said

by_source : (after : List (List ℕ)) (said : List Said) (read : Result Source TextKind)
    → (read >>= λ source. add_source source (head_given said)) ≡ ((read >>= λ source. Ok (HostSource source)) >>= judged_head after said)
by_source after said (Err kind) = refl
by_source after said (Ok source) = source_agrees after source said

by_route : (after : List (List ℕ)) (said : List Said) (read : Result Route TextKind)
    → (read >>= λ route. add_route route (head_given said)) ≡ ((read >>= λ route. Ok (HostRoute route)) >>= judged_head after said)
by_route after said (Err kind) = refl
by_route after said (Ok route) = route_agrees after route said

pub given_agrees : (known : Ip → Bool) (word : Word) (tokens : List (List ℕ)) (said : List Said) (after : List (List ℕ)) → is_head_word word ≡ true
    → take_given (is_next word after) word tokens (head_given said) ≡ (said_by known word tokens >>= judged_head after said)
unfolding take_given said_by
given_agrees known words.Set tokens said after h = by_setting after said (setting_in tokens)
given_agrees known words.Policy tokens said after h = by_row after said (row_in tokens)
given_agrees known words.Source tokens said after h = by_source after said (host_source_in tokens)
given_agrees known words.Route tokens said after h = by_route after said (host_route_in tokens)
given_agrees known words.Aaaa tokens said after h = cc
given_agrees known words.A tokens said after h = cc
given_agrees known words.Rtt tokens said after h = cc
given_agrees known words.Used tokens said after h = cc
given_agrees known words.Connect tokens said after h = cc
given_agrees known words.Pause tokens said after h = cc
given_agrees known words.End tokens said after h = cc
