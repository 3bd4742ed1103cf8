-- What one line more gives.
use Rattle.std.proofs.Common.{◌≡◌, ℕ, List, [], ◌∷◌, ◌++◌, Option, Some, None, refl, ◌∙◌, ap}
use Rattle.std.specs.List.{filter_map, cons_option}
use Rattle.std.specs.Prelude.{unwrap_or}
use Rattle.he_timeline.specs.declared.limits.TheConstants.{DEFAULT_RESOLUTION, DEFAULT_ATTEMPT, DEFAULT_COUNT, DEFAULT_LIMIT}
use Rattle.std.proofs.lemmas.List.{append-nil}
use Rattle.std.proofs.lemmas.List.Elements.{filter_map-append}
use Rattle.he_addr.specs.declared.ip.Family.{Family}
use Rattle.he_addr.specs.declared.ip.Family.TheVariants as families
use Rattle.he_addr.specs.declared.ip.Ip.{Ip}
use Rattle.he_timeline.specs.Building.{empty_race, with_answer, with_rtt, with_used, with_outcome, with_pause}
use Rattle.he_timeline.specs.declared.outcome.Outcome.{Outcome}
use Rattle.he_timeline.specs.Race.{History, Race, Reply, reply_of}
use Rattle.he_timeline.specs.Settings.{SettingValues}
use Rattle.he_select.specs.declared.policy.Row.{Row}
use Rattle.he_select.specs.declared.host.Source.{Source}
use Rattle.he_select.specs.declared.host.Route.{Route}
use Rattle.he_select.specs.Hosts.{HostLists}
use Rattle.he_words.specs.declared.words.Name.{Name}
use Rattle.he_words.specs.declared.words.Name.TheVariants.{Resolution, Attempt, Count, Limit, Floor}
use Rattle.he_reading.specs.Said.{Said, Answer, RoundTrip, UsedBefore, OutcomeOf, Paused, Ended, setting_said, row_said, source_said, route_said, answer_said, rtt_said, used_said, outcome_said, pause_said, at_front, setting_given, rows_given, sources_given, routes_given, answer_given, rtts_given, used_given, outcomes_given, pauses_given, settings_given, table_of_rows, host_given, history_given, race_of}

pub none_more : {X Y : Type 0} (h : X → Option Y) (xs : List X) (x : X) → h x ≡ None → filter_map h (xs ++ x ∷ []) ≡ filter_map h xs
none_more h xs x none = filter_map-append h xs (x ∷ []) ∙ ap (λ o. filter_map h xs ++ cons_option o []) none ∙ append-nil (filter_map h xs)

pub one_more : {X Y : Type 0} (h : X → Option Y) (xs : List X) (x : X) (y : Y) → h x ≡ Some y → filter_map h (xs ++ x ∷ []) ≡ filter_map h xs ++ y ∷ []
one_more h xs x y some = filter_map-append h xs (x ∷ []) ∙ ap (λ o. filter_map h xs ++ cons_option o []) some

pub first_more : {A : Type 0} (xs : List A) (y : A) → at_front xs ≡ None → at_front (xs ++ y ∷ []) ≡ Some y
first_more [] y h = refl
first_more (x ∷ xs) y h = cc

abbrev made_settings : ℕ → ℕ → ℕ → ℕ → Option ℕ → SettingValues
made_settings r a c l f = record { resolution = r; attempt = a; count = c; limit = l; floor = f }

settings_same : (r r' a a' c c' l l' : ℕ) (f f' : Option ℕ) → r ≡ r' → a ≡ a' → c ≡ c' → l ≡ l' → f ≡ f' → made_settings r a c l f ≡ made_settings r' a' c' l' f'
settings_same r r' a a' c c' l l' f f' er ea ec el ef =
    ap (λ x. made_settings x a c l f) er ∙ ap (λ x. made_settings r' x c l f) ea ∙ ap (λ x. made_settings r' a' x l f) ec ∙ ap (λ x. made_settings r' a' c' x f) el
    ∙ ap (made_settings r' a' c' l') ef

abbrev made_host : List Source → List Route → HostLists
made_host sources routes = record { sources = sources; routes = routes }

abbrev made_history : List (Ip × ℕ) → List Ip → History
made_history rtts used = record { rtts = rtts; used = used }

history_same : (r r' : List (Ip × ℕ)) (u u' : List Ip) → r ≡ r' → u ≡ u' → made_history r u ≡ made_history r' u'
history_same r r' u u' er eu = ap (λ x. made_history x u) er ∙ ap (made_history r') eu

abbrev made : SettingValues → List Row → HostLists → Option Reply → Option Reply → History → List (Ip × Outcome) → List (ℕ × ℕ) → Race
made s t h aaaa a k o p = record { settings = s; policy = t; host = h; aaaa = aaaa; a = a; history = k; outcomes = o; pauses = p }

race_same : (s s' : SettingValues) (t t' : List Row) (h h' : HostLists) (aaaa aaaa' a a' : Option Reply) (k k' : History) (o o' : List (Ip × Outcome)) (p p' : List (ℕ × ℕ))
    → s ≡ s' → t ≡ t' → h ≡ h' → aaaa ≡ aaaa' → a ≡ a' → k ≡ k' → o ≡ o' → p ≡ p' → made s t h aaaa a k o p ≡ made s' t' h' aaaa' a' k' o' p'
race_same s s' t t' h h' aaaa aaaa' a a' k k' o o' p p' es et eh eaaaa ea ek eo ep =
    ap (λ x. made x t h aaaa a k o p) es ∙ ap (λ x. made s' x h aaaa a k o p) et ∙ ap (λ x. made s' t' x aaaa a k o p) eh
    ∙ ap (λ x. made s' t' h' x a k o p) eaaaa ∙ ap (λ x. made s' t' h' aaaa' x k o p) ea ∙ ap (λ x. made s' t' h' aaaa' a' x o p) ek
    ∙ ap (λ x. made s' t' h' aaaa' a' k' x p) eo ∙ ap (made s' t' h' aaaa' a' k' o') ep

pub setting_kept : (name : Name) (said : List Said) (s : Said) → setting_said name s ≡ None → setting_given name (said ++ s ∷ []) ≡ setting_given name said
setting_kept name said s none = ap at_front (none_more (setting_said name) said s none)

pub settings_kept : (said : List Said) (s : Said) → ((name : Name) → setting_said name s ≡ None) → settings_given (said ++ s ∷ []) ≡ settings_given said
settings_kept said s none = settings_same _ _ _ _ _ _ _ _ _ _
    (ap (λ o. unwrap_or o DEFAULT_RESOLUTION) (setting_kept Resolution said s (none Resolution)))
    (ap (λ o. unwrap_or o DEFAULT_ATTEMPT) (setting_kept Attempt said s (none Attempt)))
    (ap (λ o. unwrap_or o DEFAULT_COUNT) (setting_kept Count said s (none Count)))
    (ap (λ o. unwrap_or o DEFAULT_LIMIT) (setting_kept Limit said s (none Limit)))
    (setting_kept Floor said s (none Floor))

table_kept : (said : List Said) (s : Said) → row_said s ≡ None → table_of_rows (rows_given (said ++ s ∷ [])) ≡ table_of_rows (rows_given said)
table_kept said s none = ap table_of_rows (none_more row_said said s none)

host_kept : (said : List Said) (s : Said) → source_said s ≡ None → route_said s ≡ None → host_given (said ++ s ∷ []) ≡ host_given said
host_kept said s no_source no_route =
    ap (λ x. made_host x (routes_given (said ++ s ∷ []))) (none_more source_said said s no_source) ∙ ap (made_host (sources_given said)) (none_more route_said said s no_route)

answer_kept : (family : Family) (said : List Said) (s : Said) → answer_said family s ≡ None → answer_given family (said ++ s ∷ []) ≡ answer_given family said
answer_kept family said s none = ap at_front (none_more (answer_said family) said s none)

history_kept : (said : List Said) (s : Said) → rtt_said s ≡ None → used_said s ≡ None → history_given (said ++ s ∷ []) ≡ history_given said
history_kept said s no_rtt no_use = history_same _ _ _ _ (none_more rtt_said said s no_rtt) (none_more used_said said s no_use)

answer_new : (family : Family) (said : List Said) (s : Said) (reply : Reply) → answer_said family s ≡ Some reply → answer_given family said ≡ None → answer_given family (said ++ s ∷ []) ≡ Some reply
answer_new family said s reply some none = ap at_front (one_more (answer_said family) said s reply some) ∙ first_more (filter_map (answer_said family) said) reply none

pub race_answered : (family : Family) (said : List Said) (reply : Reply) → reply_of (race_of said) family ≡ None → race_of (said ++ Answer family reply ∷ []) ≡ with_answer (race_of said) family reply
unfolding race_of
race_answered families.V6 said reply none = race_same _ _ _ _ _ _ _ _ _ _ _ _ _ _ _ _
    (settings_kept said (Answer families.V6 reply) (λ name. refl))
    (table_kept said (Answer families.V6 reply) refl)
    (host_kept said (Answer families.V6 reply) refl refl)
    (answer_new families.V6 said (Answer families.V6 reply) reply refl none)
    (answer_kept families.V4 said (Answer families.V6 reply) refl)
    (history_kept said (Answer families.V6 reply) refl refl)
    (none_more outcome_said said (Answer families.V6 reply) refl)
    (none_more pause_said said (Answer families.V6 reply) refl)
race_answered families.V4 said reply none = race_same _ _ _ _ _ _ _ _ _ _ _ _ _ _ _ _
    (settings_kept said (Answer families.V4 reply) (λ name. refl))
    (table_kept said (Answer families.V4 reply) refl)
    (host_kept said (Answer families.V4 reply) refl refl)
    (answer_kept families.V6 said (Answer families.V4 reply) refl)
    (answer_new families.V4 said (Answer families.V4 reply) reply refl none)
    (history_kept said (Answer families.V4 reply) refl refl)
    (none_more outcome_said said (Answer families.V4 reply) refl)
    (none_more pause_said said (Answer families.V4 reply) refl)

pub race_timed : (said : List Said) (ip : Ip) (rtt : ℕ) → race_of (said ++ RoundTrip ip rtt ∷ []) ≡ with_rtt (race_of said) ip rtt
unfolding race_of
race_timed said ip rtt = race_same _ _ _ _ _ _ _ _ _ _ _ _ _ _ _ _
    (settings_kept said (RoundTrip ip rtt) (λ name. refl))
    (table_kept said (RoundTrip ip rtt) refl)
    (host_kept said (RoundTrip ip rtt) refl refl)
    (answer_kept families.V6 said (RoundTrip ip rtt) refl)
    (answer_kept families.V4 said (RoundTrip ip rtt) refl)
    (history_same _ _ _ _ (one_more rtt_said said (RoundTrip ip rtt) (ip, rtt) refl) (none_more used_said said (RoundTrip ip rtt) refl))
    (none_more outcome_said said (RoundTrip ip rtt) refl)
    (none_more pause_said said (RoundTrip ip rtt) refl)

pub race_used : (said : List Said) (ip : Ip) → race_of (said ++ UsedBefore ip ∷ []) ≡ with_used (race_of said) ip
unfolding race_of
race_used said ip = race_same _ _ _ _ _ _ _ _ _ _ _ _ _ _ _ _
    (settings_kept said (UsedBefore ip) (λ name. refl))
    (table_kept said (UsedBefore ip) refl)
    (host_kept said (UsedBefore ip) refl refl)
    (answer_kept families.V6 said (UsedBefore ip) refl)
    (answer_kept families.V4 said (UsedBefore ip) refl)
    (history_same _ _ _ _ (none_more rtt_said said (UsedBefore ip) refl) (one_more used_said said (UsedBefore ip) ip refl))
    (none_more outcome_said said (UsedBefore ip) refl)
    (none_more pause_said said (UsedBefore ip) refl)

pub race_told : (said : List Said) (ip : Ip) (outcome : Outcome) → race_of (said ++ OutcomeOf ip outcome ∷ []) ≡ with_outcome (race_of said) ip outcome
unfolding race_of
race_told said ip outcome = race_same _ _ _ _ _ _ _ _ _ _ _ _ _ _ _ _
    (settings_kept said (OutcomeOf ip outcome) (λ name. refl))
    (table_kept said (OutcomeOf ip outcome) refl)
    (host_kept said (OutcomeOf ip outcome) refl refl)
    (answer_kept families.V6 said (OutcomeOf ip outcome) refl)
    (answer_kept families.V4 said (OutcomeOf ip outcome) refl)
    (history_kept said (OutcomeOf ip outcome) refl refl)
    (one_more outcome_said said (OutcomeOf ip outcome) (ip, outcome) refl)
    (none_more pause_said said (OutcomeOf ip outcome) refl)

pub race_paused : (said : List Said) (from to : ℕ) → race_of (said ++ Paused from to ∷ []) ≡ with_pause (race_of said) from to
unfolding race_of
race_paused said from to = race_same _ _ _ _ _ _ _ _ _ _ _ _ _ _ _ _
    (settings_kept said (Paused from to) (λ name. refl))
    (table_kept said (Paused from to) refl)
    (host_kept said (Paused from to) refl refl)
    (answer_kept families.V6 said (Paused from to) refl)
    (answer_kept families.V4 said (Paused from to) refl)
    (history_kept said (Paused from to) refl refl)
    (none_more outcome_said said (Paused from to) refl)
    (one_more pause_said said (Paused from to) (from, to) refl)

pub race_ended : (said : List Said) → race_of (said ++ Ended ∷ []) ≡ race_of said
unfolding race_of
race_ended said = race_same _ _ _ _ _ _ _ _ _ _ _ _ _ _ _ _
    (settings_kept said Ended (λ name. refl))
    (table_kept said Ended refl)
    (host_kept said Ended refl refl)
    (answer_kept families.V6 said Ended refl)
    (answer_kept families.V4 said Ended refl)
    (history_kept said Ended refl refl)
    (none_more outcome_said said Ended refl)
    (none_more pause_said said Ended refl)

-- nothing told: no answer, round trip time, use, outcome or pause
pub record IsQuiet (said : List Said) : Type 0 where
  pub aaaa : answer_given families.V6 said ≡ None
  pub a : answer_given families.V4 said ≡ None
  pub rtts : rtts_given said ≡ []
  pub used : used_given said ≡ []
  pub outcomes : outcomes_given said ≡ []
  pub pauses : pauses_given said ≡ []

pub quiet_race : (said : List Said) → IsQuiet said → race_of said ≡ empty_race (settings_given said) (table_of_rows (rows_given said)) (host_given said)
unfolding race_of
quiet_race said quiet = race_same _ _ _ _ _ _ _ _ _ _ _ _ _ _ _ _ refl refl refl quiet.aaaa quiet.a (history_same _ _ _ _ quiet.rtts quiet.used) quiet.outcomes quiet.pauses

pub quiet_more : (said : List Said) (s : Said) → IsQuiet said → answer_said families.V6 s ≡ None → answer_said families.V4 s ≡ None → rtt_said s ≡ None → used_said s ≡ None → outcome_said s ≡ None → pause_said s ≡ None → IsQuiet (said ++ s ∷ [])
quiet_more said s quiet h6 h4 hr hu ho hp = record {
  aaaa = answer_kept families.V6 said s h6 ∙ quiet.aaaa;
  a = answer_kept families.V4 said s h4 ∙ quiet.a;
  rtts = none_more rtt_said said s hr ∙ quiet.rtts;
  used = none_more used_said said s hu ∙ quiet.used;
  outcomes = none_more outcome_said said s ho ∙ quiet.outcomes;
  pauses = none_more pause_said said s hp ∙ quiet.pauses;
}
