-- A setting is taken as its checks say, and the settings that the lines give are settings.
use Rattle.std.proofs.Common.{◌≡◌, ℕ, ltb, ◌≤◌, ◌||◌, Bool, true, false, cond, List, [], ◌∷◌, ◌++◌, Option, Some, None, Result, Ok, Err, refl, sym, ◌∙◌, ap, subst, arith}
use Rattle.std.specs.Prelude.{is_some, unwrap_or}
use Rattle.std.specs.List.{filter_map}
use Rattle.std.proofs.lemmas.Bool.{le-ltb}
use Rattle.he_addr.specs.declared.ip.Ip.{Ip}
use Rattle.he_timeline.specs.declared.limits.TheConstants.{MAX_RESOLUTION, MIN_ATTEMPT, MAX_ATTEMPT, MIN_COUNT, MAX_COUNT, MIN_LIMIT, MAX_LIMIT, MIN_FLOOR, DEFAULT_RESOLUTION, DEFAULT_ATTEMPT, DEFAULT_COUNT, DEFAULT_LIMIT}
use Rattle.he_timeline.specs.declared.settings.Range.TheVariants as ranges
use Rattle.he_timeline.specs.Settings.{SettingValues}
use Rattle.he_select.specs.declared.policy.Row.{Row}
use Rattle.he_select.specs.declared.host.Source.{Source}
use Rattle.he_select.specs.declared.host.Route.{Route}
use Rattle.he_reading.specs.declared.draft.GivenSettings.{GivenSettings}
use Rattle.he_words.specs.declared.fault.TextKind.{TextKind}
use Rattle.he_words.specs.declared.fault.TextKind.TheVariants as kinds
use Rattle.he_words.specs.declared.words.Name.{Name}
use Rattle.he_words.specs.declared.words.Name.TheVariants.{Resolution, Attempt, Count, Limit, Floor}
use Rattle.he_words.specs.declared.words.Word.{Word}
use Rattle.he_words.specs.declared.words.Word.TheVariants as words
use Rattle.he_reading.specs.Faults.{first_fault, test, wrong_bounds, repeated, is_above, floor_is_above}
use Rattle.he_reading.specs.Forms.{◌>>=◌, setting_in, row_in, host_source_in, host_route_in, said_by}
use Rattle.he_words.specs.Words.{least_value, most_value, is_head_word}
use Rattle.he_reading.specs.Reading.{once, put, ranged, floored, settings_from}
use Rattle.he_reading.specs.Said.{Said, Setting, PolicyRow, HostSource, HostRoute, same_name, setting_said, at_front, setting_given, settings_given}
use Rattle.he_reading.proofs.FormFacts.{setting_ok}
use Rattle.he_reading.proofs.Results.{bind_ok}
use Rattle.he_reading.proofs.SaidLaws.{one_more, first_more, setting_kept, IsQuiet, quiet_more}
use Rattle.he_reading.proofs.ToldLaws.{outcome}

-- the settings that were given
abbrev pub made : Option ℕ → Option ℕ → Option ℕ → Option ℕ → Option ℕ → GivenSettings
made r a c l f = record { resolution = r; attempt = a; count = c; limit = l; floor = f }

abbrev pub given_of : List Said → GivenSettings
given_of said = made (setting_given Resolution said) (setting_given Attempt said) (setting_given Count said) (setting_given Limit said) (setting_given Floor said)

abbrev pub judged_setting : List Said → Said → Result GivenSettings TextKind
judged_setting said s = outcome (first_fault (wrong_bounds said s ∷ repeated said s ∷ [])) (given_of (said ++ s ∷ []))

pub given_same : (r r' a a' c c' l l' f f' : Option ℕ) → r ≡ r' → a ≡ a' → c ≡ c' → l ≡ l' → f ≡ f' → made r a c l f ≡ made r' a' c' l' f'
given_same r r' a a' c c' l l' f f' er ea ec el ef =
    ap (λ x. made x a c l f) er ∙ ap (λ x. made r' x c l f) ea ∙ ap (λ x. made r' a' x l f) ec ∙ ap (λ x. made r' a' c' x f) el ∙ ap (made r' a' c' l') ef

setting_new : (name : Name) (said : List Said) (value : ℕ) → same_name name name ≡ true → setting_given name said ≡ None → setting_given name (said ++ Setting name value ∷ []) ≡ Some value
setting_new name said value same none =
    ap at_front (one_more (setting_said name) said (Setting name value) value (ap (λ b. cond b (Some value) None) same)) ∙ first_more (filter_map (setting_said name) said) value none

-- one more setting, where there is none of its name yet
put_one : (before : Option ℕ) (value : ℕ) (with_value : Option ℕ → GivenSettings) (after : GivenSettings) → (before ≡ None → with_value (Some value) ≡ after)
    → (once before value >>= λ (more : Option ℕ). Ok (with_value more)) ≡ outcome (first_fault (None ∷ test (is_some before) kinds.Repeated ∷ [])) after
put_one None value with_value after same = ap Ok (same refl)
put_one (Some x) value with_value after same = refl

pub put_agrees : (name : Name) (value : ℕ) (said : List Said) → put name value (given_of said) ≡ judged_setting said (Setting name value)
unfolding put
put_agrees Resolution value said = put_one (setting_given Resolution said) value (λ more. record (given_of said) { resolution = more }) (given_of (said ++ Setting Resolution value ∷ []))
    (λ none. sym (given_same _ _ _ _ _ _ _ _ _ _ (setting_new Resolution said value refl none) (setting_kept Attempt said (Setting Resolution value) refl) (setting_kept Count said (Setting Resolution value) refl) (setting_kept Limit said (Setting Resolution value) refl) (setting_kept Floor said (Setting Resolution value) refl)))
put_agrees Attempt value said = put_one (setting_given Attempt said) value (λ more. record (given_of said) { attempt = more }) (given_of (said ++ Setting Attempt value ∷ []))
    (λ none. sym (given_same _ _ _ _ _ _ _ _ _ _ (setting_kept Resolution said (Setting Attempt value) refl) (setting_new Attempt said value refl none) (setting_kept Count said (Setting Attempt value) refl) (setting_kept Limit said (Setting Attempt value) refl) (setting_kept Floor said (Setting Attempt value) refl)))
put_agrees Count value said = put_one (setting_given Count said) value (λ more. record (given_of said) { count = more }) (given_of (said ++ Setting Count value ∷ []))
    (λ none. sym (given_same _ _ _ _ _ _ _ _ _ _ (setting_kept Resolution said (Setting Count value) refl) (setting_kept Attempt said (Setting Count value) refl) (setting_new Count said value refl none) (setting_kept Limit said (Setting Count value) refl) (setting_kept Floor said (Setting Count value) refl)))
put_agrees Limit value said = put_one (setting_given Limit said) value (λ more. record (given_of said) { limit = more }) (given_of (said ++ Setting Limit value ∷ []))
    (λ none. sym (given_same _ _ _ _ _ _ _ _ _ _ (setting_kept Resolution said (Setting Limit value) refl) (setting_kept Attempt said (Setting Limit value) refl) (setting_kept Count said (Setting Limit value) refl) (setting_new Limit said value refl none) (setting_kept Floor said (Setting Limit value) refl)))
put_agrees Floor value said = put_one (setting_given Floor said) value (λ more. record (given_of said) { floor = more }) (given_of (said ++ Setting Floor value ∷ []))
    (λ none. sym (given_same _ _ _ _ _ _ _ _ _ _ (setting_kept Resolution said (Setting Floor value) refl) (setting_kept Attempt said (Setting Floor value) refl) (setting_kept Count said (Setting Floor value) refl) (setting_kept Limit said (Setting Floor value) refl) (setting_new Floor said value refl none)))

-- what gives no setting leaves them as they are
pub given_kept : (said : List Said) (s : Said) → ((name : Name) → setting_said name s ≡ None) → given_of (said ++ s ∷ []) ≡ given_of said
given_kept said s none = given_same _ _ _ _ _ _ _ _ _ _
    (setting_kept Resolution said s (none Resolution)) (setting_kept Attempt said s (none Attempt)) (setting_kept Count said s (none Count)) (setting_kept Limit said s (none Limit)) (setting_kept Floor said s (none Floor))

-- each setting that is given is in its range
abbrev pub default_of : Name → ℕ
default_of Resolution = DEFAULT_RESOLUTION
default_of Attempt = DEFAULT_ATTEMPT
default_of Count = DEFAULT_COUNT
default_of Limit = DEFAULT_LIMIT
default_of Floor = MIN_FLOOR

pub record Fits (name : Name) (given : Option ℕ) : Type 0 where
  pub least : least_value name ≤ unwrap_or given (default_of name)
  pub most : unwrap_or given (default_of name) ≤ most_value name

abbrev pub AllFit : List Said → Type 0
AllFit said = (name : Name) → Fits name (setting_given name said)

pub none_fits : (name : Name) → Fits name None
none_fits Resolution = record { least = omega arith; most = omega arith }
none_fits Attempt = record { least = omega arith; most = omega arith }
none_fits Count = record { least = omega arith; most = omega arith }
none_fits Limit = record { least = omega arith; most = omega arith }
none_fits Floor = record { least = omega arith; most = omega arith }

checked : (b1 b2 b3 b4 b5 b6 b7 : Bool) (settings : SettingValues) → b1 ≡ false → b2 ≡ false → b3 ≡ false → b4 ≡ false → b5 ≡ false → b6 ≡ false → b7 ≡ false
    → ranged (cond b1 (Err ranges.Resolution) (cond (b2 || b3) (Err ranges.Attempt) (cond (b4 || b5) (Err ranges.Count) (cond (b6 || b7) (Err ranges.Limit) (Ok settings))))) ≡ Ok settings
checked b1 b2 b3 b4 b5 b6 b7 settings h1 h2 h3 h4 h5 h6 h7 = rw (h1, h2, h3, h4, h5, h6, h7) refl

abbrev without_floor : List Said → SettingValues
without_floor said = record (settings_given said) { floor = None }

floor_taken : (settings : SettingValues) (floor : Option ℕ) → Fits Floor floor → is_above floor settings.attempt ≡ false → floored floor (record settings { floor = None }) ≡ Ok (record settings { floor = floor })
floor_taken settings None fit below = refl
floor_taken settings (Some floor) fit below = by_tests (ltb floor MIN_FLOOR) (ltb settings.attempt floor) (le-ltb floor MIN_FLOOR fit.least) below
  where
    by_tests : (b1 b2 : Bool) → b1 ≡ false → b2 ≡ false → ranged (cond (b1 || b2) (Err ranges.Floor) (Ok (record settings { floor = Some floor }))) ≡ Ok (record settings { floor = Some floor })
    by_tests b1 b2 h1 h2 = rw (h1, h2) refl

pub settings_agree : (said : List Said) → AllFit said → floor_is_above (settings_given said) ≡ false → settings_from (given_of said) ≡ Ok (settings_given said)
unfolding settings_from
settings_agree said fit below =
    ap (λ r. r >>= floored (setting_given Floor said)) (checked _ _ _ _ _ _ _ (without_floor said)
    (le-ltb MAX_RESOLUTION _ (fit Resolution).most)
    (le-ltb _ MIN_ATTEMPT (fit Attempt).least) (le-ltb MAX_ATTEMPT _ (fit Attempt).most)
    (le-ltb _ MIN_COUNT (fit Count).least) (le-ltb MAX_COUNT _ (fit Count).most)
    (le-ltb _ MIN_LIMIT (fit Limit).least) (le-ltb MAX_LIMIT _ (fit Limit).most))
    ∙ floor_taken (settings_given said) (setting_given Floor said) (fit Floor) below

first_or : (xs : List ℕ) (value : ℕ) (name : Name) → Fits name (at_front xs) → Fits name (Some value) → Fits name (at_front (xs ++ value ∷ []))
first_or [] value name before new = new
first_or (x ∷ xs) value name before new = before

-- a line of the first groups tells nothing that happens, and says no setting out of its range
pub record IsHead (said : List Said) (s : Said) : Type 0 where
  pub quiet : IsQuiet said → IsQuiet (said ++ s ∷ [])
  pub fit : AllFit said → AllFit (said ++ s ∷ [])

fits_here : (name : Name) (value : ℕ) (said : List Said) → same_name name name ≡ true → Fits name (setting_given name said) → Fits name (Some value) → Fits name (setting_given name (said ++ Setting name value ∷ []))
fits_here name value said same before new =
    let P : List ℕ → Type 0 = λ xs. Fits name (at_front xs) in
    subst P (sym (one_more (setting_said name) said (Setting name value) value (ap (λ b. cond b (Some value) None) same)))
    (first_or (filter_map (setting_said name) said) value name before new)

fits_kept : (name : Name) (said : List Said) (s : Said) → setting_said name s ≡ None → Fits name (setting_given name said) → Fits name (setting_given name (said ++ s ∷ []))
fits_kept name said s none before = let P : Option ℕ → Type 0 = Fits name in subst P (sym (setting_kept name said s none)) before

setting_head : (name : Name) (value : ℕ) (said : List Said) → least_value name ≤ value → value ≤ most_value name → AllFit said → AllFit (said ++ Setting name value ∷ [])
setting_head Resolution value said least most fit Resolution = fits_here Resolution value said refl (fit Resolution) (record { least = least; most = most })
setting_head Resolution value said least most fit Attempt = fits_kept Attempt said (Setting Resolution value) refl (fit Attempt)
setting_head Resolution value said least most fit Count = fits_kept Count said (Setting Resolution value) refl (fit Count)
setting_head Resolution value said least most fit Limit = fits_kept Limit said (Setting Resolution value) refl (fit Limit)
setting_head Resolution value said least most fit Floor = fits_kept Floor said (Setting Resolution value) refl (fit Floor)
setting_head Attempt value said least most fit Resolution = fits_kept Resolution said (Setting Attempt value) refl (fit Resolution)
setting_head Attempt value said least most fit Attempt = fits_here Attempt value said refl (fit Attempt) (record { least = least; most = most })
setting_head Attempt value said least most fit Count = fits_kept Count said (Setting Attempt value) refl (fit Count)
setting_head Attempt value said least most fit Limit = fits_kept Limit said (Setting Attempt value) refl (fit Limit)
setting_head Attempt value said least most fit Floor = fits_kept Floor said (Setting Attempt value) refl (fit Floor)
setting_head Count value said least most fit Resolution = fits_kept Resolution said (Setting Count value) refl (fit Resolution)
setting_head Count value said least most fit Attempt = fits_kept Attempt said (Setting Count value) refl (fit Attempt)
setting_head Count value said least most fit Count = fits_here Count value said refl (fit Count) (record { least = least; most = most })
setting_head Count value said least most fit Limit = fits_kept Limit said (Setting Count value) refl (fit Limit)
setting_head Count value said least most fit Floor = fits_kept Floor said (Setting Count value) refl (fit Floor)
setting_head Limit value said least most fit Resolution = fits_kept Resolution said (Setting Limit value) refl (fit Resolution)
setting_head Limit value said least most fit Attempt = fits_kept Attempt said (Setting Limit value) refl (fit Attempt)
setting_head Limit value said least most fit Count = fits_kept Count said (Setting Limit value) refl (fit Count)
setting_head Limit value said least most fit Limit = fits_here Limit value said refl (fit Limit) (record { least = least; most = most })
setting_head Limit value said least most fit Floor = fits_kept Floor said (Setting Limit value) refl (fit Floor)
setting_head Floor value said least most fit Resolution = fits_kept Resolution said (Setting Floor value) refl (fit Resolution)
setting_head Floor value said least most fit Attempt = fits_kept Attempt said (Setting Floor value) refl (fit Attempt)
setting_head Floor value said least most fit Count = fits_kept Count said (Setting Floor value) refl (fit Count)
setting_head Floor value said least most fit Limit = fits_kept Limit said (Setting Floor value) refl (fit Limit)
setting_head Floor value said least most fit Floor = fits_here Floor value said refl (fit Floor) (record { least = least; most = most })

row_head : (row : Row) (said : List Said) → IsHead said (PolicyRow row)
row_head row said = record {
  quiet = λ quiet. quiet_more said (PolicyRow row) quiet refl refl refl refl refl refl;
  fit = λ fit name. fits_kept name said (PolicyRow row) refl (fit name);
}

source_head : (source : Source) (said : List Said) → IsHead said (HostSource source)
source_head source said = record {
  quiet = λ quiet. quiet_more said (HostSource source) quiet refl refl refl refl refl refl;
  fit = λ fit name. fits_kept name said (HostSource source) refl (fit name);
}

route_head : (route : Route) (said : List Said) → IsHead said (HostRoute route)
route_head route said = record {
  quiet = λ quiet. quiet_more said (HostRoute route) quiet refl refl refl refl refl refl;
  fit = λ fit name. fits_kept name said (HostRoute route) refl (fit name);
}

pub is_head : (known : Ip → Bool) (word : Word) (tokens : List (List ℕ)) (said : List Said) (s : Said) → is_head_word word ≡ true → said_by known word tokens ≡ Ok s → IsHead said s
unfolding said_by
is_head known words.Set tokens said s h e =
    let read = bind_ok (setting_in tokens) (λ setting. Ok (Setting setting.0 setting.1)) s e in
    let is = setting_ok tokens read.0 read.1 in
    let same : Setting read.0.0 read.0.1 ≡ s = cc (read.2) in
    let P : Said → Type 0 = IsHead said in
    subst P same (record {
      quiet = λ quiet. quiet_more said (Setting read.0.0 read.0.1) quiet refl refl refl refl refl refl;
      fit = setting_head read.0.0 read.0.1 said is.value_is.least is.value_is.most;
    })
is_head known words.Policy tokens said s h e =
    let read = bind_ok (row_in tokens) (λ row. Ok (PolicyRow row)) s e in
    let same : PolicyRow read.0 ≡ s = cc (read.2) in
    let P : Said → Type 0 = IsHead said in subst P same (row_head read.0 said)
is_head known words.Source tokens said s h e =
    let read = bind_ok (host_source_in tokens) (λ source. Ok (HostSource source)) s e in
    let same : HostSource read.0 ≡ s = cc (read.2) in
    let P : Said → Type 0 = IsHead said in subst P same (source_head read.0 said)
is_head known words.Route tokens said s h e =
    let read = bind_ok (host_route_in tokens) (λ route. Ok (HostRoute route)) s e in
    let same : HostRoute read.0 ≡ s = cc (read.2) in
    let P : Said → Type 0 = IsHead said in subst P same (route_head read.0 said)
is_head known words.Aaaa tokens said s h e = cc
is_head known words.A tokens said s h e = cc
is_head known words.Rtt tokens said s h e = cc
is_head known words.Used tokens said s h e = cc
is_head known words.Connect tokens said s h e = cc
is_head known words.Pause tokens said s h e = cc
is_head known words.End tokens said s h e = cc
