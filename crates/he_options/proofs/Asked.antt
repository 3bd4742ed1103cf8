-- The settings that a line asks for.
use Rattle.std.proofs.Common.{◌≡◌, ◌∙◌, ◌≤◌, ◌<◌, ◌+◌, ℕ, Bool, true, false, All, List, Option, Result, Ok, Err, IfOk, MatchResult, codes, if◌then◌else◌, get_or, length, map, sym, subst, take, ap}
use Rattle.std.specs.Option.{option_or, unwrap_or}
use Rattle.std.specs.Result.{IsErrAnd}
use Rattle.std.specs.Borrow.{Bor}
use Rattle.std.proofs.lemmas.List.{take_all}
use Rattle.std.proofs.lemmas.List.Elements.{All-map, All-more}
use Rattle.clap.specs.Matches.{first_value}
use Rattle.clap.specs.declared.parser.matches.Found.{Found}
use Rattle.he_timeline.specs.Changes.{ChangeValues, changes_of, is_out}
use Rattle.he_timeline.specs.declared.limits.TheConstants.{MAX_RESOLUTION, MIN_ATTEMPT, MAX_ATTEMPT, MIN_COUNT, MAX_COUNT, MIN_LIMIT, MAX_LIMIT, MIN_FLOOR}
use Rattle.he_timeline.specs.declared.settings.Range.{Range}
use Rattle.he_timeline.specs.declared.settings.Range.TheVariants.{Resolution, Attempt, Count, Limit, Floor}
use Rattle.he_options.specs.Times.{time_of}
use Rattle.he_options.specs.Words.{AsksChanges, AsksSettings, is_setting, last_number, values_of}
use Rattle.he_options.specs.declared.refusal.OptionFault.{OptionFault}

kept_of : (a b c d e : Bool) (given made : ChangeValues)
    → (if a then Err Resolution else if b then Err Attempt else if c then Err Count else if d then Err Limit else if e then Err Floor else Ok given) ≡ Ok made → given ≡ made
kept_of true b c d e given made is = cc
kept_of false true c d e given made is = cc
kept_of false false true d e given made is = cc
kept_of false false false true e given made is = cc
kept_of false false false false true given made is = cc
kept_of false false false false false given made is = cc

kept : (given made : ChangeValues) → changes_of given ≡ Ok made → given ≡ made
kept given made is =
    kept_of (is_out given.resolution 0 MAX_RESOLUTION) (is_out given.attempt MIN_ATTEMPT MAX_ATTEMPT) (is_out given.count MIN_COUNT MAX_COUNT)
    (is_out given.limit MIN_LIMIT MAX_LIMIT) (is_out given.floor MIN_FLOOR (unwrap_or given.attempt MAX_ATTEMPT)) given made is

-- what holds of what is given holds of the changes that are made of it
pub of_changes : (given : ChangeValues) (made : Result ChangeValues Range) (result : Result ChangeValues OptionFault) (Post : Range → OptionFault → Type 0) (P : ChangeValues → Type 0)
    → made ≡ changes_of given → MatchResult made (λ x. result ≡ Ok x) (λ e. IsErrAnd result (Post e)) → P given → IfOk result P
of_changes given (Ok made) result Post P is cases holds =
    subst (λ (r : Result ChangeValues OptionFault). IfOk r P) (sym cases) (subst P (kept given made (sym is)) holds)
of_changes given (Err range) (Ok made) Post P is cases holds = absurd cases
of_changes given (Err range) (Err fault) Post P is cases holds = tt

-- they are those of the texts
pub all_asked : (texts : List (Bor (List ℕ))) (resolution attempt count limit floor timeout : Option ℕ) → All (λ text. is_setting text.now ≡ true) texts
    → resolution ≡ last_number (codes "resolution=") (map (λ text. text.now) texts)
    → attempt ≡ last_number (codes "attempt=") (map (λ text. text.now) texts)
    → count ≡ last_number (codes "count=") (map (λ text. text.now) texts)
    → limit ≡ option_or (last_number (codes "limit=") (map (λ text. text.now) texts)) timeout
    → floor ≡ last_number (codes "floor=") (map (λ text. text.now) texts)
    → AsksSettings (map (λ text. text.now) texts) timeout (record { resolution = resolution; attempt = attempt; count = count; limit = limit; floor = floor })
all_asked texts resolution attempt count limit floor timeout named is_resolution is_attempt is_count is_limit is_floor = record {
  named = All-map (λ (text : List ℕ). is_setting text ≡ true) (λ (text : Bor (List ℕ)). text.now) texts named;
  resolution = is_resolution;
  attempt = is_attempt;
  count = is_count;
  limit = is_limit;
  floor = is_floor;
}

-- those of the texts of the line are those that it asks for
pub by_line : {F : Type 0} (found : Found) (texts : List (List ℕ)) (timeout : Option ℕ) (result : Result ChangeValues F)
    → texts ≡ values_of found (codes "set") → timeout ≡ time_of 1 (first_value found (codes "timeout")) → IfOk result (AsksSettings texts timeout) → IfOk result (AsksChanges found)
by_line found texts timeout (Ok changes) same timed asks =
    (timeout, timed, subst (λ (values : List (List ℕ)). AsksSettings values timeout changes) same asks)
by_line found texts timeout (Err fault) same timed asks = tt

-- one more text gives a setting a number
pub one_more : (texts : List (Bor (List ℕ))) (i : ℕ) (default : Bor (List ℕ)) (bytes : List ℕ) (answer : Bool)
    → i < length texts → All (λ text. is_setting text.now ≡ true) (take i texts) → bytes ≡ (get_or texts i default).now → answer ≡ is_setting bytes → answer ≡ true
    → All (λ text. is_setting text.now ≡ true) (take (i + 1) texts)
one_more texts i default bytes answer below before same is given =
    All-more (λ (text : Bor (List ℕ)). is_setting text.now ≡ true) texts i default below before (ap is_setting (sym same) ∙ sym is ∙ given)

-- each of them does
pub each : (texts : List (Bor (List ℕ))) (i : ℕ) → length texts ≤ i → All (λ text. is_setting text.now ≡ true) (take i texts) → All (λ text. is_setting text.now ≡ true) texts
each texts i end before =
    subst (λ (list : List (Bor (List ℕ))). All (λ text. is_setting text.now ≡ true) list) (take_all i texts end) before
