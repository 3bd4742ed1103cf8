-- What the line of a proxy asks for, by what clap found of its words.
use Rattle.std.specs.Prelude.{◌≡◌, ◌+◌, ◌-◌, ◌/◌, Bool, true, false, List, [], ◌∷◌, ℕ, Result, codes, option_map}
use Rattle.clap.specs.Matches.{first_value}
use Rattle.clap.specs.declared.parser.matches.Found.{Found}
use Rattle.he_addr.specs.Prefix.{PrefixBits}
use Rattle.he_addr.specs.Text.{SpellsPrefix}
use Rattle.he_timeline.specs.Changes.{ChangeValues}
use Rattle.he_options.specs.Families.{AsksFamily}
use Rattle.he_proxy_request.specs.Listening.{NamesListen}
use Rattle.he_proxy_request.specs.Rules.{AsksRules}
use Rattle.he_options.specs.Resolvers.{AsksResolver}
use Rattle.he_options.specs.Times.{time_of}
use Rattle.he_options.specs.Words.{AsksChanges, HasFlag, HasNumber, connect_settings, values_of}
use Rattle.he_options.specs.declared.limits.TheConstants.{SECOND}
use Rattle.he_proxy_request.specs.declared.proxy.Proxy.{Proxy}
use Rattle.he_proxy_request.specs.declared.proxy.SessionLog.{SessionLog}
use Rattle.he_proxy_request.specs.declared.proxy.SessionLog.TheVariants as logs

-- each of these is what the text at its place names
abbrev pub AreNamed : {X : Type 0} → (List ℕ → X → Type 0) → List (List ℕ) → List X → Type 0
AreNamed names [] [] = Unit {0}
AreNamed names (text ∷ texts) (x ∷ xs) = names text x × AreNamed names texts xs
AreNamed names _ _ = ⊥

abbrev pub SpellsNoPrefix : List ℕ → Type 0
SpellsNoPrefix text = (prefix : PrefixBits) → SpellsPrefix text prefix → ⊥

-- -q before --log-json
abbrev pub log_of : Bool → Bool → SessionLog
log_of true json = logs.Nothing
log_of false true = logs.Json
log_of false false = logs.Line

-- the seconds of so many milliseconds, the last one begun
abbrev pub whole_seconds : ℕ → ℕ
whole_seconds time = (time + (SECOND - 1)) / SECOND

-- the addresses, the networks, the settings, the folder and the file of the line
pub record AsksProxy {E : Type 0} (gives : List ℕ → Result ℕ E → Type 0) (found : Found) (proxy : Proxy) : Type 0 where
  pub listen : AreNamed NamesListen (values_of found (codes "listen")) proxy.listen.items
  pub allow : AreNamed SpellsPrefix (values_of found (codes "allow")) proxy.allow.items
  pub allows_private : HasFlag found (codes "allow-private") proxy.allows_private
  pub users : option_map (λ path. path.now) proxy.users ≡ first_value found (codes "users")
  pub ruled : AsksRules found proxy.rules.items
  pub only : AsksFamily found proxy.only
  pub changes : ChangeValues
  pub asked : AsksChanges found changes
  pub settings : proxy.settings ≡ connect_settings changes
  pub lines : option_map (λ path. path.now) proxy.lines ≡ first_value found (codes "host-lines")
  pub record_is : option_map (λ path. path.now) proxy.record ≡ first_value found (codes "record")
  pub record_most : HasNumber gives found (codes "record-most") proxy.record_most
  pub history : option_map (λ path. path.now) proxy.history ≡ first_value found (codes "history")
  pub most : HasNumber gives found (codes "most") proxy.most
  pub most_per_client : HasNumber gives found (codes "most-per-client") proxy.most_per_client
  pub idle : proxy.idle ≡ option_map whole_seconds (time_of SECOND (first_value found (codes "idle")))
  pub resolver : AsksResolver (first_value found (codes "resolver")) proxy.resolver
  pub quiet : Bool
  pub json : Bool
  pub is_quiet : HasFlag found (codes "quiet") quiet
  pub is_json : HasFlag found (codes "log-json") json
  pub log : proxy.log ≡ log_of quiet json
  pub log_begin : HasFlag found (codes "log-begin") proxy.log_begin
  pub log_journal : HasFlag found (codes "log-journal") proxy.log_journal
