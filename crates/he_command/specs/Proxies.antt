-- The options of `he proxy`, as he_proxy has them.
use Rattle.std.specs.Prelude.{◌≡◌, List, ℕ}
use Rattle.std.specs.Option.{unwrap_or}
use Rattle.std.specs.declared.net.socket_addr.SocketAddr.{SocketAddr}
use Rattle.he_names.specs.declared.environment.Environment.{Environment}
use Rattle.he_log.specs.declared.log.LogForm.{LogForm}
use Rattle.he_log.specs.declared.log.LogForm.TheVariants as forms
use Rattle.he_proxy.specs.declared.request.ProxyRequest.{ProxyRequest}
use Rattle.he_proxy.specs.declared.limits.TheConstants.{DEFAULT_RECORDS, DEFAULT_SESSIONS}
use Rattle.he_proxy_request.specs.declared.proxy.Proxy.{Proxy}
use Rattle.he_proxy_request.specs.declared.proxy.SessionLog.{SessionLog}
use Rattle.he_proxy_request.specs.declared.proxy.SessionLog.TheVariants as logs
use Rattle.he_options.specs.declared.resolver.Resolver.{Resolver}
use Rattle.he_options.specs.declared.resolver.Resolver.TheVariants as resolvers
use Rattle.he_tasks.specs.declared.reports.TheConstants.{FAULT, USAGE}
use Rattle.he_command.specs.Connection.{choice_of, families_of, lines_of}

abbrev pub log_of : SessionLog → LogForm
log_of logs.Nothing = forms.Silent
log_of logs.Line = forms.Text
log_of logs.Json = forms.Json

-- it serves until a fault; the system's resolver is a usage error
abbrev pub status_by : Resolver → ℕ
status_by resolvers.System = USAGE
status_by other = FAULT

abbrev pub status_of_proxy : Proxy → ℕ
status_of_proxy proxy = status_by proxy.resolver

-- the served options are those of the line, at these addresses; a number that the line doesn't give is the default of
-- he_proxy
pub record IsServed (proxy : Proxy) (listen : List SocketAddr) (environment : Environment) (request : ProxyRequest)
    : Type 0 where
  pub listen_is : request.listen.now ≡ listen
  pub allow : request.allow.now ≡ proxy.allow.items
  pub allows_private : request.allows_private ≡ proxy.allows_private
  pub users : request.users ≡ proxy.users
  pub ruled : request.rules.now ≡ proxy.rules.items
  pub families : request.families ≡ families_of proxy.only
  pub settings : request.settings ≡ proxy.settings
  pub lines : request.lines ≡ lines_of proxy.lines
  pub resolver : request.resolver ≡ choice_of proxy.resolver
  pub environment_is : request.environment ≡ environment
  pub records : request.record ≡ proxy.record
  pub record_most : request.record_most ≡ unwrap_or proxy.record_most DEFAULT_RECORDS
  pub history : request.history ≡ proxy.history
  pub log : request.log.form ≡ log_of proxy.log
  pub log_begins : request.log.has_begins ≡ proxy.log_begin
  pub log_priorities : request.log.has_priorities ≡ proxy.log_journal
  pub most : request.most ≡ unwrap_or proxy.most DEFAULT_SESSIONS
  pub most_per_client : request.most_per_client ≡ proxy.most_per_client
  pub idle : request.idle ≡ proxy.idle
