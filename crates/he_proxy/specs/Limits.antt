-- The limits and defaults of a proxy.
use Rattle.std.specs.Prelude.{◌≡◌}
use Rattle.he_clients.specs.declared.beginning.TheConstants.{MOST_BEGINNING, MOST_OF_ADDRESS}
use Rattle.he_history.specs.declared.recent.TheConstants.{PAGE_RACES}
use Rattle.he_log.specs.declared.turned.TheConstants.{TURNED_AWAY_SECONDS}
use Rattle.he_proxy.specs.declared.limits.TheConstants.{DEFAULT_PORT, DEFAULT_RECORDS, DEFAULT_SESSIONS, REQUEST_SECONDS}

pub record AreLimits : Type 0 where
  -- the default numbers of sessions and records, and the default port, that of SOCKS (RFC 1928 section 3)
  pub sessions_default : DEFAULT_SESSIONS ≡ 1000
  pub records_default : DEFAULT_RECORDS ≡ 10000
  pub port_default : DEFAULT_PORT ≡ 1080
  -- clients that have sent nothing yet, and those of them from one address
  pub beginning_most : MOST_BEGINNING ≡ 400
  pub of_address_most : MOST_OF_ADDRESS ≡ 100
  -- seconds for a request, and between two lines for refused clients of one network
  pub request_seconds : REQUEST_SECONDS ≡ 10
  pub turned_away_seconds : TURNED_AWAY_SECONDS ≡ 60
  -- races on the page
  pub page_most : PAGE_RACES ≡ 100
