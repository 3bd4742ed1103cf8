use Rattle.std.proofs.Common.{refl}
use Rattle.he_proxy.proofs.limits.limits_are_the_numbers.Goals as goal

pub returns : goal.returns
returns c = record {
  sessions_default = refl;
  records_default = refl;
  port_default = refl;
  beginning_most = refl;
  of_address_most = refl;
  request_seconds = refl;
  turned_away_seconds = refl;
  page_most = refl;
}
