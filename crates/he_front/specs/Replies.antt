-- The replies to a client (RFC 1928 section 6; the SOCKS 4 protocol; RFC 9110 section 15).
use Rattle.std.specs.Prelude.{ℕ, Option, Some, None}
use Rattle.he_front.specs.declared.replies.Ended.{Ended}
use Rattle.he_front.specs.declared.replies.Ended.TheVariants as ended
use Rattle.he_front.specs.declared.socks.Method.{Method}
use Rattle.he_front.specs.Socks.{number_of}

-- METHOD: the one of the connection, or X'FF', no acceptable one (RFC 1928 section 3)
abbrev pub method_of : Option Method → ℕ
method_of (Some method) = number_of method
method_of None = 255

-- REP: succeeded; general server failure; not allowed by ruleset; network unreachable; host unreachable; connection
-- refused; command not supported; address type not supported
abbrev pub code_of : Ended → ℕ
code_of ended.Connected = 0
code_of ended.Failed = 1
code_of ended.Forbidden = 2
code_of ended.NoUser = 2
code_of ended.NoNetwork = 3
code_of ended.NoHost = 4
code_of ended.TimedOut = 4
code_of ended.Refused = 5
code_of ended.Command = 7
code_of ended.Kind = 8
code_of ended.Coding = 1

-- CD of SOCKS 4: request granted; request rejected or failed, whatever the cause
abbrev pub old_code_of : Ended → ℕ
old_code_of ended.Connected = 90
old_code_of ended.Failed = 91
old_code_of ended.Forbidden = 91
old_code_of ended.NoUser = 91
old_code_of ended.NoNetwork = 91
old_code_of ended.NoHost = 91
old_code_of ended.TimedOut = 91
old_code_of ended.Refused = 91
old_code_of ended.Command = 91
old_code_of ended.Kind = 91
old_code_of ended.Coding = 91

-- OK; Bad Request; Forbidden; Proxy Authentication Required; Internal Server Error; Not Implemented; Bad Gateway;
-- Gateway Timeout
abbrev pub status_of : Ended → ℕ
status_of ended.Connected = 200
status_of ended.Kind = 400
status_of ended.Forbidden = 403
status_of ended.NoUser = 407
status_of ended.Failed = 500
status_of ended.Command = 501
status_of ended.Coding = 501
status_of ended.NoNetwork = 502
status_of ended.NoHost = 502
status_of ended.Refused = 502
status_of ended.TimedOut = 504
