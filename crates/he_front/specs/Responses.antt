-- HTTP responses (RFC 9112 section 4), and the texts of their bodies.
use Rattle.std.specs.Prelude.{ℕ, ◌+◌, ◌==◌, List, ◌++◌, codes, decimal, length, if◌then◌else◌}
use Rattle.he_addr.specs.declared.ip.Ip.{Ip}
use Rattle.he_addr.specs.declared.ip.Ip.TheVariants.{V4, V6}
use Rattle.he_addr.specs.Printing.{printed}
use Rattle.he_front.specs.declared.pages.Page.{Page}
use Rattle.he_front.specs.declared.pages.Page.TheVariants as pages
use Rattle.he_front.specs.declared.replies.Ended.{Ended}
use Rattle.he_front.specs.declared.replies.Ended.TheVariants as ended
use Rattle.he_front.specs.Replies.{status_of}

-- reason phrases (RFC 9110 section 15)
abbrev pub phrase_of : Ended → List ℕ
phrase_of ended.Connected = codes "Connection established"
phrase_of ended.Kind = codes "Bad Request"
phrase_of ended.Forbidden = codes "Forbidden"
phrase_of ended.NoUser = codes "Proxy Authentication Required"
phrase_of ended.Failed = codes "Internal Server Error"
phrase_of ended.Command = codes "Not Implemented"
phrase_of ended.Coding = codes "Not Implemented"
phrase_of ended.NoNetwork = codes "Bad Gateway"
phrase_of ended.NoHost = codes "Bad Gateway"
phrase_of ended.Refused = codes "Bad Gateway"
phrase_of ended.TimedOut = codes "Gateway Timeout"

-- the status line
unfoldable pub status_text : ℕ → List ℕ → List ℕ
status_text status phrase = codes "HTTP/1.1 " ++ (decimal status ++ (codes " " ++ (phrase ++ codes "\r\n")))

-- the media type of the body
unfoldable pub media_text : List ℕ → List ℕ
media_text media = codes "Content-Type: " ++ (media ++ codes "\r\n")

-- the body's length; no caching (RFC 9111 section 5.2.2.5); neither in a frame (RFC 7034) nor for another site's page
-- (Cross-Origin-Resource-Policy of the Fetch standard); and that the connection is closed afterwards
unfoldable pub len_text : ℕ → List ℕ
len_text len =
    codes "Content-Length: " ++ (decimal len ++ (codes "\r\nCache-Control: no-store\r\nX-Frame-Options: DENY\r\n"
    ++ codes "Cross-Origin-Resource-Policy: same-origin\r\nConnection: close\r\n\r\n"))

-- the head before a body of `len` octets
unfoldable pub head_text : ℕ → List ℕ → List ℕ → ℕ → List ℕ
head_text status phrase media len = status_text status phrase ++ (media_text media ++ len_text len)

abbrev pub message_text : ℕ → List ℕ → List ℕ → List ℕ → List ℕ
message_text status phrase media body = head_text status phrase media (length body) ++ body

-- to a CONNECT with a tunnel: only a status line (RFC 9110 section 9.3.6)
abbrev pub tunnel_text : List ℕ
tunnel_text = status_text 200 (phrase_of ended.Connected) ++ codes "\r\n"

-- to any other request: the reason, as a line of text
abbrev pub refusal_text : Ended → List ℕ → List ℕ
refusal_text end reason =
    head_text (status_of end) (phrase_of end) (codes "text/plain") (length reason + 1) ++ (reason ++ codes "\n")

-- to a client that is no user: the challenge to authenticate by the Basic scheme (RFC 9110 section 15.5.8; RFC 7617
-- section 2), and the reason
abbrev pub challenge_text : List ℕ → List ℕ
challenge_text reason =
    status_text 407 (phrase_of ended.NoUser) ++ (codes "Proxy-Authenticate: Basic realm=\"he\", charset=\"UTF-8\"\r\n"
    ++ (media_text (codes "text/plain") ++ (len_text (length reason + 1) ++ (reason ++ codes "\n"))))

abbrev pub response_text : Ended → List ℕ → List ℕ
response_text end reason =
    if status_of end == 200 then tunnel_text
    else (if status_of end == 407 then challenge_text reason else refusal_text end reason)

-- the media types of the pages; that of the counts is OpenMetrics 1.0's
abbrev pub media_of : Page → List ℕ
media_of pages.Config = codes "application/x-ns-proxy-autoconfig"
media_of pages.Races = codes "text/html; charset=utf-8"
media_of pages.Metrics = codes "application/openmetrics-text; version=1.0.0; charset=utf-8"
media_of pages.Health = codes "text/plain"

abbrev pub page_text : Page → List ℕ → List ℕ
page_text page body = message_text 200 (codes "OK") (media_of page) body

-- an address in a URL: an IPv6 one in brackets (RFC 3986 section 3.2.2)
abbrev pub url_host : Ip → List ℕ
url_host (V4 n) = printed (V4 n)
url_host (V6 n) = codes "[" ++ (printed (V6 n) ++ codes "]")

abbrev pub socket_text : Ip → ℕ → List ℕ
socket_text ip port = url_host ip ++ (codes ":" ++ decimal port)

-- a proxy auto-config text: this machine and plain host names directly, all else by SOCKS 5, and directly if that
-- fails
abbrev pub config_text : Ip → ℕ → List ℕ
config_text ip port =
    codes "function FindProxyForURL(url, host) {\n"
    ++ (codes "  if (isPlainHostName(host) || dnsDomainIs(host, \".localhost\") ||\n"
    ++ (codes "      shExpMatch(host, \"127.*\") || host == \"::1\" || host == \"[::1]\")\n"
    ++ (codes "    return \"DIRECT\";\n  return \"SOCKS5 " ++ (socket_text ip port ++ codes "; DIRECT\";\n}\n"))))

-- the settings that a client needs
abbrev pub advice_text : Ip → ℕ → List ℕ
advice_text ip port =
    codes "This is a proxy (SOCKS 5, HTTP). Set ALL_PROXY=socks5h://" ++ (socket_text ip port
    ++ (codes ", or http_proxy and https_proxy=http://" ++ socket_text ip port))
