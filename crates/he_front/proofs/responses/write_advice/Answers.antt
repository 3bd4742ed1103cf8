use Rattle.std.proofs.Common.{codes}
use Rattle.he_front.specs.Responses.{advice_text, socket_text}
use Rattle.he_front.proofs.Appended.{after_four}
use Rattle.he_front.proofs.responses.write_advice.Goals as goal

pub returns : goal.returns
returns g c =
    after_four c.write_socket-2.result c.args.out.now.items (codes "This is a proxy (SOCKS 5, HTTP). Set ALL_PROXY=socks5h://") (socket_text c.args.ip c.args.port)
    (codes ", or http_proxy and https_proxy=http://") (socket_text c.args.ip c.args.port) c.write_octets.new.out.items c.write_socket.new.out.items c.write_octets-2.new.out.items c.write_socket-2.new.out.items
    c.in_ok-write_octets.ensures c.in_ok-write_socket.ensures c.in_ok-write_octets-2.ensures c.write_socket-2.ensures
