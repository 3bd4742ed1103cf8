use Rattle.std.proofs.Common.{codes}
use Rattle.he_front.specs.Responses.{media_text}
use Rattle.he_front.proofs.Appended.{after_three}
use Rattle.he_front.proofs.responses.write_media.Goals as goal

pub returns : goal.returns
unfolding media_text
returns g c =
    after_three c.write_octets-3.result c.args.out.now.items (codes "Content-Type: ") c.args.media.now (codes "\r\n") c.write_octets.new.out.items c.write_octets-2.new.out.items c.write_octets-3.new.out.items
    c.in_ok-write_octets.ensures c.in_ok-write_octets-2.ensures c.write_octets-3.ensures
