use Rattle.std.proofs.Common.{◌+◌, ap, codes, length, ◌++◌, ◌∙◌}
use Rattle.he_front.specs.Responses.{len_text, media_text, phrase_of, status_text}
use Rattle.he_front.specs.declared.replies.Ended.TheVariants.{NoUser}
use Rattle.he_front.proofs.Appended.{after_six}
use Rattle.he_front.proofs.responses.write_challenge.Goals as goal

pub returns : goal.returns
returns g c =
    after_six c.write_octets-3.result c.args.out.now.items (status_text 407 (phrase_of NoUser)) (codes "Proxy-Authenticate: Basic realm=\"he\", charset=\"UTF-8\"\r\n")
    (media_text (codes "text/plain")) (len_text (length c.args.reason.now + 1)) c.args.reason.now (codes "\n")
    c.write_status.new.out.items c.write_octets.new.out.items c.write_media.new.out.items c.write_len.new.out.items c.write_octets-2.new.out.items c.write_octets-3.new.out.items
    (c.in_ok-write_status.ensures ∙ ap (λ phrase. c.args.out.now.items ++ status_text 407 phrase) c.phrase.ensures)
    c.in_ok-write_octets.ensures c.in_ok-write_media.ensures c.in_ok-write_len.ensures c.in_ok-write_octets-2.ensures c.write_octets-3.ensures
