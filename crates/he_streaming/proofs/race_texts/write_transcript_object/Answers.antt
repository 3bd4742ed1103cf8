use Rattle.he_json.specs.Documents.{IsTranscriptJson, spot_of}
use Rattle.he_streaming.proofs.Printed.{transcript_written}
use Rattle.he_streaming.proofs.race_texts.write_transcript_object.Goals as goal

pub returns : goal.returns
returns g c =
    transcript_written c.write_transcript_json.result c.args.timeline.now c.in_ok-transcript.transcript (IsTranscriptJson (spot_of c.args.place))
    c.args.text.now.items c.write_transcript_json.new.out.items c.in_ok-transcript.ensures c.write_transcript_json.ensures.ok
