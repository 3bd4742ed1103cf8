use Rattle.he_streaming.proofs.race_texts.TextRequest.write.Goals as goal

pub returns : goal.returns
returns g c = rw c.with_changes-timeline.ensures at c.append.ensures
