use Rattle.std.proofs.Common.{◌+◌, ◌-◌, drop, length, refl, take, ap}
use Rattle.std.proofs.lemmas.List.{take_rest}
use Rattle.he_inputs.proofs.RaceReadingLaws.{fault_found, none_found, recorded_here}
use Rattle.he_inputs.proofs.race_reader.RaceReader.next_recorded.Goals as goal

pub returns-in-Ok-clause-found : goal.returns-in-Ok-clause-found
returns-in-Ok-clause-found g c =
    let first = c.in-Ok.first in
    let here = recorded_here c.args.bytes.now c.args.self.now.end first.left first.lines first.record first.race c.requires.place c.in-Ok.ensures.read in
    record {
      read = (first.record, here.read);
      past = here.past;
      within = here.within;
      counted = refl;
      lined = ap (λ n. c.args.self.now.lines + n) here.lined;
    }

pub returns-in-Err-clause-found : goal.returns-in-Err-clause-found
returns-in-Err-clause-found g c =
    none_found (λ found. found.1) c.stop-in-Err.result c.args.bytes.now (take (length c.args.bytes.now - c.args.self.now.end) (drop c.args.self.now.end c.args.bytes.now)) c.args.ending c.args.self.now
    (take_rest c.args.bytes.now c.args.self.now.end) c.stop-in-Err.ensures.found

pub returns-in-Err-clause-fault : goal.returns-in-Err-clause-fault
returns-in-Err-clause-fault g c =
    fault_found c.stop-in-Err.result c.args.bytes.now (take (length c.args.bytes.now - c.args.self.now.end) (drop c.args.self.now.end c.args.bytes.now)) c.args.ending c.args.self.now
    (take_rest c.args.bytes.now c.args.self.now.end) c.stop-in-Err.ensures.fault
