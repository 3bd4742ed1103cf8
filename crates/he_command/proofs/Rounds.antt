-- Rounds of probes, one after the other.
use Rattle.std.proofs.Common.{◌≡◌, ◌∙◌, ◌++◌, ◌+◌, ◌≤◌, ℕ, List, [], ◌∷◌, Result, Ok, Err, IfOk, IfErr, ap, arith, inl, inr, length, length-append, refl, subst, sym}
use Rattle.he_probing.specs.Rounds.{IsRound}
use Rattle.he_probing.specs.declared.request.RoundRequest.{RoundRequest}
use Rattle.he_probing.specs.declared.round.Round.{Round}
use Rattle.he_request.specs.declared.probe.Probe.{Probe}
use Rattle.he_stream.specs.declared.stream.OutputStream as outputs
use Rattle.he_tasks.specs.Streams.{TookAll, TookPart}
use Rattle.he_tasks.specs.declared.reports.TheConstants.{DONE, FAULT}
use Rattle.he_command.specs.Probes.{BreaksOff, Closes, EndsRounds, IsRoundText, IsShown, RunsRounds, TookRounds, has_closing, most_rounds, status_of_round, worse, worst}

worst_more : (status : ℕ) (rounds : List Round) (round : Round) → worst status (rounds ++ round ∷ []) ≡ worse (worst status rounds) (status_of_round round)
worst_more status [] round = refl
worst_more status (first ∷ rounds) round = worst_more (worse status (status_of_round first)) rounds round

module _ {O : Type 0} (output : outputs.Ghosts O) (probe : Probe) (request : RoundRequest) where
  took_more : (rounds : List Round) (round : Round) (text : List ℕ) (before between after : O) → TookRounds output probe request rounds before between
      → IsShown probe request round text → TookAll output between after text → TookRounds output probe request (rounds ++ round ∷ []) before after
  took_more [] round text before between after same shown took =
      (text, after, shown, subst (λ (o : O). TookAll output o after text) same took, refl)
  took_more (first ∷ rounds) round text before between after (own, next, is, first_took, more) shown took =
      (own, next, is, first_took, took_more rounds round text next between after more shown took)

  -- the text of a round was put into the output, all of it
  pub put-all : (round : Round) (text put : List ℕ) (before after : O) (result : Result Round ℕ) → IsRound request round → IsRoundText probe request round text
      → put ≡ text → IfOk result (λ given. (given ≡ round) × TookAll output before after put)
      → IfOk result (λ given. (own : List ℕ) × IsShown probe request given own × TookAll output before after own)
  put-all round text put before after (Err status) is shown same ok = tt
  put-all round text put before after (Ok given) is shown same (own, took) =
      (text, subst (λ (r : Round). IsShown probe request r text) (sym own) (is, shown), subst (TookAll output before after) same took)

  -- or a first part of it
  pub put-part : (round : Round) (text put : List ℕ) (before after : O) (result : Result Round ℕ) → IsRound request round → IsRoundText probe request round text
      → put ≡ text → IfErr result (λ status. (status ≡ FAULT) × TookPart output before after put)
      → IfErr result (BreaksOff output probe request before after)
  put-part round text put before after (Ok given) is shown same err = tt
  put-part round text put before after (Err status) is shown same (fault, took) =
      (fault, inr (round, text, (is, shown), subst (TookPart output before after) same took))

  -- this number of rounds was run, with this worst status
  pub record HasRun (done status : ℕ) (before now : O) : Type 0 where
    pub rounds : List Round
    pub count : length rounds ≡ done
    pub took : TookRounds output probe request rounds before now
    pub worst_is : status ≡ worst DONE rounds

  pub none-run : (before : O) → HasRun 0 DONE before before
  none-run before = record { rounds = []; count = refl; took = refl; worst_is = refl }

  pub one-more : (done status : ℕ) (before between after : O) (round : Round) (text : List ℕ) → HasRun done status before between
      → IsShown probe request round text → TookAll output between after text → HasRun (done + 1) (worse status (status_of_round round)) before after
  one-more done status before between after round text run shown took = record {
    rounds = run.rounds ++ round ∷ [];
    count = length-append run.rounds (round ∷ []) ∙ ap (λ (n : ℕ). n + 1) run.count;
    took = took_more run.rounds round text before between after run.took shown took;
    worst_is = ap (λ (s : ℕ). worse s (status_of_round round)) run.worst_is ∙ sym (worst_more DONE run.rounds round);
  }

  pub went-on : (done status : ℕ) (before between told after : O) (round : Round) (own next : ℕ) → HasRun done status before between
      → (text : List ℕ) × IsShown probe request round text × TookAll output between told text → own ≡ status_of_round round
      → next ≡ worse status own → after ≡ told → HasRun (done + 1) next before after
  went-on done status before between told after round own next run (text, shown, took) is_own is_next same =
      let more : HasRun (done + 1) (worse status (status_of_round round)) before told = one-more done status before between told round text run shown took in
      let here : HasRun (done + 1) (worse status (status_of_round round)) before after =
      subst (λ (o : O). HasRun (done + 1) (worse status (status_of_round round)) before o) (sym same) more in
      subst (λ (s : ℕ). HasRun (done + 1) s before after) (sym (is_next ∙ ap (λ (s : ℕ). worse status s) is_own)) here

  -- all were run
  pub all-run : (done status : ℕ) (before between after : O) (result : ℕ) → HasRun done status before between → done ≡ most_rounds probe.rounds
      → Closes output (has_closing probe.form probe.rounds) status between after result → RunsRounds output probe request before after result
  all-run done status before between after result run all closes =
      let count : length run.rounds ≡ most_rounds probe.rounds = run.count ∙ all in
      record {
        rounds = run.rounds;
        few = omega (arith, count);
        between = between;
        took = run.took;
        ended = inl (count, subst (λ (s : ℕ). Closes output (has_closing probe.form probe.rounds) s between after result) run.worst_is closes);
      }

  -- a fault ended them
  pub broken-off : (done status : ℕ) (before between after : O) (result : ℕ) → HasRun done status before between → done ≤ most_rounds probe.rounds
      → BreaksOff output probe request between after result → RunsRounds output probe request before after result
  broken-off done status before between after result run most breaks = record {
    rounds = run.rounds;
    few = omega (arith, run.count, most);
    between = between;
    took = run.took;
    ended = inr breaks;
  }
