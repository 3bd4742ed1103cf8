-- The tallies with one attempt more.
use Rattle.std.proofs.Common.{ℕ, zero, suc, ◌≡◌, ◌+◌, ◌<◌, ◌≤◌, ◌&&◌, ◌++◌, Bool, true, false, cond, List, [], ◌∷◌, length, map, take, get_or, Option, Some, refl, sym, ◌∙◌, ap, subst, add-one, add-zero, append_assoc, arith}
use Rattle.std.specs.List.{IsDistinct, count_by, flat_map, zip}
use Rattle.std.proofs.lemmas.Grind.{flat_map-append}
use Rattle.he_record.specs.Left.{said_of}
use Rattle.he_record.specs.declared.line.RecordLine.{RecordLine}
use Rattle.std.specs.Map.{keys_of, lookup}
use Rattle.std.specs.Option.{unwrap_or}
use Rattle.std.proofs.lemmas.List.{append-nil, map-append, take_all, take_more}
use Rattle.std.proofs.lemmas.List.Sums.{sum_by_push}
use Rattle.he_addr.specs.Ip.{same_ip}
use Rattle.he_addr.specs.contracts.ip.IpPartialEq.TheImpl.{eq-value}
use Rattle.he_addr.specs.declared.ip.Ip.{Ip}
use Rattle.he_timeline.proofs.ByAddress.{same_as}
use Rattle.he_plan.proofs.Distinct.{same_ip-is}
use Rattle.he_timeline.proofs.Ranges.{same_ip-sym}
use Rattle.he_timeline.specs.Race.{Race}
use Rattle.he_plan.specs.declared.transcript.Line.{Line}
use Rattle.he_record.specs.Said.{Said}
use Rattle.he_totals.specs.Kept.{is_loss, loss_of}
use Rattle.he_totals.specs.Tries.{AreTallies, Try, lost_on, saturated, server_tries, tally_at, tally_of, tried, try_of}
use Rattle.he_totals.specs.declared.kept.Loss.{Loss}
use Rattle.he_totals.specs.declared.kept.Loss.TheVariants as losses
use Rattle.he_totals.specs.declared.tallies.Tally.{Tally}

abbrev tally_with : ℕ → ℕ → ℕ → ℕ → Tally
tally_with attempts failed no_answer lost = record { attempts = attempts; failed = failed; no_answer = no_answer; lost = lost }

abbrev counted : ℕ → ℕ → ℕ → ℕ → Tally
counted attempts failed no_answer lost = tally_with (saturated attempts) (saturated failed) (saturated no_answer) (saturated lost)

-- the equality of addresses is that of the code
pub same_eq : eq-value.it ≡ same_ip
same_eq = λ i. λ (x y : Ip). same_as x y i

pub no_tallies : (tallies : List (Ip × Tally)) → tallies ≡ [] → IsDistinct eq-value.it (keys_of tallies) → AreTallies [] tallies
no_tallies tallies none once = record {
  once = subst (λ (eq : Ip → Ip → Bool). IsDistinct eq (keys_of tallies)) same_eq once;
  each = λ ip. ap (λ (t : List (Ip × Tally)). tally_at t ip) none;
}

-- more is counted, up to the greatest number
more : (n k : ℕ) → saturated (n + k) ≡ saturated (saturated n + k)
more n k = omega arith

-- of one address: the attempts with one more
one_try : (tries : List Try) (one : Try) (ip : Ip) → tally_of (tries ++ one ∷ []) ip ≡ cond (same_ip ip one.ip) (tried (tally_of tries ip) one.loss one.lost) (tally_of tries ip)
one_try tries one ip =
    (λ i. record {
      attempts = saturated (sum_by_push (λ (x : Try). cond (same_ip ip x.ip) 1 0) tries one i);
      failed = saturated (sum_by_push (λ (x : Try). cond (same_ip ip x.ip && is_loss losses.Failed x.loss) 1 0) tries one i);
      no_answer = saturated (sum_by_push (λ (x : Try). cond (same_ip ip x.ip && is_loss losses.NoAnswer x.loss) 1 0) tries one i);
      lost = saturated (sum_by_push (λ (x : Try). cond (same_ip ip x.ip) x.lost 0) tries one i);
    })
    ∙ by (same_ip ip one.ip) one.loss one.lost (count_by (λ x. same_ip ip x.ip) tries) (count_by (λ x. same_ip ip x.ip && is_loss losses.Failed x.loss) tries) (count_by (λ x. same_ip ip x.ip && is_loss losses.NoAnswer x.loss) tries) (lost_on tries ip)
  where
    by : (same : Bool) (loss : Option Loss) (ms a f n l : ℕ) → counted (a + cond same 1 0) (f + cond (same && is_loss losses.Failed loss) 1 0) (n + cond (same && is_loss losses.NoAnswer loss) 1 0) (l + cond same ms 0) ≡ cond same (tried (counted a f n l) loss ms) (counted a f n l)
    by true loss ms a f n l = λ i. tally_with (more a 1 i) (more f (cond (is_loss losses.Failed loss) 1 0) i) (more n (cond (is_loss losses.NoAnswer loss) 1 0) i) (more l ms i)
    by false loss ms a f n l = λ i. counted (add-zero a i) (add-zero f i) (add-zero n i) (add-zero l i)

-- what is known of each address where one is written
at_each : (old new : List (Ip × Tally)) (ip q : Ip) (loss : Option Loss) (ms : ℕ) (tries : List Try)
    → lookup (same_ip q) new ≡ cond (same_ip ip q) (Some (tried (tally_at old ip) loss ms)) (lookup (same_ip q) old)
    → ((x : Ip) → tally_at old x ≡ tally_of tries x) → tally_at new q ≡ cond (same_ip q ip) (tried (tally_of tries q) loss ms) (tally_of tries q)
at_each old new ip q loss ms tries found each =
    ap (λ (o : Option Tally). unwrap_or o (tally_with 0 0 0 0)) found ∙ by (same_ip ip q) (same_ip q ip) refl (same_ip-sym ip q)
  where
    by : (b c : Bool) → same_ip ip q ≡ b → b ≡ c
        → unwrap_or (cond b (Some (tried (tally_at old ip) loss ms)) (lookup (same_ip q) old)) (tally_with 0 0 0 0) ≡ cond c (tried (tally_of tries q) loss ms) (tally_of tries q)
    by true true same e = ap (λ (t : Tally). tried t loss ms) (each ip ∙ ap (tally_of tries) (same_ip-is ip q same))
    by false false same e = each q
    by true false same e = cc
    by false true same e = cc

pub inserted : (kept old new : List (Ip × Tally)) (ip : Ip) (loss : Option Loss) (ms : ℕ) (tally one : Tally) → kept ≡ old → tally ≡ tally_at old ip → one ≡ tried tally loss ms
    → IsDistinct eq-value.it (keys_of new) → ((q : Ip) → lookup (eq-value.it q) new ≡ cond (eq-value.it ip q) (Some one) (lookup (eq-value.it q) kept))
    → (tries : List Try) → AreTallies tries old → AreTallies (tries ++ record { ip = ip; loss = loss; lost = ms } ∷ []) new
inserted kept old new ip loss ms tally one same had with_one once found tries are = record {
  once = subst (λ (eq : Ip → Ip → Bool). IsDistinct eq (keys_of new)) same_eq once;
  each = λ q.
      let lost : one ≡ tried (tally_at old ip) loss ms = with_one ∙ ap (λ (t : Tally). tried t loss ms) had in
      let at : lookup (same_ip q) new ≡ cond (same_ip ip q) (Some one) (lookup (same_ip q) kept) =
      subst (λ (eq : Ip → Ip → Bool). lookup (eq q) new ≡ cond (eq ip q) (Some one) (lookup (eq q) kept)) same_eq (found q) in
      let at_old = at ∙ (λ i. cond (same_ip ip q) (Some (lost i)) (lookup (same_ip q) (same i))) in
      at_each old new ip q loss ms tries at_old are.each ∙ sym (one_try tries (record { ip = ip; loss = loss; lost = ms }) q);
}

-- the lines with their charges up to one, and that one
zip_more : {X Y : Type 0} (xs : List X) (ys : List Y) (i : ℕ) (d : X) (e : Y) → i < length xs → i < length ys
    → take (suc i) (zip xs ys) ≡ take i (zip xs ys) ++ (get_or xs i d, get_or ys i e) ∷ []
zip_more [] ys i d e lt also = absurd (omega arith)
zip_more (x ∷ xs) [] i d e lt also = absurd (omega arith)
zip_more (x ∷ xs) (y ∷ ys) zero d e lt also = refl
zip_more (x ∷ xs) (y ∷ ys) (suc i) d e lt also = ap (λ l. (x, y) ∷ l) (zip_more xs ys i d e (omega arith) (omega arith))

zip_short : {X Y : Type 0} (xs : List X) (ys : List Y) → length (zip xs ys) ≤ length xs
zip_short [] ys = omega arith
zip_short (x ∷ xs) [] = omega arith
zip_short (x ∷ xs) (y ∷ ys) = let rest = zip_short xs ys in omega arith

-- the attempts of one line more
pub line_more : (said : List Said) (race : Race) (lines : List Line) (charges : List ℕ) (i : ℕ) (d : Line) (e : ℕ) (tries : List Try) (loss : Option Loss) → i < length lines → length charges ≡ length lines
    → loss ≡ loss_of said race (get_or lines i d)
    → (tries ++ map (try_of said race) (take i (zip lines charges))) ++ record { ip = (get_or lines i d).ip; loss = loss; lost = get_or charges i e } ∷ []
    ≡ tries ++ map (try_of said race) (take (i + 1) (zip lines charges))
line_more said race lines charges i d e tries loss lt long is =
    append_assoc tries _ _
    ∙ ap (λ (t : List Try). tries ++ t)
    ((λ j. map (try_of said race) (take i (zip lines charges)) ++ record { ip = (get_or lines i d).ip; loss = is j; lost = get_or charges i e } ∷ [])
    ∙ sym (map-append (try_of said race) (take i (zip lines charges)) ((get_or lines i d, get_or charges i e) ∷ []))
    ∙ ap (map (try_of said race)) (sym (rw add-one (zip_more lines charges i d e lt (omega arith)))))

pub all_lines : (lines : List Line) (charges : List ℕ) (i : ℕ) → length lines ≤ i → take i (zip lines charges) ≡ zip lines charges
all_lines lines charges i le = let short = zip_short lines charges in take_all i (zip lines charges) (omega arith)

-- the name servers of one line more
pub servers_on : (lines : List RecordLine) (i : ℕ) (d : RecordLine) (tries : List Try) → i < length lines
    → (tries ++ flat_map server_tries (map said_of (take i lines))) ++ server_tries (said_of (get_or lines i d)) ≡ tries ++ flat_map server_tries (map said_of (take (i + 1) lines))
servers_on lines i d tries lt =
    append_assoc tries (flat_map server_tries (map said_of (take i lines))) (server_tries (said_of (get_or lines i d)))
    ∙ ap (λ (t : List Try). tries ++ t)
    (ap (λ (t : List Try). flat_map server_tries (map said_of (take i lines)) ++ t) (sym (append-nil (server_tries (said_of (get_or lines i d)))))
    ∙ sym (flat_map-append server_tries (map said_of (take i lines)) (said_of (get_or lines i d) ∷ []))
    ∙ ap (flat_map server_tries) (sym (map-append said_of (take i lines) (get_or lines i d ∷ [])))
    ∙ ap (λ (l : List RecordLine). flat_map server_tries (map said_of l)) (sym (take_more lines i d lt)))

-- no name server more
pub none_more : (tallies : List (Ip × Tally)) (tries more : List Try) → more ≡ [] → AreTallies tries tallies → AreTallies (tries ++ more) tallies
none_more tallies tries more none are = subst (λ (t : List Try). AreTallies t tallies) (sym (ap (λ (m : List Try). tries ++ m) none ∙ append-nil tries)) are
