-- The hosts of races, with one more race.
use Rattle.std.proofs.Common.{ℕ, ◌≡◌, ◌==◌, ◌++◌, ◌&&◌, ◌||◌, ◌∙◌, Bool, true, false, List, [], ◌∷◌, length, length-append, map, suc, nat_eq, Some, option_map, ap, refl, subst, sym, arith, if◌then◌else◌}
use Rattle.std.specs.Cmp.Lexicographic.{bytes_decides, pointwise}
use Rattle.std.specs.List.{flat_map, fold, list_any, slice_get, zip}
use Rattle.std.proofs.lemmas.Grind.{flat_map-append}
use Rattle.std.proofs.lemmas.List.{append-nil, get_or_append_left, length-map, map-append}
use Rattle.std.proofs.lemmas.List.Sums.{fold-append, fold_push}
use Rattle.std.proofs.lemmas.Option.{get_or_from_slice_get, slice_get-get_or, slice_get-map, slice_get_within}
use Rattle.he_addr.specs.contracts.ip.IpPartialEq.TheImpl.{eq-value}
use Rattle.he_addr.specs.declared.ip.Ip.{Ip}
use Rattle.he_timeline.proofs.ByAddress.{same_as}
use Rattle.he_totals.specs.Hosts.{AreNamed, ArePlaces, Named, pairs_at, with_name, with_pair}
use Rattle.he_totals.specs.Kept.{Run}
use Rattle.he_totals.specs.Summed.{host_of, pairs_of}

any_seen : {K L : Type 0} (test : L → Bool) (seen : K → L) (ks : List K) → list_any test (map seen ks) ≡ list_any (λ k. test (seen k)) ks
any_seen test seen [] = refl
any_seen test seen (k ∷ ks) = ap (λ b. test (seen k) || b) (any_seen test seen ks)

-- a key is there, or goes last
grown : {K : Type 0} (is_there : Bool) (ks : List K) (k : K) → (more : List K) × ((if is_there then ks else ks ++ k ∷ []) ≡ ks ++ more)
grown true ks k = ([], sym (append-nil ks))
grown false ks k = (k ∷ [], refl)

-- what is seen of them grows alike
seen_grown : {K : Type 0} (seen : K → List ℕ) (is_there : Bool) (ks : List K) (k : K)
    → map seen (if is_there then ks else ks ++ k ∷ []) ≡ (if is_there then map seen ks else map seen ks ++ seen k ∷ [])
seen_grown seen true ks k = refl
seen_grown seen false ks k = map-append seen ks (k ∷ [])

still_there : (names more : List (List ℕ)) (place : ℕ) (text : List ℕ) → slice_get names place ≡ Some text → slice_get (names ++ more) place ≡ Some text
still_there names more place text is =
    let within = slice_get_within names place text is in
    let longer = length-append names more in
    slice_get-get_or (names ++ more) place text (omega arith)
    ∙ ap (λ (t : List ℕ). Some t) (get_or_append_left names more text place within ∙ get_or_from_slice_get names place text text is)

still_places : (names more : List (List ℕ)) (places : List ℕ) (texts : List (List ℕ)) → ArePlaces names places texts → ArePlaces (names ++ more) places texts
still_places names more [] [] are = tt
still_places names more [] (text ∷ texts) are = absurd are
still_places names more (place ∷ places) [] are = absurd are
still_places names more (place ∷ places) (text ∷ texts) (is, are) = (still_there names more place text is, still_places names more places texts are)

one_place : (names : List (List ℕ)) (places : List ℕ) (texts : List (List ℕ)) (place : ℕ) (text : List ℕ) → ArePlaces names places texts → slice_get names place ≡ Some text
    → ArePlaces names (places ++ place ∷ []) (texts ++ text ∷ [])
one_place names [] [] place text are is = (is, tt)
one_place names [] (other ∷ texts) place text are is = absurd are
one_place names (first ∷ places) [] place text are is = absurd are
one_place names (first ∷ places) (other ∷ texts) place text (at, are) is = (at, one_place names places texts place text are is)

-- a race more: its key is among the keys, or goes last
pub one_host : {K : Type 0} (seen : K → List ℕ) (old new : List K) (key stored : K) (place : ℕ) (places after : List ℕ) (pairs more_pairs : List (Ip × ℕ)) (texts : List (List ℕ)) (text : List ℕ)
    → new ≡ (if list_any (λ k. pointwise nat_eq (seen key) (seen k)) old then old else old ++ key ∷ [])
    → slice_get new place ≡ Some stored → pointwise nat_eq (seen key) (seen stored) ≡ true → seen key ≡ text → after ≡ places ++ place ∷ []
    → AreNamed texts (record { names = map seen old; places = places; pairs = pairs }) → AreNamed (texts ++ text ∷ []) (record { names = map seen new; places = after; pairs = more_pairs })
one_host {K} seen old new key stored place places after pairs more_pairs texts text added at same is pushed had =
    let is_there : Bool = list_any (λ k. pointwise nat_eq (seen key) (seen k)) old in
    let (more, longer) = grown is_there old key in
    let names : map seen new ≡ map seen old ++ map seen more = ap (map seen) (added ∙ longer) ∙ map-append seen old more in
    let there : slice_get (map seen new) place ≡ Some text =
    slice_get-map seen new place ∙ ap (option_map seen) at ∙ ap (λ (t : List ℕ). Some t) (sym ((bytes_decides (seen key) (seen stored)).0 same) ∙ is) in
    let before : ArePlaces (map seen new) places texts =
    subst (λ (n : List (List ℕ)). ArePlaces n places texts) (sym names) (still_places (map seen old) (map seen more) places texts had.each) in
    let with_key : map seen new ≡ with_name (map seen old) (seen key) =
    ap (map seen) added ∙ seen_grown seen is_there old key
    ∙ ap (λ (b : Bool). if b then map seen old else map seen old ++ seen key ∷ []) (sym (any_seen (pointwise nat_eq (seen key)) seen old)) in
    record {
      names = with_key ∙ (λ i. with_name (had.names i) (is i)) ∙ sym (fold_push with_name [] texts text);
      each = subst (λ (p : List ℕ). ArePlaces (map seen new) p (texts ++ text ∷ [])) (sym pushed) (one_place (map seen new) places texts place text before there);
    }

pub no_hosts : {K : Type 0} (seen : K → List ℕ) (keys : List K) (places : List ℕ) (pairs : List (Ip × ℕ)) → keys ≡ [] → places ≡ []
    → AreNamed [] (record { names = map seen keys; places = places; pairs = pairs })
no_hosts seen keys places pairs none nothing = record { names = ap (map seen) none; each = subst (λ (p : List ℕ). ArePlaces (map seen keys) p []) (sym nothing) tt }

-- a pair more, by the equality of the code
pub pair_more : (pairs : List (Ip × ℕ)) (pair : Ip × ℕ)
    → (if list_any (λ (other : Ip × ℕ). eq-value.it pair.0 other.0 && (pair.1 == other.1)) pairs then pairs else pairs ++ pair ∷ []) ≡ with_pair pairs pair
pair_more pairs pair = λ i. if list_any (λ (other : Ip × ℕ). same_as pair.0 other.0 i && (pair.1 == other.1)) pairs then pairs else pairs ++ pair ∷ []

zip_push : {X Y : Type 0} (xs : List X) (ys : List Y) (x : X) (y : Y) → length xs ≡ length ys → zip (xs ++ x ∷ []) (ys ++ y ∷ []) ≡ zip xs ys ++ (x, y) ∷ []
zip_push [] [] x y same = refl
zip_push [] (b ∷ ys) x y same = absurd (omega arith)
zip_push (a ∷ xs) [] x y same = absurd (omega arith)
zip_push (a ∷ xs) (b ∷ ys) x y same = ap (λ l. (a, b) ∷ l) (zip_push xs ys x y (omega arith))

-- there are as many places as texts
as_many : (names : List (List ℕ)) (places : List ℕ) (texts : List (List ℕ)) → ArePlaces names places texts → length places ≡ length texts
as_many names [] [] are = refl
as_many names [] (text ∷ texts) are = absurd are
as_many names (place ∷ places) [] are = absurd are
as_many names (place ∷ places) (text ∷ texts) are = ap suc (as_many names places texts are.1)

-- the pairs of one run more
pub pairs_on : (named : Named) (host : ℕ) (runs : List Run) (run : Run) → AreNamed (map host_of runs) named
    → pairs_of (named.places ++ host ∷ []) (runs ++ run ∷ []) ≡ fold with_pair (pairs_of named.places runs) (pairs_at host run.said run.report.lines)
pairs_on named host runs run are =
    let own : ℕ × Run → List (Ip × ℕ) = λ placed. pairs_at placed.0 placed.1.said placed.1.report.lines in
    let long : length named.places ≡ length runs = as_many named.names named.places (map host_of runs) are.each ∙ length-map runs host_of in
    ap (λ (l : List (ℕ × Run)). fold with_pair [] (flat_map own l)) (zip_push named.places runs host run long)
    ∙ ap (λ (l : List (Ip × ℕ)). fold with_pair [] l) (flat_map-append own (zip named.places runs) ((host, run) ∷ []) ∙ ap (λ (l : List (Ip × ℕ)). flat_map own (zip named.places runs) ++ l) (append-nil (own (host, run))))
    ∙ fold-append with_pair [] (flat_map own (zip named.places runs)) (own (host, run))

pub no_pairs : (places : List ℕ) → pairs_of places [] ≡ []
no_pairs [] = refl
no_pairs (place ∷ places) = refl
