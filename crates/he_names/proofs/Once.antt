-- What one more address adds to those that stand once.
use Rattle.std.proofs.Common.{◌≡◌, ℕ, ◌+◌, ◌<◌, Bool, true, false, cond, not, ◌||◌, List, [], ◌∷◌, ◌++◌, filter, length, take, get_or, refl, sym, ◌∙◌, ap, add-one}
use Rattle.std.proofs.lemmas.List.{append-nil}
use Rattle.std.proofs.Math.Seq.{take-suc}
use Rattle.std.proofs.lemmas.Bool.{eqb-true}
use Rattle.std.proofs.lemmas.List.Elements.{filter-append}
use Rattle.std.specs.List.{list_any}
use Rattle.he_addr.specs.declared.ip.Ip.{Ip}
use Rattle.he_addr.specs.declared.ip.Ip.TheVariants.{V4, V6}
use Rattle.he_addr.specs.Ip.{same_ip}
use Rattle.he_names.specs.Answers.{each_once}

abbrev pub has : List Ip → Ip → Bool
has ips ip = list_any (λ other. same_ip other ip) ips

-- the list with an address that it may have already
abbrev pub added : List Ip → Ip → List Ip
added ips ip = cond (has ips ip) ips (ips ++ ip ∷ [])

abbrev others : Ip → List Ip → List Ip
others first ips = filter (λ other. not (same_ip first other)) ips

same_sound : (x y : Ip) → same_ip x y ≡ true → x ≡ y
same_sound (V4 m) (V4 n) h = ap (λ k. V4 k) (eqb-true m n h)
same_sound (V6 m) (V6 n) h = ap (λ k. V6 k) (eqb-true m n h)
same_sound (V4 m) (V6 n) h = cc
same_sound (V6 m) (V4 n) h = cc

or_same : (a h k : Bool) → (a || h) ≡ (a || k) → (a || h) ≡ (a || (a || k))
or_same true h k e = refl
or_same false h k e = e

or_more : (a h k s : Bool) → (a || h) ≡ (a || k) → (a || (s || h)) ≡ (a || (s || k))
or_more true h k s e = refl
or_more false h k true e = refl
or_more false h k false e = e

-- where the first address is looked at too, leaving out its like loses none
has_step : (x ip y : Ip) (ys : List Ip) → (same_ip x ip || has (others x ys) ip) ≡ (same_ip x ip || has ys ip)
    → (b : Bool) → same_ip x y ≡ b
    → (same_ip x ip || has (cond (not b) (y ∷ others x ys) (others x ys)) ip) ≡ (same_ip x ip || (same_ip y ip || has ys ip))
has_step x ip y ys more true e =
    or_same (same_ip x ip) (has (others x ys) ip) (has ys ip) more
    ∙ ap (λ z. same_ip x ip || (same_ip z ip || has ys ip)) (same_sound x y e)
has_step x ip y ys more false e = or_more (same_ip x ip) (has (others x ys) ip) (has ys ip) (same_ip y ip) more

has_others : (x ip : Ip) (ips : List Ip) → (same_ip x ip || has (others x ips) ip) ≡ (same_ip x ip || has ips ip)
has_others x ip [] = refl
has_others x ip (y ∷ ys) = has_step x ip y ys (has_others x ip ys) (same_ip x y) refl

others_more : (x ip : Ip) (ips : List Ip) (a : Bool) → same_ip x ip ≡ a → others x (ips ++ ip ∷ []) ≡ others x ips ++ cond (not a) (ip ∷ []) []
others_more x ip ips a e =
    filter-append (λ other. not (same_ip x other)) ips (ip ∷ [])
    ∙ ap (λ b. others x ips ++ cond (not b) (ip ∷ []) []) e

added_step : (x ip : Ip) (ips : List Ip) (h a : Bool) → same_ip x ip ≡ a
    → x ∷ others x (cond h ips (ips ++ ip ∷ [])) ≡ cond (a || h) (x ∷ others x ips) ((x ∷ others x ips) ++ ip ∷ [])
added_step x ip ips true true e = refl
added_step x ip ips true false e = refl
added_step x ip ips false true e = ap (λ ys. x ∷ ys) (others_more x ip ips true e ∙ append-nil (others x ips))
added_step x ip ips false false e = ap (λ ys. x ∷ ys) (others_more x ip ips false e)

added_more : (x ip : Ip) (ips : List Ip) → x ∷ others x (added ips ip) ≡ added (x ∷ others x ips) ip
added_more x ip ips =
    added_step x ip ips (has ips ip) (same_ip x ip) refl
    ∙ ap (λ b. cond b (x ∷ others x ips) ((x ∷ others x ips) ++ ip ∷ [])) (sym (has_others x ip ips))

pub once_more : (ips : List Ip) (ip : Ip) → each_once (ips ++ ip ∷ []) ≡ added (each_once ips) ip
once_more [] ip = refl
once_more (x ∷ xs) ip = ap (λ ys. x ∷ others x ys) (once_more xs ip) ∙ added_more x ip (each_once xs)

-- the step of a loop over the addresses: one that is kept already, by a test, is passed over
pub kept_more : (ips kept : List Ip) (i : ℕ) (d : Ip) (b : Bool) → i < length ips → kept ≡ each_once (take i ips) → b ≡ has kept (get_or ips i d)
    → cond b kept (kept ++ get_or ips i d ∷ []) ≡ each_once (take (i + 1) ips)
kept_more ips kept i d b h k e =
    let ip = get_or ips i d in
    ap (λ found. cond found kept (kept ++ ip ∷ [])) e
    ∙ ap (λ ks. added ks ip) k
    ∙ sym (once_more (take i ips) ip)
    ∙ sym (rw (add-one, take-suc ips i d h) refl)

-- a test of a list is one of its like
pub has_alike : (found : Bool) (xs ys : List Ip) (ip : Ip) → found ≡ has xs ip → xs ≡ ys → found ≡ has ys ip
has_alike found xs ys ip e same = e ∙ ap (λ ips. has ips ip) same
