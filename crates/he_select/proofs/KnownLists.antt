-- What is known of addresses: a list that tells nothing is as good as none, and each address is found in a list of
-- all.
use Rattle.std.proofs.Common.{◌≡◌, ℕ, ◌||◌, ◌&&◌, Bool, true, false, List, [], ◌∷◌, map, refl, sym, ◌∙◌, ap, inl, inr, slice_get, zero, suc}
use Rattle.std.specs.Prelude.{Option, None, Some, is_some}
use Rattle.std.specs.List.{list_all, list_any}
use Rattle.std.proofs.lemmas.Bool.{cases_Bool}
use Rattle.he_addr.specs.declared.ip.Ip.{Ip}
use Rattle.he_addr.specs.Ip.{is_usable, same_ip}
use Rattle.he_select.specs.declared.host.Route.{Route}
use Rattle.he_select.specs.declared.known.Known.{Known}
use Rattle.he_select.specs.declared.policy.Row.{Row}
use Rattle.he_select.specs.declared.selection.LabelledSource.{LabelledSource}
use Rattle.he_select.specs.declared.attributes.DestinationAttributes.{DestinationAttributes}
use Rattle.he_select.specs.Selection.{known_of, known_rtt, known_used, nothing_known}
use Rattle.he_select.specs.Attributes.{attributes_with, tells, told_of}
use Rattle.he_select.proofs.Equality.{ip_from, ip_self}

or_left : (a b : Bool) → (a || b) ≡ false → a ≡ false
or_left true b e = cc
or_left false b e = refl

or_right : (a b : Bool) → (a || b) ≡ false → b ≡ false
or_right true b e = cc
or_right false b e = e

not_some : {X : Type 0} (o : Option X) → is_some o ≡ false → o ≡ None
not_some None e = refl
not_some (Some x) e = cc

-- in a list that tells nothing, nothing is known of any address
pub untold_rtt : (known : List Known) (ip : Ip) → list_any tells known ≡ false → known_rtt known ip ≡ None
untold_rtt [] ip e = refl
untold_rtt (one ∷ more) ip e =
    elim (cases_Bool (same_ip one.ip ip)) [
      | inl here ↦ rw here (not_some one.rtt (or_left (is_some one.rtt) one.used (or_left (tells one) (list_any tells more) e)))
      | inr gone ↦ rw gone (untold_rtt more ip (or_right (tells one) (list_any tells more) e))
    ]

pub untold_used : (known : List Known) (ip : Ip) → list_any tells known ≡ false → known_used known ip ≡ false
untold_used [] ip e = refl
untold_used (one ∷ more) ip e =
    elim (cases_Bool (same_ip one.ip ip)) [
      | inl here ↦ rw here (or_right (is_some one.rtt) one.used (or_left (tells one) (list_any tells more) e))
      | inr gone ↦ rw gone (untold_used more ip (or_right (tells one) (list_any tells more) e))
    ]

told_rtt : (known : List Known) (ip : Ip) → known_rtt (told_of known) ip ≡ known_rtt known ip
told_rtt known ip =
    elim (cases_Bool (list_any tells known)) [
      | inl any ↦ rw any refl
      | inr none ↦ rw none (sym (untold_rtt known ip none))
    ]

told_used : (known : List Known) (ip : Ip) → known_used (told_of known) ip ≡ known_used known ip
told_used known ip =
    elim (cases_Bool (list_any tells known)) [
      | inl any ↦ rw any refl
      | inr none ↦ rw none (sym (untold_used known ip none))
    ]

-- what is known, where all else is at hand
pub attributes_knowing : (rows : List Row) (route : Option Route) (source : Option LabelledSource) (known other : List Known) (ip : Ip)
    → known_rtt known ip ≡ known_rtt other ip → known_used known ip ≡ known_used other ip → attributes_with rows route source known ip ≡ attributes_with rows route source other ip
attributes_knowing rows route source known other ip by_rtt by_used =
    let bare : DestinationAttributes = attributes_with rows route source [] ip in
    let made : Option ℕ → Bool → DestinationAttributes = λ rtt used. record { ip = ip; source = source; scope = bare.scope; label = bare.label; precedence = bare.precedence; tunnel = bare.tunnel; common = bare.common; rtt = rtt; used = used } in
    ap (λ rtt. made rtt (known_used known ip)) by_rtt ∙ ap (made (known_rtt other ip)) by_used

pub attributes_told : (rows : List Row) (route : Option Route) (source : Option LabelledSource) (known : List Known) (ip : Ip)
    → attributes_with rows route source (told_of known) ip ≡ attributes_with rows route source known ip
attributes_told rows route source known ip = attributes_knowing rows route source (told_of known) known ip (told_rtt known ip) (told_used known ip)

-- addresses of which nothing is known
pub nothing_told : (ips : List Ip) → list_any tells (map nothing_known ips) ≡ false
nothing_told [] = refl
nothing_told (ip ∷ ips) = nothing_told ips

-- what is known of each address of a list is found in the list of all that is known of them
pub known_in : (f : Ip → Known) → ((ip : Ip) → (f ip).ip ≡ ip) → (ips : List Ip) (i : ℕ) (ip : Ip) → slice_get ips i ≡ Some ip → known_of (map f ips) ip ≡ Some (f ip)
known_in f own [] i ip at = cc
known_in f own (x ∷ xs) zero ip at =
    let same : x ≡ ip = cc in
    let here : same_ip (f x).ip ip ≡ true = ap (λ y. same_ip y ip) (own x ∙ same) ∙ ip_self ip in
    rw here (ap (λ y. Some (f y)) same)
known_in f own (x ∷ xs) (suc i) ip at =
    elim (cases_Bool (same_ip (f x).ip ip)) [
      | inl here ↦ rw here (ap (λ y. Some (f y)) (sym (own x) ∙ ip_from (f x).ip ip here))
      | inr gone ↦ rw gone (known_in f own xs i ip at)
    ]

pub usable_ips : (known : List Known) → list_all is_usable (map (λ (one : Known). one.ip) known) ≡ list_all (λ (one : Known). is_usable one.ip) known
usable_ips [] = refl
usable_ips (one ∷ more) = ap (λ t. is_usable one.ip && t) (usable_ips more)
