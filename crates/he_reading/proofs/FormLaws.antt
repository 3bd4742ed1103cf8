-- The addresses of an answer, read one after the other.
use Rattle.std.proofs.Common.{◌≡◌, ℕ, Bool, true, false, cond, Option, Some, None, ◌+◌, List, [], ◌∷◌, ◌++◌, length, Result, Ok, Err, refl, sym, ◌∙◌, ap, arith, append_assoc}
use Rattle.std.proofs.lemmas.List.{append-nil}
use Rattle.std.specs.Option.{ok_or}
use Rattle.he_addr.specs.declared.ip.Family.{Family}
use Rattle.he_addr.specs.declared.ip.Family.TheVariants as families
use Rattle.he_addr.specs.declared.ip.Ip.{Ip}
use Rattle.he_addr.specs.Reading.{ip_in, ip_of_in, ◌>>=◌ as bound}
use Rattle.he_timeline.specs.Timeline.{is_of}
use Rattle.he_words.specs.declared.fault.TextKind.{TextKind}
use Rattle.he_timeline.specs.Building.{add_answer}
use Rattle.he_timeline.specs.Race.{Race}
use Rattle.he_words.specs.declared.fault.TextKind.TheVariants as kinds
use Rattle.he_reading.specs.Forms.{address_in, addresses_in, listed_in, answer_in, setting_in, pause_in, row_in, connect_in, ◌>>=◌}
use Rattle.he_reading.specs.Reading.{prepend, built, with_tick, take_listed, take_answer}

-- an address of a family is one that the reader of this family alone finds
pub address_of : (family : Family) (token : List ℕ) → address_in family token ≡ ok_or (ip_of_in family token) kinds.Address
unfolding address_in ip_of_in
address_of family token = by_family family (ip_in token)
  where
    by_test : (b : Bool) (ip : Ip) → cond b (Ok ip) (Err kinds.Address) ≡ ok_or (cond b (Some ip) None) kinds.Address
    by_test true ip = refl
    by_test false ip = refl

    by_family : (f : Family) (read : Option Ip) → (ok_or read kinds.Address >>= λ ip. cond (is_of f ip) (Ok ip) (Err kinds.Address)) ≡ ok_or (bound read (λ ip. cond (is_of f ip) (Some ip) None)) kinds.Address
    by_family f None = refl
    by_family families.V4 (Some ip) = by_test (is_of families.V4 ip) ip
    by_family families.V6 (Some ip) = by_test (is_of families.V6 ip) ip

prepend_more : (ips : List Ip) (ip : Ip) (read : Result (List Ip) TextKind) → prepend ips (read >>= λ more. Ok (ip ∷ more)) ≡ prepend (ips ++ ip ∷ []) read
prepend_more ips ip (Ok more) = ap Ok (sym (append_assoc ips (ip ∷ []) more))
prepend_more ips ip (Err kind) = refl

-- nothing is read yet
pub addresses_begin : (ips : List Ip) (read : Result (List Ip) TextKind) → ips ≡ [] → prepend ips read ≡ read
addresses_begin ips (Ok more) none = ap (λ front. Ok (front ++ more)) none
addresses_begin ips (Err kind) none = refl

pub addresses_more : (ips : List Ip) (family : Family) (tokens more : List (List ℕ)) (token : List ℕ) (ip : Ip)
    → tokens ≡ token ∷ more → address_in family token ≡ Ok ip
    → prepend ips (addresses_in family tokens) ≡ prepend (ips ++ ip ∷ []) (addresses_in family more)
unfolding addresses_in
addresses_more ips family tokens more token ip is read =
    ap (λ ts. prepend ips (addresses_in family ts)) is
    ∙ ap (λ r. prepend ips (r >>= λ ip. addresses_in family more >>= λ rest. Ok (ip ∷ rest))) read
    ∙ prepend_more ips ip (addresses_in family more)

pub addresses_wrong : (ips : List Ip) (family : Family) (tokens more : List (List ℕ)) (token : List ℕ) (kind : TextKind)
    → tokens ≡ token ∷ more → address_in family token ≡ Err kind
    → prepend ips (addresses_in family tokens) ≡ Err kind
unfolding addresses_in
addresses_wrong ips family tokens more token kind is read =
    ap (λ ts. prepend ips (addresses_in family ts)) is
    ∙ ap (λ r. prepend ips (r >>= λ ip. addresses_in family more >>= λ rest. Ok (ip ∷ rest))) read

pub addresses_end : (ips : List Ip) (family : Family) (tokens : List (List ℕ)) → tokens ≡ [] → prepend ips (addresses_in family tokens) ≡ Ok ips
unfolding addresses_in
addresses_end ips family tokens is = ap (λ ts. prepend ips (addresses_in family ts)) is ∙ ap Ok (append-nil ips)

list_taken : (family : Family) (tick : ℕ) (race : Race) (read : Result (List Ip) TextKind)
    → (with_tick tick read >>= λ reply. built (add_answer family reply.tick reply.addresses race)) ≡ (read >>= λ ips. built (add_answer family tick ips race))
list_taken family tick race (Ok ips) = refl
list_taken family tick race (Err kind) = refl

-- an answer is taken as its list is
pub answer_taken : (family : Family) (tokens listed : List (List ℕ)) (tick : ℕ) (race : Race) → answer_in family tokens ≡ with_tick tick (listed_in family listed)
    → take_answer family tokens race ≡ take_listed family tick listed race
unfolding take_answer take_listed
answer_taken family tokens listed tick race is =
    ap (λ r. r >>= λ reply. built (add_answer family reply.tick reply.addresses race)) is ∙ list_taken family tick race (listed_in family listed)

pub answer_wrong : (family : Family) (tokens : List (List ℕ)) (kind : TextKind) (race : Race) → answer_in family tokens ≡ Err kind → take_answer family tokens race ≡ Err kind
unfolding take_answer
answer_wrong family tokens kind race is = ap (λ r. r >>= λ reply. built (add_answer family reply.tick reply.addresses race)) is

-- where one token is left it is the first
pub only_token : (tokens more : List (List ℕ)) (first : List ℕ) → tokens ≡ first ∷ more → length more + 1 ≡ 1 → tokens ≡ first ∷ []
only_token tokens [] first is one = is
only_token tokens (token ∷ more) first is one = absurd (omega arith)

-- a line with another number of tokens than its form has
pub setting_of_two : (tokens : List (List ℕ)) → (length tokens ≡ 2 → ⊥) → setting_in tokens ≡ Err kinds.Word
unfolding setting_in
setting_of_two [] other = refl
setting_of_two (a ∷ []) other = refl
setting_of_two (a ∷ b ∷ []) other = absurd (other refl)
setting_of_two (a ∷ b ∷ c ∷ more) other = refl

pub pause_of_two : (tokens : List (List ℕ)) → (length tokens ≡ 2 → ⊥) → pause_in tokens ≡ Err kinds.Word
unfolding pause_in
pause_of_two [] other = refl
pause_of_two (a ∷ []) other = refl
pause_of_two (a ∷ b ∷ []) other = absurd (other refl)
pause_of_two (a ∷ b ∷ c ∷ more) other = refl

pub row_of_three : (tokens : List (List ℕ)) → (length tokens ≡ 3 → ⊥) → row_in tokens ≡ Err kinds.Word
unfolding row_in
row_of_three [] other = refl
row_of_three (a ∷ []) other = refl
row_of_three (a ∷ b ∷ []) other = refl
row_of_three (a ∷ b ∷ c ∷ []) other = absurd (other refl)
row_of_three (a ∷ b ∷ c ∷ d ∷ more) other = refl

pub connect_of_three : (known : Ip → Bool) (tokens : List (List ℕ)) → (length tokens ≡ 3 → ⊥) → connect_in known tokens ≡ Err kinds.Word
unfolding connect_in
connect_of_three known [] other = refl
connect_of_three known (a ∷ []) other = refl
connect_of_three known (a ∷ b ∷ []) other = refl
connect_of_three known (a ∷ b ∷ c ∷ []) other = absurd (other refl)
connect_of_three known (a ∷ b ∷ c ∷ d ∷ more) other = refl
