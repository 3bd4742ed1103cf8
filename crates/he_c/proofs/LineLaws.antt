-- Lines that are written piece by piece are the lines that were defined.
use Rattle.std.proofs.Common.{ℕ, ◌≡◌, ◌-◌, ◌==◌, ◌++◌, ◌∙◌, List, [], ◌∷◌, Bool, true, false, codes, decimal, eqb, if◌then◌else◌, length, map, max, refl, sym, ap, append_assoc, arith, ne_eqb}
use Rattle.std.specs.List.{join_with_byte}
use Rattle.std.proofs.lemmas.List.{append-nil}
use Rattle.he_addr.specs.Printing.{prefix_text, printed, source_text}
use Rattle.he_addr.specs.declared.ip.Ip.{Ip}
use Rattle.he_select.specs.declared.host.Route.{Route}
use Rattle.he_select.specs.declared.host.Source.{Source}
use Rattle.he_write.specs.Writing.{spaced}
use Rattle.he_write.specs.Written.{host_route_text, host_source_text, outcome_text, reply_text, written_line}
use Rattle.he_c.specs.Lines.{mark_between, outcome_of}

-- five pieces, one after another
pub five_joined : (a b c d e zero one two three four five : List ℕ) → zero ≡ [] → one ≡ zero ++ a → two ≡ one ++ b → three ≡ two ++ c
    → four ≡ three ++ d → five ≡ four ++ e → five ≡ a ++ (b ++ (c ++ (d ++ e)))
five_joined a b c d e zero one two three four five h0 h1 h2 h3 h4 h5 =
    let first : one ≡ a = h1 ∙ ap (λ (t : List ℕ). t ++ a) h0 in
    let second : two ≡ a ++ b = h2 ∙ ap (λ (t : List ℕ). t ++ b) first in
    let third : three ≡ (a ++ b) ++ c = h3 ∙ ap (λ (t : List ℕ). t ++ c) second in
    let fourth : four ≡ ((a ++ b) ++ c) ++ d = h4 ∙ ap (λ (t : List ℕ). t ++ d) third in
    h5 ∙ ap (λ (t : List ℕ). t ++ e) fourth ∙ five_shape a b c d e
  where
    five_shape : (a b c d e : List ℕ) → (((a ++ b) ++ c) ++ d) ++ e ≡ a ++ (b ++ (c ++ (d ++ e)))
    five_shape a b c d e = simp append_assoc

-- six pieces
pub six_joined : (a b c d e f zero one two three four five six : List ℕ) → zero ≡ [] → one ≡ zero ++ a → two ≡ one ++ b → three ≡ two ++ c
    → four ≡ three ++ d → five ≡ four ++ e → six ≡ five ++ f → six ≡ a ++ (b ++ (c ++ (d ++ (e ++ f))))
six_joined a b c d e f zero one two three four five six h0 h1 h2 h3 h4 h5 h6 =
    h6 ∙ ap (λ (t : List ℕ). t ++ f) (five_joined a b c d e zero one two three four five h0 h1 h2 h3 h4 h5) ∙ six_shape a b c d e f
  where
    six_shape : (a b c d e f : List ℕ) → (a ++ (b ++ (c ++ (d ++ e)))) ++ f ≡ a ++ (b ++ (c ++ (d ++ (e ++ f))))
    six_shape a b c d e f = simp append_assoc

connect_shape : (ip mark number : List ℕ) → codes "connect " ++ (ip ++ ((32 ∷ (mark ++ 32 ∷ [])) ++ (number ++ 10 ∷ []))) ≡ written_line (codes "connect" ∷ ip ∷ mark ∷ number ∷ [])
connect_shape ip mark number = simp append_assoc

pub connect_is : (ip : Ip) (connected start tick : ℕ)
    → codes "connect " ++ (printed ip ++ (mark_between connected ++ (decimal (max (tick - start) 1) ++ 10 ∷ []))) ≡ outcome_text (ip, outcome_of connected start tick)
connect_is ip connected start tick = by_end (eqb connected 0) refl
  where
    by_end : (b : Bool) → eqb connected 0 ≡ b
        → codes "connect " ++ (printed ip ++ (mark_between connected ++ (decimal (max (tick - start) 1) ++ 10 ∷ []))) ≡ outcome_text (ip, outcome_of connected start tick)
    by_end true e = rw e (connect_shape (printed ip) (codes "fail") (decimal (max (tick - start) 1)))
    by_end false e = rw e (connect_shape (printed ip) (codes "ok") (decimal (max (tick - start) 1)))

-- a line of a word, a text, a number and a mark that is set or not
marked_shape : (word text number mark : List ℕ) → (word ++ 32 ∷ []) ++ (text ++ ((32 ∷ []) ++ (number ++ ((32 ∷ mark) ++ 10 ∷ [])))) ≡ written_line (word ∷ text ∷ number ∷ mark ∷ [])
marked_shape word text number mark = simp append_assoc

bare_shape : (word text number : List ℕ) → (word ++ 32 ∷ []) ++ (text ++ ((32 ∷ []) ++ (number ++ ([] ++ 10 ∷ [])))) ≡ written_line (word ∷ text ∷ number ∷ [])
bare_shape word text number = simp append_assoc

pub source_is : (source : Source) → source.temporary ≡ false
    → codes "source " ++ (source_text source.ip source.plen ++ ((32 ∷ []) ++ (decimal source.interface ++ ((if source.deprecated then codes " deprecated" else []) ++ 10 ∷ [])))) ≡ host_source_text source
source_is source lasting = by_mark source.deprecated refl
  where
    by_mark : (b : Bool) → source.deprecated ≡ b
        → codes "source " ++ (source_text source.ip source.plen ++ ((32 ∷ []) ++ (decimal source.interface ++ ((if source.deprecated then codes " deprecated" else []) ++ 10 ∷ [])))) ≡ host_source_text source
    by_mark true e = rw e (rw lasting (marked_shape (codes "source") (source_text source.ip source.plen) (decimal source.interface) (codes "deprecated")))
    by_mark false e = rw e (rw lasting (bare_shape (codes "source") (source_text source.ip source.plen) (decimal source.interface)))

pub route_is : (route : Route)
    → codes "route " ++ (prefix_text true route.prefix ++ ((32 ∷ []) ++ (decimal route.interface ++ ((if route.tunnel then codes " tunnel" else []) ++ 10 ∷ [])))) ≡ host_route_text route
route_is route = by_mark route.tunnel refl
  where
    by_mark : (b : Bool) → route.tunnel ≡ b
        → codes "route " ++ (prefix_text true route.prefix ++ ((32 ∷ []) ++ (decimal route.interface ++ ((if route.tunnel then codes " tunnel" else []) ++ 10 ∷ [])))) ≡ host_route_text route
    by_mark true e = rw e (marked_shape (codes "route") (prefix_text true route.prefix) (decimal route.interface) (codes "tunnel"))
    by_mark false e = rw e (bare_shape (codes "route") (prefix_text true route.prefix) (decimal route.interface))

joined_spaced : (first : List ℕ) (others : List (List ℕ)) → join_with_byte 32 (first ∷ others) ≡ first ++ spaced others
joined_spaced first [] = sym (append-nil first)
joined_spaced first (next ∷ others) = ap (λ (text : List ℕ). first ++ 32 ∷ text) (joined_spaced next others)

line_is : (first : List ℕ) (others : List (List ℕ)) → written_line (first ∷ others) ≡ (first ++ spaced others) ++ 10 ∷ []
line_is first others = ap (λ (text : List ℕ). text ++ 10 ∷ []) (joined_spaced first others)

listed_shape : (word number rest : List ℕ) → word ++ ((32 ∷ []) ++ (number ++ ([] ++ (rest ++ 10 ∷ [])))) ≡ (word ++ 32 ∷ (number ++ rest)) ++ 10 ∷ []
listed_shape word number rest = simp append_assoc

none_shape : (word number none : List ℕ) → word ++ ((32 ∷ []) ++ (number ++ ((32 ∷ none) ++ ([] ++ 10 ∷ [])))) ≡ written_line (word ∷ number ∷ none ∷ [])
none_shape word number none = simp append_assoc

pub reply_is : (word : List ℕ) (tick : ℕ) (ips : List Ip)
    → word ++ ((32 ∷ []) ++ (decimal tick ++ ((if length ips == 0 then codes " none" else []) ++ (spaced (map printed ips) ++ 10 ∷ [])))) ≡ reply_text word tick ips
reply_is word tick [] = none_shape word (decimal tick) (codes "none")
reply_is word tick (ip ∷ ips) =
    let some : eqb (length (ip ∷ ips)) 0 ≡ false = ne_eqb (length (ip ∷ ips)) 0 (λ none. omega (arith, none)) in
    ap (λ (b : Bool). word ++ ((32 ∷ []) ++ (decimal tick ++ ((if b then codes " none" else []) ++ (spaced (map printed (ip ∷ ips)) ++ 10 ∷ []))))) some
    ∙ listed_shape word (decimal tick) (spaced (map printed (ip ∷ ips))) ∙ sym (line_is word (decimal tick ∷ map printed (ip ∷ ips)))
