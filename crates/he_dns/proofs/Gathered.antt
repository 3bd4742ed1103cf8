-- One more entry of an answer section.
use Rattle.std.proofs.Common.{◌≡◌, ℕ, zero, suc, ◌+◌, ◌-◌, ◌<◌, ◌≤◌, List, [], ◌∷◌, ◌++◌, Option, Some, None, refl, sym, ◌∙◌, ap, arith, append_assoc}
use Rattle.std.proofs.lemmas.List.{append-nil}
use Rattle.std.specs.Option.{option_map}
use Rattle.he_addr.specs.declared.ip.Family.{Family}
use Rattle.he_dns.specs.declared.entries.Entry.{Entry}
use Rattle.he_dns.specs.Reading.{entry_at, entries_from}

one_fewer : (count read : ℕ) → read < count → count - read ≡ suc (count - (read + 1))
one_fewer count read h = omega arith

pub none_step : (k : ℕ) (m : List ℕ) (f : Family) (at : ℕ) → None ≡ entry_at m f at → entries_from (suc k) m f at ≡ None
unfolding entries_from
none_step k m f at h = rw (← h) refl

pub entry_step : (k : ℕ) (m : List ℕ) (f : Family) (at : ℕ) (e : Entry) (end : ℕ) → Some (e, end) ≡ entry_at m f at
    → entries_from (suc k) m f at ≡ option_map (λ more. e ∷ more) (entries_from k m f end)
unfolding entries_from
entry_step k m f at e end h = rw (← h) refl

moved : (items : List Entry) (e : Entry) (o : Option (List Entry))
    → option_map (λ more. items ++ more) (option_map (λ more. e ∷ more) o) ≡ option_map (λ more. (items ++ e ∷ []) ++ more) o
moved items e None = refl
moved items e (Some more) = ap Some (sym (append_assoc items (e ∷ []) more))

pub begun : (o : Option (List Entry)) → o ≡ option_map (λ more. [] ++ more) o
begun None = refl
begun (Some more) = refl

pub entry_left : (count read : ℕ) (m : List ℕ) (f : Family) (at : ℕ) (items : List Entry) (e : Entry) (end : ℕ) (whole : Option (List Entry)) → read < count
    → whole ≡ option_map (λ more. items ++ more) (entries_from (count - read) m f at) → Some (e, end) ≡ entry_at m f at
    → whole ≡ option_map (λ more. (items ++ e ∷ []) ++ more) (entries_from (count - (read + 1)) m f end)
entry_left count read m f at items e end whole lt same h =
    same ∙ ap (λ k. option_map (λ more. items ++ more) (entries_from k m f at)) (one_fewer count read lt)
    ∙ ap (λ o. option_map (λ more. items ++ more) o) (entry_step (count - (read + 1)) m f at e end h)
    ∙ moved items e (entries_from (count - (read + 1)) m f end)

pub none_left : (count read : ℕ) (m : List ℕ) (f : Family) (at : ℕ) (items : List Entry) (whole : Option (List Entry)) → read < count
    → whole ≡ option_map (λ more. items ++ more) (entries_from (count - read) m f at) → None ≡ entry_at m f at → whole ≡ None
none_left count read m f at items whole lt same h =
    same ∙ ap (λ k. option_map (λ more. items ++ more) (entries_from k m f at)) (one_fewer count read lt)
    ∙ ap (λ o. option_map (λ more. items ++ more) o) (none_step (count - (read + 1)) m f at h)

pub all_read : (count read : ℕ) (m : List ℕ) (f : Family) (at : ℕ) (items : List Entry) (whole : Option (List Entry)) → count ≤ read
    → whole ≡ option_map (λ more. items ++ more) (entries_from (count - read) m f at) → whole ≡ Some items
unfolding entries_from
all_read count read m f at items whole le same =
    let e0 : count - read ≡ zero = omega arith in
    same ∙ ap (λ k. option_map (λ more. items ++ more) (entries_from k m f at)) e0 ∙ ap Some (append-nil items)
