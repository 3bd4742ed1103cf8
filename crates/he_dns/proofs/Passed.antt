-- One more record of those behind a question.
use Rattle.std.proofs.Common.{◌≡◌, ℕ, zero, suc, ◌+◌, ◌-◌, ◌<◌, ◌≤◌, List, Option, Some, None, refl, ◌∙◌, ap, arith}
use Rattle.std.specs.Option.{unwrap_or}
use Rattle.he_dns.specs.declared.records.Record.{Record}
use Rattle.he_dns.specs.Reading.{behind_records, extended, extension_from, record_at}

one_fewer : (count read : ℕ) → read < count → count - read ≡ suc (count - (read + 1))
one_fewer count read h = omega arith

-- where it ends

passed_step : (k : ℕ) (m : List ℕ) (at : ℕ) (r : Record) → Some r ≡ record_at m at → behind_records (suc k) m at ≡ behind_records k m (r.place + r.size)
unfolding behind_records
passed_step k m at r h = rw (← h) refl

pub record_passed : (count read : ℕ) (m : List ℕ) (at : ℕ) (r : Record) (whole : Option ℕ) → read < count → whole ≡ behind_records (count - read) m at → Some r ≡ record_at m at
    → whole ≡ behind_records (count - (read + 1)) m (r.place + r.size)
record_passed count read m at r whole lt same h =
    same ∙ ap (λ k. behind_records k m at) (one_fewer count read lt) ∙ passed_step (count - (read + 1)) m at r h

stop_step : (k : ℕ) (m : List ℕ) (at : ℕ) → None ≡ record_at m at → behind_records (suc k) m at ≡ None
unfolding behind_records
stop_step k m at h = rw (← h) refl

pub none_passed : (count read : ℕ) (m : List ℕ) (at : ℕ) (whole : Option ℕ) → read < count → whole ≡ behind_records (count - read) m at → None ≡ record_at m at → whole ≡ None
none_passed count read m at whole lt same h =
    same ∙ ap (λ k. behind_records k m at) (one_fewer count read lt) ∙ stop_step (count - (read + 1)) m at h

pub all_passed : (count read : ℕ) (m : List ℕ) (at : ℕ) (whole : Option ℕ) → count ≤ read → whole ≡ behind_records (count - read) m at → whole ≡ Some at
unfolding behind_records
all_passed count read m at whole le same =
    let none : count - read ≡ zero = omega arith in
    same ∙ ap (λ k. behind_records k m at) none

-- the upper bits that it has

looked_step : (k : ℕ) (m : List ℕ) (found more : Option ℕ) (at : ℕ) (r : Record) → Some r ≡ record_at m at → Some more ≡ extended found r
    → extension_from (suc k) m found at ≡ extension_from k m more (r.place + r.size)
unfolding extension_from
looked_step k m found more at r h step = rw (← h, ← step) refl

pub record_looked : (count read : ℕ) (m : List ℕ) (found more : Option ℕ) (at : ℕ) (r : Record) (whole : Option ℕ) → read < count → whole ≡ extension_from (count - read) m found at
    → Some r ≡ record_at m at → Some more ≡ extended found r → whole ≡ extension_from (count - (read + 1)) m more (r.place + r.size)
record_looked count read m found more at r whole lt same h step =
    same ∙ ap (λ k. extension_from k m found at) (one_fewer count read lt) ∙ looked_step (count - (read + 1)) m found more at r h step

none_step : (k : ℕ) (m : List ℕ) (found : Option ℕ) (at : ℕ) → None ≡ record_at m at → extension_from (suc k) m found at ≡ None
unfolding extension_from
none_step k m found at h = rw (← h) refl

pub none_looked : (count read : ℕ) (m : List ℕ) (found : Option ℕ) (at : ℕ) (whole : Option ℕ) → read < count → whole ≡ extension_from (count - read) m found at → None ≡ record_at m at
    → whole ≡ None
none_looked count read m found at whole lt same h =
    same ∙ ap (λ k. extension_from k m found at) (one_fewer count read lt) ∙ none_step (count - (read + 1)) m found at h

wrong_step : (k : ℕ) (m : List ℕ) (found : Option ℕ) (at : ℕ) (r : Record) → Some r ≡ record_at m at → None ≡ extended found r → extension_from (suc k) m found at ≡ None
unfolding extension_from
wrong_step k m found at r h step = rw (← h, ← step) refl

pub wrong_looked : (count read : ℕ) (m : List ℕ) (found : Option ℕ) (at : ℕ) (r : Record) (whole : Option ℕ) → read < count → whole ≡ extension_from (count - read) m found at
    → Some r ≡ record_at m at → None ≡ extended found r → whole ≡ None
wrong_looked count read m found at r whole lt same h step =
    same ∙ ap (λ k. extension_from k m found at) (one_fewer count read lt) ∙ wrong_step (count - (read + 1)) m found at r h step

pub all_looked : (count read : ℕ) (m : List ℕ) (found : Option ℕ) (at : ℕ) (whole : Option ℕ) → count ≤ read → whole ≡ extension_from (count - read) m found at
    → whole ≡ Some (unwrap_or found 0)
unfolding extension_from
all_looked count read m found at whole le same =
    let none : count - read ≡ zero = omega arith in
    same ∙ ap (λ k. extension_from k m found at) none
