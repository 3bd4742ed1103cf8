-- What an account has for each owner, and what is added to it.
use Rattle.std.specs.Prelude.{ℕ, ◌≡◌, ◌+◌, ◌≤◌, List, [], ◌∷◌, if◌then◌else◌, length, nat_eq, slice_index, sum, sum_by}
use Rattle.he_course.specs.declared.accounts.Account.{Account}
use Rattle.he_course.specs.declared.accounts.Times.{Times}
use Rattle.he_course.specs.declared.owners.Owner.{Owner}
use Rattle.he_course.specs.declared.owners.Owner.TheVariants as owners
use Rattle.he_course.specs.Owners.{IsOwner, ticks_of}

-- what an account has for an owner
abbrev pub amount_of : {A : Type 0} → Account A → Owner → ℕ
amount_of account owners.Names = account.names
amount_of account (owners.Tried place) = slice_index account.tried.items place
amount_of account owners.Nobody = account.nobody
amount_of account owners.Unknown = account.unknown
amount_of account owners.Machine = account.machine
amount_of account owners.Connecting = account.connecting

-- no owner has more than this
abbrev pub HasAtMost : {A : Type 0} → ℕ → Account A → Type 0
HasAtMost most account = (who : Owner) → IsOwner (length account.tried.items) who → amount_of account who ≤ most

-- each owner has gained the ticks from `from` on and before `to` that are its own
pub record HasGained {A : Type 0} (owner : ℕ → Owner) (from to : ℕ) (old new : Account A) : Type 0 where
  pub as_many : length new.tried.items ≡ length old.tried.items
  pub each : (who : Owner) → IsOwner (length old.tried.items) who
      → amount_of new who + ticks_of owner from who
      ≡ amount_of old who + ticks_of owner to who

-- what it has for all owners
abbrev pub total_of : {A : Type 0} → Account A → ℕ
total_of account =
    account.names + sum account.tried.items + account.nobody + account.unknown + account.machine + account.connecting

-- what was lost: all that addresses have that did not connect
abbrev pub lost_of : {A : Type 0} → Account A → ℕ
lost_of account = sum account.tried.items + account.nobody

-- the times of an account of a race that ended at `end`
abbrev pub times_of : {A : Type 0} → ℕ → Account A → Times
times_of end account =
    record {
      all = end;
      names = account.names;
      lost = account.lost;
      unknown = account.unknown;
      machine = account.machine;
      connecting = account.connecting;
    }

-- each key is once among the keys
abbrev pub AreKeys : List ℕ → List (ℕ × ℕ) → Type 0
AreKeys keys [] = Unit {0}
AreKeys keys (charge ∷ more) = (sum_by (λ key. if nat_eq key charge.0 then 1 else 0) keys ≡ 1) × AreKeys keys more

abbrev pub AreAllKeys : List ℕ → List (List (ℕ × ℕ)) → Type 0
AreAllKeys keys [] = Unit {0}
AreAllKeys keys (charges ∷ more) = AreKeys keys charges × AreAllKeys keys more

-- the milliseconds that are charged to a key
abbrev pub charged_to : List (ℕ × ℕ) → ℕ → ℕ
charged_to charges key = sum_by (λ charge. if nat_eq key charge.0 then charge.1 else 0) charges

-- the milliseconds of many accounts, each charged to a key (that of its owner's address, host, hour or family): summed
-- over the keys they are what they are over the accounts
abbrev pub ChargesAddUp : Type 0
ChargesAddUp =
    (accounts : List (List (ℕ × ℕ))) (keys : List ℕ) → AreAllKeys keys accounts
    → sum_by (λ key. sum_by (λ charges. charged_to charges key) accounts) keys
    ≡ sum_by (λ charges. sum_by (λ charge. charge.1) charges) accounts
