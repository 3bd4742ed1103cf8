-- The record lines of a look-up.
use Rattle.std.proofs.Common.{◌≡◌, ℕ, List, Bool, subst, sym}
use Rattle.std.specs.Global.{Vec}
use Rattle.std.specs.Prelude.{Result, Ok, Err, IfOk, OnOk}
use Rattle.he_resolver.specs.declared.naming.LookupReport.{LookupReport}
use Rattle.he_command.specs.Names.{IsLookupText, KeepsLookup, WasKept}

pub was_kept : {E F : Type 0} (IsWritten : List ℕ → Type 0) (given : Result (Vec ℕ) F) (text : Vec ℕ) (own : List ℕ) (result : Result (Unit {0}) E)
    → given ≡ Ok text → own ≡ text.items → OnOk result (IsWritten own) → OnOk result (WasKept IsWritten given)
was_kept {E} {F} IsWritten given text own (Ok done) is same written =
    subst (λ (r : Result (Vec ℕ) F). WasKept IsWritten r) (sym is) (subst IsWritten same written)
was_kept {E} {F} IsWritten given text own (Err error) is same written = tt

pub kept_lookup : {F : Type 0} (IsWritten : List ℕ → Type 0) (lookup : LookupReport) (is_found : Bool) (given : Result (Vec ℕ) F)
    → IfOk given (λ text. IsLookupText lookup is_found text.items) → WasKept IsWritten given → KeepsLookup IsWritten lookup is_found
kept_lookup IsWritten lookup is_found (Ok text) is written = (text.items, is, written)
kept_lookup IsWritten lookup is_found (Err fault) is none = absurd none
