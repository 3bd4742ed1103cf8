-- The users of the lines, one line after the other.
use Rattle.std.proofs.Common.{◌≡◌, ℕ, ◌+◌, ◌<◌, List, [], ◌∷◌, ◌++◌, Option, Some, None, append_assoc, arith, drop, get_or, length, sym, ap, take, ◌∙◌}
use Rattle.std.specs.Borrow.{Bor}
use Rattle.std.proofs.lemmas.List.{drop_more, length-map, length-take-le, map-append, map_more, map_push, take-append-drop}
use Rattle.std.proofs.lemmas.List.Elements.{filter_map-append}
use Rattle.std.specs.List.{cons_option, filter_map}
use Rattle.he_users.specs.declared.fault.LineFault.{LineFault}
use Rattle.he_users.specs.declared.users.User.{User}
use Rattle.he_users.specs.Lines.{IsFirstWrong, fault_in, pairs, texts, user_in}

-- the lines before this one are right; these users and those of the lines from it on are all
abbrev pub IsSoFar : List (Bor (List ℕ)) → ℕ → List (List ℕ × List ℕ) → Type 0
IsSoFar lines at found =
    (filter_map fault_in (texts (take at lines)) ≡ [])
    × (found ++ filter_map user_in (texts (drop at lines)) ≡ filter_map user_in (texts lines))

-- this line is right too
right_too : (lines : List (Bor (List ℕ))) (at : ℕ) (d : Bor (List ℕ)) → at < length lines → fault_in (get_or lines at d).now ≡ None
    → filter_map fault_in (texts (take at lines)) ≡ [] → filter_map fault_in (texts (take (at + 1) lines)) ≡ []
right_too lines at d less right so_far =
    ap (λ (xs : List (List ℕ)). filter_map fault_in xs) (map_more (λ (reference : Bor (List ℕ)). reference.now) lines at d less)
    ∙ filter_map-append fault_in (texts (take at lines)) ((get_or lines at d).now ∷ [])
    ∙ ap (λ (xs : List LineFault). xs ++ filter_map fault_in ((get_or lines at d).now ∷ [])) so_far
    ∙ ap (λ (found : Option LineFault). cons_option found []) right

-- the users of this line and of those after it
users_from : (lines : List (Bor (List ℕ))) (at : ℕ) (d : Bor (List ℕ)) → at < length lines
    → filter_map user_in (texts (drop at lines)) ≡ cons_option (user_in (get_or lines at d).now) (filter_map user_in (texts (drop (at + 1) lines)))
users_from lines at d less = ap (λ (xs : List (Bor (List ℕ))). filter_map user_in (texts xs)) (drop_more lines at d less)

pub skipped_line : (lines : List (Bor (List ℕ))) (at : ℕ) (d : Bor (List ℕ)) (found : List (List ℕ × List ℕ)) → at < length lines
    → (user_in (get_or lines at d).now ≡ None) × (fault_in (get_or lines at d).now ≡ None)
    → IsSoFar lines at found → IsSoFar lines (at + 1) found
skipped_line lines at d found less (none, right) (so_far, users) = (
  right_too lines at d less right so_far,
  ap (λ (xs : List (List ℕ × List ℕ)). found ++ xs) (sym (users_from lines at d less
      ∙ ap (λ (user : Option (List ℕ × List ℕ)). cons_option user (filter_map user_in (texts (drop (at + 1) lines)))) none))
      ∙ users,
)

pub user_line : (lines : List (Bor (List ℕ))) (at : ℕ) (d : Bor (List ℕ)) (found : List (List ℕ × List ℕ)) (user : List ℕ × List ℕ)
    → at < length lines
    → (user_in (get_or lines at d).now ≡ Some user) × (fault_in (get_or lines at d).now ≡ None)
    → IsSoFar lines at found → IsSoFar lines (at + 1) (found ++ user ∷ [])
user_line lines at d found user less (some, right) (so_far, users) = (
  right_too lines at d less right so_far,
  append_assoc found (user ∷ []) (filter_map user_in (texts (drop (at + 1) lines)))
      ∙ ap (λ (xs : List (List ℕ × List ℕ)). found ++ xs) (sym (users_from lines at d less
      ∙ ap (λ (one : Option (List ℕ × List ℕ)). cons_option one (filter_map user_in (texts (drop (at + 1) lines)))) some))
      ∙ users,
)

pub wrong_line : (lines : List (Bor (List ℕ))) (at : ℕ) (d : Bor (List ℕ)) (fault : LineFault) → at < length lines
    → filter_map fault_in (texts (take at lines)) ≡ [] → fault_in (get_or lines at d).now ≡ Some fault
    → IsFirstWrong (texts lines) (at + 1) fault
wrong_line lines at d fault less so_far wrong = record {
  before = texts (take at lines);
  line = (get_or lines at d).now;
  after = texts (drop (at + 1) lines);
  parts = ap (λ (xs : List (Bor (List ℕ))). texts xs) (sym (take-append-drop at lines) ∙ ap (λ (xs : List (Bor (List ℕ))). take at lines ++ xs) (drop_more lines at d less))
      ∙ map-append (λ (reference : Bor (List ℕ)). reference.now) (take at lines) (get_or lines at d ∷ drop (at + 1) lines);
  right = so_far;
  wrong = wrong;
  counted = sym (ap (λ (n : ℕ). n + 1) (length-map (take at lines) (λ (reference : Bor (List ℕ)). reference.now) ∙ length-take-le at lines (omega arith)));
}

-- the user of this line is added
pub pushed : (lines : List (Bor (List ℕ))) (at : ℕ) (d : Bor (List ℕ)) (old new : List User) (user : User) (name password : List ℕ)
    → at < length lines → new ≡ old ++ user ∷ []
    → (user_in (get_or lines at d).now ≡ Some (name, password)) × (fault_in (get_or lines at d).now ≡ None)
    → (user.name.items ≡ name) × (user.password.items ≡ password)
    → IsSoFar lines at (pairs old) → IsSoFar lines (at + 1) (pairs new)
pushed lines at d old new user name password less is line own so_far =
    let both : (user.name.items, user.password.items) ≡ (name, password) = cc (own.0, own.1) in
    let now : pairs new ≡ pairs old ++ (name, password) ∷ [] =
    ap (λ (xs : List User). pairs xs) is ∙ map_push (λ (one : User). (one.name.items, one.password.items)) old user
    ∙ ap (λ (one : List ℕ × List ℕ). pairs old ++ one ∷ []) both in
    rw now (user_line lines at d (pairs old) (name, password) less line so_far)
