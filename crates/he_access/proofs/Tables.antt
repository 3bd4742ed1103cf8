-- The first range of a table that goes down by length is that of the longest network.
use Rattle.std.proofs.Common.{◌≡◌, ℕ, ◌≤◌, ◌⊎◌, ◌&&◌, Bool, true, false, List, [], ◌∷◌, Some, nat_le, cond, map, refl, sym, subst, inl, inr, arith}
use Rattle.std.proofs.lemmas.Bool.{and_parts, cases_Bool, leb-true}
use Rattle.std.specs.List.{find}
use Rattle.he_access.specs.Registries.{Row, Among, Says, covers, last_of, rows}
use Rattle.he_access.specs.Table.{first_says, has, said_by}
use Rattle.he_access.specs.declared.table.Range.{Range}
use Rattle.he_access.specs.declared.table.TheConstants.{TABLE}

abbrev range_of : Row → Range
range_of row = record { first = row.bits; last = last_of row; is_global = row.global }

-- a row before those that are no longer than it
abbrev insert : Row → List Row → List Row
insert row [] = row ∷ []
insert row (first ∷ others) = cond (nat_le first.len row.len) (row ∷ first ∷ others) (first ∷ insert row others)

abbrev sorted : List Row → List Row
sorted [] = []
sorted (row ∷ others) = insert row (sorted others)

-- all are no longer than this
abbrev AllWithin : ℕ → List Row → Type 0
AllWithin len list = (row : Row) → Among row list → row.len ≤ len

abbrev GoesDown : List Row → Bool
GoesDown [] = true
GoesDown (row ∷ []) = true
GoesDown (row ∷ next ∷ others) = nat_le next.len row.len && GoesDown (next ∷ others)

down_tail : (row : Row) (list : List Row) → GoesDown (row ∷ list) ≡ true → GoesDown list ≡ true
down_tail row [] down = refl
down_tail row (next ∷ others) down = (and_parts _ _ down).1

within : (row : Row) (list : List Row) → GoesDown (row ∷ list) ≡ true → AllWithin row.len list
within row [] down other among = elim among [ ]
within row (next ∷ others) down other (inl is) =
    let low : next.len ≤ row.len = leb-true next.len row.len (and_parts _ _ down).0 in
    subst (λ (r : Row). r.len ≤ row.len) (sym is) low
within row (next ∷ others) down other (inr among) =
    let low : next.len ≤ row.len = leb-true next.len row.len (and_parts _ _ down).0 in
    let lower : other.len ≤ next.len = within next others (and_parts _ _ down).1 other among in
    omega arith

inserted : (row : Row) (list : List Row) (other : Row) → Among other (insert row list) → (other ≡ row) ⊎ Among other list
inserted row [] other among = among
inserted row (first ∷ others) other among =
    (elim (nat_le first.len row.len) as (λ b. Among other (cond b (row ∷ first ∷ others) (first ∷ insert row others)) → (other ≡ row) ⊎ Among other (first ∷ others)) [
      | true ↦ λ a. a
      | false ↦ λ a. elim a [ inl is ↦ inr (inl is) | inr a ↦ elim (inserted row others other a) [ inl is ↦ inl is | inr a ↦ inr (inr a) ] ]
    ]) among

insert_has : (row : Row) (list : List Row) (other : Row) → (other ≡ row) ⊎ Among other list → Among other (insert row list)
insert_has row [] other among = among
insert_has row (first ∷ others) other among =
    elim (nat_le first.len row.len) as (λ b. Among other (cond b (row ∷ first ∷ others) (first ∷ insert row others))) [
      | true ↦ among
      | false ↦ elim among [
        | inl is ↦ inr (insert_has row others other (inl is))
        | inr a ↦ elim a [ inl is ↦ inl is | inr a ↦ inr (insert_has row others other (inr a)) ]
      ]
    ]

sorted_from : (list : List Row) (other : Row) → Among other (sorted list) → Among other list
sorted_from [] other among = among
sorted_from (row ∷ others) other among =
    elim (inserted row (sorted others) other among) [ inl is ↦ inl is | inr a ↦ inr (sorted_from others other a) ]

sorted_to : (list : List Row) (other : Row) → Among other list → Among other (sorted list)
sorted_to [] other among = among
sorted_to (row ∷ others) other among =
    insert_has row (sorted others) other (elim among [ inl is ↦ inl is | inr a ↦ inr (sorted_to others other a) ])

-- the first that covers the number counts
says_first : (list : List Row) → GoesDown list ≡ true → (n : ℕ) → Says list n (first_says (map range_of list) n)
says_first [] down n = inr ((λ row among. elim among [ ]), refl)
says_first (row ∷ others) down n =
    (elim (covers row n) as (λ b. covers row n ≡ b → Says (row ∷ others) n (said_by (cond b (Some (range_of row)) (find (λ r. has r n) (map range_of others))))) [
      | true ↦ λ t. inl (
        row,
        record {
          among = inl refl;
          covering = t;
          longest = λ other among c. elim among [
            | inl is ↦ subst (λ (r : Row). r.len ≤ row.len) (sym is) (omega arith)
            | inr a ↦ within row others down other a
          ];
        },
        refl,
      )
      | false ↦ λ t. elim (says_first others (down_tail row others down) n) [
        | inl (best, is, answer) ↦ inl (
          best,
          record {
            among = inr is.among;
            covering = is.covering;
            longest = λ other among c. elim among [
              | inl same ↦ elim (cases_Bool (covers other n)) [
                | inl has_it ↦ let lacks : covers other n ≡ false = subst (λ (r : Row). covers r n ≡ false) (sym same) t in cc
                | inr lacks_it ↦ cc
              ]
              | inr a ↦ is.longest other a c
            ];
          },
          answer,
        )
        | inr (none, answer) ↦ inr (
          (λ other among. elim among [
            | inl same ↦ subst (λ (r : Row). covers r n ≡ false) (sym same) t
            | inr a ↦ none other a
          ]),
          answer,
        )
      ]
    ]) refl

says_sorted : (list : List Row) (n : ℕ) (answer : Bool) → Says (sorted list) n answer → Says list n answer
says_sorted list n answer (inl (best, is, means)) = inl (
  best,
  record {
    among = sorted_from list best is.among;
    covering = is.covering;
    longest = λ other among c. is.longest other (sorted_to list other among) c;
  },
  means,
)
says_sorted list n answer (inr (none, means)) = inr ((λ row among. none row (sorted_to list row among)), means)

is_table : map range_of (sorted rows) ≡ TABLE
is_table = refl

pub table_says : (n : ℕ) → Says rows n (first_says TABLE n)
table_says n =
    subst (λ (ranges : List Range). Says rows n (first_says ranges n)) is_table
    (says_sorted rows n _ (says_first (sorted rows) refl n))
