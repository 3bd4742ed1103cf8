-- What is written of an address is read as it.
use Rattle.std.proofs.Common.{◌≡◌, ℕ, false, List, [], ◌∷◌, ◌++◌, refl, ap, ◌∙◌, eqb, decimal}
use Rattle.std.specs.List.{slice_split}
use Rattle.std.proofs.lemmas.List.Elements.{All-from_recursion}
use Rattle.std.proofs.lemmas.List.Splits.{slice_split_at, slice_split_none}
use Rattle.he_addr.specs.Printing.{printed}
use Rattle.he_addr.specs.Text.{Lacks}
use Rattle.he_addr.proofs.TextLaws.{addresses_read_back, numbers_read_back, addresses_are_tokens, numbers_are_tokens}
use Rattle.he_cache.specs.KnownText.{ReadsBack, seen_in, seen_of_fields}

-- four texts without a space, and a space between each two, are parted into these
parted : (a b c d : List ℕ) → Lacks 32 a → Lacks 32 b → Lacks 32 c → Lacks 32 d
    → slice_split (λ x. eqb x 32) (a ++ (32 ∷ (b ++ (32 ∷ (c ++ (32 ∷ d)))))) ≡ a ∷ b ∷ c ∷ d ∷ []
parted a b c d la lb lc ld =
    let lacks : (t : List ℕ) → Lacks 32 t → _ = λ t. All-from_recursion (λ x. eqb x 32 ≡ false) t in
    slice_split_at (λ x. eqb x 32) a 32 (b ++ (32 ∷ (c ++ (32 ∷ d)))) (lacks a la) refl
    ∙ ap (λ rest. a ∷ rest) (slice_split_at (λ x. eqb x 32) b 32 (c ++ (32 ∷ d)) (lacks b lb) refl)
    ∙ ap (λ rest. a ∷ b ∷ rest) (slice_split_at (λ x. eqb x 32) c 32 d (lacks c lc) refl)
    ∙ ap (λ rest. a ∷ b ∷ c ∷ rest) (slice_split_none (λ x. eqb x 32) d (lacks d ld))

pub reads_back : ReadsBack
unfolding seen_in
reads_back seen ip source rtt at =
    ap seen_of_fields (parted (printed seen.ip) (printed seen.source) (decimal seen.rtt) (decimal seen.at)
    (addresses_are_tokens seen.ip ip).no_space (addresses_are_tokens seen.source source).no_space
    (numbers_are_tokens seen.rtt rtt).no_space (numbers_are_tokens seen.at at).no_space)
    ∙ rw (
      (addresses_read_back seen.ip ip).1,
      (addresses_read_back seen.source source).1,
      (numbers_read_back seen.rtt rtt).1,
      (numbers_read_back seen.at at).1,
    ) refl
