-- Names that are shown.
use Rattle.std.proofs.Common.{◌≡◌, ◌++◌, ℕ, List, IsUtf8, append_assoc, chars, encode_utf8}
use Rattle.std.specs.List.{flat_map}
use Rattle.std.proofs.lemmas.Str.{chars_past_char}
use Rattle.he_options.specs.Shown.{shown_char}

pub shown_step : (text rest old new whole : List ℕ) (c : ℕ) → IsUtf8 text → text ≡ encode_utf8 c ++ rest → new ≡ old ++ shown_char c
    → old ++ flat_map shown_char (chars text) ≡ whole → new ++ flat_map shown_char (chars rest) ≡ whole
shown_step text rest old new whole c utf8 parts longer is = rw (longer, append_assoc) (rw (chars_past_char text rest c utf8 parts) at is)
