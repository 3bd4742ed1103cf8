use Rattle.std.proofs.Common.{◌≡◌, ◌++◌, IsUtf8, chars, string_bytes}
use Rattle.std.specs.List.{flat_map}
use Rattle.std.specs.Str.Iter.{chars_rest}
use Rattle.he_options.specs.Shown.{shown, shown_char}
use Rattle.he_options.proofs.shown.shown.Given as goal

abbrev pub invariant-loop-c : goal.invariant-loop-c
invariant-loop-c l =
    IsUtf8 (chars_rest l.c-iterator) × (string_bytes l.made ++ flat_map shown_char (chars (chars_rest l.c-iterator)) ≡ shown l.fn.text)
