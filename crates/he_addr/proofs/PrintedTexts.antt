-- What is printed for an address: it is the text that the definition asks for, it spells the address, and it is short.
use Rattle.std.proofs.Common.{◌≡◌, inl, inr, ⊎_elim, ℕ, ◌+◌, ◌-◌, ◌*◌, ◌/◌, ◌%◌, ◌^◌, ◌<◌, ◌≤◌, Bool, true, false, cond, leb, ◌&&◌, List, [], ◌∷◌, ◌++◌, length, take, drop, replicate, decimal, refl, sym, ◌∙◌, ap, subst, arith, append-nil}
use Rattle.std.specs.Int.{w32, w128, to_be_bytes, from_be_bytes}
use Rattle.std.specs.Int.Digits.{number_from_digits}
use Rattle.std.specs.List.{AllByRecursion, join_with_byte}
use Rattle.std.specs.Net.Addr.{octets_of, ipv4_bits, ipv6_bits}
use Rattle.std.specs.Net.Grammar.{IsDotted, IsGroup, IsGroupsAfter, IsGroups, IsColonHex}
use Rattle.std.specs.declared.net.ip_addr.IpAddr.TheVariants as addresses
use Rattle.std.proofs.lemmas.Bool.{leb-true, leb-false, le-leb, lt-leb, cond-true, cond-false, cond_both}
use Rattle.std.proofs.lemmas.Fmt.{digits_is_IsNumeral, length-decimal-le}
use Rattle.std.proofs.lemmas.List.{take-append-drop, drop-drop, length-append, length-replicate, append_assoc}
use Rattle.std.proofs.lemmas.Nat.{shr-shr, from_be_bytes-to_be_bytes_4}
use Rattle.he_addr.specs.declared.printing.ZeroGroups.{ZeroGroups}
use Rattle.he_addr.specs.declared.ip.Ip.{Ip}
use Rattle.he_addr.specs.declared.ip.Ip.TheVariants.{V4, V6}
use Rattle.he_addr.specs.Ip.{InRange}
use Rattle.he_addr.specs.Prefix.{PrefixBits, is_inside_mapped}
use Rattle.he_addr.specs.Printed.{dotted, groups_of, hex, joined, IsZeroRun, shortened, IsPrintedV6, IsPrinted, IsPrintedSource, shown_as, IsPrintedPrefix}
use Rattle.he_addr.specs.Printing.{longest, printed_groups, printed_v6, printed, source_text, prefix_text}
use Rattle.he_addr.specs.Text.{Spells}
use Rattle.he_addr.proofs.HexDigits.{length-hex}
use Rattle.he_addr.proofs.Runs.{longest_first, IsFirstLongest}

-- the function meets the definition
groups_printed : (groups : List ℕ) → IsPrintedV6 groups (printed_groups groups (longest groups))
groups_printed groups = by_test (leb 2 (longest groups).len) refl
  where
    run : IsFirstLongest groups (longest groups)
    run = longest_first groups

    by_test : (b : Bool) → leb 2 (longest groups).len ≡ b → IsPrintedV6 groups (cond b (shortened groups (longest groups).start (longest groups).len) (joined groups))
    by_test true test = inr ((longest groups).start, (longest groups).len, record { two = leb-true 2 (longest groups).len test; run = run.run_of; first = run.first }, refl)
    by_test false test = inl (λ start len zero_run. ⊎_elim (λ l. omega (arith, l, leb-false 2 (longest groups).len test)) (λ e. omega (arith, e.0, leb-false 2 (longest groups).len test)) (run.first start len zero_run), refl)

pub printed-IsPrinted : (ip : Ip) → IsPrinted ip (printed ip)
unfolding printed_v6
printed-IsPrinted (V4 n) = refl
printed-IsPrinted (V6 n) = groups_printed (groups_of n)

-- and nothing else does
printed_only : (groups text : List ℕ) → IsPrintedV6 groups text → text ≡ printed_groups groups (longest groups)
printed_only groups text (inl (short, e)) =
    let run = longest_first groups in
    e ∙ sym (cond-false (leb 2 (longest groups).len) (shortened groups (longest groups).start (longest groups).len) (joined groups) (lt-leb 2 (longest groups).len (short (longest groups).start (longest groups).len run.run_of)))
printed_only groups text (inr (start, len, h, e)) =
    let run = longest_first groups in
    let mine = run.first start len h.run in
    let other = h.first (longest groups).start (longest groups).len run.run_of in
    let same_len : len ≡ (longest groups).len = omega (arith, mine, other) in
    let same_start : start ≡ (longest groups).start = omega (arith, mine, other) in
    e ∙ ap (λ s. shortened groups s len) same_start ∙ ap (λ l. shortened groups (longest groups).start l) same_len
    ∙ sym (cond-true (leb 2 (longest groups).len) (shortened groups (longest groups).start (longest groups).len) (joined groups) (le-leb 2 (longest groups).len (omega (arith, same_len, h.two))))

pub IsPrinted_only : (ip : Ip) (text : List ℕ) → IsPrinted ip text → text ≡ printed ip
unfolding printed_v6
IsPrinted_only (V4 n) text h = h
IsPrinted_only (V6 n) text h = printed_only (groups_of n) text h

-- a source and a prefix
pub printed_source : (ip : Ip) (len : ℕ) → IsPrintedSource ip len (source_text ip len)
printed_source ip len = (printed ip, printed-IsPrinted ip, refl)

pub IsPrintedSource_only : (ip : Ip) (len : ℕ) (text : List ℕ) → IsPrintedSource ip len text → text ≡ source_text ip len
IsPrintedSource_only ip len text (address, h, same) = same ∙ ap (λ a. a ++ 47 ∷ decimal len) (IsPrinted_only ip address h)

source_form : (b : Bool) (x y : Ip × ℕ) → source_text (cond b x y).0 (cond b x y).1 ≡ cond b (source_text x.0 x.1) (source_text y.0 y.1)
source_form true x y = refl
source_form false x y = refl

prefix_form : (is_dotted : Bool) (prefix : PrefixBits) → source_text (shown_as is_dotted prefix).0 (shown_as is_dotted prefix).1 ≡ prefix_text is_dotted prefix
prefix_form is_dotted prefix = source_form (is_dotted && is_inside_mapped prefix) (V4 (prefix.bits % 2 ^ 32), prefix.len - 96) (V6 prefix.bits, prefix.len)

pub printed_prefix : (is_dotted : Bool) (prefix : PrefixBits) → IsPrintedPrefix is_dotted prefix (prefix_text is_dotted prefix)
printed_prefix is_dotted prefix =
    let source = shown_as is_dotted prefix in
    subst (IsPrintedSource source.0 source.1) (prefix_form is_dotted prefix) (printed_source source.0 source.1)

pub IsPrintedPrefix_only : (is_dotted : Bool) (prefix : PrefixBits) (text : List ℕ) → IsPrintedPrefix is_dotted prefix text → text ≡ prefix_text is_dotted prefix
IsPrintedPrefix_only is_dotted prefix text h =
    let source = shown_as is_dotted prefix in
    IsPrintedSource_only source.0 source.1 text h ∙ prefix_form is_dotted prefix

-- groups of sixteen bits
abbrev pub AreGroups : List ℕ → Type 0
AreGroups groups = AllByRecursion (λ g. g < 65536) groups

hex_group : (g : ℕ) → g < 65536 → IsGroup (hex g) g
hex_group g small = (digits_is_IsNumeral 16 false (omega arith) (omega arith) g (omega arith), (length-hex g small).1)

joined_after : (ipv4 : Bool) (lead groups : List ℕ) → AreGroups groups → 0 < length groups → IsGroupsAfter ipv4 lead (lead ++ joined groups) groups
joined_after ipv4 lead [] all some = absurd (omega (arith, some))
joined_after ipv4 lead (g ∷ []) all some = inl (hex g, [], sym (append-nil (lead ++ hex g)), hex_group g all.0, refl)
joined_after ipv4 lead (g ∷ next ∷ gs) all some =
    inl (hex g, 58 ∷ joined (next ∷ gs), sym (append_assoc lead (hex g) (58 ∷ joined (next ∷ gs))), hex_group g all.0, joined_after ipv4 (58 ∷ []) (next ∷ gs) all.1 (omega arith))

joined_spells : (ipv4 : Bool) (groups : List ℕ) → AreGroups groups → IsGroups ipv4 (joined groups) groups
joined_spells ipv4 [] all = refl
joined_spells ipv4 (g ∷ gs) all = joined_after ipv4 [] (g ∷ gs) all (omega arith)

joined_some : (g : ℕ) (gs : List ℕ) → g < 65536 → 0 < length (joined (g ∷ gs))
joined_some g [] small = (length-hex g small).0
joined_some g (next ∷ gs) small = omega (arith, length-append (hex g) (58 ∷ joined (next ∷ gs)))

-- an IPv6 number is that of its eight groups
group_step : (n high low : ℕ) → n / 2 ^ high ≡ n / 2 ^ low / 65536 → n / 2 ^ high * 65536 + n / 2 ^ low % 65536 ≡ n / 2 ^ low
group_step n high low e = omega (arith, e)

groups_number : (n : ℕ) → n < 2 ^ 128 → number_from_digits 65536 (groups_of n) ≡ n
groups_number n small =
    let top : 0 * 65536 + n / 2 ^ 112 % 65536 ≡ n / 2 ^ 112 = omega arith in
    let g6 = group_step n 112 96 (sym (shr-shr n 96 16)) in
    let g5 = group_step n 96 80 (sym (shr-shr n 80 16)) in
    let g4 = group_step n 80 64 (sym (shr-shr n 64 16)) in
    let g3 = group_step n 64 48 (sym (shr-shr n 48 16)) in
    let g2 = group_step n 48 32 (sym (shr-shr n 32 16)) in
    let g1 = group_step n 32 16 (sym (shr-shr n 16 16)) in
    let g0 : n / 2 ^ 16 * 65536 + n / 2 ^ 0 % 65536 ≡ n = omega arith in
    rw (top, g6, g5, g4, g3, g2, g1, g0)

are_groups : (n : ℕ) → AreGroups (groups_of n)
are_groups n = (omega arith, (omega arith, (omega arith, (omega arith, (omega arith, (omega arith, (omega arith, (omega arith, tt))))))))

groups-append_left : (xs ys : List ℕ) → AreGroups (xs ++ ys) → AreGroups xs
groups-append_left [] ys h = tt
groups-append_left (x ∷ xs) ys h = (h.0, groups-append_left xs ys h.1)

groups-append_right : (xs ys : List ℕ) → AreGroups (xs ++ ys) → AreGroups ys
groups-append_right [] ys h = h
groups-append_right (x ∷ xs) ys h = groups-append_right xs ys h.1

-- a run and what stands round it
run_around : (groups : List ℕ) (start len : ℕ) → IsZeroRun groups start len → groups ≡ take start groups ++ replicate len 0 ++ drop (start + len) groups
run_around groups start len run =
    sym (take-append-drop start groups)
    ∙ ap (λ rest. take start groups ++ rest) (sym (take-append-drop len (drop start groups)) ∙ ap (λ zeros. zeros ++ drop len (drop start groups)) run ∙ ap (λ rest. replicate len 0 ++ rest) (drop-drop len start groups))
    ∙ sym (append_assoc (take start groups) (replicate len 0) (drop (start + len) groups))

pub length_around : (before after : List ℕ) (len : ℕ) → length (before ++ replicate len 0 ++ after) ≡ length before + len + length after
length_around before after len = omega (arith, length-append (before ++ replicate len 0) after, length-append before (replicate len 0), length-replicate {A = ℕ} len 0)

short_spells : (groups : List ℕ) (start len : ℕ) → length groups ≡ 8 → AreGroups groups → 2 ≤ len → IsZeroRun groups start len → IsColonHex (shortened groups start len) groups
short_spells groups start len eight all two run =
    let before : List ℕ = take start groups in
    let after : List ℕ = drop (start + len) groups in
    let whole : groups ≡ before ++ replicate len 0 ++ after = run_around groups start len run in
    let counted : length before + len + length after ≡ 8 = sym (length_around before after len) ∙ ap length (sym whole) ∙ eight in
    let free : len ≡ 8 - length before - length after = omega arith in
    let parts : AreGroups (before ++ replicate len 0 ++ after) = subst AreGroups whole all in
    inr (record {
      head_text = joined before;
      tail_text = joined after;
      head = before;
      tail = after;
      spelled = sym (append_assoc (joined before) (58 ∷ 58 ∷ []) (joined after));
      head_groups = joined_spells false before (groups-append_left before (replicate len 0) (groups-append_left (before ++ replicate len 0) after parts));
      tail_groups = joined_spells true after (groups-append_right (before ++ replicate len 0) after parts);
      room = omega arith;
      value = whole ∙ ap (λ k. before ++ replicate k 0 ++ after) free;
    })

groups_spell : (groups : List ℕ) → length groups ≡ 8 → AreGroups groups → IsColonHex (printed_groups groups (longest groups)) groups
groups_spell groups eight all =
    cond_both (leb 2 (longest groups).len) (shortened groups (longest groups).start (longest groups).len) (joined groups) (λ text. IsColonHex text groups)
    (λ test. short_spells groups (longest groups).start (longest groups).len eight all (leb-true 2 (longest groups).len test) (longest_first groups).run_of)
    (λ test. inl (joined_spells true groups all, eight))

four_joined : (a b c d : List ℕ) → join_with_byte 46 (a ∷ b ∷ c ∷ d ∷ []) ≡ a ++ (46 ∷ []) ++ b ++ (46 ∷ []) ++ c ++ (46 ∷ []) ++ d
four_joined a b c d = simp append_assoc

dotted_spells : (n : ℕ) → IsDotted (dotted n) (to_be_bytes w32 n)
dotted_spells n = record {
  a = n / 16777216 % 256;
  b = n / 65536 % 256;
  c = n / 256 % 256;
  d = n % 256;
  fit = (omega arith, omega arith, omega arith, omega arith);
  value = refl;
  spelled = four_joined (decimal (n / 16777216 % 256)) (decimal (n / 65536 % 256)) (decimal (n / 256 % 256)) (decimal (n % 256));
}

pub number_8 : (a b c d e f g h : ℕ) → from_be_bytes w128 (octets_of (a ∷ b ∷ c ∷ d ∷ e ∷ f ∷ g ∷ h ∷ [])) ≡ number_from_digits 65536 (a ∷ b ∷ c ∷ d ∷ e ∷ f ∷ g ∷ h ∷ [])
number_8 a b c d e f g h = omega arith

-- what is printed spells the address
pub printed_spells : (ip : Ip) → InRange ip → Spells (printed ip) ip
unfolding printed_v6 ipv4_bits ipv6_bits
printed_spells (V4 n) small = (addresses.V4 (record { octets = to_be_bytes w32 n }), dotted_spells n, ap V4 (sym (from_be_bytes-to_be_bytes_4 n small)))
printed_spells (V6 n) small =
    (addresses.V6 (record { segments = groups_of n }), groups_spell (groups_of n) refl (are_groups n), ap V6 (sym (number_8 _ _ _ _ _ _ _ _ ∙ groups_number n small)))

-- how long it is
joined_short : (groups : List ℕ) → AreGroups groups → length (joined groups) ≤ 5 * length groups - 1
joined_short [] all = omega arith
joined_short (g ∷ []) all = omega (arith, (length-hex g all.0).1)
joined_short (g ∷ next ∷ gs) all =
    omega (arith, (length-hex g all.0).1, length-append (hex g) (58 ∷ joined (next ∷ gs)), joined_short (next ∷ gs) all.1)

groups_short : (groups : List ℕ) → length groups ≡ 8 → AreGroups groups → length (printed_groups groups (longest groups)) ≤ 39
groups_short groups eight all =
    cond_both (leb 2 (longest groups).len) (shortened groups (longest groups).start (longest groups).len) (joined groups) (λ text. length text ≤ 39)
    (λ test. shortened_short (longest groups).start (longest groups).len (leb-true 2 (longest groups).len test) (longest_first groups).run_of)
    (λ test. omega (arith, joined_short groups all))
  where
    shortened_short : (start len : ℕ) → 2 ≤ len → IsZeroRun groups start len → length (shortened groups start len) ≤ 39
    shortened_short start len two run =
        let before : List ℕ = take start groups in
        let after : List ℕ = drop (start + len) groups in
        let whole : groups ≡ before ++ replicate len 0 ++ after = run_around groups start len run in
        let counted : length before + len + length after ≡ 8 = sym (length_around before after len) ∙ ap length (sym whole) ∙ eight in
        let parts : AreGroups (before ++ replicate len 0 ++ after) = subst AreGroups whole all in
        omega (
          arith,
          counted,
          length-append (joined before) (58 ∷ 58 ∷ joined after),
          joined_short before (groups-append_left before (replicate len 0) (groups-append_left (before ++ replicate len 0) after parts)),
          joined_short after (groups-append_right (before ++ replicate len 0) after parts),
        )

dotted_short : (n : ℕ) → length (dotted n) ≤ 15
dotted_short n =
    let a : List ℕ = decimal (n / 16777216 % 256) in
    let b : List ℕ = decimal (n / 65536 % 256) in
    let c : List ℕ = decimal (n / 256 % 256) in
    let d : List ℕ = decimal (n % 256) in
    omega (
      arith,
      length-append a (46 ∷ (b ++ 46 ∷ (c ++ 46 ∷ d))),
      length-append b (46 ∷ (c ++ 46 ∷ d)),
      length-append c (46 ∷ d),
      length-decimal-le 3 (n / 16777216 % 256) (omega arith) (omega arith) (omega arith),
      length-decimal-le 3 (n / 65536 % 256) (omega arith) (omega arith) (omega arith),
      length-decimal-le 3 (n / 256 % 256) (omega arith) (omega arith) (omega arith),
      length-decimal-le 3 (n % 256) (omega arith) (omega arith) (omega arith),
    )

pub printed_short : (ip : Ip) → length (printed ip) ≤ 39
unfolding printed_v6
printed_short (V4 n) = omega (arith, dotted_short n)
printed_short (V6 n) = groups_short (groups_of n) refl (are_groups n)

groups_some : (groups : List ℕ) → length groups ≡ 8 → AreGroups groups → 0 < length (printed_groups groups (longest groups))
groups_some [] eight all = absurd (omega (arith, eight))
groups_some (g ∷ gs) eight all =
    let groups : List ℕ = g ∷ gs in
    let run : ZeroGroups = longest groups in
    cond_both (leb 2 run.len) (shortened groups run.start run.len) (joined groups) (λ text. 0 < length text)
    (λ _. omega (arith, length-append (joined (take run.start groups)) (58 ∷ 58 ∷ joined (drop (run.start + run.len) groups))))
    (λ _. joined_some g gs all.0)

pub printed_some : (ip : Ip) → 0 < length (printed ip)
unfolding printed_v6
printed_some (V4 n) =
    omega (arith, length-append (decimal (n / 16777216 % 256)) (46 ∷ (decimal (n / 65536 % 256) ++ 46 ∷ (decimal (n / 256 % 256) ++ 46 ∷ decimal (n % 256)))))
printed_some (V6 n) = groups_some (groups_of n) refl (are_groups n)
