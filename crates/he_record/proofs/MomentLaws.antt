-- A moment is what stands at its places in its text.
use Rattle.std.proofs.Common.{◌≡◌, ◌+◌, ◌*◌, ◌/◌, ◌≤◌, ◌&&◌, ◌||◌, ℕ, Bool, true, false, cond, leb, eqb, List, Ok, Err, refl, sym, ◌∙◌, ap, subst, arith}
use Rattle.std.specs.Str.{bytes_eq}
use Rattle.std.proofs.lemmas.Bool.{leb-true, and_parts}
use Rattle.std.proofs.lemmas.Slice.Eq.{bytes_eq-Decides}
use Rattle.he_words.specs.declared.fault.TextKind.TheVariants as kinds
use Rattle.he_record.specs.declared.moment.Moment.{Moment}
use Rattle.he_record.specs.Forms.{moment_in}
use Rattle.he_record.specs.MomentParts.{parts_in, value_of}
use Rattle.he_record.specs.Moments.{digit, days_of, is_leap, is_date, is_time, is_moment, moment_text}

two_read : (n : ℕ) → n ≤ 99 → value_of (digit (n / 10)) * 10 + value_of (digit n) ≡ n
two_read n h = omega arith

three_read : (n : ℕ) → n ≤ 999 → value_of (digit (n / 100)) * 100 + (value_of (digit (n / 10)) * 10 + value_of (digit n)) ≡ n
three_read n h = omega arith

four_read : (n : ℕ) → n ≤ 9999 → (value_of (digit (n / 1000)) * 10 + value_of (digit (n / 100))) * 100 + (value_of (digit (n / 10)) * 10 + value_of (digit n)) ≡ n
four_read n h = omega arith

few_either : (b : Bool) (x y n : ℕ) → x ≤ n → y ≤ n → cond b x y ≤ n
few_either true x y n hx hy = hx
few_either false x y n hx hy = hy

days_few : (year month : ℕ) → days_of year month ≤ 31
days_few year month =
    few_either (eqb month 2) (cond (is_leap year) 29 28) (cond (eqb month 4 || eqb month 6 || eqb month 9 || eqb month 11) 30 31) 31
    (few_either (is_leap year) 29 28 31 (omega arith) (omega arith))
    (few_either (eqb month 4 || eqb month 6 || eqb month 9 || eqb month 11) 30 31 31 (omega arith) (omega arith))

record AreSmall (m : Moment) : Type 0 where
  year : m.year ≤ 9999
  month : m.month ≤ 99
  day : m.day ≤ 99
  hour : m.hour ≤ 99
  minute : m.minute ≤ 99
  second : m.second ≤ 99
  millisecond : m.millisecond ≤ 999

are_small : (m : Moment) → is_moment m ≡ true → AreSmall m
are_small m h =
    let both = and_parts (is_date m) (is_time m) h in
    let day = and_parts (leb m.year 9999 && leb 1 m.month && leb m.month 12 && leb 1 m.day) (leb m.day (days_of m.year m.month)) both.0 in
    let first_day = and_parts (leb m.year 9999 && leb 1 m.month && leb m.month 12) (leb 1 m.day) day.0 in
    let month = and_parts (leb m.year 9999 && leb 1 m.month) (leb m.month 12) first_day.0 in
    let year = and_parts (leb m.year 9999) (leb 1 m.month) month.0 in
    let thousandth = and_parts (leb m.hour 23 && leb m.minute 59 && leb m.second 59) (leb m.millisecond 999) both.1 in
    let second = and_parts (leb m.hour 23 && leb m.minute 59) (leb m.second 59) thousandth.0 in
    let minute = and_parts (leb m.hour 23) (leb m.minute 59) second.0 in
    let days : days_of m.year m.month ≤ 31 = days_few m.year m.month in
    let day_is : m.day ≤ days_of m.year m.month = leb-true m.day (days_of m.year m.month) day.1 in
    let month_is : m.month ≤ 12 = leb-true m.month 12 month.1 in
    let hour_is : m.hour ≤ 23 = leb-true m.hour 23 minute.0 in
    let minute_is : m.minute ≤ 59 = leb-true m.minute 59 minute.1 in
    let second_is : m.second ≤ 59 = leb-true m.second 59 second.1 in
    record {
      year = leb-true m.year 9999 year.0;
      month = omega arith;
      day = omega arith;
      hour = omega arith;
      minute = omega arith;
      second = omega arith;
      millisecond = leb-true m.millisecond 999 thousandth.1;
    }

parts_read : (m : Moment) → AreSmall m → parts_in (moment_text m) ≡ m
parts_read m small =
    let y = four_read m.year small.year in
    let mo = two_read m.month small.month in
    let d = two_read m.day small.day in
    let h = two_read m.hour small.hour in
    let mi = two_read m.minute small.minute in
    let s = two_read m.second small.second in
    let ms = three_read m.millisecond small.millisecond in
    rw (y, mo, d, h, mi, s, ms) refl

both_pass : (b c : Bool) (parts : Moment) → b ≡ true → c ≡ true → cond b (cond c (Ok parts) (Err kinds.Range)) (Err kinds.Number) ≡ Ok parts
both_pass b c parts h k = rw (h, k) refl

-- the moment of a token whose parts are these
read_as : (token : List ℕ) (parts : Moment) → parts_in token ≡ parts → token ≡ moment_text parts → is_moment parts ≡ true → moment_in token ≡ Ok parts
unfolding moment_in
read_as token parts same spelled is =
    let P : Moment → Type 0 = λ x. cond (bytes_eq token (moment_text x)) (cond (is_moment x) (Ok x) (Err kinds.Range)) (Err kinds.Number) ≡ Ok parts in
    subst P (sym same) (both_pass (bytes_eq token (moment_text parts)) (is_moment parts) parts ((bytes_eq-Decides token (moment_text parts)).1 spelled) is)

-- a moment is read of its text
pub moment_reads : (m : Moment) → is_moment m ≡ true → moment_in (moment_text m) ≡ Ok m
moment_reads m is = read_as (moment_text m) m (parts_read m (are_small m is)) refl is

-- a moment that is read is spelled
passed : (b c : Bool) (parts m : Moment) → cond b (cond c (Ok parts) (Err kinds.Range)) (Err kinds.Number) ≡ Ok m → (b ≡ true) × (c ≡ true) × (parts ≡ m)
passed true true parts m h = (refl, refl, cc)
passed true false parts m h = cc
passed false c parts m h = cc

pub moment_ok : (token : List ℕ) (m : Moment) → moment_in token ≡ Ok m → (token ≡ moment_text m) × (is_moment m ≡ true)
unfolding moment_in
moment_ok token m h =
    let is = passed (bytes_eq token (moment_text (parts_in token))) (is_moment (parts_in token)) (parts_in token) m h in (
      (bytes_eq-Decides token (moment_text (parts_in token))).0 is.0 ∙ ap moment_text is.2,
      ap is_moment (sym is.2) ∙ is.1,
    )
