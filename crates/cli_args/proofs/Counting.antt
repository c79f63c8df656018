-- The numbers that words write in decimal.
use Rattle.std.proofs.Common.{◌≡◌, ◌∙◌, ◌≤◌, ◌<◌, ◌&&◌, ℕ, Bool, cond, true, false, not, List, [], ◌∷◌, Option, Some, None, Ok, Err, Result, length, get_or, ap, ap₂, sym, refl, arith, true≢false, is_some, eq-eqb, eqb-true}
use Rattle.std.specs.Prelude.{◌==◌, nat_le, slice_get, slice_index}
use Rattle.std.specs.Char.{is_ascii_digit}
use Rattle.std.specs.Borrow.{Bor}
use Rattle.std.specs.Option.{option_copied, option_eq}
use Rattle.std.specs.Fmt.{decimal}
use Rattle.std.specs.List.{list_all}
use Rattle.std.specs.Result.{result_ok}
use Rattle.std.specs.Str.Parse.{ParsesUnsigned, digits_value}
use Rattle.std.proofs.lemmas.Bool.{leb-true, le-leb}
use Rattle.std.proofs.lemmas.Fmt.{decimal-digits_value, decimal_is_IsNumeral, first_decimal}
use Rattle.std.proofs.lemmas.Option.{same_Some}
use Rattle.std.proofs.lemmas.Str.Parse.{IsDigitsTest, IsNumeralModel, numerals_by_value, parse_digits}
use Rattle.abi_base.proofs.lemmas.Bools.{not_is_true, and_is_true, and_of_true}
use Rattle.cli_args.specs.Words.{IsNoOption}
use Rattle.cli_args.specs.Trials.{is_decimal, is_trial_count, most_count, trial_count_of}

tells : IsDigitsTest (λ ds. list_all is_ascii_digit ds ≡ true)
tells = record {
  empty = refl;
  parts = λ c cs e. let k = and_is_true (is_ascii_digit c) (list_all is_ascii_digit cs) e in let m = and_is_true (nat_le 48 c) (nat_le c 57) k.0 in ((leb-true 48 c m.0, leb-true c 57 m.1), k.1);
  more = λ c cs k e. and_of_true (is_ascii_digit c) (list_all is_ascii_digit cs) (and_of_true (nat_le 48 c) (nat_le c 57) (le-leb 48 c k.0) (le-leb c 57 k.1)) e;
}

own : IsNumeralModel (λ ds. list_all is_ascii_digit ds ≡ true) (digits_value 10)
own = numerals_by_value (λ ds. list_all is_ascii_digit ds ≡ true) tells

-- ---- what is counted

count_at : (word : List ℕ) (b : Bool) → (is_decimal word && is_trial_count (digits_value 10 word)) ≡ b → trial_count_of word ≡ cond b (Some (digits_value 10 word)) None
unfolding trial_count_of
count_at word b e = ap (λ (t : Bool). cond t (Some (digits_value 10 word)) None) e

pub counted : (word : List ℕ) (n : ℕ) → is_decimal word ≡ true → n ≡ digits_value 10 word → 1 ≤ n → n ≤ most_count → Some n ≡ trial_count_of word
counted word n digits is least most =
    let v = digits_value 10 word in
    let low : 1 ≤ v = omega arith in
    let high : v ≤ most_count = omega arith in
    let in_range = and_of_true (nat_le 1 v) (nat_le v most_count) (le-leb 1 v low) (le-leb v most_count high) in
    ap Some is ∙ sym (count_at word true (and_of_true (is_decimal word) (is_trial_count v) digits in_range))

-- what the word writes, where it counts
record Counts (word : List ℕ) : Type 0 where
  digits : list_all is_ascii_digit word ≡ true
  no_zero_first : (slice_index word 0 == 48) ≡ false
  least : 1 ≤ digits_value 10 word
  most : digits_value 10 word ≤ most_count

counts : (word : List ℕ) → (is_decimal word && is_trial_count (digits_value 10 word)) ≡ true → Counts word
counts word e =
    let v = digits_value 10 word in
    let parts = and_is_true (is_decimal word) (is_trial_count v) e in
    let written = and_is_true (list_all is_ascii_digit word) (not (slice_index word 0 == 48)) parts.0 in
    let in_range = and_is_true (nat_le 1 v) (nat_le v most_count) parts.1 in
    record {
      digits = written.0;
      no_zero_first = not_is_true (slice_index word 0 == 48) written.1;
      least = leb-true 1 v in_range.0;
      most = leb-true v most_count in_range.1;
    }

none_at : (word : List ℕ) (C : Type 0) → (Counts word → C) → (trial_count_of word ≡ None → C) → C
none_at word C when_counts when_not = go (is_decimal word && is_trial_count (digits_value 10 word)) refl
  where
    go : (b : Bool) → (is_decimal word && is_trial_count (digits_value 10 word)) ≡ b → C
    go true e = when_counts (counts word e)
    go false e = when_not (count_at word false e)

some_digit : (word : List ℕ) → 1 ≤ digits_value 10 word → 0 < length word
some_digit [] least = absurd (omega (arith, least))
some_digit (x ∷ xs) least = omega arith

pub uncounted : {E : Type 0} (word : List ℕ) (r : Result ℕ E) → ParsesUnsigned 32 10 word r → is_decimal word ≡ true → result_ok r ≡ None → None ≡ trial_count_of word
uncounted word (Ok n) parses digits e = absurd (true≢false (ap is_some e))
uncounted word (Err x) parses digits e =
    none_at word (None ≡ trial_count_of word)
    (λ c. absurd (parse_digits own 32 word (Err x) parses c.digits (some_digit word c.least, omega (arith, c.most))))
    (λ none. sym none)

-- ---- what it says of the word

value_is : (word : List ℕ) (n : ℕ) → trial_count_of word ≡ Some n → Counts word × (digits_value 10 word ≡ n)
value_is word n e = go (is_decimal word && is_trial_count (digits_value 10 word)) refl
  where
    go : (b : Bool) → (is_decimal word && is_trial_count (digits_value 10 word)) ≡ b → Counts word × (digits_value 10 word ≡ n)
    go true t = (counts word t, same_Some (digits_value 10 word) n (sym (count_at word true t) ∙ e))
    go false t = absurd (true≢false (ap is_some (sym e ∙ count_at word false t)))

pub written : (word : List ℕ) (n : ℕ) → trial_count_of word ≡ Some n → word ≡ decimal n
written word n e =
    let is = value_is word n e in
    let no_zero : get_or word 0 0 ≡ 48 → length word ≡ 1 = λ z. absurd (true≢false (sym (eq-eqb (slice_index word 0) 48 z) ∙ is.0.no_zero_first)) in
    sym (decimal-digits_value own word is.0.digits (some_digit word is.0.least) no_zero (omega (arith, is.0.most))) ∙ ap decimal is.1

no_option : (word : List ℕ) → list_all is_ascii_digit word ≡ true → IsNoOption word
no_option [] digits e = absurd (true≢false (ap is_some (sym e)))
no_option (x ∷ xs) digits e = let within = (tells.parts x xs digits).0 in absurd (omega (arith, within.0, same_Some x 45 e))

pub decimal_counts : (n : ℕ) → 1 ≤ n → n ≤ most_count → (trial_count_of (decimal n) ≡ Some n) × IsNoOption (decimal n)
decimal_counts n least most =
    let numeral = decimal_is_IsNumeral n (omega (arith, most)) in
    let digits : list_all is_ascii_digit (decimal n) ≡ true = own.from (decimal n) numeral.0.1 in
    let first : 48 < slice_index (decimal n) 0 = first_decimal n (omega (arith, least)) (omega (arith, most)) in
    let no_zero : not (slice_index (decimal n) 0 == 48) ≡ true = go (slice_index (decimal n) 0 == 48) refl first in (
      sym (counted (decimal n) n (and_of_true (list_all is_ascii_digit (decimal n)) (not (slice_index (decimal n) 0 == 48)) digits no_zero) (sym numeral.1) least most),
      no_option (decimal n) digits,
    )
  where
    go : (b : Bool) → (slice_index (decimal n) 0 == 48) ≡ b → 48 < slice_index (decimal n) 0 → not b ≡ true
    go true e first = absurd (omega (arith, first, eqb-true (slice_index (decimal n) 0) 48 e))
    go false e first = refl

-- ---- the first byte

no_first : (word : List ℕ) → slice_get word 0 ≡ None → (slice_index word 0 == 48) ≡ false
no_first [] e = refl
no_first (x ∷ xs) e = absurd (true≢false (ap is_some e))

first_is : (word : List ℕ) (x : ℕ) → slice_get word 0 ≡ Some x → x ≡ slice_index word 0
first_is [] x e = absurd (true≢false (ap is_some (sym e)))
first_is (y ∷ ys) x e = sym (same_Some y x e)

pub first_zero : (word : List ℕ) (first : Option (Bor ℕ)) (zero : Bor ℕ) → zero.now ≡ 48 → option_copied first ≡ slice_get word 0
    → option_eq (λ (x : Bor ℕ) (y : Bor ℕ). x.now == y.now) first (Some zero) ≡ (slice_index word 0 == 48)
first_zero word None zero is e = sym (no_first word (sym e))
first_zero word (Some x) zero is e = ap₂ ◌==◌ (first_is word x.now (sym e)) is
