-- The number of functions of a trial.
use Rattle.std.specs.Prelude.{ℕ, Bool, not, List, Option, Some, None, ◌==◌, ◌&&◌, nat_le, if◌then◌else◌, slice_index}
use Rattle.std.specs.List.{list_all}
use Rattle.std.specs.Char.{is_ascii_digit}
use Rattle.std.specs.Str.Parse.{digits_value}

-- only decimal digits, without a leading 0 (48)
abbrev pub is_decimal : List ℕ → Bool
is_decimal word = list_all is_ascii_digit word && not (slice_index word 0 == 48)

-- the most functions of a trial
abbrev pub most_count : ℕ
most_count = 50000

abbrev pub is_trial_count : ℕ → Bool
is_trial_count n = nat_le 1 n && nat_le n most_count

-- the number whose decimal spelling without leading zeros is the word, if a trial may have this many functions
unfoldable pub trial_count_of : List ℕ → Option ℕ
trial_count_of word = if is_decimal word && is_trial_count (digits_value 10 word) then Some (digits_value 10 word) else None
