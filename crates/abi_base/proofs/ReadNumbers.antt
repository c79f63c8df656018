-- What byteorder reads is the sum of the bytes.
use Rattle.std.proofs.Common.{◌≡◌, ℕ, zero, suc, ◌-◌, ◌≤◌, List, length, get_or, take, drop, refl, sym, arith, inl, inr}
use Rattle.std.proofs.lemmas.List.{take_rest, drop_all, get_or_past, length-take, length-drop}
use Rattle.std.proofs.lemmas.Bool.{cases_lt}
use Rattle.std.proofs.Math.Seq.{drop-cons}
use Rattle.byteorder.specs.Endian.{little_from}
use Rattle.abi_base.specs.Numbers.{number_of, number}
use Rattle.abi_base.proofs.lemmas.Numbers.{number_of-nil, number_of-cons}

past : (i n : ℕ) (xs : List ℕ) → length xs ≤ i → little_from i n xs ≡ 0
past i zero xs h = refl
past i (suc n) xs h = rw (get_or_past xs i 0 h, past (suc i) n xs (omega arith)) refl

pub little_from_is : (n i : ℕ) (xs : List ℕ) → little_from i n xs ≡ number_of 256 (take n (drop i xs))
little_from_is zero i xs = sym (number_of-nil 256)
little_from_is (suc n) i xs =
    elim (cases_lt i (length xs)) [
      | inl lt ↦ rw (drop-cons xs i 0 lt, number_of-cons, little_from_is n (suc i) xs) refl
      | inr le ↦ rw (past i (suc n) xs le, drop_all i xs le, number_of-nil) refl
    ]

-- what is read at a place inside
pub number_is : (n at : ℕ) (bytes : List ℕ) → little_from 0 n (take (length bytes - at) (drop at bytes)) ≡ number n bytes at
unfolding number
number_is n at bytes = rw (take_rest bytes at) (little_from_is n 0 (drop at bytes))

-- a slice from a place to the end
pub ruleset slices = (take_rest, drop_all, length-take, length-drop)
