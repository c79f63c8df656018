-- How long numbers and filling are.
use Rattle.std.proofs.Common.{◌≡◌, ℕ, ◌+◌, ◌<◌, ◌≤◌, List, length, replicate, length-append, refl, arith}
use Rattle.std.proofs.lemmas.List.{length-replicate}
use Rattle.trial_libraries.specs.Bytes.{number_bytes, filling, filled}

pub length-two_bytes : (x : ℕ) → length (number_bytes 2 x) ≡ 2
unfolding number_bytes
length-two_bytes x = refl

pub length-four_bytes : (x : ℕ) → length (number_bytes 4 x) ≡ 4
unfolding number_bytes
length-four_bytes x = refl

pub length-eight_bytes : (x : ℕ) → length (number_bytes 8 x) ≡ 8
unfolding number_bytes
length-eight_bytes x = refl

pub filling-lt : (n : ℕ) → filling n < 8
unfolding filling
filling-lt n = omega arith

pub length-filled-le : (bytes : List ℕ) → length (filled bytes) ≤ length bytes + 7
unfolding filled
length-filled-le bytes = omega (arith, length-append bytes (replicate (filling (length bytes)) 0), length-replicate {A = ℕ} (filling (length bytes)) 0, filling-lt (length bytes))
