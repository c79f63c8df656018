-- Laws of numbers in bytes.
use Rattle.std.proofs.Common.{◌≡◌, ℕ, ◌+◌, ◌*◌, ◌^◌, ◌≤◌, leb, List, [], ◌∷◌, length, Some, refl, sym, ap, ◌∙◌, arith, add-one}
use Rattle.std.specs.List.{sum_by, enumerate_from}
use Rattle.std.proofs.Math.Nat.{pow-zero, pow-suc}
use Rattle.std.proofs.lemmas.List.Sums.{sum_by-cons}
use Rattle.std.proofs.lemmas.Bool.{leb-true}
use Rattle.abi_base.specs.Numbers.{number_of, number_at}
use Rattle.abi_base.proofs.lemmas.Cases.{bool_cases}

abbrev term : ℕ → ℕ × ℕ → ℕ
term base d = d.1 * base ^ d.0

moved : (base k x s : ℕ) → x * base ^ (k + 1) + base * s ≡ base * (x * base ^ k + s)
moved base k x s = rw (add-one, pow-suc base k) (grind arith)

shifted : (base k : ℕ) (ds : List ℕ) → sum_by (term base) (enumerate_from (k + 1) ds) ≡ base * sum_by (term base) (enumerate_from k ds)
shifted base k [] = omega arith
shifted base k (x ∷ ds) =
    sum_by-cons (term base) (k + 1, x) (enumerate_from (k + 1 + 1) ds)
    ∙ ap (λ (s : ℕ). x * base ^ (k + 1) + s) (shifted base (k + 1) ds)
    ∙ moved base k x (sum_by (term base) (enumerate_from (k + 1) ds))
    ∙ ap (λ (s : ℕ). base * s) (sym (sum_by-cons (term base) (k, x) (enumerate_from (k + 1) ds)))

pub number_of-nil : (base : ℕ) → number_of base [] ≡ 0
unfolding number_of
number_of-nil base = refl

-- the lowest digit apart
pub number_of-cons : (base d : ℕ) (ds : List ℕ) → number_of base (d ∷ ds) ≡ d + base * number_of base ds
unfolding number_of
number_of-cons base d ds =
    sum_by-cons (term base) (0, d) (enumerate_from (0 + 1) ds)
    ∙ rw (shifted base 0 ds, pow-zero base) (omega arith)

-- a number that is read lies inside
pub number_inside : (size : ℕ) (bytes : List ℕ) (at n : ℕ) → number_at size bytes at ≡ Some n → at + size ≤ length bytes
number_inside size bytes at n h =
    bool_cases (leb (at + size) (length bytes))
    (λ is. leb-true (at + size) (length bytes) is)
    (λ is. absurd (let e = rw is at h in cc))
