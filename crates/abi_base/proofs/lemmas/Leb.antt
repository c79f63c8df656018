-- Laws of numbers of variable length, and of how they are read.
use Rattle.std.proofs.Common.{◌≡◌, take, Option, Some, None, ltb, leb, true, false, ℕ, zero, suc, ◌+◌, ◌*◌, ◌-◌, ◌^◌, ◌<◌, ◌≤◌, ◌%◌, List, [], ◌∷◌, drop, get_or, length, refl, sym, ap, ◌∙◌, arith}
use Rattle.std.proofs.Math.Nat.{pow-zero, pow-suc, pow-le-pow_right}
use Rattle.std.proofs.Math.Seq.{drop-cons}
use Rattle.std.specs.Prelude.{position, ℤ}
use Rattle.std.specs.Option.{option_map}
use Rattle.std.proofs.lemmas.List.{length-take, length-drop, length-map, get_or-map, drop_all}
use Rattle.std.proofs.lemmas.List.Quantifiers.{position-Some}
use Rattle.std.proofs.lemmas.Option.{same_Some, cond_some}
use Rattle.std.proofs.lemmas.Bool.{lt-ltb}
use Rattle.abi_base.specs.Numbers.{number_of}
use Rattle.abi_base.specs.Leb.{low_digits, is_last, leb_length, leb_sum, uleb_of_length, uleb_at, sleb_of_length, sleb_at}
use Rattle.abi_base.proofs.lemmas.Numbers.{number_of-nil, number_of-cons}

-- what the higher digits alone come to
pub higher-le : (base i : ℕ) (ds : List ℕ) → 0 < base → base * number_of base (drop (suc i) ds) ≤ number_of base ds
higher-le base i [] pos = rw (number_of-nil base) (omega arith)
higher-le base zero (d ∷ ds) pos = rw (number_of-cons base d ds) (omega arith)
higher-le base (suc i) (d ∷ ds) pos =
    rw (number_of-cons base d ds) (grows base d (base * number_of base (drop (suc i) ds)) (number_of base ds) pos (higher-le base i ds pos))
  where
    grows : (base d a b : ℕ) → 0 < base → a ≤ b → a ≤ d + base * b
    grows base d a b pos le = grind arith

-- digits below 128 come to less than 128 to the power of their count
pub digits-lt : (ds : List ℕ) → number_of 128 (low_digits ds) < 128 ^ length ds
digits-lt [] = rw (number_of-nil 128, pow-zero 128) (omega arith)
digits-lt (d ∷ ds) = rw (number_of-cons 128 (d % 128) (low_digits ds), pow-suc 128 (length ds)) (omega (arith, digits-lt ds))

pub ten_digits : (n : ℕ) → n ≤ 10 → 128 ^ n ≤ 2 ^ 70
ten_digits n le = let h : 128 ^ n ≤ 128 ^ 10 = pow-le-pow_right (omega arith) le in omega (arith, h)

-- ---- where a LEB ends

pub leb_inside : (bytes : List ℕ) (at n : ℕ) → leb_length bytes at ≡ Some n → (0 < n) × (at + n ≤ length bytes)
unfolding leb_length
leb_inside bytes at n h = cases (position is_last (take 10 (drop at bytes))) refl h
  where
    cases : (o : Option ℕ) → position is_last (take 10 (drop at bytes)) ≡ o → option_map (λ more. more + 1) o ≡ Some n → (0 < n) × (at + n ≤ length bytes)
    cases None is e = absurd cc
    cases (Some k) is e =
        let lt = (position-Some is_last (take 10 (drop at bytes)) k 0 is).0 in
        let same : k + 1 ≡ n = same_Some (k + 1) n e in
        (omega arith, omega (arith, lt, length-take 10 (drop at bytes), length-drop at bytes))

pub uleb_inside : (bytes : List ℕ) (at : ℕ) (r : ℕ × ℕ) → uleb_at bytes at ≡ Some r → (at < r.1) × (r.1 ≤ length bytes)
unfolding uleb_at
uleb_inside bytes at r h = cases (leb_length bytes at) refl h
  where
    cases : (o : Option ℕ) → leb_length bytes at ≡ o → uleb_of_length bytes at o ≡ Some r → (at < r.1) × (r.1 ≤ length bytes)
    cases None is e = absurd cc
    cases (Some n) is e =
        let value = number_of 128 (low_digits (take n (drop at bytes))) in
        let same = (cond_some (ltb value (2 ^ 64)) (value, at + n) r e).1 in
        let next : at + n ≡ r.1 = ap (λ (p : ℕ × ℕ). p.1) same in
        let inside = leb_inside bytes at n is in
        (omega (arith, inside.0, next), omega (arith, inside.1, next))

pub sleb_inside : (bytes : List ℕ) (at : ℕ) (r : ℤ × ℕ) → sleb_at bytes at ≡ Some r → (at < r.1) × (r.1 ≤ length bytes)
unfolding sleb_at
sleb_inside bytes at r h = cases (leb_length bytes at) refl h
  where
    placed : (o : Option ℤ) (after : ℕ) → option_map (λ value. (value, after)) o ≡ Some r → after ≡ r.1
    placed None after e = absurd cc
    placed (Some v) after e = ap (λ (p : ℤ × ℕ). p.1) (same_Some (v, after) r e)

    cases : (o : Option ℕ) → leb_length bytes at ≡ o → sleb_of_length bytes at o ≡ Some r → (at < r.1) × (r.1 ≤ length bytes)
    cases None is e = absurd cc
    cases (Some n) is e =
        let next : at + n ≡ r.1 = placed _ (at + n) e in
        let inside = leb_inside bytes at n is in
        (omega (arith, inside.0, next), omega (arith, inside.1, next))

-- ---- a LEB of one byte

one_byte : (bytes : List ℕ) (at b : ℕ) (rest : List ℕ) → drop at bytes ≡ b ∷ rest → b < 128 → (leb_length bytes at ≡ Some 1) × (leb_sum bytes at 1 ≡ b)
unfolding leb_length
one_byte bytes at b rest is lt =
    let last : ltb b 128 ≡ true = lt-ltb b 128 lt in
    let same : b % 128 ≡ b = omega arith in
    let some : ltb 0 (suc (length (take 9 rest))) ≡ true = lt-ltb 0 (suc (length (take 9 rest))) (omega arith) in
    (rw (is, last, some) refl, rw (is, number_of-cons 128 (b % 128) [], number_of-nil 128, same) (omega arith))

pub uleb_of_one_byte : (bytes : List ℕ) (at b : ℕ) → at < length bytes → b ≡ get_or bytes at 0 → b < 128 → uleb_at bytes at ≡ Some (b, at + 1)
unfolding uleb_at
uleb_of_one_byte bytes at b inside here lt =
    let front : drop at bytes ≡ b ∷ drop (suc at) bytes = rw (drop-cons bytes at 0 inside, here) refl in
    let one = one_byte bytes at b (drop (suc at) bytes) front lt in
    let fits : ltb b (2 ^ 64) ≡ true = lt-ltb b (2 ^ 64) (omega arith) in
    rw (one.0, one.1, fits) refl

-- ---- digits from the highest down

pub no_digits : (ds : List ℕ) → 0 ≡ number_of 128 (drop (length ds) (low_digits ds))
no_digits ds = rw (drop_all (length ds) (low_digits ds) (omega (arith, length-map ds (λ b. b % 128))), number_of-nil) refl

pub next_digit : (ds : List ℕ) (left value v : ℕ) → 0 < left → left ≤ length ds → value ≡ number_of 128 (drop left (low_digits ds)) → v ≡ get_or ds (left - 1) 0 % 128 → value * 128 + v ≡ number_of 128 (drop (left - 1) (low_digits ds))
next_digit ds left value v pos le so_far is =
    let lt : left - 1 < length (low_digits ds) = omega (arith, length-map ds (λ b. b % 128)) in
    let at : get_or (low_digits ds) (left - 1) 0 ≡ v = get_or-map (λ b. b % 128) ds (left - 1) 0 0 (omega arith) ∙ sym is in
    let next : suc (left - 1) ≡ left = omega arith in
    rw (drop-cons (low_digits ds) (left - 1) 0 lt, number_of-cons, at, next, ← so_far) (omega arith)

pub too_large : (ds : List ℕ) (left value : ℕ) → 0 < left → value ≡ number_of 128 (drop left (low_digits ds)) → 2 ^ 57 ≤ value → leb (suc (number_of 128 (low_digits ds))) (2 ^ 64) ≡ false
too_large ds left value pos so_far large =
    let next : left ≡ suc (left - 1) = omega arith in
    let le = higher-le 128 (left - 1) (low_digits ds) (omega arith) in
    let same : number_of 128 (drop (suc (left - 1)) (low_digits ds)) ≡ value = rw (← next) (sym so_far) in
    let bound : 2 ^ 64 ≤ number_of 128 (low_digits ds) = omega (arith, le, same) in
    ltb-no (number_of 128 (low_digits ds)) (2 ^ 64) bound
  where
    ltb-no : (a b : ℕ) → b ≤ a → leb (suc a) b ≡ false
    ltb-no a b le = grind arith

pub inside_ten : (bytes front : List ℕ) (at more : ℕ) → front ≡ take 10 (drop at bytes) → more < length front → at + (more + 1) ≤ length bytes
inside_ten bytes front at more is lt =
    omega (arith, ap length is, length-take 10 (drop at bytes), length-drop at bytes)

-- the digits from a place on, and the power of their count
pub record Summed (ds : List ℕ) (left sum scale : ℕ) : Type 0 where
  pub inside : left ≤ length ds
  pub sum_is : sum ≡ number_of 128 (drop left (low_digits ds))
  pub scale_is : scale ≡ 128 ^ (length ds - left)
  pub below : sum < scale
  pub few : scale ≤ 2 ^ 70

pub summed_none : (ds : List ℕ) → Summed ds (length ds) 0 1
summed_none ds =
    let e : length ds - length ds ≡ 0 = omega arith in
    record {
      inside = omega arith;
      sum_is = no_digits ds;
      scale_is = rw (e, pow-zero 128) refl;
      below = omega arith;
      few = omega arith;
    }

pub summed_more : (ds : List ℕ) (left sum scale v : ℕ) → length ds ≤ 10 → 0 < left → v ≡ get_or ds (left - 1) 0 % 128 → Summed ds left sum scale → Summed ds (left - 1) (sum * 128 + v) (scale * 128)
summed_more ds left sum scale v le pos is so_far =
    let k : length ds - (left - 1) ≡ suc (length ds - left) = omega (arith, so_far.inside) in
    let p : scale * 128 ≡ 128 ^ (length ds - (left - 1)) = rw (k, pow-suc 128 (length ds - left), ← so_far.scale_is) refl in
    record {
      inside = omega (arith, so_far.inside);
      sum_is = next_digit ds left sum v pos so_far.inside so_far.sum_is is;
      scale_is = p;
      below = omega (arith, so_far.below, is);
      few = rw p (ten_digits (length ds - (left - 1)) (omega arith));
    }
