-- What searches among entries in order find.
use Rattle.std.proofs.Common.{◌≡◌, ◌<◌, ℕ, false, true, Bool, List, length, get_or, Some, None, refl, sym, ◌∙◌, arith, inl, inr}
use Rattle.std.specs.Prelude.{nat_eq, position}
use Rattle.std.specs.List.{AllWithin, HoldsAt, IsDistinct}
use Rattle.std.specs.List.Sorted.{IsNonDecreasingBy, IsStrictlyIncreasing}
use Rattle.std.specs.Ordering.{nat_cmp, ordering_index}
use Rattle.std.specs.declared.cmp.Ordering.TheVariants.{Less, Equal, Greater}
use Rattle.std.proofs.lemmas.Bool.{cases_lt, lt-ltb, le-ltb, eq-eqb, ne_eqb}
use Rattle.std.proofs.lemmas.Cmp.{ranked}
use Rattle.std.proofs.lemmas.List.{get_or_default}
use Rattle.std.proofs.lemmas.List.Kept.{AllPairs-from_increasing}
use Rattle.std.proofs.lemmas.List.Sums.{position_or_len_is}
use Rattle.std.proofs.lemmas.Map.Keys.{IsDistinct-from_apart}
use Rattle.abi_base.proofs.lemmas.Orders.{index_le}

-- the first item that passes
position-at : (p : ℕ → Bool) (xs : List ℕ) (i : ℕ) → i < length xs → ((k : ℕ) → k < i → p (get_or xs k 0) ≡ false) → p (get_or xs i 0) ≡ true → position p xs ≡ Some i
position-at p xs i inside before here =
    let place = position_or_len_is p xs i 0 (omega arith) before (λ less. here) in
    let lt = lt-ltb i (length xs) inside in
    rw (place, lt) refl

position-none : (p : ℕ → Bool) (xs : List ℕ) → ((k : ℕ) → k < length xs → p (get_or xs k 0) ≡ false) → position p xs ≡ None
position-none p xs fails =
    let place = position_or_len_is p xs (length xs) 0 (omega arith) fails (λ less. absurd (omega arith)) in
    let ge = le-ltb (length xs) (length xs) (omega arith) in
    rw (place, ge) refl

module _ (entries : List ℕ) (rises : IsStrictlyIncreasing entries) where
  below : (i j : ℕ) → i < j → j < length entries → get_or entries i 0 < get_or entries j 0
  below i j lt inside = AllPairs-from_increasing entries rises i j 0 lt inside

  -- an entry stands where it was read
  pub place-is : (e i d : ℕ) → i < length entries → get_or entries i d ≡ e → position (nat_eq e) entries ≡ Some i
  place-is e i d inside read =
      let here : get_or entries i 0 ≡ e = get_or_default entries i 0 d inside ∙ read in
      position-at (nat_eq e) entries i inside (λ k before. ne_eqb e (get_or entries k 0) (λ same. absurd (omega (arith, below k i before inside, here, same)))) (eq-eqb e (get_or entries i 0) (sym here))

  pub once : IsDistinct nat_eq entries
  once = IsDistinct-from_apart nat_eq entries (λ i j d lt inside. let less = AllPairs-from_increasing entries rises i j d lt inside in ne_eqb (get_or entries i d) (get_or entries j d) (λ same. absurd (omega (arith, less, same))))

  -- ---- binary search

  pub searchable : (e : ℕ) → IsNonDecreasingBy (λ (x : ℕ). ordering_index (nat_cmp x e)) entries
  searchable e i j d le inside = index_le (get_or entries i d) (get_or entries j d) e (elim (cases_lt i j) [
    | inl lt ↦ omega (arith, AllPairs-from_increasing entries rises i j d lt inside)
    | inr ge ↦ let same : i ≡ j = omega arith in rw same (omega arith)
  ])

  pub found-at : (e i : ℕ) → i < length entries → HoldsAt (λ (x : ℕ). nat_cmp x e ≡ Equal) entries i → position (nat_eq e) entries ≡ Some i
  found-at e i inside equal = place-is e i 0 inside (ranked (get_or entries i 0) e Equal (sym (equal 0)))

  pub found-nowhere : (e i : ℕ) → AllWithin (λ (x : ℕ). nat_cmp x e ≡ Less) entries 0 i × AllWithin (λ (x : ℕ). nat_cmp x e ≡ Greater) entries i (length entries) → position (nat_eq e) entries ≡ None
  found-nowhere e i parted =
      position-none (nat_eq e) entries (λ k inside. ne_eqb e (get_or entries k 0) (λ same. elim (cases_lt k i) [
        | inl before ↦ let lt : get_or entries k 0 < e = ranked (get_or entries k 0) e Less (sym (parted.0 k 0 (omega arith) before)) in absurd (omega (arith, lt, same))
        | inr past ↦ let gt : e < get_or entries k 0 = ranked (get_or entries k 0) e Greater (sym (parted.1 k 0 past inside)) in absurd (omega (arith, gt, same))
      ]))
