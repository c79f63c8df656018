-- What is marked was met, and what is marked stands in the order of the marks.
use Rattle.std.proofs.Common.{◌≡◌, ◌≢◌, ◌<◌, ◌≤◌, ◌+◌, ℕ, zero, suc, Bool, true, false, List, [], ◌∷◌, ◌++◌, length, get_or, set, replicate, refl, sym, ◌∙◌, ap, arith, inl, inr}
use Rattle.std.specs.Prelude.{filter, nat_eq, ◌||◌}
use Rattle.std.specs.Cmp.{nat_eq_equiv}
use Rattle.std.specs.List.{range_with_len, IsDistinct}
use Rattle.std.specs.List.Sorted.{IsStrictlyIncreasing}
use Rattle.std.proofs.lemmas.Bool.{cases_Bool, cases_order, eq-eqb, ne_eqb}
use Rattle.std.proofs.lemmas.List.{append-nil, get_or-set_same, get_or-set_other}
use Rattle.std.proofs.lemmas.List.Elements.{filter_agree, filter-append}
use Rattle.std.proofs.lemmas.List.FromFn.{length-range_with_len, get_or-range_with_len}
use Rattle.std.proofs.lemmas.List.Kept.{IsStrictlyIncreasing-filter}
use Rattle.std.proofs.lemmas.Map.Keys.{IsDistinct-push}
use Rattle.abi_base.proofs.lemmas.Ranges.{range_more}
use Rattle.abi_base.proofs.lemmas.Bools.{or_false}
use Rattle.type_reach.specs.Reached.{was_found}
use Rattle.type_reach.specs.VisitedEntries.{AreMarked, is_marked, marked_places, by_offset}

-- ---- marks

none-marked : (n e : ℕ) → is_marked (replicate n false) e ≡ false
none-marked zero e = refl
none-marked (suc n) zero = refl
none-marked (suc n) (suc e) = none-marked n e

none-twice : IsDistinct nat_eq []
unfolding IsDistinct
none-twice = tt

pub AreMarked-none : (n : ℕ) → AreMarked (replicate n false) []
AreMarked-none n = record { marked = none-marked n; once = none-twice }

found-more : (entries : List ℕ) (e f : ℕ) → was_found (entries ++ e ∷ []) f ≡ (was_found entries f || nat_eq f e)
found-more [] e f = elim (cases_Bool (nat_eq f e)) [ inl same ↦ rw same refl | inr other ↦ rw other refl ]
found-more (x ∷ entries) e f = elim (cases_Bool (nat_eq f x)) [ inl same ↦ rw same refl | inr other ↦ rw other (found-more entries e f) ]

-- one more
pub AreMarked-more : (marks : List Bool) (entries : List ℕ) (e : ℕ) → e < length marks → is_marked marks e ≡ false → AreMarked marks entries → AreMarked (set marks e true) (entries ++ e ∷ [])
AreMarked-more marks entries e inside new was = record {
  marked = λ f. elim (cases_order f e) [
    | inl same ↦ here f same
    | inr (inl below) ↦ other f (λ same. absurd (omega (arith, below, same)))
    | inr (inr above) ↦ other f (λ same. absurd (omega (arith, above, same)))
  ];
  once = IsDistinct-push nat_eq_equiv entries e was.once (sym (was.marked e) ∙ new);
}
  where
    here : (f : ℕ) → f ≡ e → is_marked (set marks e true) f ≡ was_found (entries ++ e ∷ []) f
    here f same =
        let one = eq-eqb f e same in
        let was_new : was_found entries f ≡ false = ap (was_found entries) same ∙ sym (was.marked e) ∙ new in
        ap (λ x. get_or (set marks e true) x false) same ∙ get_or-set_same marks e true false inside ∙ sym (found-more entries e f ∙ rw (was_new, one) refl)

    other : (f : ℕ) → f ≢ e → is_marked (set marks e true) f ≡ was_found (entries ++ e ∷ []) f
    other f differs =
        let two = ne_eqb f e differs in
        get_or-set_other marks e f true false differs ∙ was.marked f ∙ sym (found-more entries e f ∙ rw two (or_false (was_found entries f)))

-- ---- the places of marks

pub places-are : (marks : List Bool) (entries : List ℕ) → AreMarked marks entries → marked_places marks ≡ by_offset entries (length marks)
unfolding marked_places by_offset
places-are marks entries are = filter_agree (is_marked marks) (was_found entries) are.marked (range_with_len 0 (length marks))

pub range-rises : (a n : ℕ) → IsStrictlyIncreasing (range_with_len a n)
range-rises a n k inside =
    let many = length-range_with_len a n in
    omega (arith, get_or-range_with_len a n k 0 (omega (arith, inside, many)), get_or-range_with_len a n (k + 1) 0 (omega (arith, inside, many)))

pub places-rise : (marks : List Bool) → IsStrictlyIncreasing (marked_places marks)
unfolding marked_places
places-rise marks = IsStrictlyIncreasing-filter (is_marked marks) (range_with_len 0 (length marks)) (range-rises 0 (length marks))

-- the places of marks before one
abbrev pub places_before : List Bool → ℕ → List ℕ
places_before marks e = filter (is_marked marks) (range_with_len 0 e)

places-step : (marks : List Bool) (e : ℕ) → places_before marks (e + 1) ≡ places_before marks e ++ filter (is_marked marks) (e ∷ [])
places-step marks e =
    let last : 0 + e ≡ e = omega arith in
    ap (filter (is_marked marks)) (range_more 0 e ∙ ap (λ x. range_with_len 0 e ++ x ∷ []) last) ∙ filter-append (is_marked marks) (range_with_len 0 e) (e ∷ [])

pub places-marked : (marks : List Bool) (e : ℕ) → is_marked marks e ≡ true → places_before marks (e + 1) ≡ places_before marks e ++ e ∷ []
places-marked marks e is = places-step marks e ∙ ap (λ xs. places_before marks e ++ xs) (rw is refl)

pub places-passed : (marks : List Bool) (e : ℕ) → is_marked marks e ≡ false → places_before marks (e + 1) ≡ places_before marks e
places-passed marks e is = places-step marks e ∙ ap (λ xs. places_before marks e ++ xs) (rw is refl) ∙ append-nil (places_before marks e)

few-kept : (p : ℕ → Bool) (xs : List ℕ) → length (filter p xs) ≤ length xs
few-kept p [] = omega arith
few-kept p (x ∷ xs) = let few = few-kept p xs in elim (cases_Bool (p x)) [ inl kept ↦ rw kept (omega (arith, few)) | inr passed ↦ rw passed (omega (arith, few)) ]

pub places-few : (marks : List Bool) (e : ℕ) → length (places_before marks e) ≤ e
places-few marks e = omega (arith, few-kept (is_marked marks) (range_with_len 0 e), length-range_with_len 0 e)

pub places-all : (marks : List Bool) (e : ℕ) → e ≡ length marks → places_before marks e ≡ marked_places marks
unfolding marked_places
places-all marks e is = ap (places_before marks) is
