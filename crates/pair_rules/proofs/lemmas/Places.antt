-- The k-th item that passes: as many before it pass as are asked for.
use Rattle.std.proofs.Common.{◌≡◌, ◌<◌, ℕ, suc, ◌-◌, Bool, true, List, [], ◌∷◌, Some, length, take, get_or, sym, arith, inl, inr, zero, refl, ap, ◌≤◌, None}
use Rattle.std.specs.List.{filter}
use Rattle.std.specs.Option.{option_map}
use Rattle.std.proofs.lemmas.Bool.{cases_Bool, cases_eq, eq-eqb, ne_eqb}
use Rattle.std.proofs.lemmas.Option.{same_Some, none-some}
use Rattle.abi_base.proofs.lemmas.Options.{one_less, not_one_more}
use Rattle.abi_types.specs.Parts.{place_of, like, like_before}
use Rattle.abi_base.proofs.lemmas.Lists.{count_by-filter}
use Rattle.abi_types.specs.Types.{PlainView}
use Rattle.abi_types.specs.Graphs.{part_at}
use Rattle.pair_rules.specs.Matching.{number_of}

-- the item passes, and as many before it pass as are asked for
pub place_of-some : {X : Type 0} (p : X → Bool) (k : ℕ) (xs : List X) (i : ℕ) (d : X) → place_of p k xs ≡ Some i → (i < length xs) × (p (get_or xs i d) ≡ true) × (length (filter p (take i xs)) ≡ k)
unfolding place_of
place_of-some p k [] i d e = absurd cc
place_of-some p k (x ∷ xs) i d e =
    elim (cases_Bool (p x)) [
      | inl passes ↦ elim (cases_eq k 0) [
        | inl first ↦
            let here : Some 0 ≡ Some i = rw (passes, eq-eqb k 0 first) at e in
            let at_0 : i ≡ 0 = sym (same_Some 0 i here) in
            rw at_0 (omega arith, passes, sym first)
        | inr later ↦
            let there : option_map suc (place_of p (k - 1) xs) ≡ Some i = rw (passes, ne_eqb k 0 later) at e in
            let less = one_less (place_of p (k - 1) xs) i there in
            let ih = place_of-some p (k - 1) xs less.0 d less.1 in
            rw (less.2, passes) (omega (arith, ih.0), ih.1, omega (arith, ih.2))
      ]
      | inr not_passing ↦
          let there : option_map suc (place_of p k xs) ≡ Some i = rw not_passing at e in
          let less = one_less (place_of p k xs) i there in
          let ih = place_of-some p k xs less.0 d less.1 in
          rw (less.2, not_passing) (omega (arith, ih.0), ih.1, ih.2)
    ]

-- the item at i that passes is the one after as many
pub place_of-at : {X : Type 0} (p : X → Bool) (k : ℕ) (xs : List X) (i : ℕ) (d : X) → i < length xs → p (get_or xs i d) ≡ true → length (filter p (take i xs)) ≡ k → place_of p k xs ≡ Some i
unfolding place_of
place_of-at p k [] i d h passes e = absurd (omega arith)
place_of-at p k (x ∷ xs) zero d h passes e = rw (passes, eq-eqb k 0 (sym e)) refl
place_of-at p k (x ∷ xs) (suc i) d h passes e =
    elim (cases_Bool (p x)) [
      | inl first ↦
          let more : suc (length (filter p (take i xs))) ≡ k = rw first at e in
          let later : k ≡ 0 → ⊥ = λ none. absurd (omega arith) in
          rw (first, ne_eqb k 0 later) (ap (option_map suc) (place_of-at p (k - 1) xs i d (omega arith) passes (omega arith)))
      | inr not_passing ↦
          let same : length (filter p (take i xs)) ≡ k = rw not_passing at e in
          rw not_passing (ap (option_map suc) (place_of-at p k xs i d (omega arith) passes same))
    ]

-- no more pass than are asked for
pub place_of-none : {X : Type 0} (p : X → Bool) (k : ℕ) (xs : List X) → length (filter p xs) ≤ k → place_of p k xs ≡ None
unfolding place_of
place_of-none p k [] h = refl
place_of-none p k (x ∷ xs) h =
    elim (cases_Bool (p x)) [
      | inl passes ↦
          let few : suc (length (filter p xs)) ≤ k = rw passes at h in
          let later : k ≡ 0 → ⊥ = λ none. absurd (omega arith) in
          rw (passes, ne_eqb k 0 later) (ap (option_map suc) (place_of-none p (k - 1) xs (omega arith)))
      | inr not_passing ↦
          let few : length (filter p xs) ≤ k = rw not_passing at h in
          rw not_passing (ap (option_map suc) (place_of-none p k xs few))
    ]

-- there is one where more pass than are asked for
pub place_of-found : {X : Type 0} (p : X → Bool) (k : ℕ) (xs : List X) → place_of p k xs ≡ None → length (filter p xs) ≤ k
unfolding place_of
place_of-found p k [] e = omega arith
place_of-found p k (x ∷ xs) e =
    elim (cases_Bool (p x)) [
      | inl passes ↦ elim (cases_eq k 0) [
        | inl first ↦ absurd (none-some 0 (sym (rw (passes, eq-eqb k 0 first) at e)))
        | inr later ↦
            let there : option_map suc (place_of p (k - 1) xs) ≡ None = rw (passes, ne_eqb k 0 later) at e in
            let ih = place_of-found p (k - 1) xs (not_one_more (place_of p (k - 1) xs) there) in
            rw passes (omega arith)
      ]
      | inr not_passing ↦
          let there : option_map suc (place_of p k xs) ≡ None = rw not_passing at e in
          let ih = place_of-found p k xs (not_one_more (place_of p k xs) there) in
          rw not_passing ih
    ]

-- how many before are like the part, as a filter says it
pub number_of-filter : (v : PlainView) (i : ℕ) → number_of v i ≡ length (filter (like (part_at v i)) (take i v.parts))
unfolding like_before
number_of-filter v i = count_by-filter (like (part_at v i)) (take i v.parts)
