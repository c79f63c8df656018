-- The breaks of two types stand in order of rules and then of parts.
use Rattle.std.proofs.Common.{◌≡◌, ◌<◌, ℕ, zero, suc, Bool, true, ltb, ◌&&◌, List, [], ◌∷◌, map, flat_map, filter, length, slice_get, get_or, Some, refl, sym, ap, subst, inl, inr, arith}
use Rattle.std.specs.List.{range_with_len, AllPairs}
use Rattle.std.proofs.lemmas.Bool.{cases_Bool, and_parts, ltb-true}
use Rattle.std.proofs.lemmas.List.FromFn.{get_or-range_with_len, length-range_with_len}
use Rattle.std.proofs.lemmas.List.Kept.{AllPairs-filter}
use Rattle.std.proofs.lemmas.Option.{slice_get_within, get_or_from_slice_get, same_Some, none-some}
use Rattle.abi_types.specs.declared.rule.Rule.{Rule}
use Rattle.abi_types.specs.Rules.{rule_place}
use Rattle.abi_types.specs.Types.{PlainView}
use Rattle.pair_rules.specs.declared.rules.Broken.{Broken}
use Rattle.pair_rules.specs.Same.{same_kind}
use Rattle.pair_rules.specs.TypeRules.{speaks_of_parts, breaks_part, breaks_whole, broken_at, broken, breaks, rules_asked, is_declaration}
use Rattle.pair_rules.specs.BreakOrder.{IsBrokenBefore}
use Rattle.abi_base.specs.Lists.{Ascends}
use Rattle.abi_base.proofs.lemmas.Lists.{Ascends-append, Ascends-map, map_source, slice_get_append_cases}

Ascends-from_pairs : {X : Type 0} (R : X → X → Type 0) (xs : List X) → AllPairs R xs → Ascends R xs
Ascends-from_pairs R xs pairs m n x y lt at_m at_n =
    let p = pairs m n x lt (slice_get_within xs n y at_n) in
    subst (R x) (get_or_from_slice_get xs n y x at_n) (subst (λ z. R z (get_or xs n x)) (get_or_from_slice_get xs m x x at_m) p)

range_pairs : (n : ℕ) → AllPairs (λ i j. i < j) (range_with_len 0 n)
range_pairs n i j d lt inside =
    let below : j < n = omega (arith, length-range_with_len 0 n, inside) in
    let a = get_or-range_with_len 0 n i d (omega (arith, below, lt)) in
    let b = get_or-range_with_len 0 n j d below in
    omega (arith, a, b, lt)

parts_ascend : (p : ℕ → Bool) (n : ℕ) → Ascends (λ i j. i < j) (filter p (range_with_len 0 n))
parts_ascend p n = Ascends-from_pairs (λ i j. i < j) (filter p (range_with_len 0 n)) (AllPairs-filter (λ i j. i < j) p (range_with_len 0 n) (range_pairs n))

one : {X : Type 0} (R : X → X → Type 0) (x : X) → Ascends R (x ∷ [])
one R x zero zero y z lt at_m at_n = absurd (omega arith)
one R x zero (suc n) y z lt at_m at_n = absurd (none-some z at_n)
one R x (suc m) n y z lt at_m at_n = absurd (none-some y at_m)

none : {X : Type 0} (R : X → X → Type 0) → Ascends R []
none R m n x y lt at_m at_n = absurd (none-some x at_m)

module _ (v w : PlainView) where
  broken-ascends : (rule : Rule) → Ascends IsBrokenBefore (broken v w rule)
  unfolding broken
  broken-ascends rule =
      elim (cases_Bool (speaks_of_parts rule)) [
        | inl speaks ↦ rw speaks (Ascends-map (λ i j. i < j) IsBrokenBefore (broken_at rule) (filter (breaks_part rule v w) (range_with_len 0 (length v.parts))) (λ i j lt. inr (refl, lt)) (parts_ascend (breaks_part rule v w) (length v.parts)))
        | inr whole ↦ elim (cases_Bool (breaks_whole rule v w)) [
          | inl yes' ↦ rw (whole, yes') (one IsBrokenBefore (broken_at rule 0))
          | inr no' ↦ rw (whole, no') (none IsBrokenBefore)
        ]
      ]

  broken-rule : (rule : Rule) (k : ℕ) (b : Broken) → slice_get (broken v w rule) k ≡ Some b → b.rule ≡ rule
  unfolding broken
  broken-rule rule k b at =
      elim (cases_Bool (speaks_of_parts rule)) [
        | inl speaks ↦
            let a : slice_get (map (broken_at rule) (filter (breaks_part rule v w) (range_with_len 0 (length v.parts)))) k ≡ Some b = rw speaks at at in
            let m = map_source (broken_at rule) (filter (breaks_part rule v w) (range_with_len 0 (length v.parts))) k b a in
            sym (ap (λ (c : Broken). c.rule) m.is)
        | inr whole ↦ elim (cases_Bool (breaks_whole rule v w)) [
          | inl yes' ↦
              let a : slice_get (broken_at rule 0 ∷ []) k ≡ Some b = rw (whole, yes') at at in
              single rule k b a
          | inr no' ↦
              let a : slice_get [] k ≡ Some b = rw (whole, no') at at in
              absurd (none-some b a)
        ]
      ]
    where
      single : (rule : Rule) (k : ℕ) (b : Broken) → slice_get (broken_at rule 0 ∷ []) k ≡ Some b → b.rule ≡ rule
      single rule zero b at = sym (ap (λ (c : Broken). c.rule) (same_Some (broken_at rule 0) b at))
      single rule (suc k) b at = absurd (none-some b at)

  -- the rules rise, from above a place
  rises : ℕ → List Rule → Bool
  rises low [] = true
  rises low (r ∷ rules) = ltb low (rule_place r) && rises (rule_place r) rules

  above : (low : ℕ) (rules : List Rule) → rises low rules ≡ true → (k : ℕ) (b : Broken) → slice_get (flat_map (broken v w) rules) k ≡ Some b → low < rule_place b.rule
  unfolding rises
  above low [] up k b at = absurd (none-some b at)
  above low (r ∷ rules) up k b at =
      let parts = and_parts (ltb low (rule_place r)) (rises (rule_place r) rules) up in
      let here : low < rule_place r = ltb-true low (rule_place r) parts.0 in
      elim (slice_get_append_cases (broken v w r) (flat_map (broken v w) rules) k b at) [
        | inl first ↦ subst (λ p. low < rule_place p) (sym (broken-rule r k b first)) here
        | inr later ↦ omega (arith, here, above (rule_place r) rules parts.1 later.0 b later.2)
      ]

  all-ascend : (low : ℕ) (rules : List Rule) → rises low rules ≡ true → Ascends IsBrokenBefore (flat_map (broken v w) rules)
  unfolding rises
  all-ascend low [] up = none IsBrokenBefore
  all-ascend low (r ∷ rules) up =
      let parts = and_parts (ltb low (rule_place r)) (rises (rule_place r) rules) up in
      Ascends-append IsBrokenBefore (broken v w r) (flat_map (broken v w) rules) (broken-ascends r) (all-ascend (rule_place r) rules parts.1)
      (λ m n b c at_m at_n. inl (subst (λ p. rule_place p < rule_place c.rule) (sym (broken-rule r m b at_m)) (above (rule_place r) rules parts.1 n c at_n)))

  asked-rise : rises 0 (rules_asked v w) ≡ true
  unfolding rises
  asked-rise =
      elim (cases_Bool (same_kind v.kind w.kind)) [
        | inl same ↦ elim (cases_Bool (is_declaration v w)) [
          | inl declared ↦ rw (same, declared) refl
          | inr defined ↦ rw (same, defined) refl
        ]
        | inr other ↦ rw other refl
      ]

  pub breaks-ascend : Ascends IsBrokenBefore (breaks v w)
  unfolding breaks
  breaks-ascend = all-ascend 0 (rules_asked v w) asked-rise
