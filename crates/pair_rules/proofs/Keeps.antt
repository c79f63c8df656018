-- Types break no rule exactly where they keep each rule as a whole and at each part.
use Rattle.std.proofs.Common.{◌≡◌, ◌<◌, ℕ, Bool, true, false, cond, not, List, [], ◌∷◌, ◌++◌, map, length, get_or, refl, sym, inl, inr}
use Rattle.std.specs.List.{filter, flat_map, list_all, range_with_len}
use Rattle.std.proofs.lemmas.Bool.{cases_Bool, and_parts, and_from, not-true, not_from_false, false≢true}
use Rattle.std.proofs.lemmas.List.Sums.{AllPass-from_list_all, list_all-from_AllPass}
use Rattle.abi_base.proofs.lemmas.Lists.{list_all-weaker}
use Rattle.abi_types.specs.declared.rule.Rule.{Rule}
use Rattle.abi_types.specs.declared.rule.Rule.TheVariants.{KindOfType, DeclarationTag}
use Rattle.abi_types.specs.Types.{PlainView}
use Rattle.pair_rules.specs.Same.{same_kind}
use Rattle.pair_rules.specs.TypeRules.{is_declaration, are_compared, breaks_whole, breaks_part, speaks_of_parts, definition_rules, rules_asked, broken_at, broken, breaks}
use Rattle.pair_rules.specs.Keeping.{keeps_whole, keeps_part, keeps_parts}
use Rattle.pair_rules.proofs.Ranges.{list_all-below, list_all-below_at}
use Rattle.pair_rules.proofs.EachRule.{whole-of_parts, part-of_whole}
use Rattle.pair_rules.proofs.lemmas.Asked.{rules_asked-kinds, rules_asked-declared, rules_asked-defined}

-- ---- a rule that is broken nowhere

-- whether the rule is broken nowhere
unfoldable pub kept : PlainView → PlainView → Rule → Bool
kept v w r = cond (speaks_of_parts r) (list_all (λ i. not (breaks_part r v w i)) (range_with_len 0 (length v.parts))) (not (breaks_whole r v w))

all_fail : {X : Type 0} (h : ℕ → X) (p : ℕ → Bool) (xs : List ℕ) → map h (filter p xs) ≡ [] → list_all (λ i. not (p i)) xs ≡ true
all_fail h p [] e = refl
all_fail h p (x ∷ xs) e =
    elim (cases_Bool (p x)) [
      | inl passes ↦ let e' = rw passes at e in absurd cc
      | inr fails ↦ let e' = rw fails at e in rw fails (all_fail h p xs e')
    ]

none_pass : {X : Type 0} (h : ℕ → X) (p : ℕ → Bool) (xs : List ℕ) → list_all (λ i. not (p i)) xs ≡ true → map h (filter p xs) ≡ []
none_pass h p [] all = refl
none_pass h p (x ∷ xs) all =
    let both = and_parts (not (p x)) _ all in
    rw (not-true (p x) both.0) (none_pass h p xs both.1)

kept_from_none : (v w : PlainView) (r : Rule) → broken v w r ≡ [] → kept v w r ≡ true
unfolding broken kept
kept_from_none v w r e =
    elim (cases_Bool (speaks_of_parts r)) [
      | inl of_parts ↦ let e' = rw of_parts at e in rw of_parts (all_fail (broken_at r) (breaks_part r v w) (range_with_len 0 (length v.parts)) e')
      | inr of_whole ↦
          elim (cases_Bool (breaks_whole r v w)) [
            | inl breaks ↦ let e' = rw (of_whole, breaks) at e in absurd cc
            | inr keeps ↦ rw (of_whole, keeps) refl
          ]
    ]

none_from_kept : (v w : PlainView) (r : Rule) → kept v w r ≡ true → broken v w r ≡ []
unfolding broken kept
none_from_kept v w r e =
    elim (cases_Bool (speaks_of_parts r)) [
      | inl of_parts ↦ let e' = rw of_parts at e in rw of_parts (none_pass (broken_at r) (breaks_part r v w) (range_with_len 0 (length v.parts)) e')
      | inr of_whole ↦ let e' = rw of_whole at e in rw (of_whole, not-true (breaks_whole r v w) e') refl
    ]

left_nil : {X : Type 0} (xs ys : List X) → xs ++ ys ≡ [] → (xs ≡ []) × (ys ≡ [])
left_nil [] ys e = (refl, e)
left_nil (x ∷ xs) ys e = absurd cc

all_kept : (v w : PlainView) (rs : List Rule) → flat_map (broken v w) rs ≡ [] → list_all (kept v w) rs ≡ true
all_kept v w [] e = refl
all_kept v w (r ∷ rs) e =
    let both = left_nil (broken v w r) (flat_map (broken v w) rs) e in
    and_from (kept v w r) (list_all (kept v w) rs) (kept_from_none v w r both.0) (all_kept v w rs both.1)

pub none_broken : (v w : PlainView) (rs : List Rule) → list_all (kept v w) rs ≡ true → flat_map (broken v w) rs ≡ []
none_broken v w [] e = refl
none_broken v w (r ∷ rs) e =
    let both = and_parts (kept v w r) (list_all (kept v w) rs) e in
    rw (none_from_kept v w r both.0) (none_broken v w rs both.1)

-- ---- rule by rule, and part by part

whole_from_kept : (v w : PlainView) (r : Rule) → kept v w r ≡ true → not (breaks_whole r v w) ≡ true
unfolding kept
whole_from_kept v w r e =
    elim (cases_Bool (speaks_of_parts r)) [
      | inl of_parts ↦ not_from_false (breaks_whole r v w) (whole-of_parts v w r of_parts)
      | inr of_whole ↦ rw of_whole at e
    ]

part_from_kept : (v w : PlainView) (i : ℕ) → i < length v.parts → (r : Rule) → kept v w r ≡ true → not (breaks_part r v w i) ≡ true
unfolding kept
part_from_kept v w i inside r e =
    elim (cases_Bool (speaks_of_parts r)) [
      | inl of_parts ↦ list_all-below_at (λ k. not (breaks_part r v w k)) (length v.parts) i inside (rw of_parts at e)
      | inr of_whole ↦ not_from_false (breaks_part r v w i) (part-of_whole v w i r of_whole)
    ]

kept_from_both : (v w : PlainView) (r : Rule) → not (breaks_whole r v w) ≡ true → ((i : ℕ) → i < length v.parts → not (breaks_part r v w i) ≡ true) → kept v w r ≡ true
unfolding kept
kept_from_both v w r whole parts =
    elim (cases_Bool (speaks_of_parts r)) [
      | inl of_parts ↦ rw of_parts (list_all-below (λ i. not (breaks_part r v w i)) (length v.parts) parts)
      | inr of_whole ↦ rw of_whole whole
    ]

-- the rules on definitions, each as a whole and at each part
defined_kept : (v w : PlainView) → list_all (λ rule. not (breaks_whole rule v w)) definition_rules ≡ true → keeps_parts v w ≡ true → list_all (kept v w) definition_rules ≡ true
unfolding keeps_parts keeps_part
defined_kept v w whole parts =
    list_all-from_AllPass (kept v w) definition_rules (λ k d inside.
    kept_from_both v w (get_or definition_rules k d)
    (AllPass-from_list_all (λ rule. not (breaks_whole rule v w)) definition_rules whole k d inside)
    (λ i below. AllPass-from_list_all (λ rule. not (breaks_part rule v w i)) definition_rules (list_all-below_at (keeps_part v w) (length v.parts) i below parts) k d inside))

-- types whose parts are not compared: all rules compare them as a whole
pub none_uncompared : (v w : PlainView) → are_compared v w ≡ false → keeps_whole v w ≡ true → breaks v w ≡ []
unfolding breaks keeps_whole kept
none_uncompared v w e whole =
    elim (cases_Bool (same_kind v.kind w.kind)) [
      | inl same ↦
          elim (cases_Bool (is_declaration v w)) [
            | inl declared ↦
                let asked = rules_asked-declared v w same declared in
                rw asked (none_broken v w (DeclarationTag ∷ []) (rw asked at whole))
            | inr defined ↦ absurd (false≢true (sym (rw (same, defined) at e)))
          ]
      | inr differ ↦
          let asked = rules_asked-kinds v w differ in
          rw asked (none_broken v w (KindOfType ∷ []) (rw asked at whole))
    ]

pub none_compared : (v w : PlainView) → are_compared v w ≡ true → keeps_whole v w ≡ true → keeps_parts v w ≡ true → breaks v w ≡ []
unfolding breaks keeps_whole
none_compared v w e whole parts =
    let asked = rules_asked-defined v w e in
    rw asked (none_broken v w definition_rules (defined_kept v w (rw asked at whole) parts))

pub whole_from_none : (v w : PlainView) → breaks v w ≡ [] → keeps_whole v w ≡ true
unfolding breaks keeps_whole
whole_from_none v w none =
    list_all-weaker (kept v w) (λ rule. not (breaks_whole rule v w)) (whole_from_kept v w) (rules_asked v w) (all_kept v w (rules_asked v w) none)

pub parts_from_none : (v w : PlainView) → are_compared v w ≡ true → breaks v w ≡ [] → keeps_parts v w ≡ true
unfolding breaks keeps_parts keeps_part
parts_from_none v w e none =
    let asked = rules_asked-defined v w e in
    let all : list_all (kept v w) definition_rules ≡ true = rw asked at (all_kept v w (rules_asked v w) none) in
    list_all-below (keeps_part v w) (length v.parts) (λ i inside. list_all-weaker (kept v w) (λ rule. not (breaks_part rule v w i)) (part_from_kept v w i inside) definition_rules all)
