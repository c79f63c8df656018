-- The list of what two types break holds exactly the rules that compare them, each where it is broken.
use Rattle.std.proofs.Common.{◌≡◌, ◌<◌, ◌⊎◌, ℕ, Bool, true, List, [], ◌∷◌, map, length, refl, sym, ◌∙◌, ap, subst, arith, inl, inr}
use Rattle.std.specs.List.{filter, range_with_len, Contains}
use Rattle.std.proofs.lemmas.Bool.{cases_Bool}
use Rattle.std.proofs.lemmas.List.Elements.{Contains-append_cases}
use Rattle.abi_base.proofs.lemmas.Contained.{in_none, at_front, in_rest, in_range}
use Rattle.abi_types.specs.declared.rule.Rule.{Rule}
use Rattle.abi_types.specs.Types.{PlainView}
use Rattle.pair_rules.specs.declared.rules.Broken.{Broken}
use Rattle.pair_rules.specs.TypeRules.{breaks_whole, breaks_part, speaks_of_parts, rules_asked, broken_at, broken, breaks, IsBroken}
use Rattle.pair_rules.proofs.lemmas.Lists.{from_flat_map, in_flat_map, from_range}

-- ---- what is in a list that is made from others

in_first : {X : Type 0} (x y : X) (xs : List X) → Contains (x ∷ xs) y → ((y ≡ x) ⊎ Contains xs y)
in_first x y xs c =
    elim (Contains-append_cases (x ∷ []) xs y c) [
      | inl here ↦ inl (only here)
      | inr there ↦ inr there
    ]
  where
    only : Contains (x ∷ []) y → y ≡ x
    only (k, inside, at) = let first : k ≡ 0 = omega arith in sym (rw first at at)

in_filtered : {X Y : Type 0} (h : X → Y) (p : X → Bool) (xs : List X) (y : Y) → Contains (map h (filter p xs)) y → (x : X) × Contains xs x × (p x ≡ true) × (y ≡ h x)
in_filtered h p [] y c = absurd (in_none y c)
in_filtered h p (x ∷ xs) y c =
    elim (cases_Bool (p x)) [
      | inl passes ↦
          elim (in_first (h x) y (map h (filter p xs)) (rw passes at c)) [
            | inl here ↦ (x, at_front x xs, passes, here)
            | inr there ↦ let later = in_filtered h p xs y there in (later.0, in_rest x xs later.0 later.1, later.2, later.3)
          ]
      | inr fails ↦ let later = in_filtered h p xs y (rw fails at c) in (later.0, in_rest x xs later.0 later.1, later.2, later.3)
    ]

filtered_in : {X Y : Type 0} (h : X → Y) (p : X → Bool) (xs : List X) (x : X) → Contains xs x → p x ≡ true → Contains (map h (filter p xs)) (h x)
filtered_in h p [] x c passes = absurd (in_none x c)
filtered_in {X} {Y} h p (z ∷ xs) x c passes =
    elim (in_first z x xs c) [
      | inl here ↦ let passes' = rw here at passes in rw (passes', here) (at_front (h z) (map h (filter p xs)))
      | inr there ↦ elim (cases_Bool (p z)) [
        | inl also ↦ rw also (in_rest (h z) (map h (filter p xs)) (h x) (filtered_in h p xs x there passes))
        | inr fails ↦ rw fails (filtered_in h p xs x there passes)
      ]
    ]

-- ---- where a rule is broken

same_broken : (b : Broken) (r : Rule) (i : ℕ) → b ≡ broken_at r i → (b.rule ≡ r) × (b.part ≡ i)
same_broken b r i e = (ap (λ x. x.rule) e, ap (λ x. x.part) e)

IsBroken-from_broken : (v w : PlainView) (r : Rule) (b : Broken) → Contains (broken v w r) b → (b.rule ≡ r) × IsBroken v w b
unfolding broken
IsBroken-from_broken v w r b c =
    elim (cases_Bool (speaks_of_parts r)) [
      | inl of_parts ↦
          let found = in_filtered (broken_at r) (breaks_part r v w) (range_with_len 0 (length v.parts)) b (rw of_parts at c) in
          let same = same_broken b r found.0 found.3 in
          (same.0, rw (same.0, of_parts) (rw same.1 (from_range (length v.parts) found.0 found.1), rw same.1 found.2))
      | inr of_whole ↦
          elim (cases_Bool (breaks_whole r v w)) [
            | inl breaks ↦
                elim (in_first (broken_at r 0) b [] (rw (of_whole, breaks) at c)) [
                  | inl here ↦ let same = same_broken b r 0 here in (same.0, rw (same.0, of_whole) (same.1, breaks))
                  | inr none ↦ absurd (in_none b none)
                ]
            | inr keeps ↦ absurd (in_none b (rw (of_whole, keeps) at c))
          ]
    ]

broken_from_IsBroken : (v w : PlainView) (b : Broken) → IsBroken v w b → Contains (broken v w b.rule) b
unfolding broken
broken_from_IsBroken v w b is =
    elim (cases_Bool (speaks_of_parts b.rule)) [
      | inl of_parts ↦
          let here = rw of_parts at is in
          rw of_parts (filtered_in (broken_at b.rule) (breaks_part b.rule v w) (range_with_len 0 (length v.parts)) b.part (in_range (length v.parts) b.part here.0) here.1)
      | inr of_whole ↦
          let here = rw of_whole at is in
          let zero : broken_at b.rule 0 ≡ b = ap (λ k. broken_at b.rule k) (sym here.0) in
          let P : Broken → Type 0 = λ x. Contains (broken_at b.rule 0 ∷ []) x in
          rw (of_whole, here.1) (subst P zero (at_front (broken_at b.rule 0) []))
    ]

pub asked_and_broken : (v w : PlainView) (b : Broken) → Contains (breaks v w) b → Contains (rules_asked v w) b.rule × IsBroken v w b
unfolding breaks
asked_and_broken v w b c =
    let found = from_flat_map (broken v w) (rules_asked v w) b c in
    let is = IsBroken-from_broken v w found.0 b found.2 in
    (rw is.0 found.1, is.1)

pub among_breaks : (v w : PlainView) (b : Broken) → Contains (rules_asked v w) b.rule → IsBroken v w b → Contains (breaks v w) b
unfolding breaks
among_breaks v w b asked is = in_flat_map (broken v w) (rules_asked v w) b.rule b asked (broken_from_IsBroken v w b is)
