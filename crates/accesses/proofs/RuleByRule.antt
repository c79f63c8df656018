-- What each rule on two definitions says: where it is not broken, something of theirs agrees, and where that agrees, it is not broken. A rule
-- on members says that a member has no match.
use Rattle.std.proofs.Common.{◌≡◌, ◌<◌, ℕ, suc, Bool, true, false, not, List, [], ◌∷◌, length, get_or, slice_get, Option, Some, None, refl, sym, ◌∙◌, ap, subst, eqb, arith, inl, inr}
use Rattle.std.specs.Prelude.{is_none, is_some, ◌&&◌, ◌||◌, ◌≢◌, IfSome}
use Rattle.std.specs.Bool.{beq}
use Rattle.std.specs.Option.{option_map}
use Rattle.std.proofs.lemmas.Bool.{cases_Bool, and_parts, or_parts, both_ways, eq-eqb, not-false, false≢true, not_from_true}
use Rattle.std.proofs.lemmas.List.{same_lists}
use Rattle.std.proofs.lemmas.List.Sums.{length-filter}
use Rattle.std.proofs.lemmas.Option.{slice_get-get_or}
use Rattle.abi_base.proofs.lemmas.Bools.{beq_is_same, beq_same}
use Rattle.abi_types.specs.declared.kind.Kind.{Kind}
use Rattle.abi_types.specs.declared.kind.Kind.TheVariants as kind
use Rattle.abi_types.specs.declared.place.Place.{Place}
use Rattle.abi_types.specs.declared.rule.Rule.{Rule}
use Rattle.abi_types.specs.declared.rule.Rule.TheVariants.{TypeSize, ScalarGroup, TypeAlignment, DeclarationTag, MemberPresence, MemberOffset, BitFieldWidth, EnumeratorPresence, EnumeratorValue, ElementCount, ParameterCount, VariadicArguments, PassingPlace}
use Rattle.abi_types.specs.Types.{PlainPart, Outcome, PlainView}
use Rattle.abi_types.specs.Forms.{is_function, is_scalar, has_elements, is_member, is_enumerator, is_param, size_of_kind, are_of_function, HasForm, parts_fit}
use Rattle.abi_types.specs.Graphs.{part_at, no_part, to_of}
use Rattle.abi_types.specs.Libraries.{HasPlaces}
use Rattle.pair_rules.specs.Same.{same_group, same_place}
use Rattle.pair_rules.specs.Matching.{match_of, number_of}
use Rattle.pair_rules.specs.TypeRules.{has_size, has_alignment, are_compared, breaks_whole, breaks_part, speaks_of_parts, breaks, bit_at, width_at, value_at, value_of, in_bytes, params_of, is_outcome, param_moved, places_differ, differs}
use Rattle.accesses.specs.Agreement.{AgreeDefined, HasValue, MemberBreaks}
use Rattle.accesses.proofs.Known.{Laws}
use Rattle.accesses.proofs.Forming.{no_params}
use Rattle.accesses.proofs.Parameters.{IsParam, param-at, param-number, function-kind}
use Rattle.accesses.proofs.Advancing.{unbroken_part, unbroken_whole, first_false, same-number, unmatched}

-- ---- what kinds fix

sized : (k : Kind) (m n : ℕ) → IfSome (size_of_kind k) (λ size. m ≡ size) → IfSome (size_of_kind k) (λ size. n ≡ size) → has_size k ≡ false → m ≡ n
sized kind.Void m n one other e = one ∙ sym other
sized kind.Pointer m n one other e = one ∙ sym other
sized kind.Function m n one other e = one ∙ sym other
sized k m n one other e = absurd cc

-- ---- from rules that are not broken

module _ (laws : Laws) (v w : PlainView) (form : HasForm v) (form' : HasForm w) (kinds : v.kind ≡ w.kind) (compared : are_compared v w ≡ true) (none : breaks v w ≡ []) where
  sizes : v.size ≡ w.size
  unfolding breaks_whole
  sizes =
      elim (cases_Bool (has_size v.kind)) [
        | inl asked ↦
            let unbroken : (has_size v.kind && not (eqb v.size w.size)) ≡ false = unbroken_whole laws v w compared none TypeSize refl refl in
            same-number v.size w.size (first_false (has_size v.kind) (not (eqb v.size w.size)) unbroken asked)
        | inr fixed ↦ sized v.kind v.size w.size form.size (subst (λ (k : Kind). IfSome (size_of_kind k) (λ size. w.size ≡ size)) (sym kinds) form'.size) fixed
      ]

  groups : v.group ≡ w.group
  unfolding breaks_whole
  groups =
      elim (cases_Bool (is_scalar v.kind)) [
        | inl asked ↦
            let unbroken : (is_scalar v.kind && not (same_group v.group w.group)) ≡ false = unbroken_whole laws v w compared none ScalarGroup refl refl in
            (laws.groups v.group w.group).0 (not-false (same_group v.group w.group) (first_false (is_scalar v.kind) (not (same_group v.group w.group)) unbroken asked))
        | inr fixed ↦ form.group fixed ∙ sym (form'.group (sym (ap is_scalar kinds) ∙ fixed))
      ]

  alignments : has_alignment v.kind ≡ true → v.align ≡ w.align
  unfolding breaks_whole
  alignments asked =
      let unbroken : (has_alignment v.kind && not (eqb v.align w.align)) ≡ false = unbroken_whole laws v w compared none TypeAlignment refl refl in
      same-number v.align w.align (first_false (has_alignment v.kind) (not (eqb v.align w.align)) unbroken asked)

  counts : v.count ≡ w.count
  unfolding breaks_whole
  counts =
      elim (cases_Bool (has_elements v.kind)) [
        | inl asked ↦
            let unbroken : (has_elements v.kind && not (eqb v.count w.count)) ≡ false = unbroken_whole laws v w compared none ElementCount refl refl in
            same-number v.count w.count (first_false (has_elements v.kind) (not (eqb v.count w.count)) unbroken asked)
        | inr fixed ↦ form.count fixed ∙ sym (form'.count (sym (ap has_elements kinds) ∙ fixed))
      ]

  params : params_of v ≡ params_of w
  unfolding breaks_whole
  params =
      elim (cases_Bool (is_function v.kind)) [
        | inl asked ↦
            let unbroken : (is_function v.kind && not (eqb (params_of v) (params_of w))) ≡ false = unbroken_whole laws v w compared none ParameterCount refl refl in
            same-number (params_of v) (params_of w) (first_false (is_function v.kind) (not (eqb (params_of v) (params_of w))) unbroken asked)
        | inr fixed ↦ no_params v.kind v.parts form.parts fixed ∙ sym (no_params w.kind w.parts form'.parts (sym (ap is_function kinds) ∙ fixed))
      ]

  variadic : v.variadic ≡ w.variadic
  unfolding breaks_whole
  variadic =
      elim (cases_Bool (is_function v.kind)) [
        | inl asked ↦
            let unbroken : (is_function v.kind && not (beq v.variadic w.variadic)) ≡ false = unbroken_whole laws v w compared none VariadicArguments refl refl in
            beq_is_same v.variadic w.variadic (not-false (beq v.variadic w.variadic) (first_false (is_function v.kind) (not (beq v.variadic w.variadic)) unbroken asked))
        | inr fixed ↦ form.variadic fixed ∙ sym (form'.variadic (sym (ap is_function kinds) ∙ fixed))
      ]

  -- ---- enumerators

  enumerators : (i : ℕ) → i < length v.parts → is_enumerator (part_at v i) ≡ true → HasValue v w i
  unfolding breaks_part
  enumerators i inside enumerator = go (match_of v w i) refl where
    go : (o : Option ℕ) → match_of v w i ≡ o → HasValue v w i
    go None e =
        let unbroken : (is_enumerator (part_at v i) && is_none (match_of v w i)) ≡ false = unbroken_part laws v w compared none EnumeratorPresence refl refl i inside in
        absurd (false≢true (sym (first_false (is_enumerator (part_at v i)) (is_none (match_of v w i)) unbroken enumerator) ∙ ap is_none e))
    go (Some j) e =
        let unbroken : (is_enumerator (part_at v i) && differs (value_at v i) (option_map (value_at w) (match_of v w i))) ≡ false = unbroken_part laws v w compared none EnumeratorValue refl refl i inside in
        let same = first_false (is_enumerator (part_at v i)) (differs (value_at v i) (option_map (value_at w) (match_of v w i))) unbroken enumerator in
        let values : value_at v i ≡ value_at w j = same-number (value_at v i) (value_at w j) (sym (ap (λ o. differs (value_at v i) (option_map (value_at w) o)) e) ∙ same) in
        record {
          place = j;
          match = (laws.found v w i j).0 e;
          value = values ∙ ap (λ (s : ℕ). in_bytes s (value_of (part_at w j))) (sym sizes);
        }

  -- ---- places

  outcome-there : (xs : List PlainPart) → are_of_function xs ≡ true → (0 < length xs) × (is_outcome (get_or xs 0 no_part) ≡ true)
  outcome-there (Outcome a ∷ xs) e = (omega arith, refl)
  outcome-there xs e = absurd cc

  function-fits : is_function v.kind ≡ true → are_of_function v.parts ≡ true
  function-fits function = go v.kind refl form.parts where
    go : (k : Kind) → v.kind ≡ k → parts_fit v.kind v.parts ≡ true → are_of_function v.parts ≡ true
    go kind.Function e fit = rw e at fit
    go kind.Void e fit = absurd (false≢true (sym (ap is_function e) ∙ function))
    go kind.Scalar e fit = absurd (false≢true (sym (ap is_function e) ∙ function))
    go kind.Pointer e fit = absurd (false≢true (sym (ap is_function e) ∙ function))
    go kind.Enumeration e fit = absurd (false≢true (sym (ap is_function e) ∙ function))
    go kind.Structure e fit = absurd (false≢true (sym (ap is_function e) ∙ function))
    go kind.Union e fit = absurd (false≢true (sym (ap is_function e) ∙ function))
    go kind.Array e fit = absurd (false≢true (sym (ap is_function e) ∙ function))
    go kind.Vector e fit = absurd (false≢true (sym (ap is_function e) ∙ function))

  -- the calls of types that are no functions are equal
  same-calls : is_function v.kind ≡ false → v.call ≡ w.call
  same-calls fixed = form.call fixed ∙ sym (form'.call (sym (ap is_function kinds) ∙ fixed))

  result_place : v.call.outcome ≡ w.call.outcome
  unfolding breaks_part
  result_place =
      elim (cases_Bool (is_function v.kind)) [
        | inl function ↦
            let there = outcome-there v.parts (function-fits function) in
            let unbroken : ((is_outcome (part_at v 0) && not (same_place v.call.outcome w.call.outcome)) || (is_param (part_at v 0) && param_moved v w 0)) ≡ false =
            unbroken_part laws v w compared none PassingPlace refl refl 0 there.0 in
            let parts = or_parts (is_outcome (part_at v 0) && not (same_place v.call.outcome w.call.outcome)) (is_param (part_at v 0) && param_moved v w 0) unbroken in
            let same = first_false (is_outcome (part_at v 0)) (not (same_place v.call.outcome w.call.outcome)) parts.0 there.1 in
            (laws.places v.call.outcome w.call.outcome).0 (not-false (same_place v.call.outcome w.call.outcome) same)
        | inr fixed ↦ ap (λ c. c.outcome) (same-calls fixed)
      ]

  -- ---- places of parameters

  moved-nowhere : (k : ℕ) (at : IsParam v.parts k) → param_moved v w (suc k) ≡ false
  unfolding breaks_part
  moved-nowhere k at =
      let unbroken : ((is_outcome (part_at v (suc k)) && not (same_place v.call.outcome w.call.outcome)) || (is_param (part_at v (suc k)) && param_moved v w (suc k))) ≡ false =
      unbroken_part laws v w compared none PassingPlace refl refl (suc k) at.inside in
      let parts = or_parts (is_outcome (part_at v (suc k)) && not (same_place v.call.outcome w.call.outcome)) (is_param (part_at v (suc k)) && param_moved v w (suc k)) unbroken in
      first_false (is_param (part_at v (suc k))) (param_moved v w (suc k)) parts.1 (ap is_param at.is)

  same-many : HasPlaces v → HasPlaces w → is_function v.kind ≡ true → length v.call.params ≡ length w.call.params
  same-many places places' function =
      places (function-kind v.kind function) ∙ params ∙ sym (places' (function-kind w.kind (sym (ap is_function kinds) ∙ function)))

  param_place : HasPlaces v → HasPlaces w → is_function v.kind ≡ true → (k : ℕ) (d : Place) → k < length v.call.params → get_or v.call.params k d ≡ get_or w.call.params k d
  param_place places places' function k d lt =
      let many = places (function-kind v.kind function) in
      let at = param-at v.parts k (function-fits function) (omega (arith, length-filter is_param v.parts)) in
      go at (match_of v w (suc k)) refl where
        go : IsParam v.parts k → (o : Option ℕ) → match_of v w (suc k) ≡ o → get_or v.call.params k d ≡ get_or w.call.params k d
        go at None e = absurd (unmatched laws v w form form' kinds compared none (suc k) at.to at.inside (ap to_of at.is) e)
        go at (Some j) e =
            let same = first_false (is_some (match_of v w (suc k))) (places_differ (slice_get v.call.params (number_of v (suc k))) (slice_get w.call.params (number_of v (suc k)))) (moved-nowhere k at) (ap is_some e) in
            let D : ℕ → Bool = λ n. places_differ (slice_get v.call.params n) (slice_get w.call.params n) in
            let here : places_differ (slice_get v.call.params k) (slice_get w.call.params k) ≡ false = sym (ap D (param-number v k at)) ∙ same in
            let lt' : k < length w.call.params = subst (λ (n : ℕ). k < n) (same-many places places' function) lt in
            let both : places_differ (Some (get_or v.call.params k d)) (Some (get_or w.call.params k d)) ≡ false =
            sym (ap (λ o. places_differ o (Some (get_or w.call.params k d))) (slice_get-get_or v.call.params k d lt)) ∙ sym (ap (places_differ (slice_get v.call.params k)) (slice_get-get_or w.call.params k d lt')) ∙ here in
            (laws.places (get_or v.call.params k d) (get_or w.call.params k d)).0 (not-false (same_place (get_or v.call.params k d) (get_or w.call.params k d)) both)

  param_places : HasPlaces v → HasPlaces w → v.call.params ≡ w.call.params
  param_places places places' =
      elim (cases_Bool (is_function v.kind)) [
        | inl function ↦ same_lists v.call.params w.call.params (same-many places places' function) (param_place places places' function)
        | inr fixed ↦ ap (λ c. c.params) (same-calls fixed)
      ]

  -- ---- all of it

  pub defined : HasPlaces v → HasPlaces w → AgreeDefined v w
  defined places places' = record {
    sizes = sizes;
    groups = groups;
    alignments = alignments;
    counts = counts;
    params = params;
    variadic = variadic;
    result_place = result_place;
    param_places = param_places places places';
    enumerators = enumerators;
  }

-- the rules on members
abbrev pub of_members : Rule → Bool
of_members MemberPresence = true
of_members MemberOffset = true
of_members BitFieldWidth = true
of_members r = false

pub members-speak : (r : Rule) → of_members r ≡ true → speaks_of_parts r ≡ true
members-speak r e = grind arith

-- ---- to rules that are not broken

module _ (laws : Laws) (v w : PlainView) where
  -- a rule that speaks of types as a whole
  pub whole : AgreeDefined v w → v.kind ≡ w.kind → (r : Rule) → r ≢ DeclarationTag → breaks_whole r v w ≡ true → ⊥
  unfolding breaks_whole
  whole a kinds r ne t = grind (arith, (laws.kinds v.kind w.kind).1 kinds, (laws.groups v.group w.group).1 a.groups, beq_same)

  same-places : (xs ys : List Place) (k : ℕ) → xs ≡ ys → places_differ (slice_get xs k) (slice_get ys k) ≡ false
  same-places xs ys k e = subst (λ (zs : List Place). places_differ (slice_get xs k) (slice_get zs k) ≡ false) e (go (slice_get xs k)) where
    go : (o : Option Place) → places_differ o o ≡ false
    go None = refl
    go (Some a) = not_from_true (same_place a a) ((laws.places a a).1 refl)

  enumerator-gone : AgreeDefined v w → (i : ℕ) → i < length v.parts → (is_enumerator (part_at v i) && is_none (match_of v w i)) ≡ true → ⊥
  enumerator-gone a i inside t =
      let parts = and_parts (is_enumerator (part_at v i)) (is_none (match_of v w i)) t in
      let has = a.enumerators i inside parts.0 in
      both_ways (is_none (match_of v w i)) (ap is_none ((laws.found v w i has.place).1 has.match)) parts.1

  enumerator-differs : AgreeDefined v w → (i : ℕ) → i < length v.parts → (is_enumerator (part_at v i) && differs (value_at v i) (option_map (value_at w) (match_of v w i))) ≡ true → ⊥
  enumerator-differs a i inside t =
      let parts = and_parts (is_enumerator (part_at v i)) (differs (value_at v i) (option_map (value_at w) (match_of v w i))) t in
      let has = a.enumerators i inside parts.0 in
      let values : value_at v i ≡ value_at w has.place = has.value ∙ ap (λ (s : ℕ). in_bytes s (value_of (part_at w has.place))) a.sizes in
      let differ = sym (ap (λ o. differs (value_at v i) (option_map (value_at w) o)) ((laws.found v w i has.place).1 has.match)) ∙ parts.1 in
      both_ways (not (eqb (value_at v i) (value_at w has.place))) (not_from_true (eqb (value_at v i) (value_at w has.place)) (eq-eqb (value_at v i) (value_at w has.place) values)) differ

  -- a rule that speaks of parts other than members
  pub part : AgreeDefined v w → (i : ℕ) → i < length v.parts → (r : Rule) → of_members r ≡ false → breaks_part r v w i ≡ true → ⊥
  unfolding breaks_part
  part a i inside r e t =
      grind (arith, enumerator-gone a i inside, enumerator-differs a i inside, (laws.places v.call.outcome w.call.outcome).1 a.result_place, same-places v.call.params w.call.params (number_of v i) a.param_places)

  -- ---- a rule on members

  of_member : (i : ℕ) (r : Rule) → of_members r ≡ true → breaks_part r v w i ≡ true → is_member (part_at v i) ≡ true
  unfolding breaks_part
  of_member i r e t = grind arith

  no_match : (i : ℕ) (r : Rule) → of_members r ≡ true → breaks_part r v w i ≡ true → (j : ℕ) → match_of v w i ≡ Some j → bit_at v i ≡ bit_at w j → width_at v i ≡ width_at w j → ⊥
  unfolding breaks_part
  no_match i r e t j is bits widths = grind arith

  pub member : are_compared v w ≡ true → (i : ℕ) → i < length v.parts → (r : Rule) → of_members r ≡ true → breaks_part r v w i ≡ true → MemberBreaks v w i
  member compared i inside r e t = record { inside = inside; member = of_member i r e t; compared = compared; unmatched = no_match i r e t }
