-- What holds of each rule: it compares either types as a whole or their parts, no type breaks it in its own place, and it does not see
-- which nodes parts name.
use Rattle.std.proofs.Common.{◌≡◌, ◌<◌, ℕ, Bool, true, false, not, length, Option, Some, None, refl, eqb, arith}
use Rattle.std.specs.Bool.{beq}
use Rattle.std.specs.Prelude.{is_none, slice_get}
use Rattle.std.proofs.lemmas.Bool.{not_from_true, eq-eqb}
use Rattle.abi_base.proofs.lemmas.Orders.{bytes_eq-refl}
use Rattle.abi_types.specs.declared.place.Place.{Place}
use Rattle.abi_types.specs.declared.rule.Rule.{Rule}
use Rattle.abi_types.specs.Types.{PlainView}
use Rattle.abi_types.specs.Forms.{is_member, is_enumerator, is_param}
use Rattle.abi_types.specs.ClassLooks.{view_seen}
use Rattle.pair_rules.specs.Same.{same_place}
use Rattle.pair_rules.specs.Matching.{number_of, match_of}
use Rattle.pair_rules.specs.TypeRules.{is_outcome, bit_at, width_at, value_at, differs, matched, places_differ, breaks_whole, breaks_part, speaks_of_parts}
use Rattle.pair_rules.proofs.Matches.{match_of-same}
use Rattle.pair_rules.proofs.SameLemmas.{same_kind-same, same_group-same, same_place-same}
use Rattle.pair_rules.proofs.Unseen.{is_member-seen, is_enumerator-seen, is_outcome-seen, is_param-seen, said-seen, matched-seen, match_of-seen, params_of-seen, bit_at-seen, width_at-seen, value_at-seen, outcomes-seen, param_moved-seen}

-- ---- each rule speaks either of the types as a whole or of their parts

pub whole-of_parts : (v w : PlainView) (r : Rule) → speaks_of_parts r ≡ true → breaks_whole r v w ≡ false
unfolding breaks_whole
whole-of_parts v w r e = grind arith

pub part-of_whole : (v w : PlainView) (i : ℕ) (r : Rule) → speaks_of_parts r ≡ false → breaks_part r v w i ≡ false
unfolding breaks_part
part-of_whole v w i r e = grind arith

-- ---- a type in its own place

not_same : (n : ℕ) → not (eqb n n) ≡ false
not_same n = not_from_true (eqb n n) (eq-eqb n n refl)

not_same_truth : (b : Bool) → not (beq b b) ≡ false
not_same_truth true = refl
not_same_truth false = refl

pub whole_kept : (v : PlainView) (r : Rule) → breaks_whole r v v ≡ false
unfolding breaks_whole
whole_kept v r = grind (arith, same_kind-same, same_group-same, bytes_eq-refl, not_same, not_same_truth)

-- what a type says of a part is what it says of the part's match
same_said : (said : PlainView → ℕ → ℕ) (v : PlainView) (i : ℕ) → i < length v.parts → differs (said v i) (matched said v v i) ≡ false
same_said said v i inside = rw (match_of-same v i inside) (not_same (said v i))

same_places : (o : Option Place) → places_differ o o ≡ false
same_places None = refl
same_places (Some p) = not_from_true (same_place p p) (same_place-same p)

has_match : (v : PlainView) (i : ℕ) → i < length v.parts → is_none (match_of v v i) ≡ false
has_match v i inside = rw (match_of-same v i inside) refl

pub part_kept : (v : PlainView) (i : ℕ) → i < length v.parts → (r : Rule) → breaks_part r v v i ≡ false
unfolding breaks_part
part_kept v i inside r =
    grind (arith, has_match v i inside, same_said bit_at v i inside, same_said width_at v i inside, same_said value_at v i inside, same_place-same, same_places (slice_get v.call.params (number_of v i)))

-- ---- types with other numbers for the nodes that parts name

pub breaks_whole-seen : (f g : ℕ → ℕ) (r : Rule) (v w : PlainView) → breaks_whole r (view_seen f v) (view_seen g w) ≡ breaks_whole r v w
unfolding breaks_whole view_seen
breaks_whole-seen f g r v w = grind (arith, params_of-seen f v, params_of-seen g w)

pub breaks_part-seen : (f g : ℕ → ℕ) (r : Rule) (v w : PlainView) (i : ℕ) → breaks_part r (view_seen f v) (view_seen g w) i ≡ breaks_part r v w i
unfolding breaks_part
breaks_part-seen f g r v w i =
    grind
    (arith, said-seen is_member is_member-seen f v i, said-seen is_enumerator is_enumerator-seen f v i, said-seen is_outcome is_outcome-seen f v i, said-seen is_param is_param-seen f v i, match_of-seen f g v w i, matched-seen bit_at bit_at-seen f g v w i, matched-seen width_at width_at-seen f g v w i, matched-seen value_at value_at-seen f g v w i, outcomes-seen f g v w, param_moved-seen f g v w i)
