-- Partners through a type between two others.
use Rattle.std.proofs.Common.{◌≡◌, ◌≤◌, ◌<◌, ◌==◌, ◌||◌, not, ℕ, Bool, true, false, List, [], length, take, filter, Option, Some, None, refl, sym, ◌∙◌, ap, subst, arith, inl, inr, rules}
use Rattle.std.specs.Prelude.{IsSome}
use Rattle.std.specs.List.{Contains}
use Rattle.std.proofs.lemmas.Bool.{cases_Bool, and_parts, eqb-true}
use Rattle.std.proofs.lemmas.List.Elements.{filter_agree}
use Rattle.abi_base.proofs.lemmas.Lists.{fewer_before}
use Rattle.abi_base.proofs.lemmas.Options.{some_of}
use Rattle.abi_base.proofs.lemmas.Bools.{not_is_true, or_left_false}
use Rattle.abi_types.specs.declared.kind.Kind.{Kind}
use Rattle.abi_types.specs.declared.rule.Rule.TheVariants.{KindOfType, MemberPresence, ParameterCount}
use Rattle.abi_types.specs.Types.{PlainPart, PlainView}
use Rattle.abi_types.specs.Forms.{HasForm, parts_fit, is_function, is_member}
use Rattle.abi_types.specs.Graphs.{part_at, no_part, to_of}
use Rattle.abi_types.specs.Parts.{like}
use Rattle.pair_rules.specs.declared.rules.Broken.{Broken}
use Rattle.pair_rules.specs.Same.{same_kind}
use Rattle.pair_rules.specs.Matching.{match_of, IsMatch}
use Rattle.pair_rules.specs.Partners.{IsPartner}
use Rattle.pair_rules.specs.TypeRules.{are_compared, is_declaration, params_of, breaks_whole, breaks_part, rules_asked, breaks, broken_at, IsBroken}
use Rattle.pair_rules.specs.Middles.{MeetInTheMiddle}
use Rattle.pair_rules.proofs.Matches.{IsMatch-from_some, few_from_none}
use Rattle.pair_rules.proofs.Occurrences.{among_breaks}
use Rattle.pair_rules.proofs.SameLemmas.{equal_from_same_kind, same_kind-same}
use Rattle.pair_rules.proofs.MiddleParts.{like_agree, way_like, as_many}
use Rattle.pair_rules.proofs.lemmas.Parts.{like-same, to_of-like}

module _ (v u : PlainView) (none : breaks v u ≡ []) where
  unbroken : (b : Broken) → Contains (rules_asked v u) b.rule → IsBroken v u b → ⊥
  unbroken b asked is = let h = subst (λ (bs : List Broken). Contains bs b) none (among_breaks v u b asked is) in omega (arith, h.1)

  pub one_kind : same_kind v.kind u.kind ≡ true
  unfolding breaks_whole
  one_kind = elim (cases_Bool (same_kind v.kind u.kind)) [
    | inl same ↦ same
    | inr other ↦ absurd (unbroken (broken_at KindOfType 0) (rw other (0, omega arith, refl)) (refl, rw other refl))
  ]

  module _ (defined : is_declaration v u ≡ false) where
    no_member_gone : (i : ℕ) → i < length v.parts → is_member (part_at v i) ≡ true → match_of v u i ≡ None → ⊥
    unfolding breaks_part
    no_member_gone i inside member gone = unbroken (broken_at MemberPresence i) (rw (one_kind, defined) (3, omega arith, refl)) (inside, rw (member, gone) refl)

    same_params : is_function v.kind ≡ true → params_of v ≡ params_of u
    unfolding breaks_whole
    same_params function = elim (cases_Bool (params_of v == params_of u)) [
      | inl same ↦ eqb-true (params_of v) (params_of u) same
      | inr other ↦ absurd (unbroken (broken_at ParameterCount 0) (rw (one_kind, defined) (9, omega arith, refl)) (refl, rw (function, other) refl))
    ]

    module _ (form : HasForm v) (form' : HasForm u) where
      fits : parts_fit v.kind u.parts ≡ true
      fits = subst (λ (k : Kind). parts_fit k u.parts ≡ true) (sym (equal_from_same_kind v.kind u.kind one_kind)) form'.parts

      not_gone : (i to : ℕ) → i < length v.parts → to_of (part_at v i) ≡ Some to → like (part_at v i) (part_at v i) ≡ true → match_of v u i ≡ None → ⊥
      not_gone i to inside named itself gone = elim (as_many v.kind v.parts u.parts i to form.parts fits same_params inside named) [
        | inl member ↦ no_member_gone i inside member gone
        | inr many ↦
            let few = few_from_none v u i gone in
            let more = fewer_before (like (part_at v i)) v.parts i no_part inside itself in
            omega (arith, few, more, many)
      ]

      -- each part that names a node has a match
      pub has_match : (i to : ℕ) → i < length v.parts → to_of (part_at v i) ≡ Some to → like (part_at v i) (part_at v i) ≡ true → (k : ℕ) × IsMatch v u i k
      has_match i to inside named itself = go (match_of v u i) refl where
        go : (o : Option ℕ) → match_of v u i ≡ o → (k : ℕ) × IsMatch v u i k
        go None gone = absurd (not_gone i to inside named itself gone)
        go (Some k) is = (k, IsMatch-from_some v u i k is)

-- a match of a match
pub match_between : (v u w : PlainView) (i k j : ℕ) → IsMatch v u i k → IsMatch v w i j → IsMatch u w k j
match_between v u w i k j one far =
    let agree = like_agree (part_at v i) (part_at u k) one.alike in
    let counts : (xs : List PlainPart) → length (filter (like (part_at u k)) xs) ≡ length (filter (like (part_at v i)) xs) = λ (xs : List PlainPart). ap length (filter_agree (like (part_at u k)) (like (part_at v i)) agree xs) in
    record {
      inside = far.inside;
      alike = agree (part_at w j) ∙ far.alike;
      as_many = counts (take j w.parts) ∙ far.as_many ∙ sym one.as_many ∙ sym (counts (take k u.parts));
    }

no_or' : (a b : Bool) → (a || b) ≡ false → b ≡ false
no_or' false b e = e
no_or' true b e = absurd cc

defined_from : (v w : PlainView) → are_compared v w ≡ true → is_declaration v w ≡ false
defined_from v w compared = not_is_true (is_declaration v w) (and_parts (same_kind v.kind w.kind) (not (is_declaration v w)) compared).1

compared_from : (v w : PlainView) → same_kind v.kind w.kind ≡ true → v.declared_only ≡ false → w.declared_only ≡ false → are_compared v w ≡ true
compared_from v w same one other = rw (same, one, other) refl

pub meet : (v u w : PlainView) (i j : ℕ) → HasForm v → HasForm u → u.declared_only ≡ false → breaks v u ≡ [] → IsPartner v w i j → MeetInTheMiddle v u w i j
meet v u w i j form form' middle none partner =
    let far = defined_from v w partner.compared in
    let old_defined : v.declared_only ≡ false = or_left_false v.declared_only w.declared_only far in
    let new_defined : w.declared_only ≡ false = no_or' v.declared_only w.declared_only far in
    let defined : is_declaration v u ≡ false = rw (old_defined, middle) refl in
    let same = one_kind v u none in
    let kinds : v.kind ≡ u.kind = equal_from_same_kind v.kind u.kind same in
    let far_kinds : v.kind ≡ w.kind = equal_from_same_kind v.kind w.kind (and_parts (same_kind v.kind w.kind) (not (is_declaration v w)) partner.compared).0 in
    let same' : same_kind u.kind w.kind ≡ true = subst (λ (k : Kind). same_kind u.kind k ≡ true) (sym kinds ∙ far_kinds) (same_kind-same u.kind) in
    let named = some_of (to_of (part_at v i)) partner.old_named in
    let (k, match) = has_match v u none defined form form' i named.0 partner.old_inside named.1 (like-same (part_at v i)) in
    let there = to_of-like (part_at v i) (part_at u k) named.0 match.alike named.1 in
    let there_named : IsSome (to_of (part_at u k)) = rw there.1 search rules in
    record {
      between = k;
      one = record { compared = compared_from v u same old_defined middle; old_inside = partner.old_inside; old_named = partner.old_named; matched = match; new_named = there_named };
      other = record { compared = compared_from u w same' middle new_defined; old_inside = match.inside; old_named = there_named; matched = match_between v u w i k j match partner.matched; new_named = partner.new_named };
      way = λ way. way_like way (part_at v i) (part_at u k) match.alike;
    }
