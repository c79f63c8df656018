-- Types that break no rule agree, where they have the forms of their kinds and places for their parameters.
use Rattle.std.proofs.Common.{◌≡◌, true, false, not, List, [], ◌∷◌, refl, sym, subst, arith, inl, inr}
use Rattle.std.specs.List.{Contains}
use Rattle.std.specs.Str.{bytes_eq}
use Rattle.std.proofs.lemmas.Bool.{cases_Bool, and_from, not-false, false_from_ne_true, not_from_false, or_from}
use Rattle.std.proofs.lemmas.Slice.Eq.{bytes_eq-Decides}
use Rattle.abi_types.specs.declared.rule.Rule.{Rule}
use Rattle.abi_types.specs.declared.rule.Rule.TheVariants.{KindOfType, DeclarationTag}
use Rattle.abi_types.specs.Types.{PlainView}
use Rattle.abi_types.specs.Forms.{HasForm}
use Rattle.abi_types.specs.Libraries.{HasPlaces}
use Rattle.pair_rules.specs.Same.{same_kind}
use Rattle.pair_rules.specs.TypeRules.{is_declaration, are_compared, breaks_whole, speaks_of_parts, rules_asked, broken_at, breaks, IsBroken}
use Rattle.accesses.specs.Agreement.{Agree}
use Rattle.accesses.proofs.Known.{Laws}
use Rattle.accesses.proofs.Advancing.{unlisted}
use Rattle.accesses.proofs.RuleByRule.{defined}
use Rattle.pair_rules.proofs.lemmas.Asked.{rules_asked-kinds, rules_asked-declared}

-- ---- kinds and tags

-- the one rule that is checked is not broken
alone : Laws → (v w : PlainView) (rule : Rule) → rules_asked v w ≡ rule ∷ [] → speaks_of_parts rule ≡ false → breaks v w ≡ [] → breaks_whole rule v w ≡ false
alone laws v w rule asked speaks none =
    false_from_ne_true (breaks_whole rule v w)
    (λ broken.
    let first : Contains (rule ∷ []) rule = (0, omega arith, refl) in
    let among : Contains (rules_asked v w) rule = subst (λ (xs : List Rule). Contains xs rule) (sym asked) first in
    let is : IsBroken v w (broken_at rule 0) = rw speaks (refl, broken) in
    unlisted v w none (broken_at rule 0) ((laws.listed v w (broken_at rule 0)).1 (among, is)))

same-kinds : Laws → (v w : PlainView) → breaks v w ≡ [] → same_kind v.kind w.kind ≡ true
unfolding breaks_whole
same-kinds laws v w none =
    elim (cases_Bool (same_kind v.kind w.kind)) [
      | inl same ↦ same
      | inr differ ↦
          let unbroken : not (same_kind v.kind w.kind) ≡ false = alone laws v w KindOfType (rules_asked-kinds v w differ) refl none in
          not-false (same_kind v.kind w.kind) unbroken
    ]

same-tags : Laws → (v w : PlainView) → breaks v w ≡ [] → same_kind v.kind w.kind ≡ true → is_declaration v w ≡ true → v.tag ≡ w.tag
unfolding breaks_whole
same-tags laws v w none same declared =
    let unbroken : not (bytes_eq v.tag w.tag) ≡ false = alone laws v w DeclarationTag (rules_asked-declared v w same declared) refl none in
    (bytes_eq-Decides v.tag w.tag).0 (not-false (bytes_eq v.tag w.tag) unbroken)

pub agree_from_none : Laws → (v w : PlainView) → HasForm v → HasForm w → HasPlaces v → HasPlaces w → breaks v w ≡ [] → Agree v w
agree_from_none laws v w form form' places places' none =
    let same = same-kinds laws v w none in
    let kinds = (laws.kinds v.kind w.kind).0 same in
    record {
      kinds = kinds;
      rest = elim (cases_Bool (is_declaration v w)) [
        | inl declared ↦ rw declared (same-tags laws v w none same declared)
        | inr both ↦
            let compared = and_from (same_kind v.kind w.kind) (not (is_declaration v w)) same (not_from_false (is_declaration v w) both) in
            rw both (defined laws v w form form' kinds compared none places places')
      ];
    }

-- types that break no rule, none of which is declared only, are compared
pub compared_from_none : Laws → (v w : PlainView) → breaks v w ≡ [] → v.declared_only ≡ false → w.declared_only ≡ false → (v.kind ≡ w.kind) × (are_compared v w ≡ true)
compared_from_none laws v w none one other =
    let same = same-kinds laws v w none in
    ((laws.kinds v.kind w.kind).0 same, and_from (same_kind v.kind w.kind) (not (is_declaration v w)) same (not_from_false (is_declaration v w) (or_from v.declared_only w.declared_only one other)))
