-- A break of two types that agree is one of a member.
use Rattle.std.proofs.Common.{◌≡◌, ◌<◌, Bool, true, false, not, List, [], ◌∷◌, length, get_or, refl, sym, ◌∙◌, ap, subst, arith, inl, inr}
use Rattle.std.specs.Prelude.{◌⊎◌, MatchBool}
use Rattle.std.specs.List.{Contains}
use Rattle.std.specs.Str.{bytes_eq}
use Rattle.std.proofs.lemmas.Bool.{cases_Bool, and_from, both_ways, false≢true, not_from_false, not_from_true}
use Rattle.std.proofs.lemmas.List.Sums.{AllPass-from_list_all}
use Rattle.std.proofs.lemmas.Slice.Eq.{bytes_eq-Decides}
use Rattle.abi_types.specs.declared.rule.Rule.{Rule}
use Rattle.abi_types.specs.declared.rule.Rule.TheVariants.{KindOfType, DeclarationTag}
use Rattle.abi_types.specs.Types.{PlainView}
use Rattle.pair_rules.specs.declared.rules.Broken.{Broken}
use Rattle.pair_rules.specs.Same.{same_kind}
use Rattle.pair_rules.specs.TypeRules.{is_declaration, are_compared, breaks_whole, breaks_part, speaks_of_parts, definition_rules, rules_asked, breaks, IsBroken}
use Rattle.pair_rules.proofs.lemmas.Asked.{rules_asked-kinds, rules_asked-declared, rules_asked-defined}
use Rattle.accesses.specs.Agreement.{Agree, AgreeDefined, MemberBreaks}
use Rattle.accesses.proofs.Known.{Laws}
use Rattle.accesses.proofs.RuleByRule.{of_members, members-speak, member, part, whole}

module _ (laws : Laws) (v w : PlainView) where
  -- ---- which rules are asked

  only : (r s : Rule) → Contains (r ∷ []) s → s ≡ r
  only r s (k, inside, at) = let first : k ≡ 0 = omega arith in sym (rw first at at)

  only-asked : (r s : Rule) → rules_asked v w ≡ r ∷ [] → Contains (rules_asked v w) s → s ≡ r
  only-asked r s e c = only r s (subst (λ (xs : List Rule). Contains xs s) e c)

  member-asked : (r : Rule) → of_members r ≡ true → Contains (rules_asked v w) r → are_compared v w ≡ true
  member-asked r e c =
      elim (cases_Bool (same_kind v.kind w.kind)) [
        | inl same ↦ elim (cases_Bool (is_declaration v w)) [
          | inl declared ↦ absurd (false≢true (ap of_members (sym (only-asked DeclarationTag r (rules_asked-declared v w same declared) c)) ∙ e))
          | inr defined ↦ and_from (same_kind v.kind w.kind) (not (is_declaration v w)) same (not_from_false (is_declaration v w) defined)
        ]
        | inr differ ↦ absurd (false≢true (ap of_members (sym (only-asked KindOfType r (rules_asked-kinds v w differ) c)) ∙ e))
      ]

  abbrev not_of_tags : Rule → Bool
  not_of_tags DeclarationTag = false
  not_of_tags r = true

  no-tags : Contains definition_rules DeclarationTag → ⊥
  no-tags (k, inside, at) =
      let passes : not_of_tags (get_or definition_rules k DeclarationTag) ≡ true = AllPass-from_list_all not_of_tags definition_rules refl k DeclarationTag inside in
      false≢true (ap not_of_tags (sym at) ∙ passes)

  -- ---- a break

  tags-differ : Agree v w → is_declaration v w ≡ true → breaks_whole DeclarationTag v w ≡ true → ⊥
  unfolding breaks_whole
  tags-differ a declared t =
      let same : v.tag ≡ w.tag = rw declared at a.rest in
      both_ways (not (bytes_eq v.tag w.tag)) (not_from_true (bytes_eq v.tag w.tag) ((bytes_eq-Decides v.tag w.tag).1 same)) t

  other : (b : Broken) → of_members b.rule ≡ false → Contains (rules_asked v w) b.rule → IsBroken v w b → Agree v w → ⊥
  other b e asked is a =
      let same = (laws.kinds v.kind w.kind).1 a.kinds in
      elim (cases_Bool (is_declaration v w)) [
        | inl declared ↦
            let tags = only-asked DeclarationTag b.rule (rules_asked-declared v w same declared) asked in
            let P : Rule → Type 0 = λ r. MatchBool (speaks_of_parts r) ((b.part < length v.parts) × (breaks_part r v w b.part ≡ true)) ((b.part ≡ 0) × (breaks_whole r v w ≡ true)) in
            let at_tags : (b.part ≡ 0) × (breaks_whole DeclarationTag v w ≡ true) = subst P tags is in
            tags-differ a declared at_tags.1
        | inr defined ↦
            let compared = and_from (same_kind v.kind w.kind) (not (is_declaration v w)) same (not_from_false (is_declaration v w) defined) in
            let rest : AgreeDefined v w = rw defined at a.rest in
            let among : Contains definition_rules b.rule = subst (λ (xs : List Rule). Contains xs b.rule) (rules_asked-defined v w compared) asked in
            elim (cases_Bool (speaks_of_parts b.rule)) [
              | inl speaks ↦
                  let at_part : (b.part < length v.parts) × (breaks_part b.rule v w b.part ≡ true) = rw speaks at is in
                  part laws v w rest b.part at_part.0 b.rule e at_part.1
              | inr silent ↦
                  let as_whole : (b.part ≡ 0) × (breaks_whole b.rule v w ≡ true) = rw silent at is in
                  whole laws v w rest a.kinds b.rule (λ tags. no-tags (subst (λ (r : Rule). Contains definition_rules r) tags among)) as_whole.1
            ]
      ]

  pub break_cases : (b : Broken) → Contains (breaks v w) b → (Agree v w → ⊥) ⊎ MemberBreaks v w b.part
  break_cases b there =
      let both = (laws.listed v w b).0 there in
      elim (cases_Bool (of_members b.rule)) [
        | inl members ↦
            let at_part : (b.part < length v.parts) × (breaks_part b.rule v w b.part ≡ true) = rw (members-speak b.rule members) at both.1 in
            inr (member laws v w (member-asked b.rule members both.0) b.part at_part.0 b.rule members at_part.1)
        | inr others ↦ inl (other b others both.0 both.1)
      ]
