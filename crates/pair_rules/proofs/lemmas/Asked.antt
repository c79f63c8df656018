-- The rules that two types are asked.
use Rattle.std.proofs.Common.{◌≡◌, false, not, [], ◌∷◌, refl, true}
use Rattle.std.proofs.lemmas.Bool.{and_parts, not-true}
use Rattle.abi_types.specs.declared.rule.Rule.TheVariants.{KindOfType, DeclarationTag}
use Rattle.abi_types.specs.Types.{PlainView}
use Rattle.pair_rules.specs.Same.{same_kind}
use Rattle.pair_rules.specs.TypeRules.{definition_rules, rules_asked, is_declaration, are_compared}

pub rules_asked-kinds : (v w : PlainView) → same_kind v.kind w.kind ≡ false → rules_asked v w ≡ KindOfType ∷ []
rules_asked-kinds v w e = rw e refl

pub rules_asked-declared : (v w : PlainView) → same_kind v.kind w.kind ≡ true → is_declaration v w ≡ true → rules_asked v w ≡ DeclarationTag ∷ []
rules_asked-declared v w e d = rw (e, d) refl

pub rules_asked-defined : (v w : PlainView) → are_compared v w ≡ true → rules_asked v w ≡ definition_rules
rules_asked-defined v w e =
    let both = and_parts (same_kind v.kind w.kind) (not (is_declaration v w)) e in
    rw (both.0, not-true (is_declaration v w) both.1) refl
