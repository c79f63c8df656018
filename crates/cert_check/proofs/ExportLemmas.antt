-- Exports as the code reads them.
use Rattle.std.proofs.Common.{◌≡◌, ◌&&◌, not, ℕ, Bool, true, false, List, Some, None, refl, sym, ◌∙◌, ap, subst, slice_get, slice_index_or}
use Rattle.std.specs.Prelude.{◌↔◌, option_and_then}
use Rattle.std.specs.Option.{option_map}
use Rattle.std.proofs.lemmas.Option.{none-some, same_Some, slice_get-map}
use Rattle.abi_types.specs.declared.export.Export.{Export}
use Rattle.abi_types.specs.Plain.{plain_export, plain_exports}
use Rattle.abi_types.specs.Exports.{PlainExport}
use Rattle.elf_bind.specs.Binding.{bind_to}
use Rattle.cert_check.specs.Compatible.{Sides, IsCompared, bound, KeepsExport, is_typed}
use Rattle.cert_check.specs.Accepted.{Case, KeepsRules, KeepsRoot}
use Rattle.cert_check.specs.CertifiedPair.{has_root_line}
use Rattle.pair_rules.proofs.lemmas.Truths.{always}

pub export_read : (exports : List Export) (plain : List PlainExport) (k : ℕ) (e : Export) → plain_exports exports ≡ plain → slice_get exports k ≡ Some e → slice_get plain k ≡ Some (plain_export e)
export_read exports plain k e same at = ap (λ (es : List PlainExport). slice_get es k) (sym same) ∙ slice_get-map plain_export exports k ∙ ap (option_map plain_export) at

pub none_read : (exports : List Export) (plain : List PlainExport) (k : ℕ) → plain_exports exports ≡ plain → slice_get exports k ≡ None → slice_get plain k ≡ None
none_read exports plain k same at = ap (λ (es : List PlainExport). slice_get es k) (sym same) ∙ slice_get-map plain_export exports k ∙ ap (option_map plain_export) at

pub bound_none : (exports : List PlainExport) (e : PlainExport) → bind_to exports e ≡ None → option_and_then (slice_get exports) (bind_to exports e) ≡ None
bound_none exports e none = ap (option_and_then (slice_get exports)) none

pub bound_at : (exports : List PlainExport) (e : PlainExport) (place : ℕ) → bind_to exports e ≡ Some place → option_and_then (slice_get exports) (bind_to exports e) ≡ slice_get exports place
bound_at exports e place is = ap (option_and_then (slice_get exports)) is

-- ---- an export that is not compared keeps all

dropped : (s : Sides) (k : ℕ) (e : PlainExport) → not (slice_index_or s.marks.exports k false) ≡ false → IsCompared s k e → ⊥
dropped s k e is compared = let bad : true ≡ false = sym (ap not compared.kept) ∙ is in cc

pub rules_dropped : (c : Case) (k : ℕ) → not (slice_index_or c.sides.marks.exports k false) ≡ false → (true ≡ true) ↔ KeepsRules c k
rules_dropped c k is = always (KeepsRules c k) (λ e f compared binds. absurd (dropped c.sides k e is compared))

pub root_dropped : (c : Case) (k : ℕ) → not (slice_index_or c.sides.marks.exports k false) ≡ false → (true ≡ true) ↔ KeepsRoot c k
root_dropped c k is = always (KeepsRoot c k) (λ e f compared binds one other. absurd (dropped c.sides k e is compared))

-- ---- one that binds to nothing does too

module _ (c : Case) (k : ℕ) (e : PlainExport) (at : slice_get c.sides.old.exports k ≡ Some e) where
  only : (other : PlainExport) → slice_get c.sides.old.exports k ≡ Some other → other ≡ e
  only other is = same_Some other e (sym is ∙ at)

  unbound : bound c.sides e ≡ None → (other f : PlainExport) → IsCompared c.sides k other → bound c.sides other ≡ Some f → ⊥
  unbound none other f compared binds = none-some f (sym none ∙ ap (bound c.sides) (sym (only other compared.at)) ∙ binds)

  pub rules_unbound : bound c.sides e ≡ None → (true ≡ true) ↔ KeepsRules c k
  rules_unbound none = always (KeepsRules c k) (λ other f compared binds. absurd (unbound none other f compared binds))

  pub root_unbound : bound c.sides e ≡ None → (true ≡ true) ↔ KeepsRoot c k
  root_unbound none = always (KeepsRoot c k) (λ other f compared binds one two. absurd (unbound none other f compared binds))

  module _ (kept : not (slice_index_or c.sides.marks.exports k false) ≡ true) (f : PlainExport) (binds : bound c.sides e ≡ Some f) where
    compared : IsCompared c.sides k e
    compared = record { at = at; kept = not_true (slice_index_or c.sides.marks.exports k false) kept } where
      not_true : (b : Bool) → not b ≡ true → b ≡ false
      not_true true is = cc
      not_true false is = refl

    partner : (other g : PlainExport) → other ≡ e → bound c.sides other ≡ Some g → g ≡ f
    partner other g same is = same_Some g f (sym is ∙ ap (bound c.sides) same ∙ binds)

    pub rules_bound : (r : Bool) → (r ≡ true) ↔ KeepsExport e f → (r ≡ true) ↔ KeepsRules c k
    rules_bound r iff = (
      λ right other g told is.
          let same = only other told.at in
          subst (λ (x : PlainExport). KeepsExport x g) (sym same) (subst (KeepsExport e) (sym (partner other g same is)) (iff.0 right)),
      λ keeps. iff.1 (keeps e f compared binds),
    )

    pub root_untyped : is_typed e && is_typed f ≡ false → (true ≡ true) ↔ KeepsRoot c k
    root_untyped untyped = always (KeepsRoot c k) (λ other g told is one two.
        let same = only other told.at in
        let typed : is_typed e ≡ true = ap is_typed (sym same) ∙ one in
        let new_typed : is_typed f ≡ true = ap is_typed (sym (partner other g same is)) ∙ two in
        let both : is_typed e && is_typed f ≡ true = rw (typed, new_typed) refl in
        absurd (let bad : true ≡ false = sym both ∙ untyped in cc))

    pub root_untyped_old : is_typed e ≡ false → (true ≡ true) ↔ KeepsRoot c k
    root_untyped_old untyped = root_untyped (rw untyped refl)

    pub root_untyped_new : is_typed e ≡ true → is_typed f ≡ false → (true ≡ true) ↔ KeepsRoot c k
    root_untyped_new typed untyped = root_untyped (rw (typed, untyped) refl)

    pub root_bound : (r : Bool) → is_typed e ≡ true → is_typed f ≡ true → r ≡ has_root_line c e f → (r ≡ true) ↔ KeepsRoot c k
    root_bound r typed new_typed is = (
      λ right other g told told_binds one two.
          let same = only other told.at in
          ap (λ (x : PlainExport). has_root_line c x g) same ∙ ap (has_root_line c e) (partner other g same told_binds) ∙ sym is ∙ right,
      λ keeps. is ∙ keeps e f compared binds typed new_typed,
    )
