-- Going over exports, one after another.
use Rattle.std.proofs.Common.{◌≡◌, ◌<◌, ◌≤◌, ◌+◌, ℕ, List, [], ◌∷◌, ◌++◌, length, map, take, drop, set, get_or, Option, Some, None, sym, ap, ◌∙◌, arith}
use Rattle.std.specs.Prelude.{false}
use Rattle.std.specs.List.{filter_map, cons_option}
use Rattle.std.proofs.lemmas.List.{append-nil, take_more, take_all, drop_all, get_or-map, length-map, map-set}
use Rattle.std.proofs.lemmas.List.Edits.{map_over_more}
use Rattle.std.proofs.lemmas.List.Elements.{filter_map-append}
use Rattle.abi_types.specs.declared.export.Export.{Export}
use Rattle.abi_types.specs.declared.export.SymbolKind.TheVariants.{NoType}
use Rattle.abi_types.specs.Exports.{PlainExport}
use Rattle.abi_types.specs.Plain.{plain_export, plain_exports}
use Rattle.dwarf_entries.specs.Debug.{PlainDwarf}
use Rattle.library_read.specs.Exports.{entry_for, roots_among, typed}

-- ---- each export gets its type

abbrev IsTypedUpTo : PlainDwarf → List Export → ℕ → List Export → Type 0
IsTypedUpTo d before k now = plain_exports now ≡ map (typed d) (take k (plain_exports before)) ++ drop k (plain_exports before)

pub typed-more : (d : PlainDwarf) (before now after : List Export) (k : ℕ) (e new : Export) → k < length before → length now ≡ length before → e ≡ get_or now k e → plain_export new ≡ typed d (plain_export e) → after ≡ set now k new
    → IsTypedUpTo d before k now → IsTypedUpTo d before (k + 1) after
typed-more d before now after k e new inside many read is put so_far =
    let here : plain_export e ≡ get_or (plain_exports now) k (plain_export e) = ap plain_export read ∙ sym (get_or-map plain_export now k e (plain_export e) (omega arith)) in
    ap plain_exports put ∙ map-set plain_export now k new
    ∙ ap (λ (x : PlainExport). set (plain_exports now) k x) is
    ∙ map_over_more (typed d) (plain_exports before) (plain_exports now) k (plain_export e) (omega (arith, length-map before plain_export)) so_far here

pub typed-all : (d : PlainDwarf) (before now : List Export) (k : ℕ) → length before ≤ k → IsTypedUpTo d before k now → plain_exports now ≡ map (typed d) (plain_exports before)
typed-all d before now k past so_far =
    let many = length-map before plain_export in
    so_far
    ∙ ap (λ (xs : List PlainExport). map (typed d) xs ++ drop k (plain_exports before)) (take_all k (plain_exports before) (omega (arith, many)))
    ∙ ap (λ (xs : List PlainExport). map (typed d) (plain_exports before) ++ xs) (drop_all k (plain_exports before) (omega (arith, many)))
    ∙ append-nil (map (typed d) (plain_exports before))

-- ---- each export adds its entry

-- what stands for an export past the end
abbrev pub none_export : Export
none_export = record {
  symbol = 0;
  name = record { ref_ptr = (0, 0); now = [] };
  version = None;
  index = 0;
  hidden = false;
  kind = NoType;
  absolute = false;
  value = 0;
  size = 0;
  declared = record { ref_ptr = (0, 0); now = [] };
  entry = 0;
}

module _ (d : PlainDwarf) (exports : List Export) (k : ℕ) (inside : k < length exports) where
  here : PlainExport
  here = plain_export (get_or exports k none_export)

  one_more : roots_among d (take (k + 1) (plain_exports exports)) ≡ roots_among d (take k (plain_exports exports)) ++ roots_among d (here ∷ [])
  unfolding roots_among here
  one_more =
      ap (filter_map (entry_for d)) (take_more (plain_exports exports) k (plain_export none_export) (omega (arith, length-map exports plain_export)))
      ∙ ap (λ (x : PlainExport). filter_map (entry_for d) (take k (plain_exports exports) ++ x ∷ [])) (get_or-map plain_export exports k none_export (plain_export none_export) inside)
      ∙ filter_map-append (entry_for d) (take k (plain_exports exports)) (plain_export (get_or exports k none_export) ∷ [])

  alone : (o : Option ℕ) → o ≡ entry_for d (plain_export (get_or exports k none_export)) → roots_among d (here ∷ []) ≡ cons_option o []
  unfolding roots_among here
  alone o is = ap (λ (x : Option ℕ). cons_option x []) (sym is)

  pub root-added : (before after : List ℕ) (root : ℕ) → Some root ≡ entry_for d (plain_export (get_or exports k none_export)) → after ≡ before ++ root ∷ [] → before ≡ roots_among d (take k (plain_exports exports)) → after ≡ roots_among d (take (k + 1) (plain_exports exports))
  root-added before after root is grown so_far =
      grown ∙ ap (λ (xs : List ℕ). xs ++ root ∷ []) so_far ∙ sym (one_more ∙ ap (λ (xs : List ℕ). roots_among d (take k (plain_exports exports)) ++ xs) (alone (Some root) is))

  pub root-passed : (before : List ℕ) → None ≡ entry_for d (plain_export (get_or exports k none_export)) → before ≡ roots_among d (take k (plain_exports exports)) → before ≡ roots_among d (take (k + 1) (plain_exports exports))
  root-passed before is so_far =
      so_far ∙ sym (one_more ∙ ap (λ (xs : List ℕ). roots_among d (take k (plain_exports exports)) ++ xs) (alone None is) ∙ append-nil (roots_among d (take k (plain_exports exports))))

pub roots-end : (d : PlainDwarf) (exports : List Export) (k : ℕ) (roots : List ℕ) → length exports ≤ k → roots ≡ roots_among d (take k (plain_exports exports)) → roots ≡ roots_among d (plain_exports exports)
roots-end d exports k roots past so_far = so_far ∙ ap (roots_among d) (take_all k (plain_exports exports) (omega (arith, length-map exports plain_export)))
