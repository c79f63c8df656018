-- Exports as the code reads them, and the names of exports.
use Rattle.std.proofs.Common.{◌≡◌, ◌≤◌, ℕ, ◌+◌, ◌++◌, Bool, true, false, not, List, [], ◌∷◌, length, get_or, slice_get, Option, Some, None, refl, sym, ◌∙◌, ap, inl, inr, arith, append-nil, append_assoc}
use Rattle.std.specs.Prelude.{◌==◌, option_and_then, slice_index_or, unwrap_or}
use Rattle.std.specs.List.{list_any}
use Rattle.std.specs.Option.{option_map, option_map_or}
use Rattle.std.specs.Str.{bytes_eq}
use Rattle.std.proofs.Math.Dec.{eqb-suc-zero}
use Rattle.std.proofs.lemmas.Bool.{cases_Bool}
use Rattle.std.proofs.lemmas.List.{length-map}
use Rattle.std.proofs.lemmas.Map.Keys.{any_passes_from_place}
use Rattle.std.proofs.lemmas.Option.{slice_get-map, get_or_from_slice_get}
use Rattle.abi_base.proofs.lemmas.Lists.{any_found}
use Rattle.abi_base.proofs.lemmas.Contained.{in_none, at_front}
use Rattle.abi_types.specs.declared.export.Export.{Export}
use Rattle.abi_types.specs.Exports.{PlainExport}
use Rattle.abi_types.specs.Graphs.{node_of}
use Rattle.abi_types.specs.Libraries.{PlainLibrary}
use Rattle.abi_types.specs.Shown.{label}
use Rattle.abi_types.specs.Names.{AreNamed, IsNamed}
use Rattle.abi_types.specs.Plain.{plain_export, plain_exports}
use Rattle.elf_bind.specs.Binding.{bind_each, bind_to, is_named}
use Rattle.report.specs.declared.row.Row.{Row}
use Rattle.cert_check.specs.Compatible.{Sides, bound}
use Rattle.pair_compare.specs.reports.ExportRows.{soname_rows, gone_rows, changed_rows, rows_between, has_name, rows_for, rows_from, rows_at, rows_upto, export_rows}
use Rattle.pair_compare.specs.reports.PathTexts.{label_at, type_of}
use Rattle.pair_compare.proofs.reports_lemmas.NoneLemmas.{rows_upto-more, rows_upto-none}
use Rattle.abi_base.proofs.lemmas.Orders.{bytes_eq-is_same, bytes_eq-refl}

-- ---- labels and types

pub label_none : (l : PlainLibrary) (k : ℕ) → slice_get l.exports k ≡ None → [] ≡ label_at l k
unfolding label_at
label_none l k none = sym (ap (λ (o : Option PlainExport). option_map_or label o []) none)

pub label_some : (l : PlainLibrary) (k : ℕ) (e : PlainExport) → slice_get l.exports k ≡ Some e → label e ≡ label_at l k
unfolding label_at
label_some l k e is = sym (ap (λ (o : Option PlainExport). option_map_or label o []) is)

type_with : PlainLibrary → Option PlainExport → ℕ
type_with l o = unwrap_or (option_and_then (λ (e : PlainExport). node_of l.graph e.entry) o) 0

pub type_none : (l : PlainLibrary) (k : ℕ) → slice_get l.exports k ≡ None → 0 ≡ type_of l k
unfolding type_of type_with
type_none l k none = sym (ap (type_with l) none)

pub type_some : (l : PlainLibrary) (k : ℕ) (e : PlainExport) (found : Option ℕ) → slice_get l.exports k ≡ Some e → node_of l.graph e.entry ≡ found → unwrap_or found 0 ≡ type_of l k
unfolding type_of type_with
type_some l k e found at is = sym (ap (type_with l) at ∙ ap (λ (o : Option ℕ). unwrap_or o 0) is)

-- ---- what exports bind to

-- what stands in the list of what exports bind to
pub bound_at : (old new : List PlainExport) (places : List (Option ℕ)) (k : ℕ) (e : PlainExport) → places ≡ bind_each old new → slice_get old k ≡ Some e → get_or places k None ≡ bind_to new e
bound_at old new places k e are at =
    get_or_from_slice_get places k (bind_to new e) None (ap (λ (os : List (Option ℕ)). slice_get os k) are ∙ slice_get-map (bind_to new) old k ∙ ap (option_map (bind_to new)) at)

-- ---- rows

module _ (s : Sides) (e : PlainExport) (place : Option ℕ) (is : place ≡ bind_to s.new.exports e) where
  pub bound_is : (o : Option PlainExport) → option_and_then (slice_get s.new.exports) place ≡ o → bound s e ≡ o
  bound_is o at = ap (option_and_then (slice_get s.new.exports)) (sym is) ∙ at

  pub changed_for : (f : PlainExport) → option_and_then (slice_get s.new.exports) place ≡ Some f → changed_rows e f ≡ rows_for s e
  unfolding rows_for
  changed_for f at = sym (ap (rows_between (has_name s e.name) e) (bound_is (Some f) at))

  pub gone_for : (named : Bool) → option_and_then (slice_get s.new.exports) place ≡ None → named ≡ list_any (is_named e.name) s.new.exports → gone_rows named e ≡ rows_for s e
  unfolding rows_for has_name
  gone_for named none there = ap (λ (b : Bool). gone_rows b e) there ∙ sym (ap (rows_between (has_name s e.name) e) (bound_is None none))

pub dropped_at : (s : Sides) (k : ℕ) (compared : Bool) → compared ≡ not (slice_index_or s.marks.exports k false) → compared ≡ false → rows_at s k ≡ []
unfolding rows_at
dropped_at s k compared is no' = go (slice_get s.old.exports k) (slice_index_or s.marks.exports k false) refl (sym is ∙ no') where
  go : (o : Option PlainExport) (dropped : Bool) → slice_index_or s.marks.exports k false ≡ dropped → not dropped ≡ false → rows_from s k o ≡ []
  go None dropped here e = refl
  go (Some x) true here e = rw here refl
  go (Some x) false here e = cc

pub none_at : (s : Sides) (k : ℕ) → slice_get s.old.exports k ≡ None → rows_at s k ≡ []
unfolding rows_at
none_at s k none = ap (rows_from s k) none

pub compared_at : (s : Sides) (k : ℕ) (e : PlainExport) (compared : Bool) → compared ≡ not (slice_index_or s.marks.exports k false) → compared ≡ true → slice_get s.old.exports k ≡ Some e → rows_for s e ≡ rows_at s k
unfolding rows_at
compared_at s k e compared is yes' at = go (slice_index_or s.marks.exports k false) refl (sym is ∙ yes') ∙ sym (ap (rows_from s k) at) where
  go : (dropped : Bool) → slice_index_or s.marks.exports k false ≡ dropped → not dropped ≡ true → rows_for s e ≡ rows_from s k (Some e)
  go true here e = cc
  go false here e = rw here refl

-- ---- all rows, behind others

abbrev pub rows_so_far : Sides → List Row → ℕ → List Row
rows_so_far s start k = start ++ (soname_rows s.old.soname s.new.soname ++ rows_upto s k)

pub exports_none : (s : Sides) (start rows : List Row) (old new : Option (List ℕ)) → old ≡ s.old.soname → new ≡ s.new.soname → rows ≡ start ++ soname_rows old new → rows ≡ rows_so_far s start 0
exports_none s start rows old new is_old is_new are =
    are ∙ ap (λ o. start ++ soname_rows o new) is_old ∙ ap (λ n. start ++ soname_rows s.old.soname n) is_new
    ∙ ap (λ rs. start ++ rs) (sym (append-nil (soname_rows s.old.soname s.new.soname)) ∙ ap (λ rs. soname_rows s.old.soname s.new.soname ++ rs) (sym (rows_upto-none s)))

pub exports_more : (s : Sides) (start rows more : List Row) (k : ℕ) → rows ≡ rows_so_far s start k → more ≡ rows ++ rows_at s k → more ≡ rows_so_far s start (k + 1)
exports_more s start rows more k are grown =
    let front = soname_rows s.old.soname s.new.soname in
    grown ∙ ap (λ rs. rs ++ rows_at s k) are ∙ append_assoc start (front ++ rows_upto s k) (rows_at s k)
    ∙ ap (λ rs. start ++ rs) (append_assoc front (rows_upto s k) (rows_at s k) ∙ ap (λ rs. front ++ rs) (sym (rows_upto-more s k)))

pub exports_all : (s : Sides) (start rows : List Row) (exports : List Export) (k : ℕ) → rows ≡ rows_so_far s start k → plain_exports exports ≡ s.old.exports → k ≤ length exports → length exports ≤ k → rows ≡ start ++ export_rows s
unfolding export_rows
exports_all s start rows exports k are same low high =
    let count : k ≡ length s.old.exports = omega (arith, low, high, length-map exports plain_export, ap length same) in
    are ∙ ap (rows_so_far s start) count

-- ---- names

-- where the name of no export is found, no export has it
no_name : (exports : List PlainExport) (name : List ℕ) → AreNamed exports name [] → list_any (is_named name) exports ≡ false
no_name exports name named =
    elim (cases_Bool (list_any (is_named name) exports)) [
      | inl some ↦
          let f = any_found (is_named name) exports some in
          let here : IsNamed exports name f.0 = record { exported = f.1; at = f.2; named = bytes_eq-is_same f.1.name name f.3 } in
          absurd (in_none f.0 ((named.exact f.0).1 here))
      | inr none ↦ none
    ]

a_name : (exports : List PlainExport) (name : List ℕ) (place : ℕ) (places : List ℕ) → AreNamed exports name (place ∷ places) → list_any (is_named name) exports ≡ true
a_name exports name place places named =
    let here = (named.exact place).0 (at_front place places) in
    any_passes_from_place (is_named name) exports place here.exported here.at (ap (λ (n : List ℕ). bytes_eq n name) here.named ∙ bytes_eq-refl name)

pub names_there : (exports : List PlainExport) (name : List ℕ) (places : List ℕ) (empty : Bool) → AreNamed exports name places → empty ≡ (length places == 0) → not empty ≡ list_any (is_named name) exports
names_there exports name [] empty named is = ap not is ∙ sym (no_name exports name named)
names_there exports name (place ∷ places) empty named is = ap not (is ∙ eqb-suc-zero (length places)) ∙ sym (a_name exports name place places named)
