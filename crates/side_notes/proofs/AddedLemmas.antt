-- The exports that a library does not have, one after another.
use Rattle.std.proofs.Common.{◌≡◌, ℕ, Bool, true, false, List, [], ◌∷◌, length, Option, Some, refl, sym, ◌∙◌, ap, inl, inr}
use Rattle.std.specs.Prelude.{◌==◌, not, flat_map, slice_get}
use Rattle.std.specs.List.{list_any}
use Rattle.std.proofs.Math.Dec.{eqb-suc-zero}
use Rattle.std.proofs.lemmas.Bool.{cases_Bool, and_parts}
use Rattle.std.proofs.lemmas.List.Folds.{flat_map-map, Any-from_list_any, list_any_at}
use Rattle.std.proofs.lemmas.Option.{slice_get_within, get_or_from_slice_get, slice_get-get_or}
use Rattle.std.proofs.lemmas.Slice.Eq.{bytes_eq-Decides}
use Rattle.abi_base.proofs.lemmas.Bools.{and_of_true}
use Rattle.abi_base.proofs.lemmas.Contained.{at_front, in_none}
use Rattle.abi_types.specs.declared.export.Export.{Export}
use Rattle.abi_types.specs.Exports.{PlainExport}
use Rattle.abi_types.specs.Plain.{plain_export, plain_exports}
use Rattle.abi_types.specs.Versions.{AreVersioned}
use Rattle.elf_bind.specs.Binding.{has_version, is_named}
use Rattle.elf_bind.specs.Exports.{same_name}
use Rattle.elf_bind.proofs.lemmas.Names.{same_version, version_from_same}
use Rattle.type_notes.specs.declared.note.Note.{Note}
use Rattle.side_notes.specs.Added.{added_note, added_notes, has_export, notes_if_added}

-- ---- the notes of a list of exports

added_all : (old es : List PlainExport) → flat_map (notes_if_added old) es ≡ added_notes old es
unfolding added_notes
added_all old [] = refl
added_all old (e ∷ es) =
    elim (cases_Bool (has_export old e)) [
      | inl there ↦ rw there (added_all old es)
      | inr new ↦ rw new (ap (λ (ns : List Note). added_note e ∷ ns) (added_all old es))
    ]

pub added_each : (old : List PlainExport) (es : List Export) (plain : List PlainExport) → plain_exports es ≡ plain → flat_map (λ (e : Export). notes_if_added old (plain_export e)) es ≡ added_notes old plain
added_each old es plain is = sym (flat_map-map (notes_if_added old) plain_export es) ∙ ap (flat_map (notes_if_added old)) is ∙ added_all old plain

-- ---- whether an export is among those of a name and a version

none_there : (exports : List PlainExport) (name : List ℕ) (version : Option (List ℕ)) → AreVersioned exports name version [] → list_any (has_version name version) exports ≡ false
none_there exports name version are = elim (cases_Bool (list_any (has_version name version) exports)) [
  | inl some ↦
      let found = Any-from_list_any (has_version name version) exports some in
      let at : slice_get exports found.0 ≡ Some found.1 = slice_get-get_or exports found.0 found.1 found.2 ∙ ap Some found.3 in
      let parts = and_parts (is_named name found.1) (same_name found.1.version version) found.4 in
      let there = (are.exact found.0).1 (record { exported = found.1; at = at; named = (bytes_eq-Decides found.1.name name).0 parts.0; versioned = version_from_same found.1.version version parts.1 }) in
      absurd (in_none found.0 there)
  | inr none ↦ none
]

one_there : (exports : List PlainExport) (name : List ℕ) (version : Option (List ℕ)) (place : ℕ) (places : List ℕ) → AreVersioned exports name version (place ∷ places) → list_any (has_version name version) exports ≡ true
one_there exports name version place places are =
    let here = (are.exact place).0 (at_front place places) in
    let e : PlainExport = here.exported in
    list_any_at (has_version name version) exports place e (slice_get_within exports place e here.at)
    (ap (has_version name version) (get_or_from_slice_get exports place e e here.at) ∙ and_of_true _ _ ((bytes_eq-Decides e.name name).1 here.named) (same_version e.version version here.versioned))

-- an old library has an export exactly where it has places for its name and its version
pub export_there : (e : PlainExport) (exports : List PlainExport) (places : List ℕ) (empty : Bool) → AreVersioned exports e.name e.version places → empty ≡ (length places == 0) → not empty ≡ has_export exports e
unfolding has_export
export_there e exports [] empty are is = ap not is ∙ sym (none_there exports e.name e.version are)
export_there e exports (place ∷ places) empty are is = ap not (is ∙ eqb-suc-zero (length places)) ∙ sym (one_there exports e.name e.version place places are)
