-- Versions, each once, one export after another.
use Rattle.std.proofs.Common.{◌≡◌, ◌<◌, ◌+◌, ℕ, not, List, [], ◌∷◌, ◌++◌, length, take, get_or, map, Option, Some, None, refl, sym, ◌∙◌, ap, inl, inr}
use Rattle.std.specs.Prelude.{filter, filter_map, flat_map}
use Rattle.std.specs.Borrow.{Bor}
use Rattle.std.specs.List.{list_any}
use Rattle.std.specs.Option.{option_copied}
use Rattle.std.specs.Str.{bytes_eq}
use Rattle.std.proofs.lemmas.Bool.{cases_Bool}
use Rattle.std.proofs.lemmas.List.{append-nil, map-append, take_more}
use Rattle.std.proofs.lemmas.List.Elements.{filter_map-append}
use Rattle.std.proofs.lemmas.List.Folds.{flat_map-map}
use Rattle.abi_base.specs.Lists.{firsts, firsts_after, with_first}
use Rattle.abi_types.specs.declared.export.Export.{Export}
use Rattle.abi_types.specs.Exports.{PlainExport}
use Rattle.abi_types.specs.Plain.{plain_export, plain_exports}
use Rattle.type_notes.specs.declared.note.Note.{Note}
use Rattle.side_notes.specs.Versions.{kept_with, notes_if_new, version_note, version_notes, versions_of}
use Rattle.side_notes.proofs.NameLemmas.{bytes_at}

firsts_after-more : (kept xs : List (List ℕ)) (x : List ℕ) → firsts_after bytes_eq kept (xs ++ x ∷ []) ≡ with_first bytes_eq (firsts_after bytes_eq kept xs) x
unfolding firsts_after
firsts_after-more kept [] x = refl
firsts_after-more kept (y ∷ xs) x = firsts_after-more (with_first bytes_eq kept y) xs x

version_push : (es : List PlainExport) (e : PlainExport) (version : Option (List ℕ)) → e.version ≡ version → versions_of (es ++ e ∷ []) ≡ kept_with (versions_of es) version
unfolding versions_of
version_push es e None is =
    ap (firsts bytes_eq) (filter_map-append (λ (f : PlainExport). f.version) es (e ∷ []) ∙ (rw is (append-nil (filter_map (λ (f : PlainExport). f.version) es))))
version_push es e (Some v) is =
    ap (firsts bytes_eq) (filter_map-append (λ (f : PlainExport). f.version) es (e ∷ []) ∙ (rw is refl)) ∙ firsts_after-more [] (filter_map (λ (f : PlainExport). f.version) es) v

pub versions_none : versions_of [] ≡ []
unfolding versions_of firsts_after
versions_none = refl

pub versions_more : (exports : List Export) (i : ℕ) (d : Export) (keys grown : List (List ℕ)) → i < length exports
    → keys ≡ versions_of (plain_exports (take i exports)) → grown ≡ kept_with keys (option_copied (get_or exports i d).version) → grown ≡ versions_of (plain_exports (take (i + 1) exports))
versions_more exports i d keys grown lt is grows =
    let e : Export = get_or exports i d in
    let more : take (i + 1) exports ≡ take i exports ++ e ∷ [] = take_more exports i d lt in
    let plain : plain_exports (take (i + 1) exports) ≡ plain_exports (take i exports) ++ plain_export e ∷ [] = ap plain_exports more ∙ map-append plain_export (take i exports) (e ∷ []) in
    grows ∙ ap (λ (ks : List (List ℕ)). kept_with ks (option_copied e.version)) is ∙ sym (ap versions_of plain ∙ version_push (plain_exports (take i exports)) (plain_export e) (option_copied e.version) refl)

-- the notes on the versions that are new
notes_new : (known versions : List (List ℕ)) → flat_map (notes_if_new known) versions ≡ map version_note (filter (λ version. not (list_any (bytes_eq version) known)) versions)
notes_new known [] = refl
notes_new known (v ∷ versions) =
    elim (cases_Bool (list_any (bytes_eq v) known)) [
      | inl there ↦ rw there (notes_new known versions)
      | inr new ↦ rw new (ap (λ (ns : List Note). version_note v ∷ ns) (notes_new known versions))
    ]

pub notes_each : (old new : List PlainExport) (known : List (List ℕ)) (keys : List (Bor (List ℕ))) → known ≡ versions_of old → map bytes_at keys ≡ versions_of new
    → flat_map (λ (v : Bor (List ℕ)). notes_if_new known v.now) keys ≡ version_notes old new
unfolding version_notes
notes_each old new known keys is are =
    sym (flat_map-map (notes_if_new known) bytes_at keys) ∙ ap (flat_map (notes_if_new known)) are ∙ ap (λ (ks : List (List ℕ)). flat_map (notes_if_new ks) (versions_of new)) is ∙ notes_new (versions_of old) (versions_of new)
