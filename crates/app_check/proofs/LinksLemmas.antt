-- The imports that bind to a library, import by import.
use Rattle.std.proofs.Common.{◌≡◌, ℕ, ◌+◌, ◌<◌, true, false, List, [], ◌∷◌, ◌++◌, length, map, take, get_or, count_by, Option, refl, sym, ◌∙◌, ap}
use Rattle.std.specs.Prelude.{filter, is_some}
use Rattle.std.specs.Borrow.{Bor}
use Rattle.std.proofs.lemmas.List.{map-append, append-nil, get_or-map, take_more}
use Rattle.std.proofs.lemmas.List.Elements.{filter-append}
use Rattle.abi_base.proofs.lemmas.Lists.{take-map_more}
use Rattle.abi_types.specs.declared.export.Export.{Export}
use Rattle.abi_types.specs.Exports.{PlainExport}
use Rattle.abi_types.specs.Plain.{plain_export, plain_exports}
use Rattle.elf.specs.symbols.Symbols.{PlainSymbol}
use Rattle.app_check.specs.declared.import.Import.{Import}
use Rattle.app_check.specs.Imports.{PlainImport}
use Rattle.app_check.specs.Links.{imports_from, place_of, is_bound, is_missed, is_lacking, lacking_names}
use Rattle.app_check.specs.Plain.{plain_import, plain_imports}
use Rattle.app_check.specs.Used.{wanted_by, may_come_from}

module _ (imports : List Import) (i : ℕ) (d : Import) (inside : i < length imports) where
  abbrev so_far : List PlainImport
  so_far = take i (plain_imports imports)

  abbrev this : PlainImport
  this = plain_import (get_or imports i d)

  -- ---- those that the file with a soname may define

  one_more : (soname : Option (List ℕ)) → imports_from soname (take (i + 1) (plain_imports imports)) ≡ imports_from soname so_far ++ imports_from soname (this ∷ [])
  one_more soname =
      ap (λ (l : List PlainImport). imports_from soname l) (take-map_more plain_import imports i d inside)
      ∙ filter-append (may_come_from soname) so_far (this ∷ [])

  pub import_kept : (soname : Option (List ℕ)) (before more : List Import) → may_come_from soname this ≡ true → more ≡ before ++ get_or imports i d ∷ []
      → plain_imports before ≡ imports_from soname so_far → plain_imports more ≡ imports_from soname (take (i + 1) (plain_imports imports))
  import_kept soname before more may grown known =
      ap plain_imports grown ∙ map-append plain_import before (get_or imports i d ∷ [])
      ∙ ap (λ (l : List PlainImport). l ++ this ∷ []) known
      ∙ sym (one_more soname ∙ rw may refl)

  pub import_passed : (soname : Option (List ℕ)) (before : List Import) → may_come_from soname this ≡ false
      → plain_imports before ≡ imports_from soname so_far → plain_imports before ≡ imports_from soname (take (i + 1) (plain_imports imports))
  import_passed soname before may known = known ∙ sym (one_more soname ∙ rw may (append-nil (imports_from soname so_far)))

  -- ---- what they look for

  pub wanted_more : (before more : List Export) (e : Export) → plain_export e ≡ wanted_by this → more ≡ before ++ e ∷ []
      → plain_exports before ≡ map wanted_by so_far → plain_exports more ≡ map wanted_by (take (i + 1) (plain_imports imports))
  wanted_more before more e is grown known =
      ap plain_exports grown ∙ map-append plain_export before (e ∷ [])
      ∙ ap (λ (l : List PlainExport). l ++ plain_export e ∷ []) known
      ∙ ap (λ (w : PlainExport). map wanted_by so_far ++ w ∷ []) is
      ∙ sym (ap (map wanted_by) (take-map_more plain_import imports i d inside) ∙ map-append wanted_by so_far (this ∷ []))

-- ---- the number of imports that bind, and the names of the imports that the library lacks

abbrev pub texts : List (Bor (List ℕ)) → List (List ℕ)
texts names = map (λ (name : Bor (List ℕ)). name.now) names

module _ (xs : List PlainImport) (i : ℕ) (d : PlainImport) (inside : i < length xs) (symbols : List PlainSymbol) (exports : List PlainExport) where
  pub bound_here : (places : List (Option ℕ)) (o : Option ℕ) → places ≡ map (place_of exports) xs → is_some (get_or places i o) ≡ is_bound exports (get_or xs i d)
  bound_here places o are = ap is_some (ap (λ (l : List (Option ℕ)). get_or l i o) are ∙ get_or-map (place_of exports) xs i d o inside)

  names_more : lacking_names symbols exports (take (i + 1) xs) ≡ lacking_names symbols exports (take i xs) ++ lacking_names symbols exports (get_or xs i d ∷ [])
  names_more =
      ap (lacking_names symbols exports) (take_more xs i d inside)
      ∙ ap (map (λ (x : PlainImport). x.name)) (filter-append (is_lacking symbols exports) (take i xs) (get_or xs i d ∷ []))
      ∙ map-append (λ (x : PlainImport). x.name) (filter (is_lacking symbols exports) (take i xs)) (filter (is_lacking symbols exports) (get_or xs i d ∷ []))

  names_same : is_lacking symbols exports (get_or xs i d) ≡ false → lacking_names symbols exports (take (i + 1) xs) ≡ lacking_names symbols exports (take i xs)
  names_same not = names_more ∙ rw not (append-nil (lacking_names symbols exports (take i xs)))

  pub names_bound : is_bound exports (get_or xs i d) ≡ true → lacking_names symbols exports (take (i + 1) xs) ≡ lacking_names symbols exports (take i xs)
  names_bound bound = names_same (rw bound refl)

  pub names_unmissed : is_bound exports (get_or xs i d) ≡ false → is_missed symbols (get_or xs i d) ≡ false → lacking_names symbols exports (take (i + 1) xs) ≡ lacking_names symbols exports (take i xs)
  names_unmissed bound missed = names_same (rw (bound, missed) refl)

  pub names_missed : (before more : List (Bor (List ℕ))) (name : Bor (List ℕ)) → is_bound exports (get_or xs i d) ≡ false → is_missed symbols (get_or xs i d) ≡ true → name.now ≡ (get_or xs i d).name
      → more ≡ before ++ name ∷ [] → texts before ≡ lacking_names symbols exports (take i xs) → texts more ≡ lacking_names symbols exports (take (i + 1) xs)
  names_missed before more name bound missed is grown known =
      let lacks : is_lacking symbols exports (get_or xs i d) ≡ true = rw (bound, missed) refl in
      ap texts grown ∙ map-append (λ (n : Bor (List ℕ)). n.now) before (name ∷ [])
      ∙ ap (λ (l : List (List ℕ)). l ++ name.now ∷ []) known
      ∙ ap (λ (n : List ℕ). lacking_names symbols exports (take i xs) ++ n ∷ []) is
      ∙ sym (names_more ∙ rw lacks refl)

pub count_same : (exports others : List PlainExport) (soname other : Option (List ℕ)) (imports those : List PlainImport) → exports ≡ others → soname ≡ other → imports ≡ those
    → count_by (is_bound exports) (imports_from soname imports) ≡ count_by (is_bound others) (imports_from other those)
count_same exports others soname other imports those e s i =
    ap (λ (l : List PlainExport). count_by (is_bound l) (imports_from soname imports)) e
    ∙ ap (λ (n : Option (List ℕ)). count_by (is_bound others) (imports_from n imports)) s
    ∙ ap (λ (l : List PlainImport). count_by (is_bound others) (imports_from other l)) i
