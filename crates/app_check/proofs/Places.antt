-- The places that imports bind to.
use Rattle.std.proofs.Common.{◌≡◌, ℕ, ◌+◌, ◌<◌, Bool, true, false, cond, List, [], ◌∷◌, ◌++◌, length, map, take, get_or, Option, Some, None, refl, sym, ◌∙◌, ap, arith}
use Rattle.std.specs.Prelude.{nat_eq, ◌||◌, filter}
use Rattle.std.specs.HashSet.{HashSet, contains, IsEmpty}
use Rattle.std.specs.List.{range_with_len, list_any}
use Rattle.std.specs.declared.hash.FoldHasher.{FoldHasher}
use Rattle.std.specs.declared.hash.BuildHasherDefault.{BuildHasherDefault}
use Rattle.std.proofs.lemmas.Grind.{common_steps}
use Rattle.std.proofs.lemmas.List.{append-nil, map-append, take_more}
use Rattle.std.proofs.lemmas.List.Elements.{filter-append}
use Rattle.std.proofs.lemmas.List.Folds.{list_any-append}
use Rattle.std.proofs.lemmas.List.FromFn.{map-range_with_len_more}
use Rattle.abi_base.proofs.lemmas.Bools.{cond_last}
use Rattle.abi_base.proofs.lemmas.Lists.{map-same_tests, take-map_more}
use Rattle.abi_types.specs.declared.export.Export.{Export}
use Rattle.abi_types.specs.Exports.{PlainExport}
use Rattle.abi_types.specs.Plain.{plain_export, plain_exports}
use Rattle.elf_bind.specs.Binding.{bind_to, bind_each}
use Rattle.app_check.specs.declared.import.Import.{Import}
use Rattle.app_check.specs.Imports.{PlainImport}
use Rattle.app_check.specs.Plain.{plain_import, plain_imports}
use Rattle.app_check.specs.Used.{wanted_by, may_come_from, is_at, is_used, used_exports}

-- ---- what is wanted, import by import

abbrev pub wanted_among : Option (List ℕ) → List PlainImport → List PlainExport
wanted_among soname imports = map wanted_by (filter (may_come_from soname) imports)

module _ (soname : Option (List ℕ)) (imports : List Import) (i : ℕ) (d : Import) (inside : i < length imports) where
  one_more : wanted_among soname (take (i + 1) (plain_imports imports)) ≡ wanted_among soname (take i (plain_imports imports)) ++ wanted_among soname (plain_import (get_or imports i d) ∷ [])
  one_more =
      ap (λ (l : List PlainImport). wanted_among soname l) (take-map_more plain_import imports i d inside)
      ∙ ap (map wanted_by) (filter-append (may_come_from soname) (take i (plain_imports imports)) (plain_import (get_or imports i d) ∷ []))
      ∙ map-append wanted_by (filter (may_come_from soname) (take i (plain_imports imports))) (filter (may_come_from soname) (plain_import (get_or imports i d) ∷ []))

  pub wanted_added : (before more : List Export) (e : Export) → may_come_from soname (plain_import (get_or imports i d)) ≡ true → plain_export e ≡ wanted_by (plain_import (get_or imports i d)) → more ≡ before ++ e ∷ []
      → plain_exports before ≡ wanted_among soname (take i (plain_imports imports)) → plain_exports more ≡ wanted_among soname (take (i + 1) (plain_imports imports))
  wanted_added before more e may is grown so_far =
      ap plain_exports grown ∙ map-append plain_export before (e ∷ [])
      ∙ ap (λ (l : List PlainExport). l ++ plain_export e ∷ []) so_far
      ∙ ap (λ (w : PlainExport). wanted_among soname (take i (plain_imports imports)) ++ w ∷ []) is
      ∙ sym (one_more ∙ rw may refl)

  pub wanted_passed : (before : List Export) → may_come_from soname (plain_import (get_or imports i d)) ≡ false
      → plain_exports before ≡ wanted_among soname (take i (plain_imports imports)) → plain_exports before ≡ wanted_among soname (take (i + 1) (plain_imports imports))
  wanted_passed before may so_far = so_far ∙ sym (one_more ∙ rw may (append-nil (wanted_among soname (take i (plain_imports imports)))))

-- ---- the places found

abbrev pub Found : Type 0
Found = HashSet ℕ (BuildHasherDefault FoldHasher)

abbrev pub Holds : Found → List (Option ℕ) → Type 0
Holds found places = (k : ℕ) → contains nat_eq found k ≡ list_any (is_at k) places

pub nothing_found : (found : Found) → IsEmpty found → Holds found []
nothing_found found empty k = grind (arith, common_steps)

or_nothing : (b : Bool) → (b || (false || false)) ≡ b
or_nothing true = refl
or_nothing false = refl

module _ (found : Found) (places : List (Option ℕ)) (i : ℕ) (d : Option ℕ) (inside : i < length places) (so_far : Holds found (take i places)) where
  any_more : (k : ℕ) → list_any (is_at k) (take (i + 1) places) ≡ (list_any (is_at k) (take i places) || (is_at k (get_or places i d) || false))
  any_more k =
      ap (λ (l : List (Option ℕ)). list_any (is_at k) l) (take_more places i d inside)
      ∙ list_any-append (is_at k) (take i places) (get_or places i d ∷ [])

  pub found_added : (next : Found) (place : ℕ) → get_or places i d ≡ Some place → ((k : ℕ) → contains nat_eq next k ≡ cond (nat_eq place k) true (contains nat_eq found k)) → Holds next (take (i + 1) places)
  found_added next place is adds k =
      adds k ∙ cond_last (nat_eq place k) (contains nat_eq found k)
      ∙ ap (λ (b : Bool). b || (nat_eq place k || false)) (so_far k)
      ∙ ap (λ (o : Option ℕ). list_any (is_at k) (take i places) || (is_at k o || false)) (sym is)
      ∙ sym (any_more k)

  pub found_passed : get_or places i d ≡ None → Holds found (take (i + 1) places)
  found_passed is k =
      so_far k ∙ sym (or_nothing (list_any (is_at k) (take i places)))
      ∙ ap (λ (o : Option ℕ). list_any (is_at k) (take i places) || (is_at k o || false)) (sym is)
      ∙ sym (any_more k)

-- ---- the marks

pub marked_more : (f : ℕ → Bool) (n : ℕ) (all more : List Bool) (x : Bool) → all ≡ map f (range_with_len 0 n) → x ≡ f n → more ≡ all ++ x ∷ [] → more ≡ map f (range_with_len 0 (n + 1))
marked_more f n all more x so_far is grown =
    grown ∙ ap (λ (l : List Bool). l ++ x ∷ []) so_far ∙ ap (λ (v : Bool). map f (range_with_len 0 n) ++ v ∷ []) is ∙ sym (map-range_with_len_more f 0 n n (omega arith))

-- ---- the exports used

bound_all : (soname : Option (List ℕ)) (old : List PlainExport) (k : ℕ) (imports : List PlainImport)
    → list_any (is_at k) (bind_each (wanted_among soname imports) old) ≡ is_used imports soname old k
bound_all soname old k [] = refl
bound_all soname old k (i ∷ imports) = cases (may_come_from soname i) (bound_all soname old k imports)
  where
    cases : (b : Bool) → list_any (is_at k) (bind_each (wanted_among soname imports) old) ≡ is_used imports soname old k
        → list_any (is_at k) (bind_each (map wanted_by (cond b (i ∷ filter (may_come_from soname) imports) (filter (may_come_from soname) imports))) old)
        ≡ (is_at k (cond b (bind_to old (wanted_by i)) None) || is_used imports soname old k)
    cases true rest = ap (λ (b : Bool). is_at k (bind_to old (wanted_by i)) || b) rest
    cases false rest = rest

pub all_used : (soname : Option (List ℕ)) (imports : List PlainImport) (old wanted : List PlainExport) (places : List (Option ℕ)) (found : Found) (count : ℕ) → wanted ≡ wanted_among soname imports
    → places ≡ bind_each wanted old → Holds found places → count ≡ length old → map (contains nat_eq found) (range_with_len 0 count) ≡ used_exports imports soname old
unfolding used_exports
all_used soname imports old wanted places found count are bound holds is =
    map-same_tests (contains nat_eq found) (is_used imports soname old) (λ k. holds k ∙ ap (λ (l : List (Option ℕ)). list_any (is_at k) l) (bound ∙ ap (λ (w : List PlainExport). bind_each w old) are) ∙ bound_all soname old k imports) (range_with_len 0 count)
    ∙ ap (λ (n : ℕ). map (is_used imports soname old) (range_with_len 0 n)) is
