-- Exports that name and version tell apart.
use Rattle.std.proofs.Common.{◌≡◌, ◌<◌, ◌≤◌, ◌+◌, ◌&&◌, ℕ, zero, suc, Bool, true, false, List, [], ◌∷◌, ◌++◌, length, map, get_or, Option, Some, None, refl, sym, ◌∙◌, ap, slice_get, inl, inr, arith, append_assoc, length-append}
use Rattle.std.specs.Prelude.{if◌then◌else◌, is_some}
use Rattle.std.specs.List.{list_any, position, position_or_len}
use Rattle.std.specs.Option.{option_or, option_map}
use Rattle.std.specs.Str.{bytes_eq}
use Rattle.std.proofs.lemmas.Bool.{cases_order, and_parts, and_from, false_from_ne_true, or_parts, or_from, lt-ltb}
use Rattle.std.proofs.lemmas.List.Sums.{position_or_len_is}
use Rattle.std.proofs.lemmas.Option.{same_Some, none-some, slice_get_within, slice_get-map, slice_get-get_or, get_or_from_slice_get}
use Rattle.std.proofs.lemmas.Slice.Eq.{bytes_eq-Decides}
use Rattle.abi_base.proofs.lemmas.Orders.{bytes_eq-refl}
use Rattle.abi_base.proofs.lemmas.Outcomes.{fault_if-none}
use Rattle.elf.proofs.lemmas.Faults.{none_both}
use Rattle.abi_base.specs.declared.fault.Fault.{Fault}
use Rattle.abi_base.specs.declared.fault.FaultKind.{FaultKind}
use Rattle.abi_base.specs.Outcome.{fault_if, first}
use Rattle.abi_types.specs.Exports.{PlainExport}
use Rattle.elf.specs.symbols.Symbols.{PlainSymbol}
use Rattle.elf.specs.versions.Versions.{PlainVersion}
use Rattle.elf_bind.specs.Binding.{bind_to, has_version, has_first_version, only_default_version}
use Rattle.elf_bind.specs.Exports.{same_name, is_same, duplicate_faults, export_fault, exports_with, version_fault_of}
use Rattle.pair_compare.specs.Distinct.{AreDistinct, name_and_version}
use Rattle.abi_base.proofs.lemmas.Lists.{slice_get-append}

-- ---- the same name and version

bytes_eq-sym : (xs ys : List ℕ) → bytes_eq xs ys ≡ true → bytes_eq ys xs ≡ true
bytes_eq-sym xs ys e = (bytes_eq-Decides ys xs).1 (sym ((bytes_eq-Decides xs ys).0 e))

same_name-refl : (a : Option (List ℕ)) → same_name a a ≡ true
same_name-refl None = refl
same_name-refl (Some a) = bytes_eq-refl a

same_name-sym : (a b : Option (List ℕ)) → same_name a b ≡ true → same_name b a ≡ true
same_name-sym None None e = refl
same_name-sym None (Some b) e = e
same_name-sym (Some a) None e = e
same_name-sym (Some a) (Some b) e = bytes_eq-sym a b e

pub is_same-refl : (e : PlainExport) → is_same e e ≡ true
is_same-refl e = and_from _ _ (bytes_eq-refl e.name) (same_name-refl e.version)

is_same-sym : (e f : PlainExport) → is_same e f ≡ true → is_same f e ≡ true
is_same-sym e f is =
    let parts = and_parts (bytes_eq e.name f.name) (same_name e.version f.version) is in
    and_from _ _ (bytes_eq-sym e.name f.name parts.0) (same_name-sym e.version f.version parts.1)

-- ---- an export binds to itself

position-is : {X : Type 0} (p : X → Bool) (xs : List X) (k : ℕ) (x : X) → slice_get xs k ≡ Some x → p x ≡ true → ((j : ℕ) (y : X) → slice_get xs j ≡ Some y → p y ≡ true → k ≤ j) → position p xs ≡ Some k
position-is {X} p xs k x at here first =
    let inside : k < length xs = slice_get_within xs k x at in
    let is : position_or_len p xs ≡ k =
    position_or_len_is p xs k x (omega arith)
    (λ j below. false_from_ne_true (p (get_or xs j x)) (λ passes. let le = first j (get_or xs j x) (slice_get-get_or xs j x (omega arith)) passes in omega arith))
    (λ inside'. ap p (get_or_from_slice_get xs k x x at) ∙ here) in
    rw is (rw (lt-ltb k (length xs) inside) refl)

binds_by_version : (exports : List PlainExport) (k : ℕ) (e : PlainExport) → AreDistinct exports → slice_get exports k ≡ Some e → position (has_version e.name e.version) exports ≡ Some k
binds_by_version exports k e distinct at =
    position-is (has_version e.name e.version) exports k e at (is_same-refl e)
    (λ j f at_j same. let is : j ≡ k = distinct j k f e at_j at same in omega arith)

binds_with : (exports : List PlainExport) (k : ℕ) (e : PlainExport) (v : Option (List ℕ)) → e.version ≡ v → position (has_version e.name e.version) exports ≡ Some k → bind_to exports e ≡ Some k
binds_with exports k e None is found =
    let found' : position (has_version e.name None) exports ≡ Some k = ap (λ (o : Option (List ℕ)). position (has_version e.name o) exports) (sym is) ∙ found in
    ap (λ (o : Option (List ℕ)). if is_some o then position (has_version e.name o) exports else option_or (position (has_version e.name None) exports) (option_or (position (has_first_version e.name) exports) (only_default_version e.name exports))) is
    ∙ ap (λ (o : Option ℕ). option_or o (option_or (position (has_first_version e.name) exports) (only_default_version e.name exports))) found'
binds_with exports k e (Some v) is found =
    ap (λ (o : Option (List ℕ)). if is_some o then position (has_version e.name o) exports else option_or (position (has_version e.name None) exports) (option_or (position (has_first_version e.name) exports) (only_default_version e.name exports))) is
    ∙ ap (λ (o : Option (List ℕ)). position (has_version e.name o) exports) (sym is) ∙ found

pub binds_to_itself : (exports : List PlainExport) (k : ℕ) (e : PlainExport) → AreDistinct exports → slice_get exports k ≡ Some e → bind_to exports e ≡ Some k
binds_to_itself exports k e distinct at = binds_with exports k e e.version refl (binds_by_version exports k e distinct at)

-- ---- no fault

first-both : (o : Option Fault) (os : List (Option Fault)) → o ≡ None → first os ≡ None → first (o ∷ os) ≡ None
first-both None os is e = e
first-both (Some f) os is e = absurd (none-some f (sym is))

first-append : (os ps : List (Option Fault)) → first (os ++ ps) ≡ None → first ps ≡ None
first-append [] ps e = e
first-append (o ∷ os) ps e = first-append os ps (none_both o (os ++ ps) e).1

none-fault_if : (holds : Bool) (kind : FaultKind) (at : ℕ) → holds ≡ false → fault_if holds kind at ≡ None
none-fault_if holds kind at is = rw is refl

-- no item before passes
none_passes : {X : Type 0} (p : X → Bool) (xs : List X) (j : ℕ) (x : X) → list_any p xs ≡ false → slice_get xs j ≡ Some x → p x ≡ false
none_passes p [] j x none at = absurd (none-some x at)
none_passes p (y ∷ ys) zero x none at = ap p (sym (same_Some y x at)) ∙ (or_parts (p y) (list_any p ys) none).0
none_passes p (y ∷ ys) (suc j) x none at = none_passes p ys j x (or_parts (p y) (list_any p ys) none).1 at

none_passes-from : {X : Type 0} (p : X → Bool) (xs : List X) → ((j : ℕ) (x : X) → slice_get xs j ≡ Some x → p x ≡ false) → list_any p xs ≡ false
none_passes-from p [] each = refl
none_passes-from p (y ∷ ys) each = or_from (p y) (list_any p ys) (each 0 y refl) (none_passes-from p ys (λ j x at. each (suc j) x at))

-- an item of the front of a list
get_front : {X : Type 0} (xs ys : List X) (j : ℕ) (x : X) → j < length xs → slice_get (xs ++ ys) j ≡ Some x → slice_get xs j ≡ Some x
get_front [] ys j x below at = absurd (omega arith)
get_front (y ∷ xs) ys zero x below at = at
get_front (y ∷ xs) ys (suc j) x below at = get_front xs ys j x (omega arith) at

get_next : {X : Type 0} (xs ys : List X) (x : X) → slice_get (xs ++ x ∷ ys) (length xs) ≡ Some x
get_next [] ys x = refl
get_next (y ∷ xs) ys x = get_next xs ys x

-- each of the exports differs from all before it
abbrev AreApart : List PlainExport → List PlainExport → Type 0
AreApart before exports = (j k : ℕ) (e f : PlainExport) → slice_get exports k ≡ Some e → slice_get (before ++ exports) j ≡ Some f → j < length before + k → is_same e f ≡ false

apart : (before exports : List PlainExport) → first (duplicate_faults before exports) ≡ None → AreApart before exports
apart before [] none j k e f at other below = absurd (none-some e at)
apart before (x ∷ exports) none j zero e f at other below =
    let parts = none_both _ (duplicate_faults (before ++ x ∷ []) exports) none in
    let unlike = fault_if-none (list_any (is_same x) before) _ _ parts.0 in
    ap (λ (y : PlainExport). is_same y f) (sym (same_Some x e at)) ∙ none_passes (is_same x) before j f unlike (get_front before (x ∷ exports) j f (omega arith) other)
apart before (x ∷ exports) none j (suc k) e f at other below =
    let parts = none_both _ (duplicate_faults (before ++ x ∷ []) exports) none in
    apart (before ++ x ∷ []) exports parts.1 j k e f at (rw append_assoc other) (omega (arith, length-append before (x ∷ [])))

no_fault : (before exports : List PlainExport) → AreApart before exports → first (duplicate_faults before exports) ≡ None
no_fault before [] apart = refl
no_fault before (x ∷ exports) apart =
    let unlike : list_any (is_same x) before ≡ false = none_passes-from (is_same x) before (λ j f at.
    apart j 0 x f refl (slice_get-append before (x ∷ exports) j f at) (omega (arith, slice_get_within before j f at))) in
    first-both _ (duplicate_faults (before ++ x ∷ []) exports) (none-fault_if (list_any (is_same x) before) _ _ unlike)
    (no_fault (before ++ x ∷ []) exports (λ j k e f at other below.
    apart j (suc k) e f at (rw append_assoc at other) (omega (arith, below, length-append before (x ∷ [])))))

pub distinct_from_none : (exports : List PlainExport) → first (duplicate_faults [] exports) ≡ None → AreDistinct exports
distinct_from_none exports none j k e f at_j at_k same =
    elim (cases_order j k) [
      | inl is ↦ is
      | inr (inl below) ↦ absurd (let other = apart [] exports none j k f e at_k at_j (omega arith) in let bad : true ≡ false = sym (is_same-sym e f same) ∙ other in cc)
      | inr (inr above) ↦ absurd (let other = apart [] exports none k j e f at_j at_k (omega arith) in let bad : true ≡ false = sym same ∙ other in cc)
    ]

pub none_from_distinct : (exports : List PlainExport) → AreDistinct exports → first (duplicate_faults [] exports) ≡ None
none_from_distinct exports distinct =
    no_fault [] exports (λ j k e f at other below.
    false_from_ne_true (is_same e f) (λ same. let is : k ≡ j = distinct k j e f at other same in omega arith))

-- ---- names and versions alone

is_same-by : (e f g h : PlainExport) → name_and_version e ≡ name_and_version g → name_and_version f ≡ name_and_version h → is_same e f ≡ true → is_same g h ≡ true
is_same-by e f g h one other same =
    let same_by : List ℕ × Option (List ℕ) → List ℕ × Option (List ℕ) → Bool = λ a b. bytes_eq a.0 b.0 && same_name a.1 b.1 in
    ap (λ a. same_by a (name_and_version h)) (sym one) ∙ ap (same_by (name_and_version e)) (sym other) ∙ same

-- the export that stands at the same position of the other list
named_there : (one other : List PlainExport) (k : ℕ) (e : PlainExport) → map name_and_version one ≡ map name_and_version other → slice_get one k ≡ Some e → (f : PlainExport) × (slice_get other k ≡ Some f) × (name_and_version e ≡ name_and_version f)
named_there one other k e same at = go (slice_get other k) refl where
  there : option_map name_and_version (slice_get other k) ≡ Some (name_and_version e)
  there = sym (slice_get-map name_and_version other k) ∙ ap (λ xs. slice_get xs k) (sym same) ∙ slice_get-map name_and_version one k ∙ ap (option_map name_and_version) at

  go : (o : Option PlainExport) → slice_get other k ≡ o → (f : PlainExport) × (slice_get other k ≡ Some f) × (name_and_version e ≡ name_and_version f)
  go None is = absurd (none-some (name_and_version e) (ap (option_map name_and_version) (sym is) ∙ there))
  go (Some f) is = (f, is, sym (same_Some _ _ (ap (option_map name_and_version) (sym is) ∙ there)))

pub distinct_by_names : (one other : List PlainExport) → map name_and_version one ≡ map name_and_version other → AreDistinct other → AreDistinct one
distinct_by_names one other same distinct j k e f at_j at_k is =
    let (g, there_g, like_g) = named_there one other j e same at_j in
    let (h, there_h, like_h) = named_there one other k f same at_k in
    distinct j k g h there_g there_h (is_same-by e f g h like_g like_h is)

pub distinct_from_read : (symbols : List PlainSymbol) (versions : List (Option PlainVersion)) (exports : List PlainExport) → export_fault symbols versions ≡ None → map name_and_version exports ≡ map name_and_version (exports_with symbols versions) → AreDistinct exports
unfolding export_fault
distinct_from_read symbols versions exports none same =
    distinct_by_names exports (exports_with symbols versions) same
    (distinct_from_none (exports_with symbols versions) (first-append (map (version_fault_of versions) symbols) (duplicate_faults [] (exports_with symbols versions)) none))
