-- What is compared for one application.
use Rattle.std.proofs.Common.{◌≡◌, ℕ, zero, suc, ◌+◌, ◌<◌, ◌≤◌, Bool, true, false, cond, List, [], ◌∷◌, ◌++◌, length, map, take, get_or, Option, None, refl, sym, ◌∙◌, ap, subst, arith, append-nil, append_assoc}
use Rattle.std.specs.Prelude.{not, ◌||◌, ◌↔◌, slice_index_or}
use Rattle.std.specs.List.{Contains, list_any, range_with_len}
use Rattle.std.proofs.lemmas.List.{length-map, take_more, take_all, length-take-le, get_or-map}
use Rattle.std.proofs.lemmas.List.FromFn.{length-map-range_with_len}
use Rattle.std.proofs.lemmas.Map.Keys.{any_passes_from_place}
use Rattle.abi_base.proofs.lemmas.Bools.{same_tests, or_left_false}
use Rattle.abi_base.proofs.lemmas.Lists.{any_found, at_contains, contains_at, map-same_tests}
use Rattle.abi_types.specs.declared.export.Export.{Export}
use Rattle.abi_types.specs.declared.kind.Way.{Way}
use Rattle.abi_types.specs.declared.kind.Way.TheVariants.{Direct, Pointer}
use Rattle.abi_types.specs.declared.library.Marks.{Marks}
use Rattle.abi_types.specs.Exports.{PlainExport}
use Rattle.abi_types.specs.Libraries.{PlainLibrary}
use Rattle.abi_types.specs.Plain.{plain_export, plain_exports}
use Rattle.elf_needs.specs.Needs.{PlainNeed}
use Rattle.app_check.specs.Imports.{PlainImport, imports_of}
use Rattle.app_check.specs.Used.{is_at, is_used, narrowed, narrowed_marks, place_bound, used_exports}
use Rattle.pair_rules.specs.Closed.{HoldsRoots, IsClosed}
use Rattle.pair_rules.specs.Stable.{AreEven}
use Rattle.pair_rules.specs.Steps.{PlainRoot, Task, Triple, is_marked, next_of, step}
use Rattle.abi_types.specs.Graphs.{view_at}
use Rattle.cert_check.specs.Compatible.{IsBound, IsCompared, IsCompatible, Sides, sides, task_of, typed_roots}
use Rattle.cert_check.specs.TypedPairs.{IsTypedPair}
use Rattle.cert_text.specs.Certs.{PlainCert}
use Rattle.pair_compare.specs.Judged.{IsProved}
use Rattle.pair_compare.specs.Marking.{AreMarksOf}
use Rattle.library_read.specs.Libraries.{library_of}
use Rattle.suppression_text.specs.Rules.{PlainRules, rules_of}
use Rattle.suppressions.specs.Marks.{marks_of}
use Rattle.suppressions.specs.Meaning.{is_dropped}
use Rattle.library_check.specs.Applications.{ImportTheSame, name_and_need, sides_for, sides_used, use_line, use_lines, used_by, uses_text}
use Rattle.library_check.specs.Judgements.{ruled}

-- ---- marks

narrowed_length : (dropped used : List Bool) → length dropped ≡ length used → length (narrowed dropped used) ≡ length dropped
narrowed_length [] [] same = refl
narrowed_length [] (u ∷ used) same = absurd (omega arith)
narrowed_length (d ∷ dropped) [] same = absurd (omega arith)
narrowed_length (d ∷ dropped) (u ∷ used) same = ap suc (narrowed_length dropped used (omega arith))

-- what is compared of the exports that are used is compared of all
narrowed_kept : (dropped used : List Bool) (k : ℕ) → length dropped ≡ length used → slice_index_or (narrowed dropped used) k false ≡ false → slice_index_or dropped k false ≡ false
narrowed_kept [] [] k same is = refl
narrowed_kept [] (u ∷ used) k same is = absurd (omega arith)
narrowed_kept (d ∷ dropped) [] k same is = absurd (omega arith)
narrowed_kept (d ∷ dropped) (u ∷ used) zero same is = or_left_false d (not u) is
narrowed_kept (d ∷ dropped) (u ∷ used) (suc k) same is = narrowed_kept dropped used k (omega arith) is

pub used_length : (imports : List PlainImport) (soname : Option (List ℕ)) (old : List PlainExport) → length (used_exports imports soname old) ≡ length old
unfolding used_exports
used_length imports soname old = length-map-range_with_len (is_used imports soname old) 0 (length old)

even_still : (old new : PlainLibrary) (marks : Marks) (used : List Bool) → AreEven (task_of (sides old new marks)) → AreEven (task_of (sides old new (narrowed_marks marks used)))
even_still old new marks used even a b Direct a_inside b_inside same = even a b Direct a_inside b_inside same
even_still old new marks used even a b Pointer a_inside b_inside same = even a b Pointer a_inside b_inside same

-- marks stay so where exports are dropped
pub narrowed_are : (old : PlainLibrary) (marks : Marks) (used : List Bool) → AreMarksOf old marks → length used ≡ length old.exports → AreMarksOf old (narrowed_marks marks used)
narrowed_are old marks used are same = record {
  exports = narrowed_length marks.exports used (are.exports ∙ sym same) ∙ are.exports;
  direct = are.direct;
  pointer = are.pointer;
  even = λ new. even_still old new marks used (are.even new);
}

-- ---- fewer exports

abbrev rerooted : Task → List PlainRoot → Task
rerooted t roots = record { old = t.old; new = t.new; direct = t.direct; pointer = t.pointer; roots = roots }

same_marked : (t : Task) (roots : List PlainRoot) (a : ℕ) (way : Way) → is_marked (rerooted t roots) a way ≡ is_marked t a way
same_marked t roots a Direct = refl
same_marked t roots a Pointer = refl

same_step : (t : Task) (roots : List PlainRoot) (x : Triple) (i : ℕ) → step (rerooted t roots) x i ≡ step t x i
unfolding step
same_step t roots x i = ap (λ (b : Bool). cond b None (next_of (view_at t.old x.old) (view_at t.new x.new) x.way i)) (same_marked t roots x.old x.way)

-- whether a relation is closed does not depend on where it begins
closed_still : (t : Task) (roots : List PlainRoot) (r : Triple → Bool) → IsClosed t r → IsClosed (rerooted t roots) r
closed_still t roots r closed = record {
  keeps = λ x held unmarked. closed.keeps x held (sym (same_marked t roots x.old x.way) ∙ unmarked);
  leads_on = λ x y i held leads. closed.leads_on x y i held (sym (same_step t roots x i) ∙ leads);
}

-- the law on typed pairs
abbrev pub AreTypedPairs : Type 0
AreTypedPairs = (s : Sides) (root : PlainRoot) → Contains (typed_roots s) root ↔ IsTypedPair s root

module _ (exact : AreTypedPairs) (old new : PlainLibrary) (marks : Marks) (used : List Bool) (same : length marks.exports ≡ length used) where
  abbrev all : Sides
  all = sides old new marks

  abbrev some : Sides
  some = sides old new (narrowed_marks marks used)

  compared_of_all : (k : ℕ) (e : PlainExport) → IsCompared some k e → IsCompared all k e
  compared_of_all k e compared = record { at = compared.at; kept = narrowed_kept marks.exports used k same compared.kept }

  typed_of_all : (root : PlainRoot) → IsTypedPair some root → IsTypedPair all root
  typed_of_all root pair = record {
    old = pair.old;
    new = pair.new;
    compared = compared_of_all root.export pair.old pair.compared;
    binds = pair.binds;
    old_typed = pair.old_typed;
    new_typed = pair.new_typed;
    old_node = pair.old_node;
    new_node = pair.new_node;
  }

  holds_still : (r : Triple → Bool) → HoldsRoots (task_of all) r → HoldsRoots (task_of some) r
  holds_still r holds k root at =
      let pair = typed_of_all root ((exact some root).0 (contains_at (typed_roots some) k root at)) in
      let found = at_contains (typed_roots all) root ((exact all root).1 pair) in
      holds found.0 root found.1

  bound_still : (e : PlainExport) → IsBound all e → IsBound some e
  bound_still e bound = record { partner = bound.partner; binds = bound.binds; keeps = bound.keeps }

  -- what may stand in the place of the whole may stand in the place of what is used
  pub compatible_still : IsCompatible all → IsCompatible some
  compatible_still is = record {
    sonames = is.sonames;
    exports = λ k e compared. bound_still e (is.exports k e (compared_of_all k e compared));
    types = (is.types.0, closed_still (task_of all) (typed_roots some) is.types.0 is.types.1, holds_still is.types.0 is.types.2);
  }

marks_length : (rules : PlainRules) (old : PlainLibrary) → length (marks_of rules old).exports ≡ length old.exports
unfolding marks_of
marks_length rules old = length-map old.exports (is_dropped rules old.soname)

pub compatible_used : AreTypedPairs → (imports : List PlainImport) (old new : PlainLibrary) (rules : PlainRules) → IsCompatible (ruled old new rules) → IsCompatible (sides_used imports old new rules)
compatible_used exact imports old new rules is =
    compatible_still exact old new (marks_of rules old) (used_by imports old) (marks_length rules old ∙ sym (used_length imports old.soname old.exports)) is

-- what is said where the new library may replace the old one in what is used
pub said_yes : (imports : List PlainImport) (old new : PlainLibrary) (rules : PlainRules) (marks : Marks) (cert : PlainCert) (text : List ℕ) → marks ≡ narrowed_marks (marks_of rules old) (used_by imports old)
    → IsProved (sides old new marks) cert → ((other : PlainLibrary) → text ≡ uses_text (sides old other marks)) → IsCompatible (sides_used imports old new rules) × (text ≡ uses_text (sides_used imports old new rules))
said_yes imports old new rules marks cert text are proved is =
    (subst (λ (m : Marks). IsCompatible (sides old new m)) are proved.compatible, is new ∙ ap (λ (m : Marks). uses_text (sides old new m)) are)

-- ---- imports of one symbol

-- whether the name and version that an import needs bind to the export at a place
abbrev asks_for : Option (List ℕ) → List PlainExport → ℕ → List ℕ × Option PlainNeed → Bool
asks_for soname old k wanted = is_at k (place_bound soname old (record { symbol = 0; name = wanted.0; need = wanted.1 }))

used_as_asked : (soname : Option (List ℕ)) (old : List PlainExport) (k : ℕ) (imports : List PlainImport) → is_used imports soname old k ≡ list_any (asks_for soname old k) (map name_and_need imports)
used_as_asked soname old k [] = refl
used_as_asked soname old k (i ∷ imports) = ap (λ (b : Bool). is_at k (place_bound soname old i) || b) (used_as_asked soname old k imports)

passes_within : {X : Type 0} (p : X → Bool) (xs ys : List X) → ((x : X) → Contains xs x → Contains ys x) → list_any p xs ≡ true → list_any p ys ≡ true
passes_within p xs ys within any =
    let found = any_found p xs any in
    let there = at_contains ys found.1 (within found.1 (contains_at xs found.0 found.1 found.2)) in
    any_passes_from_place p ys there.0 found.1 there.1 found.3

-- imports that ask for the same use the same exports
pub used_alike : (app other : List ℕ) → ImportTheSame app other → (soname : Option (List ℕ)) (old : List PlainExport) → used_exports (imports_of app) soname old ≡ used_exports (imports_of other) soname old
unfolding used_exports
used_alike app other same soname old = map-same_tests (is_used (imports_of app) soname old) (is_used (imports_of other) soname old) at (range_with_len 0 (length old))
  where
    at : (k : ℕ) → is_used (imports_of app) soname old k ≡ is_used (imports_of other) soname old k
    at k =
        let asks = asks_for soname old k in
        let one = map name_and_need (imports_of app) in
        let two = map name_and_need (imports_of other) in
        used_as_asked soname old k (imports_of app)
        ∙ same_tests (list_any asks one) (list_any asks two) (passes_within asks one two (λ x. (same x).0)) (passes_within asks two one (λ x. (same x).1))
        ∙ sym (used_as_asked soname old k (imports_of other))

-- so the same is compared for both applications
pub sides_alike : (app other old new rules : List ℕ) → ImportTheSame app other → sides_for app old new rules ≡ sides_for other old new rules
sides_alike app other old new rules same =
    let library = library_of old in
    ap (λ (used : List Bool). sides library (library_of new) (narrowed_marks (marks_of (rules_of rules) library) used)) (used_alike app other same library.soname library.exports)

-- ---- the lines of a yes

joined : (exports : List PlainExport) (dropped : List Bool) (e : PlainExport) (d : Bool) → length exports ≡ length dropped
    → use_lines (exports ++ e ∷ []) (dropped ++ d ∷ []) ≡ use_lines exports dropped ++ cond d [] (use_line e)
joined [] [] e d same = append-nil (cond d [] (use_line e))
joined [] (x ∷ dropped) e d same = absurd (omega arith)
joined (x ∷ exports) [] e d same = absurd (omega arith)
joined (x ∷ exports) (y ∷ dropped) e d same =
    ap (λ (l : List ℕ). cond y [] (use_line x) ++ l) (joined exports dropped e d (omega arith))
    ∙ sym (append_assoc (cond y [] (use_line x)) (use_lines exports dropped) (cond d [] (use_line e)))

module _ (exports : List Export) (dropped : List Bool) (i : ℕ) (same : length dropped ≡ length exports) where
  plain_length : length (plain_exports exports) ≡ length exports
  plain_length = length-map exports plain_export

  lines_more : (a : Export) (b : Bool) → i < length exports
      → use_lines (take (i + 1) (plain_exports exports)) (take (i + 1) dropped) ≡ use_lines (take i (plain_exports exports)) (take i dropped) ++ cond (get_or dropped i b) [] (use_line (plain_export (get_or exports i a)))
  lines_more a b inside =
      let within : i < length (plain_exports exports) = omega (arith, plain_length) in
      let among : i < length dropped = omega arith in
      let even : length (take i (plain_exports exports)) ≡ length (take i dropped) = length-take-le i (plain_exports exports) (omega arith) ∙ sym (length-take-le i dropped (omega arith)) in
      ap (λ (l : List PlainExport). use_lines l (take (i + 1) dropped)) (take_more (plain_exports exports) i (plain_export a) within)
      ∙ ap (λ (l : List Bool). use_lines (take i (plain_exports exports) ++ get_or (plain_exports exports) i (plain_export a) ∷ []) l) (take_more dropped i b among)
      ∙ joined (take i (plain_exports exports)) (take i dropped) (get_or (plain_exports exports) i (plain_export a)) (get_or dropped i b) even
      ∙ ap (λ (e : PlainExport). use_lines (take i (plain_exports exports)) (take i dropped) ++ cond (get_or dropped i b) [] (use_line e)) (get_or-map plain_export exports i a (plain_export a) inside)

  -- one more line, or none where the export is dropped
  pub pushed_more : (a : Export) (b : Bool) (begun before after : List ℕ) → i < length exports → before ≡ begun ++ use_lines (take i (plain_exports exports)) (take i dropped)
      → after ≡ before ++ cond (get_or dropped i b) [] (use_line (plain_export (get_or exports i a))) → after ≡ begun ++ use_lines (take (i + 1) (plain_exports exports)) (take (i + 1) dropped)
  pushed_more a b begun before after inside so_far grown =
      let line = cond (get_or dropped i b) [] (use_line (plain_export (get_or exports i a))) in
      grown ∙ ap (λ (l : List ℕ). l ++ line) so_far ∙ append_assoc begun (use_lines (take i (plain_exports exports)) (take i dropped)) line
      ∙ ap (λ (l : List ℕ). begun ++ l) (sym (lines_more a b inside))

  pub pushed_all : (begun text : List ℕ) → length exports ≤ i → text ≡ begun ++ use_lines (take i (plain_exports exports)) (take i dropped) → text ≡ begun ++ use_lines (plain_exports exports) dropped
  pushed_all begun text past is =
      is ∙ ap (λ (l : List PlainExport). begun ++ use_lines l (take i dropped)) (take_all i (plain_exports exports) (omega (arith, plain_length)))
      ∙ ap (λ (l : List Bool). begun ++ use_lines (plain_exports exports) l) (take_all i dropped (omega arith))
