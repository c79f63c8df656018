-- Visits and the paths to them can be read, and notes are added visit by visit.
use Rattle.std.proofs.Common.{◌≡◌, ◌+◌, ◌∙◌, ℕ, Bool, true, false, List, [], ◌∷◌, ◌++◌, slice_get, map, Option, Some, None, ap, sym, subst, refl}
use Rattle.std.specs.Prelude.{◌||◌, nat_eq, if◌then◌else◌, option_to_list}
use Rattle.std.specs.List.{flat_map, range_with_len}
use Rattle.std.specs.HashSet.{contains}
use Rattle.std.proofs.lemmas.List.{append-nil}
use Rattle.std.proofs.lemmas.List.Folds.{list_any_more}
use Rattle.std.proofs.lemmas.Option.{get_or_from_slice_get, slice_get_within}
use Rattle.std.proofs.lemmas.Grind.{flat_map-append}
use Rattle.abi_base.proofs.lemmas.Ranges.{below_more}
use Rattle.abi_types.specs.Graphs.{IsGraph}
use Rattle.type_classes.specs.Classes.{PlainClasses}
use Rattle.pair_rules.specs.declared.rules.Broken.{Broken}
use Rattle.pair_rules.specs.Paths.{Path, From, PathLeadsTo}
use Rattle.pair_rules.specs.Steps.{Triple, is_marked}
use Rattle.pair_explorer.specs.declared.visits.Visit.{Visit}
use Rattle.pair_explorer.specs.ByClass.{IsSound}
use Rattle.pair_explorer.specs.Explorations.{IsExploration}
use Rattle.pair_explorer.specs.Routes.{path_at, path_of}
use Rattle.pair_explorer.specs.Scopes.{Scope, rep, LeadsByRep}
use Rattle.pair_explorer.specs.Visits.{seen, Along, AreEarlier}
use Rattle.cert_check.specs.Compatible.{Sides, task_of}
use Rattle.pair_compare.specs.Explored.{scope_of}
use Rattle.pair_compare.specs.reports.Findings.{export_of}
use Rattle.pair_compare.specs.reports.PathTexts.{label_at, steps_text, IsWalk}
use Rattle.type_notes.specs.declared.difference.Difference.{Difference}
use Rattle.type_notes.specs.declared.note.Note.{Note}
use Rattle.type_notes.specs.DefinedElsewhere.{definitions_behind}
use Rattle.type_notes.specs.NotedPairs.{PlainPair, AreCompared, AreReadable, Numbers, change_behind, change_unless, defined_behind, definition_changes, definitions_at, difference_note, differences_of, is_of, new_core, noted_at, notes_at, notes_below, notes_from, old_core, was_compared}
use Rattle.pair_compare.proofs.lemmas.Paths.{export_of-followed}
use Rattle.abi_base.proofs.lemmas.Lists.{at_below}

-- what the laws below say that is used here
pub record WalkLaws : Type 0 where
  pub walks : (s : Sides) (path : Path) (x : Triple) → IsGraph s.old.graph → IsGraph s.new.graph → PathLeadsTo (task_of s) path x → IsWalk s.old path
  pub comes : (s : Scope) (path : Path) (z : Triple) → IsSound s → LeadsByRep s path z → (x : Triple) × PathLeadsTo s.task path x × (rep s x ≡ z)
  pub along : (visits : List Visit) (n : ℕ) (v : Visit) → AreEarlier visits → slice_get visits n ≡ Some v → Along visits n (path_at visits n)
  pub one : (visits : List Visit) (n : ℕ) (p q : Path) → Along visits n p → Along visits n q → p ≡ q

pub readable : WalkLaws → (s : Sides) (old new : PlainClasses) (vs : List Visit) (broken : List (ℕ × Broken)) → IsGraph s.old.graph → IsGraph s.new.graph
    → IsSound (scope_of s old new) → IsExploration (scope_of s old new) vs broken → AreReadable s vs
readable laws s old new vs broken old_graph new_graph sound e = record {
  earlier = e.earlier;
  each = λ n lt.
      let v = at_below vs n lt in
      let inside = e.inside n v.0 v.1 in
      let reached = e.reached n v.0 v.1 in
      let same : reached.0 ≡ path_at vs n = laws.one vs n reached.0 (path_at vs n) reached.1 (laws.along vs n v.0 e.earlier v.1) in
      let comes = laws.comes (scope_of s old new) reached.0 (seen v.0) sound reached.2 in
      record {
        visit = v.0;
        at = v.1;
        old = inside.0;
        new = inside.1;
        walk = subst (λ (p : Path). IsWalk s.old p) same (laws.walks s reached.0 comes.0 old_graph new_graph comes.1);
      };
}

-- ---- the note of a path

-- the notes of differences under the texts of a path are those at the visit to which it leads
pub noted : (s : Sides) (vs : List Visit) (n export : ℕ) (parts label steps : List ℕ) (found : List Difference) → path_of export parts ≡ path_at vs n
    → label ≡ label_at s.old export → steps ≡ steps_text s.old (path_of export parts) → map (difference_note label steps) found ≡ map (noted_at s vs n) found
noted s vs n export parts label steps found same is_label is_steps =
    let label' : label ≡ label_at s.old (export_of (path_at vs n)) = is_label ∙ ap (label_at s.old) (sym (export_of-followed (From export) parts) ∙ ap export_of same) in
    let steps' : steps ≡ steps_text s.old (path_at vs n) = is_steps ∙ ap (steps_text s.old) same in
    ap (λ (x : List ℕ). map (difference_note x steps) found) label' ∙ ap (λ (x : List ℕ). map (difference_note (label_at s.old (export_of (path_at vs n))) x) found) steps'

-- ---- visit by visit

pub notes_more : (p : PlainPair) (vs : List Visit) (n : ℕ) → notes_below p vs (n + 1) ≡ notes_below p vs n ++ notes_at p vs n
notes_more p vs n =
    ap (flat_map (notes_at p vs)) (below_more n) ∙ flat_map-append (notes_at p vs) (range_with_len 0 n) (n ∷ [])
    ∙ ap (λ (xs : List Note). notes_below p vs n ++ xs) (append-nil (notes_at p vs n))

-- ---- the definitions that were compared

-- the definitions of a visit join those of the visits before it
pub compared_more : (p : PlainPair) (vs : List Visit) (n : ℕ) (v : Visit) (old new : Numbers) → slice_get vs n ≡ Some v → AreCompared p vs n old
    → ((a : ℕ) → contains nat_eq new a ≡ (contains nat_eq old a || is_of a (definitions_at p v))) → AreCompared p vs (n + 1) new
compared_more p vs n v old new at so_far adds = record {
  each = λ a.
      adds a ∙ ap (λ (b : Bool). b || is_of a (definitions_at p v)) (so_far.each a)
      ∙ ap (λ (x : Visit). was_compared p vs n a || is_of a (definitions_at p x)) (sym (get_or_from_slice_get vs n v v at))
      ∙ sym (list_any_more (λ x. is_of a (definitions_at p x)) vs n v (slice_get_within vs n v at));
}

or_none : (b : Bool) → b ≡ (b || false)
or_none true = refl
or_none false = refl

marked_none : (p : PlainPair) (v : Visit) → is_marked (task_of p.sides) v.old v.way ≡ true → definitions_at p v ≡ None
unfolding definitions_at
marked_none p v marked = rw marked refl

unmarked : (p : PlainPair) (v : Visit) → is_marked (task_of p.sides) v.old v.way ≡ false → definitions_at p v ≡ definitions_behind p.old_dwarf p.new_dwarf (old_core p v) (new_core p v)
unfolding definitions_at
unmarked p v free = rw free refl

-- nothing is compared at a visit that is marked
pub compared_marked : (p : PlainPair) (vs : List Visit) (n : ℕ) (v : Visit) (old : Numbers) → slice_get vs n ≡ Some v → AreCompared p vs n old
    → is_marked (task_of p.sides) v.old v.way ≡ true → AreCompared p vs (n + 1) old
compared_marked p vs n v old at so_far marked =
    compared_more p vs n v old old at so_far (λ a. or_none (contains nat_eq old a) ∙ ap (λ (o : Option (ℕ × ℕ)). contains nat_eq old a || is_of a o) (sym (marked_none p v marked)))

-- those of its types are compared at another one
pub compared_free : (p : PlainPair) (vs : List Visit) (n : ℕ) (v : Visit) (old new : Numbers) (found : Option (ℕ × ℕ)) → slice_get vs n ≡ Some v → AreCompared p vs n old
    → is_marked (task_of p.sides) v.old v.way ≡ false → found ≡ definitions_behind p.old_dwarf p.new_dwarf (old_core p v) (new_core p v)
    → ((a : ℕ) → contains nat_eq new a ≡ (contains nat_eq old a || is_of a found)) → AreCompared p vs (n + 1) new
compared_free p vs n v old new found at so_far free is adds =
    compared_more p vs n v old new at so_far (λ a. adds a ∙ ap (λ (o : Option (ℕ × ℕ)). contains nat_eq old a || is_of a o) (is ∙ sym (unmarked p v free)))

-- ---- the notes of a visit

among_same : (p : PlainPair) (one other : ℕ → Bool) (o : Option (ℕ × ℕ)) → ((a : ℕ) → one a ≡ other a) → change_unless one p o ≡ change_unless other p o
among_same p one other None same = refl
among_same p one other (Some (a, b)) same = ap (λ (x : Bool). if x then [] else option_to_list (change_behind p a b)) (same a)

-- a visit that is marked has none
pub notes_marked : (p : PlainPair) (vs : List Visit) (n : ℕ) (v : Visit) → slice_get vs n ≡ Some v → is_marked (task_of p.sides) v.old v.way ≡ true → notes_at p vs n ≡ []
unfolding notes_at
notes_marked p vs n v at marked =
    ap (notes_from p vs n) at ∙ ap (λ (x : Bool). if x then [] else map (noted_at p.sides vs n) (differences_of p v ++ definition_changes p vs n v)) marked

-- another one has those of its types, and of the definitions behind them unless these are in the set
pub notes_free : (p : PlainPair) (vs : List Visit) (n : ℕ) (v : Visit) (compared : Numbers) → slice_get vs n ≡ Some v → AreCompared p vs n compared
    → is_marked (task_of p.sides) v.old v.way ≡ false → notes_at p vs n ≡ map (noted_at p.sides vs n) (differences_of p v ++ change_unless (contains nat_eq compared) p (defined_behind p v))
unfolding notes_at
notes_free p vs n v compared at so_far free =
    ap (notes_from p vs n) at ∙ ap (λ (x : Bool). if x then [] else map (noted_at p.sides vs n) (differences_of p v ++ definition_changes p vs n v)) free
    ∙ ap (λ (xs : List Difference). map (noted_at p.sides vs n) (differences_of p v ++ xs))
    (among_same p (was_compared p vs n) (contains nat_eq compared) (definitions_at p v) (λ a. sym (so_far.each a)) ∙ ap (change_unless (contains nat_eq compared) p) (unmarked p v free))
