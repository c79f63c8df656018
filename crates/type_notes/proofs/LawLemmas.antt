-- Types and definitions do not differ from themselves.
use Rattle.std.proofs.Common.{◌≡◌, ◌<◌, ◌∙◌, ℕ, zero, suc, Bool, true, false, List, [], ◌∷◌, ◌++◌, length, get_or, Option, Some, None, arith, refl}
use Rattle.std.specs.Prelude.{◌&&◌, if◌then◌else◌, is_none, option_to_list, cond, map, max, slice_get}
use Rattle.std.specs.List.{flat_map, range_with_len}
use Rattle.std.specs.Option.{option_map}
use Rattle.std.proofs.lemmas.List.{append-nil}
use Rattle.abi_base.proofs.lemmas.Orders.{bytes_eq-refl}
use Rattle.abi_types.specs.Graphs.{node_at, view_at, no_part}
use Rattle.abi_types.specs.Parts.{like, place_of}
use Rattle.abi_types.specs.Types.{PlainNode, PlainView}
use Rattle.dwarf_tree.specs.Trees.{entry_of}
use Rattle.dwarf_entries.specs.Addresses.{tag_at}
use Rattle.dwarf_entries.specs.Debug.{PlainDwarf}
use Rattle.type_reach.specs.References.{Type_, role_of}
use Rattle.type_notes.specs.declared.note.NoteKind.{NoteKind}
use Rattle.type_notes.specs.declared.note.NoteKind.TheVariants as note
use Rattle.type_notes.specs.declared.difference.Difference.{Difference}
use Rattle.type_notes.specs.declared.aspect.Aspect.{Aspect}
use Rattle.type_notes.specs.Aspects.{aspects_between, kind_of, object_aspects}
use Rattle.type_notes.specs.Between.{differences, entry_changes, object_entry_changes}
use Rattle.type_notes.specs.Chains.{core_at}
use Rattle.type_notes.specs.DefinedElsewhere.{definition_change, first_of, part_change, part_or_none}
use Rattle.type_notes.specs.DefinitionTexts.{parts_of, size_text}
use Rattle.type_notes.specs.Differences.{differing}
use Rattle.type_notes.specs.Entries.{change, changes, object_changes}
use Rattle.type_notes.specs.Packing.{packing_change, packing_text}
use Rattle.type_notes.specs.Padding.{fills, padding_changes, part_changes, is_structure}
use Rattle.type_notes.specs.Texts.{said}
use Rattle.type_notes.specs.TypeNames.{labels_text, name_change}
use Rattle.type_notes.specs.Unions.{union_change}
use Rattle.pair_rules.proofs.lemmas.Parts.{like-same}

not_differing : (kind : NoteKind) (text : List ℕ) → differing kind text text ≡ None
not_differing kind text = rw (bytes_eq-refl text) refl

-- ---- entries

none_of : {X Y : Type 0} (f : X → Option Y) → ((x : X) → f x ≡ None) → (xs : List X) → flat_map (λ x. option_to_list (f x)) xs ≡ []
none_of f none [] = refl
none_of f none (x ∷ xs) = rw (none x) (none_of f none xs)

unchanged : (d : PlainDwarf) (e : ℕ) (aspect : Aspect) → change (record { old_dwarf = d; new_dwarf = d; old = e; new = e }) aspect ≡ None
unfolding change
unchanged d e aspect = not_differing (kind_of aspect) (said aspect d e)

object_itself : (d : PlainDwarf) (r : Type_) → object_entry_changes d d r r ≡ []
unfolding object_changes
object_itself d None = refl
object_itself d (Some e) = none_of (change (record { old_dwarf = d; new_dwarf = d; old = e; new = e })) (unchanged d e) (object_aspects (tag_at d.tree e) (tag_at d.tree e))

entry_itself : (d : PlainDwarf) (r : Type_) → entry_changes d d r r ≡ []
unfolding changes
entry_itself d None = refl
entry_itself d (Some e) = none_of (change (record { old_dwarf = d; new_dwarf = d; old = e; new = e })) (unchanged d e) (aspects_between (role_of d.tree e) (role_of d.tree e))

-- ---- definitions

first_of_none : {X : Type 0} (f : X → Option Difference) → ((x : X) → f x ≡ None) → (xs : List X) → first_of (map f xs) ≡ None
first_of_none f none [] = refl
first_of_none f none (x ∷ xs) = rw (none x) (first_of_none f none xs)

pub definition_itself : (d : PlainDwarf) (e : ℕ) → definition_change d d e e ≡ None
unfolding definition_change
definition_itself d e =
    rw (not_differing note.DefinedElsewhere (size_text d.tree e))
    (first_of_none (part_change d d (parts_of d.tree e) (parts_of d.tree e)) (λ k. not_differing note.DefinedElsewhere (part_or_none d (slice_get (parts_of d.tree e) k)))
    (range_with_len 0 (max (length (parts_of d.tree e)) (length (parts_of d.tree e)))))

-- ---- members

is_none_map : {X Y : Type 0} (f : X → Y) (o : Option X) → is_none (option_map f o) ≡ is_none o
is_none_map f None = refl
is_none_map f (Some x) = refl

has_place : {X : Type 0} (test : X → Bool) (xs : List X) (k : ℕ) (d : X) → k < length xs → test (get_or xs k d) ≡ true → is_none (place_of test 0 xs) ≡ false
unfolding place_of
has_place test [] k d lt e = absurd (omega arith)
has_place test (x ∷ xs) zero d lt e = rw e refl
has_place test (x ∷ xs) (suc k) d lt e = elim_test (test x) (place_of test 0 xs) (has_place test xs k d (omega arith) e) where
  elim_test : (b : Bool) (o : Option ℕ) → is_none o ≡ false → is_none (cond b (Some 0) (option_map suc o)) ≡ false
  elim_test true o h = refl
  elim_test false o h = is_none_map suc o ∙ h

nothing_in : {X Y : Type 0} (f : X → List Y) (d : X) (xs : List X) → ((k : ℕ) → k < length xs → f (get_or xs k d) ≡ []) → flat_map f xs ≡ []
nothing_in f d [] none = refl
nothing_in f d (x ∷ xs) none = rw (none zero (omega arith)) (nothing_in f d xs (λ k lt. none (suc k) (omega arith)))

not_new : (nodes : List PlainNode) (v : PlainView) (k : ℕ) → k < length v.parts → part_changes nodes nodes v (get_or v.parts k no_part) ≡ []
unfolding fills
not_new nodes v k lt = rw (has_place (like (get_or v.parts k no_part)) v.parts k no_part lt (like-same (get_or v.parts k no_part))) refl

if_none : (b : Bool) (xs : List Difference) → xs ≡ [] → (if b then xs else []) ≡ []
if_none true xs e = e
if_none false xs e = refl

members_itself : (nodes : List PlainNode) (v : PlainView) → padding_changes nodes nodes v v ≡ []
unfolding padding_changes
members_itself nodes v = if_none (is_structure v && is_structure v) (flat_map (part_changes nodes nodes v) v.parts) (nothing_in (part_changes nodes nodes v) no_part v.parts (not_new nodes v))

-- ---- names and alignments

names_itself : (a : PlainNode) → name_change a a ≡ None
unfolding name_change
names_itself a = not_differing _ (labels_text a.labels)

packing_itself : (nodes : List PlainNode) (i : ℕ) → packing_change nodes nodes i i ≡ None
unfolding packing_change
packing_itself nodes i = not_differing _ (packing_text nodes i)

-- ---- all

pub itself : (d : PlainDwarf) (nodes : List PlainNode) (i : ℕ) → differences d d nodes nodes i i ≡ option_to_list (union_change (view_at nodes i) (view_at nodes i))
unfolding differences
itself d nodes i =
    rw (entry_itself d (core_at d.tree (node_at nodes i).entry), object_itself d (entry_of d.tree (node_at nodes i).entry), members_itself nodes (view_at nodes i), names_itself (node_at nodes i), packing_itself nodes i)
    (append-nil (option_to_list (union_change (view_at nodes i) (view_at nodes i)) ++ []) ∙ append-nil (option_to_list (union_change (view_at nodes i) (view_at nodes i))))
