-- The tree of a section without a fault is in order.
use Rattle.std.proofs.Common.{◌≡◌, ◌∙◌, ℕ, zero, suc, ◌+◌, ◌<◌, ◌≤◌, ◌^◌, Bool, true, List, [], ◌∷◌, ◌++◌, length, map, Option, Some, None, refl, sym, ap, subst, arith, inl, inr}
use Rattle.std.specs.Prelude.{◌==◌, slice_index_or, is_some}
use Rattle.std.specs.List.{list_any}
use Rattle.std.proofs.lemmas.Bool.{cases_lt, eq-eqb, or_left, or_right}
use Rattle.std.proofs.lemmas.List.{length-map}
use Rattle.std.proofs.lemmas.List.Folds.{list_any-append}
use Rattle.abi_base.proofs.lemmas.Lists.{any-map}
use Rattle.abi_base.specs.declared.fault.Fault.{Fault}
use Rattle.abi_base.specs.Outcome.{first}
use Rattle.abi_base.specs.Runs.{Chain, Run}
use Rattle.dwarf_units.specs.declared.entry.Entry.{Entry}
use Rattle.dwarf_units.specs.Grammar.{IsTree, HasType}
use Rattle.dwarf_units.specs.Units.{PlainUnit, entries_of}
use Rattle.dwarf_units.specs.Sequence.{unit_step, units_of, entries_fault}
use Rattle.dwarf_tree.specs.declared.head.Head.{Head}
use Rattle.dwarf_tree.specs.Trees.{TreeEntry, head_of, placed, placed_entries, tree_of, no_head, root_of, entry_of, IsOrdered, depth_at}
use Rattle.dwarf_tree.proofs.PositionLemmas.{position-any}
use Rattle.dwarf_tree.proofs.Growth.{tree, entries_in}
use Rattle.dwarf_tree.proofs.InOrder.{InOrder, in_wider, in_order-append, each_inside, offsets_ascend, units_rise, depths_grow, few_entries, first_depth}
use Rattle.dwarf_tree.proofs.UnitEntries.{unit_in_order}
use Rattle.dwarf_tree.proofs.Tops.{all_topped, tops_are_roots}
use Rattle.dwarf_tree.proofs.UnitLaws.{UnitLaws}

none_both : (o : Option Fault) (others : List (Option Fault)) → first (o ∷ others) ≡ None → (o ≡ None) × (first others ≡ None)
none_both None others h = (refl, h)
none_both (Some f) others h = absurd cc

-- ---- order

module _ (laws : UnitLaws) (info abbrevs : List ℕ) (high : ℕ) where
  units_from_order : (us : List PlainUnit) (at number : ℕ) (end : Option Fault) → Chain (unit_step info abbrevs) at us end → number + length us ≤ high
      → InOrder (suc at) (length info) 0 number high (entries_in number us)
  units_from_order [] at number end chain few = tt
  units_from_order (u ∷ us) at number end (next, is, others) few =
      let stands = laws.unit info abbrevs at u next is in
      let here = in_wider (suc at) u.end 0 number (suc number) (suc at) next 0 number (number + 1) (placed_entries (number, u)) (omega arith) (omega (arith, stands.end)) (omega arith) (omega arith) (omega arith)
      (unit_in_order laws u number (suc at) (omega (arith, stands.root))) in
      let later = in_wider (suc next) (length info) 0 (number + 1) high next (length info) 0 (number + 1) high (entries_in (number + 1) us) (omega arith) (omega arith) (omega arith) (omega arith) (omega arith)
      (units_from_order us next (number + 1) end others (omega (arith, few))) in
      in_order-append (suc at) next (length info) 0 number (number + 1) high (placed_entries (number, u)) (entries_in (number + 1) us) (omega (arith, stands.root, stands.on)) stands.inside (omega arith) (omega (arith, few)) here later

units_in_order : (laws : UnitLaws) (info abbrevs : List ℕ) → InOrder 1 (length info) 0 0 (length (units_of info abbrevs).items) (entries_in 0 (units_of info abbrevs).items)
units_in_order laws info abbrevs =
    units_from_order laws info abbrevs (length (units_of info abbrevs).items) (units_of info abbrevs).items 0 0 (units_of info abbrevs).end (laws.units info abbrevs) (omega arith)

-- ---- each unit has its root, and each type unit the entry of its type

abbrev AreWell : List PlainUnit → Type 0
AreWell [] = Prim.Unit {0}
AreWell (u ∷ us) = ((entries_of u).end ≡ None) × AreWell us

all_well : (units : List PlainUnit) (e : Option Fault) → first (map (λ u. (entries_of u).end) units ++ e ∷ []) ≡ None → AreWell units
all_well [] e none = tt
all_well (u ∷ us) e none =
    let both = none_both (entries_of u).end (map (λ u. (entries_of u).end) us ++ e ∷ []) none in
    (both.0, all_well us e both.1)

unit_tree : (laws : UnitLaws) (u : PlainUnit) → (entries_of u).end ≡ None → IsTree u (entries_of u).items × HasType u (entries_of u).items
unit_tree laws u none = (laws.tree u (entries_of u).items).0 (ap (λ (end : Option Fault). let r : Run Entry (Option Fault) = record { items = (entries_of u).items; end = end } in r) none)

abbrev is_of_unit : ℕ → TreeEntry → Bool
is_of_unit k e = e.unit == k

root_there : (laws : UnitLaws) (u : PlainUnit) (k : ℕ) → (entries_of u).end ≡ None → list_any (is_of_unit k) (placed_entries (k, u)) ≡ true
root_there laws u k none =
    let all = (unit_tree laws u none).0.all in
    let here : (k == k) ≡ true = eq-eqb k k refl in
    rw (all, here) refl

has_root : (laws : UnitLaws) (units : List PlainUnit) (number k : ℕ) → AreWell units → number ≤ k → k < number + length units → list_any (is_of_unit k) (entries_in number units) ≡ true
has_root laws [] number k well from below = absurd (omega arith)
has_root laws (u ∷ us) number k well from below =
    list_any-append (is_of_unit k) (placed_entries (number, u)) (entries_in (number + 1) us)
    ∙ elim (cases_lt number k) [
      | inl lt ↦ or_right (list_any (is_of_unit k) (placed_entries (number, u))) (list_any (is_of_unit k) (entries_in (number + 1) us)) (has_root laws us (number + 1) k well.1 (omega arith) (omega arith))
      | inr le ↦
          let same : number ≡ k = omega arith in
          or_left (list_any (is_of_unit k) (placed_entries (number, u))) (list_any (is_of_unit k) (entries_in (number + 1) us)) (subst (λ (n : ℕ). list_any (is_of_unit k) (placed_entries (n, u)) ≡ true) (sym same) (root_there laws u k well.0))
    ]

abbrev begins_at : ℕ → TreeEntry → Bool
begins_at offset e = e.offset == offset

abbrev head_at : List PlainUnit → ℕ → Head
head_at units k = slice_index_or (map head_of units) k no_head

has_type : (laws : UnitLaws) (units : List PlainUnit) (number k s : ℕ) → AreWell units → (head_at units k).signature ≡ Some s
    → list_any (begins_at (head_at units k).type_entry) (entries_in number units) ≡ true
has_type laws [] number k s well is = absurd cc
has_type laws (u ∷ us) number zero s well is =
    list_any-append (begins_at u.type_entry) (placed_entries (number, u)) (entries_in (number + 1) us)
    ∙ or_left (list_any (begins_at u.type_entry) (placed_entries (number, u))) (list_any (begins_at u.type_entry) (entries_in (number + 1) us))
    (any-map (begins_at u.type_entry) (placed number) (entries_of u).items ∙ (unit_tree laws u well.0).1 (ap is_some is))
has_type laws (u ∷ us) number (suc k) s well is =
    list_any-append (begins_at (head_at us k).type_entry) (placed_entries (number, u)) (entries_in (number + 1) us)
    ∙ or_right (list_any (begins_at (head_at us k).type_entry) (placed_entries (number, u))) (list_any (begins_at (head_at us k).type_entry) (entries_in (number + 1) us))
    (has_type laws us (number + 1) k s well.1 is)

-- ---- the tree

ordered : (laws : UnitLaws) (units : List PlainUnit) (end : ℕ) → InOrder 1 end 0 0 (length units) (entries_in 0 units) → length (entries_in 0 units) < 2 ^ 32 → AreWell units
    → IsOrdered (tree (map head_of units) (entries_in 0 units))
unfolding root_of entry_of
ordered laws units end is few well =
    let entries = entries_in 0 units in
    let same : length (map head_of units) ≡ length units = length-map units head_of in
    record {
      count = few;
      positive = λ i inside. omega (arith, (each_inside 1 end 0 0 (length units) entries i is inside).on);
      offsets = λ i j before inside. offsets_ascend 1 end 0 0 (length units) entries i j is before inside;
      depths = λ i. let e : i + 1 ≡ suc i = omega arith in rw e (omega (arith, depths_grow 1 end 0 0 (length units) entries i is));
      units = λ i j before inside. units_rise 1 end 0 0 (length units) entries i j is before inside;
      known = λ i inside. omega (arith, same, (each_inside 1 end 0 0 (length units) entries i is inside).known);
      roots = λ k inside. position-any (is_of_unit k) entries (has_root laws units 0 k well (omega arith) (omega (arith, same, inside)));
      tops = tops_are_roots (tree (map head_of units) entries) (all_topped laws units) (λ i j before inside. units_rise 1 end 0 0 (length units) entries i j is before inside);
      types = λ k s signed. position-any (begins_at (head_at units k).type_entry) entries (has_type laws units 0 k s well signed);
    }

-- there are at most as many entries as bytes
pub tree_few : (laws : UnitLaws) (info abbrevs : List ℕ) → length (tree_of info abbrevs).entries ≤ length info
unfolding tree_of
tree_few laws info abbrevs =
    let high = length (units_of info abbrevs).items in
    let entries = entries_in 0 (units_of info abbrevs).items in
    let all = in_wider 1 (length info) 0 0 high 0 (length info) 0 0 high entries (omega arith) (omega arith) (omega arith) (omega arith) (omega arith) (units_in_order laws info abbrevs) in
    omega (arith, few_entries 0 (length info) 0 0 high entries all (omega arith))

pub tree_ordered : (laws : UnitLaws) (info abbrevs : List ℕ) → length info < 2 ^ 32 → entries_fault info abbrevs ≡ None → IsOrdered (tree_of info abbrevs)
unfolding tree_of entries_fault
tree_ordered laws info abbrevs small none =
    let few : length (entries_in 0 (units_of info abbrevs).items) ≤ length info = tree_few laws info abbrevs in
    ordered laws (units_of info abbrevs).items (length info) (units_in_order laws info abbrevs) (omega (arith, few, small))
    (all_well (units_of info abbrevs).items (units_of info abbrevs).end none)

-- each entry is at most one deeper than the one before it, and the first one is a root
pub tree_grows : (laws : UnitLaws) (info abbrevs : List ℕ) (i : ℕ) → depth_at (tree_of info abbrevs) (i + 1) ≤ depth_at (tree_of info abbrevs) i + 1
unfolding tree_of
tree_grows laws info abbrevs i =
    let e : i + 1 ≡ suc i = omega arith in
    rw e (omega (arith, depths_grow 1 (length info) 0 0 (length (units_of info abbrevs).items) (entries_in 0 (units_of info abbrevs).items) i (units_in_order laws info abbrevs)))

pub tree_begins : (laws : UnitLaws) (info abbrevs : List ℕ) → depth_at (tree_of info abbrevs) 0 ≡ 0
unfolding tree_of
tree_begins laws info abbrevs =
    omega (arith, first_depth 1 (length info) 0 0 (length (units_of info abbrevs).items) (entries_in 0 (units_of info abbrevs).items) (units_in_order laws info abbrevs))
