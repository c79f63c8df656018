-- The order of a tree, in the lists of the code.
use Rattle.std.proofs.Common.{◌≡◌, ◌∙◌, ℕ, ◌<◌, List, length, get_or, Option, Some, ap, subst, arith}
use Rattle.std.specs.Prelude.{IsSome, position, ◌==◌}
use Rattle.std.proofs.lemmas.List.{get_or-map, length-map}
use Rattle.std.proofs.lemmas.List.Quantifiers.{position-Some}
use Rattle.dwarf_tree.specs.declared.head.Head.{Head}
use Rattle.dwarf_tree.specs.declared.entry_records.EntryRecord.{EntryRecord}
use Rattle.dwarf_tree.specs.declared.entry_records.AbbreviationLayout.{AbbreviationLayout}
use Rattle.dwarf_tree.specs.Keeping.{Decoder, plain_stored, plain_entries, kept_tree, Ascend, UnitsRise, unit_in}
use Rattle.dwarf_tree.specs.Trees.{TreeEntry, PlainTree, no_entry, root_of, IsOrdered}
use Rattle.dwarf_tree.proofs.Places.{position-map}

module _ (units : List Head) (shapes : List AbbreviationLayout) (attributes : Decoder) (entries : List EntryRecord) (order : IsOrdered (kept_tree units shapes attributes entries)) where
  same_entry : (i : ℕ) (d : EntryRecord) → i < length entries → get_or (plain_entries shapes attributes entries) i no_entry ≡ plain_stored shapes attributes (get_or entries i d)
  same_entry i d inside = get_or-map (plain_stored shapes attributes) entries i d no_entry inside

  same_count : length (plain_entries shapes attributes entries) ≡ length entries
  same_count = length-map entries (plain_stored shapes attributes)

  pub ascends : Ascend entries
  ascends i j d before inside =
      let here : (get_or (plain_entries shapes attributes entries) i no_entry).offset ≡ (get_or entries i d).offset = ap (λ (e : TreeEntry). e.offset) (same_entry i d (omega arith)) in
      let there : (get_or (plain_entries shapes attributes entries) j no_entry).offset ≡ (get_or entries j d).offset = ap (λ (e : TreeEntry). e.offset) (same_entry j d inside) in
      omega (arith, here, there, order.offsets i j before (omega (arith, same_count)))

  pub units_rise : UnitsRise shapes entries
  units_rise i j d before inside =
      let here : (get_or (plain_entries shapes attributes entries) i no_entry).unit ≡ unit_in shapes (get_or entries i d) = ap (λ (e : TreeEntry). e.unit) (same_entry i d (omega arith)) in
      let there : (get_or (plain_entries shapes attributes entries) j no_entry).unit ≡ unit_in shapes (get_or entries j d) = ap (λ (e : TreeEntry). e.unit) (same_entry j d inside) in
      omega (arith, here, there, order.units i j before (omega (arith, same_count)))

  -- the root of a unit, among the entries of the tree
  root_kept : (unit : ℕ) → root_of (kept_tree units shapes attributes entries) unit ≡ position (λ stored. unit_in shapes stored == unit) entries
  unfolding root_of
  root_kept unit = position-map (λ e. e.unit == unit) (plain_stored shapes attributes) entries

  pub root_there : (unit : ℕ) → unit < length units → IsSome (position (λ (stored : EntryRecord). unit_in shapes stored == unit) entries)
  root_there unit inside = subst (λ (o : Option ℕ). IsSome o) (root_kept unit) (order.roots unit inside)

  pub root_is : (unit i : ℕ) → position (λ (stored : EntryRecord). unit_in shapes stored == unit) entries ≡ Some i → root_of (kept_tree units shapes attributes entries) unit ≡ Some i
  root_is unit i is = root_kept unit ∙ is

-- a root is an entry
pub root_inside : (t : PlainTree) (unit i : ℕ) → root_of t unit ≡ Some i → i < length t.entries
unfolding root_of
root_inside t unit i is = (position-Some (λ e. e.unit == unit) t.entries i no_entry is).0
