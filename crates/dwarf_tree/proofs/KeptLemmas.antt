-- One more unit, or one more entry, in the lists of a tree.
use Rattle.std.proofs.Common.{◌≡◌, ◌∙◌, ℕ, ◌+◌, ◌<◌, ◌≤◌, List, [], ◌∷◌, ◌++◌, length, refl, sym, ap, subst, arith, inl, inr}
use Rattle.std.specs.Prelude.{All, map, slice_index_or, Option, Result, Ok}
use Rattle.std.proofs.lemmas.List.{map_push, get_or_append_left, length_push}
use Rattle.std.proofs.lemmas.List.Elements.{All-head, All-push, All-tail}
use Rattle.abi_base.proofs.lemmas.Cases.{result_cases, same_Ok}
use Rattle.abi_base.specs.declared.fault.Fault.{Fault}
use Rattle.dwarf_forms.specs.declared.abbreviations.abbrev.Spec.{Spec}
use Rattle.dwarf_forms.specs.abbreviations.Abbrevs.{specs_run}
use Rattle.dwarf_forms.specs.declared.values.Value.{Value}
use Rattle.dwarf_forms.specs.Values.{value_at}
use Rattle.dwarf_units.specs.declared.entry.Entry.{Entry}
use Rattle.dwarf_units.specs.ValuePlaces.{IsTold}
use Rattle.dwarf_units.specs.Units.{PlainUnit, values_at}
use Rattle.dwarf_tree.specs.declared.head.Head.{Head}
use Rattle.dwarf_tree.specs.declared.entry_records.EntryHead.{EntryHead}
use Rattle.dwarf_tree.specs.declared.entry_records.AbbreviationLayout.{AbbreviationLayout}
use Rattle.dwarf_tree.specs.declared.entry_records.Slot.{Slot}
use Rattle.dwarf_tree.specs.declared.entry_records.EntryRecord.{EntryRecord}
use Rattle.dwarf_tree.specs.Keeping.{Attributes, HaveNames, IsLayout, IsLayoutOf, IsStored, LieInside, LayoutTable, Decoder, value_before, values_from, left_values, behind, values_of, decoder, plain_entry, plain_stored, plain_entries, kept_of, kept_by, names_in, no_shape, pair_names, shape_at, shaped, stored_of, unit_in}
use Rattle.dwarf_tree.specs.Trees.{TreeEntry, head_of, no_head, placed}

-- ---- one more unit

module _ (info abbrevs : List ℕ) (units more : List Head) where
  head_stays : (k : EntryHead) → k.unit < length units → decoder info abbrevs (units ++ more) k ≡ decoder info abbrevs units k
  head_stays k inside = ap (λ (h : Head). values_of info abbrevs h k) (get_or_append_left units more no_head k.unit inside)

  pub entries_stay : (shapes : List AbbreviationLayout) (entries : List EntryRecord) → All (λ (stored : EntryRecord). unit_in shapes stored < length units) entries
      → plain_entries shapes (decoder info abbrevs (units ++ more)) entries ≡ plain_entries shapes (decoder info abbrevs units) entries
  entries_stay shapes [] inside = refl
  entries_stay shapes (stored ∷ entries) inside =
      let k = kept_by shapes stored in
      let here : plain_stored shapes (decoder info abbrevs (units ++ more)) stored ≡ plain_stored shapes (decoder info abbrevs units) stored =
      ap (λ (part : Attributes). let e : TreeEntry = record { offset = k.offset; depth = k.depth; tag = k.tag; attributes = part; unit = k.unit } in e)
      (head_stays k (All-head (λ (stored : EntryRecord). unit_in shapes stored < length units) stored entries inside)) in
      let others = entries_stay shapes entries (All-tail (λ (stored : EntryRecord). unit_in shapes stored < length units) stored entries inside) in
      cc

-- ---- one more shape

pub shapes_stay : (shapes more : List AbbreviationLayout) (attributes : Decoder) (entries : List EntryRecord) → All (λ (stored : EntryRecord). stored.shape < length shapes) entries
    → plain_entries (shapes ++ more) attributes entries ≡ plain_entries shapes attributes entries
shapes_stay shapes more attributes [] inside = refl
shapes_stay shapes more attributes (stored ∷ entries) inside =
    let here : plain_stored (shapes ++ more) attributes stored ≡ plain_stored shapes attributes stored =
    ap (λ (shape : AbbreviationLayout). plain_entry attributes (shaped shape stored))
    (get_or_append_left shapes more no_shape stored.shape (All-head (λ (stored : EntryRecord). stored.shape < length shapes) stored entries inside)) in
    let others = shapes_stay shapes more attributes entries (All-tail (λ (stored : EntryRecord). stored.shape < length shapes) stored entries inside) in
    cc

-- ---- one more entry

pub entry_pushed : (attributes : Decoder) (shapes : List AbbreviationLayout) (entries : List EntryRecord) (shape unit : ℕ) (e : Entry) → IsLayoutOf (shape_at shapes shape) unit e
    → attributes (kept_of (shape_at shapes shape).names unit e) ≡ e.attributes
    → plain_entries shapes attributes (entries ++ stored_of shape e ∷ []) ≡ plain_entries shapes attributes entries ++ placed unit e ∷ []
entry_pushed attributes shapes entries shape unit e of is =
    let s = shape_at shapes shape in
    let same : kept_by shapes (stored_of shape e) ≡ kept_of s.names unit e =
    ap (λ (tag : ℕ). let k : EntryHead = record { tag = tag; offset = e.offset; specs_from = s.specs_from; depth = e.depth; unit = s.unit; names = s.names } in k) of.tag
    ∙ ap (λ (from : ℕ). let k : EntryHead = record { tag = e.tag; offset = e.offset; specs_from = from; depth = e.depth; unit = s.unit; names = s.names } in k) of.place
    ∙ ap (λ (number : ℕ). let k : EntryHead = record { tag = e.tag; offset = e.offset; specs_from = e.specs_from; depth = e.depth; unit = number; names = s.names } in k) of.unit_is in
    map_push (plain_stored shapes attributes) entries (stored_of shape e)
    ∙ ap (λ (k : EntryHead). plain_entries shapes attributes entries ++ plain_entry attributes k ∷ []) same
    ∙ ap (λ (part : Attributes). let x : TreeEntry = record { offset = e.offset; depth = e.depth; tag = e.tag; attributes = part; unit = unit } in plain_entries shapes attributes entries ++ x ∷ []) is

-- the tables of shapes before and after an entry is stored
module _ (abbrevs : List ℕ) (unit : ℕ) (e : Entry) (shapes : List AbbreviationLayout) (grown : LayoutTable) (entries stored : List EntryRecord) (is : IsStored abbrevs unit e shapes grown entries stored) where
  -- earlier stored entries stay the same
  stored_stay : (attributes : Decoder) → All (λ (stored : EntryRecord). stored.shape < length shapes) entries
      → plain_entries grown.shapes attributes entries ≡ plain_entries shapes attributes entries
  stored_stay attributes inside =
      elim is.shapes_are [
        | inl same ↦ ap (λ (l : List AbbreviationLayout). plain_entries l attributes entries) same
        | inr new ↦ ap (λ (l : List AbbreviationLayout). plain_entries l attributes entries) new.pushed ∙ shapes_stay shapes (new.shape ∷ []) attributes entries inside
      ]

  -- the tree after an entry was stored
  pub tree_stored : (info : List ℕ) (units : List Head) (slots : List Slot) → LieInside info abbrevs units shapes slots entries → decoder info abbrevs units (kept_of 0 unit e) ≡ e.attributes
      → plain_entries grown.shapes (decoder info abbrevs units) stored ≡ plain_entries shapes (decoder info abbrevs units) entries ++ placed unit e ∷ []
  unfolding values_of
  tree_stored info units slots lie values =
      let attributes = decoder info abbrevs units in
      ap (λ (l : List EntryRecord). plain_entries grown.shapes attributes l) is.pushed
      ∙ entry_pushed attributes grown.shapes entries is.shape unit e is.of values
      ∙ ap (λ (l : List TreeEntry). l ++ placed unit e ∷ []) (stored_stay attributes lie.shapes_there)

  shapes_more : length shapes ≤ length grown.shapes
  shapes_more =
      elim is.shapes_are [
        | inl same ↦ omega (arith, ap (λ (l : List AbbreviationLayout). length l) same)
        | inr new ↦ omega (arith, ap (λ (l : List AbbreviationLayout). length l) new.pushed, length_push shapes new.shape)
      ]

  shapes_still_few : length shapes ≤ length entries → length grown.shapes ≤ length stored
  shapes_still_few few =
      let more : length stored ≡ length entries + 1 = ap (λ (l : List EntryRecord). length l) is.pushed ∙ length_push entries (stored_of is.shape e) in
      elim is.shapes_are [
        | inl same ↦ omega (arith, more, few, ap (λ (l : List AbbreviationLayout). length l) same)
        | inr new ↦ omega (arith, more, few, ap (λ (l : List AbbreviationLayout). length l) new.pushed, length_push shapes new.shape)
      ]

  shapes_still_say : pair_names abbrevs e.specs_from ≡ names_in e.attributes → All (IsLayout abbrevs grown.slots) shapes → All (IsLayout abbrevs grown.slots) grown.shapes
  shapes_still_say names say =
      elim is.shapes_are [
        | inl same ↦ subst (λ (l : List AbbreviationLayout). All (IsLayout abbrevs grown.slots) l) (sym same) say
        | inr new ↦
            let of_pairs : pair_names abbrevs new.shape.specs_from ≡ names_in e.attributes = ap (λ (from : ℕ). pair_names abbrevs from) new.of.place ∙ names in
            let here : IsLayout abbrevs grown.slots new.shape = record {
              names = subst (λ (l : List ℕ). HaveNames new.shape.names l) (sym of_pairs) new.names;
              slots_there = new.slots_there;
              slots_lead = new.slots_lead;
            } in
            subst (λ (l : List AbbreviationLayout). All (IsLayout abbrevs grown.slots) l) (sym new.pushed) (All-push (IsLayout abbrevs grown.slots) shapes new.shape say here)
      ]

  -- each shape belongs to a unit of the tree, the new one too
  shapes_still_there : (units : List Head) → unit < length units → All (λ (shape : AbbreviationLayout). shape.unit < length units) shapes → All (λ (shape : AbbreviationLayout). shape.unit < length units) grown.shapes
  shapes_still_there units inside there =
      elim is.shapes_are [
        | inl same ↦ subst (λ (l : List AbbreviationLayout). All (λ (shape : AbbreviationLayout). shape.unit < length units) l) (sym same) there
        | inr new ↦ subst (λ (l : List AbbreviationLayout). All (λ (shape : AbbreviationLayout). shape.unit < length units) l) (sym new.pushed)
            (All-push (λ (shape : AbbreviationLayout). shape.unit < length units) shapes new.shape there (omega (arith, inside, new.of.unit_is)))
      ]

  -- a stored entry has its place, as the earlier ones have
  pub lie_stored : (info : List ℕ) (units : List Head) → LieInside info abbrevs units shapes grown.slots entries → unit < length units → pair_names abbrevs e.specs_from ≡ names_in e.attributes
      → LieInside info abbrevs units grown.shapes grown.slots stored
  lie_stored info units lie inside names =
      let entry = stored_of is.shape e in
      record {
        units_there = shapes_still_there units inside lie.units_there;
        shapes_there = subst (λ (l : List EntryRecord). All (λ (stored : EntryRecord). stored.shape < length grown.shapes) l) (sym is.pushed)
            (All-push (λ (stored : EntryRecord). stored.shape < length grown.shapes) entries entry (λ i d lt. omega (arith, shapes_more, lie.shapes_there i d lt)) is.there);
        shapes_few = shapes_still_few lie.shapes_few;
        shapes_say = shapes_still_say names lie.shapes_say;
        ends_inside = lie.ends_inside;
      }

-- ---- the values of an entry are those in its bytes

values_same : (u : PlainUnit) (entry : ℕ) (specs : List Spec) (at : ℕ) (r : Attributes × ℕ) → values_at u entry specs at ≡ Ok r → values_from u.info (head_of u) entry specs at ≡ r.0
unfolding values_at values_from
values_same u entry [] at r h = ap (λ (p : Attributes × ℕ). p.0) (same_Ok ([], at) r h)
values_same u entry (s ∷ specs) at r h =
    result_cases (value_at s.form s.implicit u.offset u.end entry u.info at)
    (λ v is. let h1 = rw is at h in
    result_cases (values_at u entry specs v.1)
    (λ w js. let h2 = rw js at h1 in
    let same = ap (λ (p : Attributes × ℕ). p.0) (same_Ok ((s.attribute, v.0) ∷ w.0, w.1) r h2) in
    ap (λ (x : Result (Value × ℕ) Fault). value_before s.attribute x (values_from u.info (head_of u) entry specs)) is
    ∙ ap (λ (l : Attributes). (s.attribute, v.0) ∷ l) (values_same u entry specs v.1 w js)
    ∙ same)
    (λ e js. absurd (let g = rw js at h1 in cc)))
    (λ e is. absurd (let g = rw is at h in cc))

pub told_values : (info abbrevs : List ℕ) (units : List Head) (k : ℕ) (u : PlainUnit) (e : Entry) → u.info ≡ info → slice_index_or units k no_head ≡ head_of u
    → IsTold abbrevs u e → decoder info abbrevs units (kept_of 0 k e) ≡ e.attributes
unfolding values_of
told_values info abbrevs units k u e same head told =
    ap (λ (h : Head). values_of info abbrevs h (kept_of 0 k e)) head
    ∙ ap (λ (i : List ℕ). values_of i abbrevs (head_of u) (kept_of 0 k e)) (sym same)
    ∙ ap (λ (o : Option (ℕ × ℕ)). behind o (left_values u.info abbrevs (head_of u) e.offset e.specs_from)) told.begins
    ∙ values_same u e.offset (specs_run abbrevs e.specs_from).items told.code.1 (e.attributes, told.after) told.values

-- the attributes of such an entry are those of its pairs
named_alike : (u : PlainUnit) (entry : ℕ) (specs : List Spec) (at : ℕ) (r : Attributes × ℕ) → values_at u entry specs at ≡ Ok r
    → map (λ (s : Spec). s.attribute) specs ≡ names_in r.0
unfolding values_at
named_alike u entry [] at r h = ap (λ (p : Attributes × ℕ). names_in p.0) (same_Ok ([], at) r h)
named_alike u entry (s ∷ specs) at r h =
    result_cases (value_at s.form s.implicit u.offset u.end entry u.info at)
    (λ v is. let h1 = rw is at h in
    result_cases (values_at u entry specs v.1)
    (λ w js. let h2 = rw js at h1 in
    ap (λ (names : List ℕ). s.attribute ∷ names) (named_alike u entry specs v.1 w js)
    ∙ ap (λ (p : Attributes × ℕ). names_in p.0) (same_Ok ((s.attribute, v.0) ∷ w.0, w.1) r h2))
    (λ f js. absurd (let g = rw js at h1 in cc)))
    (λ f is. absurd (let g = rw is at h in cc))

pub told_names : (abbrevs : List ℕ) (u : PlainUnit) (e : Entry) → IsTold abbrevs u e → pair_names abbrevs e.specs_from ≡ names_in e.attributes
told_names abbrevs u e told = named_alike u e.offset (specs_run abbrevs e.specs_from).items told.code.1 (e.attributes, told.after) told.values
