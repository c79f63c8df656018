-- The bits of the names of an entry's attributes.
use Rattle.std.proofs.Common.{◌*◌, ◌≡◌, ◌∙◌, ℕ, zero, suc, ◌+◌, ◌<◌, ◌≤◌, ◌^◌, ◌%◌, ◌/◌, false, List, [], ◌∷◌, length, get_or, None, refl, sym, ap, subst, arith, inl, inr}
use Rattle.std.specs.Prelude.{◌==◌, map, slice_index_or, take}
use Rattle.std.specs.Int.RustNames.{bit_or}
use Rattle.std.proofs.lemmas.Bool.{cases_Bool, eq-eqb, eqb-false, eqb-true}
use Rattle.std.proofs.lemmas.Nat.{or_shr, or_mod, or_comm, shl-shr}
use Rattle.std.proofs.lemmas.List.Elements.{All-cons, All-head, All-map, All-nil, All-tail}
use Rattle.abi_base.specs.Leb.{uleb_at}
use Rattle.abi_base.proofs.lemmas.Lists.{same_inside}
use Rattle.dwarf_forms.specs.declared.abbreviations.abbrev.Spec.{Spec}
use Rattle.dwarf_forms.specs.abbreviations.Abbrevs.{specs_run}
use Rattle.dwarf_forms.specs.Values.{value_at}
use Rattle.dwarf_units.specs.Units.{attribute_of}
use Rattle.std.proofs.lemmas.List.{get_or-map}
use Rattle.abi_base.proofs.lemmas.Cases.{option_cases, result_cases}
use Rattle.dwarf_tree.specs.declared.head.Head.{Head}
use Rattle.dwarf_tree.specs.declared.entry_records.AbbreviationLayout.{AbbreviationLayout}
use Rattle.dwarf_tree.specs.declared.entry_records.Slot.{Slot}
use Rattle.dwarf_tree.specs.declared.entry_records.EntryRecord.{EntryRecord}
use Rattle.dwarf_tree.specs.Keeping.{Attributes, HasName, HaveNames, IsLayout, LieInside, decoder, kept_by, kept_tree, bit_of, names_in, no_shape, plain_stored, shape_at, shaped, values_from, values_of}
use Rattle.dwarf_tree.specs.Trees.{TreeEntry, no_entry, no_head, own_of}

bit_at : (a b k : ℕ) → bit_or a b / 2 ^ k % 2 ≡ bit_or (a / 2 ^ k % 2) (b / 2 ^ k % 2)
bit_at a b k = ap (λ (n : ℕ). n % 2) (or_shr a b k) ∙ or_mod (a / 2 ^ k) (b / 2 ^ k) 1

one_or : (x : ℕ) → x < 2 → bit_or 1 x ≡ 1
one_or zero lt = refl
one_or (suc zero) lt = refl
one_or (suc (suc n)) lt = absurd (omega arith)

below_two : (n : ℕ) → n % 2 < 2
below_two n = omega arith

-- a bit that is set stays
pub name_stays : (names b name : ℕ) → HasName names name → HasName (bit_or names b) name
name_stays names b name is =
    bit_at names b (bit_of name) ∙ ap (λ (n : ℕ). bit_or n (b / 2 ^ bit_of name % 2)) is ∙ one_or (b / 2 ^ bit_of name % 2) (below_two (b / 2 ^ bit_of name))

own_bit : (k : ℕ) → 2 ^ k / 2 ^ k % 2 ≡ 1
own_bit k =
    let one : 2 ^ k ≡ 1 * 2 ^ k = omega arith in
    ap (λ (n : ℕ). n % 2) (ap (λ (m : ℕ). m / 2 ^ k) one ∙ shl-shr 1 k)

pub name_set : (names name : ℕ) → HasName (bit_or names (2 ^ bit_of name)) name
name_set names name =
    bit_at names (2 ^ bit_of name) (bit_of name)
    ∙ ap (λ (n : ℕ). bit_or (names / 2 ^ bit_of name % 2) n) (own_bit (bit_of name))
    ∙ or_comm (names / 2 ^ bit_of name % 2) 1
    ∙ one_or (names / 2 ^ bit_of name % 2) (below_two (names / 2 ^ bit_of name))

-- of the first attributes
abbrev pub FirstNames : ℕ → List Spec → ℕ → Type 0
FirstNames names specs k = (i : ℕ) (d : Spec) → i < k → i < length specs → HasName names (get_or specs i d).attribute

pub names_none : (specs : List Spec) → FirstNames 0 specs 0
names_none specs i d lt inside = absurd (omega arith)

pub names_more : (names : ℕ) (specs : List Spec) (k name : ℕ) → ((d : Spec) → (get_or specs k d).attribute ≡ name) → FirstNames names specs k
    → FirstNames (bit_or names (2 ^ bit_of name)) specs (k + 1)
names_more names specs k name here so_far i d lt inside =
    elim (cases_Bool (i == k)) [
      | inl is ↦ let same = eqb-true i k is in
          let at : (get_or specs i d).attribute ≡ name = ap (λ (j : ℕ). (get_or specs j d).attribute) same ∙ here d in
          subst (λ (n : ℕ). HasName (bit_or names (2 ^ bit_of name)) n) (sym at) (name_set names name)
      | inr isnt ↦ name_stays names (2 ^ bit_of name) (get_or specs i d).attribute (so_far i d (omega (arith, eqb-false i k isnt)) inside)
    ]

pub names_end : (names : ℕ) (specs : List Spec) (k : ℕ) → length specs ≤ k → FirstNames names specs k → HaveNames names (map (λ (s : Spec). s.attribute) specs)
names_end names specs k le so_far = All-map (HasName names) (λ (s : Spec). s.attribute) specs (λ i d lt. so_far i d (omega arith) lt)

-- an entry does not have an attribute whose bit is not set
pub not_there : (names : ℕ) (attributes : Attributes) (name : ℕ) → HaveNames names (names_in attributes) → (names / 2 ^ bit_of name % 2 == 1) ≡ false → attribute_of attributes name ≡ None
not_there names [] name have none = refl
not_there names (a ∷ others) name have none =
    elim (cases_Bool (a.0 == name)) [
      | inl is ↦ absurd (let same = eqb-true a.0 name is in
          let set : HasName names name = subst (λ (n : ℕ). HasName names n) same (All-head (HasName names) a.0 (names_in others) have) in
          let e = eq-eqb (names / 2 ^ bit_of name % 2) 1 set in
          let f = sym e ∙ none in cc)
      | inr apart ↦ let rest = not_there names others name (All-tail (HasName names) a.0 (names_in others) have) none in
          rw apart rest
    ]

-- ---- of an entry in the tree

-- values that are read belong to the first pairs
names_first : (names : ℕ) (info : List ℕ) (head : Head) (entry : ℕ) (specs : List Spec) (at : ℕ) → HaveNames names (map (λ (s : Spec). s.attribute) specs)
    → HaveNames names (names_in (values_from info head entry specs at))
unfolding values_from
names_first names info head entry [] at have = All-nil (HasName names)
names_first names info head entry (s ∷ specs) at have =
    result_cases (value_at s.form s.implicit head.offset head.end entry info at)
    (λ v is. rw is
    (All-cons (HasName names) s.attribute (names_in (values_from info head entry specs v.1)) (All-head (HasName names) s.attribute (map (λ (s : Spec). s.attribute) specs) have)
    (names_first names info head entry specs v.1 (All-tail (HasName names) s.attribute (map (λ (s : Spec). s.attribute) specs) have))))
    (λ f is. rw is (All-nil (HasName names)))

names_shaped : (info abbrevs : List ℕ) (slots : List Slot) (head : Head) (shape : AbbreviationLayout) (stored : EntryRecord) → IsLayout abbrevs slots shape → HaveNames shape.names (names_in (values_of info abbrevs head (shaped shape stored)))
unfolding values_of
names_shaped info abbrevs slots head shape stored say =
    option_cases (uleb_at (take head.end info) stored.offset)
    (λ is. rw is (All-nil (HasName shape.names)))
    (λ code is. rw is (names_first shape.names info head stored.offset (specs_run abbrevs shape.specs_from).items code.1 say.names))

pub asked_not : (info abbrevs : List ℕ) (units : List Head) (shapes : List AbbreviationLayout) (slots : List Slot) (entries : List EntryRecord) (e name : ℕ) (d : EntryRecord) (s : AbbreviationLayout) → e < length entries
    → LieInside info abbrevs units shapes slots entries → ((get_or shapes (get_or entries e d).shape s).names / 2 ^ bit_of name % 2 == 1) ≡ false
    → None ≡ own_of (kept_tree units shapes (decoder info abbrevs units) entries) e name
asked_not info abbrevs units shapes slots entries e name d s inside lie none =
    let stored = get_or entries e d in
    let there : stored.shape < length shapes = lie.shapes_there e d inside in
    let same : get_or shapes stored.shape s ≡ shape_at shapes stored.shape = same_inside shapes stored.shape s no_shape there in
    let shape = shape_at shapes stored.shape in
    let unset : (shape.names / 2 ^ bit_of name % 2 == 1) ≡ false = subst (λ (x : AbbreviationLayout). (x.names / 2 ^ bit_of name % 2 == 1) ≡ false) same none in
    sym (ap (λ (x : TreeEntry). attribute_of x.attributes name) (get_or-map (plain_stored shapes (decoder info abbrevs units)) entries e d no_entry inside)
    ∙ not_there shape.names (decoder info abbrevs units (kept_by shapes stored)) name
    (names_shaped info abbrevs slots (slice_index_or units shape.unit no_head) shape stored (lie.shapes_say stored.shape no_shape there)) unset)
