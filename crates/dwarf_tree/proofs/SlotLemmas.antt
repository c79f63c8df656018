-- The values of slots, and how slots are made.
use Rattle.std.proofs.Common.{◌≡◌, ◌≢◌, ◌∙◌, ◌+◌, ◌-◌, ℕ, ◌≤◌, List, [], ◌∷◌, ◌++◌, length, get_or, Option, Some, None, Ok, refl, sym, ap, subst, arith, inl, inr}
use Rattle.std.specs.Prelude.{ℤ, pos, take, nat_le}
use Rattle.std.proofs.lemmas.Bool.{cases_Bool, cases_lt, eq-eqb, leb-true}
use Rattle.std.proofs.lemmas.Option.{none-some, same_Some}
use Rattle.std.proofs.lemmas.List.{get_or_append_left, length_push}
use Rattle.std.proofs.Math.Seq.{get_or-append_seam}
use Rattle.dwarf_forms.specs.declared.abbreviations.abbrev.Spec.{Spec}
use Rattle.dwarf_forms.specs.abbreviations.Abbrevs.{specs_run}
use Rattle.abi_base.specs.Leb.{uleb_at}
use Rattle.abi_base.specs.Runs.{put_front}
use Rattle.dwarf_forms.specs.Values.{FixedSizesEnd, fixed_end_of, fixed_size_of, place_after, shape_of, value_at}
use Rattle.dwarf_units.specs.Units.{attribute_of}
use Rattle.dwarf_tree.specs.declared.head.Head.{Head}
use Rattle.dwarf_tree.specs.declared.entry_records.AbbreviationLayout.{AbbreviationLayout}
use Rattle.dwarf_tree.specs.declared.entry_records.Slot.{Slot}
use Rattle.dwarf_tree.specs.declared.entry_records.EntryRecord.{EntryRecord}
use Rattle.dwarf_tree.specs.Keeping.{AreSlots, Attributes, Extends, IsAsked, IsLayout, IsSlotFor, PassSame, bit_of, IsSlotOf, SlotLeadsTo, LieInside, NoneBefore, Passed, left_values, shaped, value_read, values_of}
use Rattle.dwarf_tree.proofs.AskLemmas.{EndAt, ask_start, left_front, pair_more, read_met}

-- ---- more slots

pub extends_self : (slots : List Slot) → Extends slots slots
extends_self slots = record { longer = omega arith; same = λ k d lt. refl }

pub extends_push : (slots others : List Slot) (slot : Slot) → Extends slots others → Extends slots (others ++ slot ∷ [])
extends_push slots others slot more = record {
  longer = omega (arith, more.longer, length_push others slot);
  same = λ k d lt. get_or_append_left others (slot ∷ []) d k (omega (arith, lt, more.longer)) ∙ more.same k d lt;
}

-- what holds of the attributes of slots holds where others are appended
none_still : (slots others : List Slot) (from to name : ℕ) → Extends slots others → to ≤ length slots → NoneBefore others from to name → NoneBefore slots from to name
none_still slots others from to name more inside none k d after before =
    subst (λ (slot : Slot). slot.attribute ≢ name) (more.same k d (omega (arith, before, inside))) (none k d after before)

slots_still : (abbrevs : List ℕ) (specs_from : ℕ) (slots others : List Slot) (from to : ℕ) → Extends slots others → to ≤ length slots → AreSlots abbrevs specs_from slots from to
    → AreSlots abbrevs specs_from others from to
slots_still abbrevs specs_from slots others from to more inside lead k d after before told asked none =
    let same = more.same k d (omega (arith, before, inside)) in
    let tells : (get_or slots k d).form ≢ 0 = subst (λ (slot : Slot). slot.form ≢ 0) same told in
    let asks : IsAsked (get_or slots k d).attribute = subst (λ (slot : Slot). IsAsked slot.attribute) same asked in
    let first : NoneBefore slots from k (get_or slots k d).attribute =
    none_still slots others from k (get_or slots k d).attribute more (omega (arith, before, inside))
    (subst (λ (slot : Slot). NoneBefore others from k slot.attribute) same none) in
    subst (λ (slot : Slot). SlotLeadsTo abbrevs specs_from slot) (sym same) (lead k d after before tells asks first)

say_still : (abbrevs : List ℕ) (slots others : List Slot) (shape : AbbreviationLayout) → Extends slots others → IsLayout abbrevs slots shape → IsLayout abbrevs others shape
say_still abbrevs slots others shape more say = record {
  names = say.names;
  slots_there = omega (arith, say.slots_there, more.longer);
  slots_lead = slots_still abbrevs shape.specs_from slots others shape.slots_from shape.slots_to more say.slots_there say.slots_lead;
}

pub lie_extended : (info abbrevs : List ℕ) (units : List Head) (shapes : List AbbreviationLayout) (slots others : List Slot) (entries : List EntryRecord) → Extends slots others
    → LieInside info abbrevs units shapes slots entries → LieInside info abbrevs units shapes others entries
lie_extended info abbrevs units shapes slots others entries more lie = record {
  units_there = lie.units_there;
  shapes_there = lie.shapes_there;
  shapes_few = lie.shapes_few;
  shapes_say = λ i d lt. say_still abbrevs slots others (get_or shapes i d) more (lie.shapes_say i d lt);
  ends_inside = lie.ends_inside;
}

-- ---- where values of a fixed size end

-- the size of the values, where one of them ends before a limit
pub record EndsBefore (size : Option ℕ) (limit at after : ℕ) : Type 0 where
  pub bytes : ℕ
  pub is : size ≡ Some bytes
  pub next : after ≡ at + bytes
  pub inside : bytes ≤ limit - at

pub ends_before : (size : Option ℕ) (limit at after : ℕ) → fixed_end_of size limit at ≡ Some after → EndsBefore size limit at after
ends_before None limit at after h = absurd (none-some after h)
ends_before (Some size) limit at after h =
    elim (cases_Bool (nat_le size (limit - at))) [
      | inl is ↦ let found = rw is at h in record { bytes = size; is = refl; next = sym (same_Some (at + size) after found); inside = leb-true size (limit - at) is }
      | inr isnt ↦ absurd (let none = rw isnt at h in none-some after none)
    ]

-- ---- the loop that skips pairs without a slot

pub passed_self : (abbrevs : List ℕ) (pairs : ℕ) → PassSame abbrevs pairs pairs
passed_self abbrevs pairs unit_end name at asked info head entry same fits = refl

pub passed_next : FixedSizesEnd → (abbrevs : List ℕ) (first pairs : ℕ) (s : Spec) (next : ℕ) → specs_run abbrevs pairs ≡ put_front s (specs_run abbrevs next)
    → bit_of s.attribute ≡ 63 → fixed_size_of (shape_of s.form) ≡ Some 0 → PassSame abbrevs pairs first → PassSame abbrevs next first
passed_next fixed_ends abbrevs first pairs s next h other sized so_far unit_end name at asked =
    let stays : at + 0 ≡ at = omega arith in
    let ends_at : EndAt s.form unit_end at at =
    λ implicit unit_start entry bytes fits.
    subst (λ (n : ℕ). place_after (value_at s.form implicit unit_start unit_end entry bytes at) ≡ Ok n) stays
    (fixed_ends s.form 0 implicit unit_start unit_end entry bytes at sized (omega arith) fits) in
    pair_more abbrevs unit_end name pairs at (first, at) s next at h ends_at (λ e. asked (ap bit_of (sym e) ∙ other)) (so_far unit_end name at asked)

pub passed_there : (abbrevs : List ℕ) (specs_from : ℕ) (slots : List Slot) (first pairs from next : ℕ) → PassSame abbrevs next pairs
    → Passed abbrevs specs_from slots first pairs from → Passed abbrevs specs_from slots first next from
passed_there abbrevs specs_from slots first pairs from next same so_far unit_end name at room asked none info head entry is fits =
    same unit_end name (at + from) asked info head entry is fits
    ∙ so_far unit_end name at room asked none info head entry is fits

-- ---- the loop that makes slots

module _ (abbrevs : List ℕ) (specs_from : ℕ) (slots : List Slot) (first pairs from : ℕ) (s : Spec) (next : ℕ) (slot : Slot)
    (is : IsSlotOf s from slot) (h : specs_run abbrevs pairs ≡ put_front s (specs_run abbrevs next))
    (inside : first ≤ length slots) (passed : Passed abbrevs specs_from slots first pairs from) where
  abbrev grown : List Slot
  grown = slots ++ slot ∷ []

  more : Extends slots grown
  more = extends_push slots slots slot (extends_self slots)

  passed_here : Passed abbrevs specs_from slots first pairs slot.from
  passed_here = subst (λ (n : ℕ). Passed abbrevs specs_from slots first pairs n) (sym is.from) passed

  new_leads : slot.form ≢ 0 → IsAsked slot.attribute → NoneBefore slots first (length slots) slot.attribute → SlotLeadsTo abbrevs specs_from slot
  new_leads tells asked none info head entry at fits room =
      let name = slot.attribute in
      let told = is.told tells in
      let r = value_at s.form s.implicit head.offset head.end entry info (at + slot.from) in
      ap (λ (form : ℕ). value_read (value_at form (pos 0) head.offset head.end entry info (at + slot.from))) told.0
      ∙ ap (λ (i : ℤ). value_read (value_at s.form i head.offset head.end entry info (at + slot.from))) (sym told.1)
      ∙ sym (read_met name s.attribute r (left_values info abbrevs head entry next) (eq-eqb s.attribute name (sym is.attribute)))
      ∙ ap (λ (l : Attributes). attribute_of l name) (sym (left_front info abbrevs head entry pairs (at + slot.from) s next h))
      ∙ passed_here head.end name at room asked none info head entry refl fits

  pub made_more : AreSlots abbrevs specs_from slots first (length slots) → AreSlots abbrevs specs_from (slots ++ slot ∷ []) first (length (slots ++ slot ∷ []))
  made_more lead k d after before told asked none =
      elim (cases_lt k (length slots)) [
        | inl lt ↦ slots_still abbrevs specs_from slots grown first (length slots) more (omega arith) lead k d after lt told asked none
        | inr ge ↦
            let last : k ≡ length slots = omega (arith, ge, before, length_push slots slot) in
            let here : get_or grown k d ≡ slot = ap (λ (n : ℕ). get_or grown n d) last ∙ get_or-append_seam slots slot [] d in
            let tells : slot.form ≢ 0 = subst (λ (x : Slot). x.form ≢ 0) here told in
            let asks : IsAsked slot.attribute = subst (λ (x : Slot). IsAsked x.attribute) here asked in
            let none_of : NoneBefore grown first k slot.attribute = subst (λ (x : Slot). NoneBefore grown first k x.attribute) here none in
            let none_here : NoneBefore grown first (length slots) slot.attribute = subst (λ (n : ℕ). NoneBefore grown first n slot.attribute) last none_of in
            subst (λ (x : Slot). SlotLeadsTo abbrevs specs_from x) (sym here) (new_leads tells asks (none_still slots grown first (length slots) slot.attribute more (omega arith) none_here))
      ]

  pub passed_more : FixedSizesEnd → (limit after : ℕ) → EndsBefore (fixed_size_of (shape_of s.form)) limit from after → Passed abbrevs specs_from (slots ++ slot ∷ []) first next after
  passed_more fixed_ends limit after ends unit_end name at room asked none =
      let longer : length grown ≡ length slots + 1 = length_push slots slot in
      let apart : slot.attribute ≢ name =
      subst (λ (x : Slot). x.attribute ≢ name) (get_or-append_seam slots slot [] slot) (none (length slots) slot inside (omega (arith, longer))) in
      let before : NoneBefore slots first (length slots) name =
      none_still slots grown first (length slots) name more (omega arith) (λ k d a b. none k d a (omega (arith, b, longer))) in
      let same : (at + from) + ends.bytes ≡ at + after = omega (arith, ends.next) in
      let ends_at : EndAt s.form unit_end (at + from) (at + after) =
      λ implicit unit_start entry bytes fits.
      subst (λ (n : ℕ). place_after (value_at s.form implicit unit_start unit_end entry bytes (at + from)) ≡ Ok n) same
      (fixed_ends s.form ends.bytes implicit unit_start unit_end entry bytes (at + from) ends.is (omega (arith, room, ends.next)) fits) in
      pair_more abbrevs unit_end name pairs (at + from) (specs_from, at) s next (at + after) h ends_at (λ e. apart (is.attribute ∙ e))
      (passed unit_end name at (omega (arith, room, ends.next)) asked before)

pub passed_none : (abbrevs : List ℕ) (specs_from : ℕ) (slots : List Slot) → Passed abbrevs specs_from slots (length slots) specs_from 0
passed_none abbrevs specs_from slots unit_end name at room asked none info head entry same fits =
    let here : at + 0 ≡ at = omega arith in
    ap (λ (n : ℕ). attribute_of (left_values info abbrevs head entry specs_from n) name) here

pub slots_none : (abbrevs : List ℕ) (specs_from : ℕ) (slots : List Slot) → AreSlots abbrevs specs_from slots (length slots) (length slots)
slots_none abbrevs specs_from slots k d after before told asked none = absurd (omega (arith, after, before))

-- ---- the value of a slot

slot_leads : (abbrevs : List ℕ) (specs_from : ℕ) (slots : List Slot) (from to name : ℕ) (slot : Slot) → IsSlotFor slots from to name slot → IsAsked name → slot.form ≢ 0
    → AreSlots abbrevs specs_from slots from to → SlotLeadsTo abbrevs specs_from slot
slot_leads abbrevs specs_from slots from to name slot found asked told lead =
    let tells : (get_or slots found.place slot).form ≢ 0 = subst (λ (s : Slot). s.form ≢ 0) found.is told in
    let asked_slot : IsAsked slot.attribute = subst IsAsked (sym found.named) asked in
    let asks : IsAsked (get_or slots found.place slot).attribute = subst (λ (s : Slot). IsAsked s.attribute) found.is asked_slot in
    let first : NoneBefore slots from found.place slot.attribute = subst (λ (n : ℕ). NoneBefore slots from found.place n) (sym found.named) found.first in
    let first_there : NoneBefore slots from found.place (get_or slots found.place slot).attribute = subst (λ (s : Slot). NoneBefore slots from found.place s.attribute) found.is first in
    subst (λ (s : Slot). SlotLeadsTo abbrevs specs_from s) (sym found.is) (lead found.place slot found.after found.before tells asks first_there)

pub slot_value : (info abbrevs : List ℕ) (slots : List Slot) (head : Head) (shape : AbbreviationLayout) (stored : EntryRecord) (name code after : ℕ) (slot : Slot)
    → head.end ≤ length info → IsLayout abbrevs slots shape → IsSlotFor slots shape.slots_from shape.slots_to name slot → IsAsked name → slot.form ≢ 0
    → uleb_at (take head.end info) stored.offset ≡ Some (code, after) → after + slot.from ≤ head.end
    → value_read (value_at slot.form (pos 0) head.offset head.end stored.offset info (after + slot.from)) ≡ attribute_of (values_of info abbrevs head (shaped shape stored)) name
slot_value info abbrevs slots head shape stored name code after slot fits say found asked told begins room =
    slot_leads abbrevs shape.specs_from slots shape.slots_from shape.slots_to name slot found asked told say.slots_lead info head stored.offset after fits room
    ∙ ap (λ (n : ℕ). attribute_of (left_values info abbrevs head stored.offset shape.specs_from after) n) found.named
    ∙ ask_start info abbrevs head (shaped shape stored) name code after begins
