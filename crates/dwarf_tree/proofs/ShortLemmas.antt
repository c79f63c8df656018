-- The values that a number of four bytes encodes.
use Rattle.std.proofs.Common.{◌≡◌, ◌≢◌, ◌∙◌, ◌+◌, ◌≤◌, ◌%◌, ◌^◌, ℕ, List, Option, Some, None, length, arith, refl, sym, ap}
use Rattle.std.specs.Prelude.{IfSome, pos, take}
use Rattle.std.proofs.lemmas.List.{length-take-le}
use Rattle.abi_base.proofs.lemmas.Numbers.{number_inside}
use Rattle.abi_base.specs.Dwarf.{dw_form_ref4, dw_form_strp}
use Rattle.abi_base.specs.Leb.{uleb_at}
use Rattle.abi_base.specs.Numbers.{number_at}
use Rattle.dwarf_forms.specs.declared.values.Value.TheVariants as value
use Rattle.dwarf_forms.specs.Values.{Refers, forms, from_unit, shape_of, value_at, value_of}
use Rattle.dwarf_units.specs.Units.{attribute_of}
use Rattle.dwarf_tree.specs.declared.head.Head.{Head}
use Rattle.dwarf_tree.specs.declared.entry_records.EntryHead.{EntryHead}
use Rattle.dwarf_tree.specs.declared.entry_records.AbbreviationLayout.{AbbreviationLayout}
use Rattle.dwarf_tree.specs.declared.entry_records.Slot.{Slot}
use Rattle.dwarf_tree.specs.declared.entry_records.EntryRecord.{EntryRecord}
use Rattle.dwarf_tree.specs.Keeping.{IsAsked, IsLayout, IsSlotFor, SpellsNumber, shaped, value_read, values_of}
use Rattle.dwarf_tree.proofs.SlotLemmas.{slot_value}

-- where the form of a slot is known, the number at its place encodes the value
pub spelled_short : (info abbrevs : List ℕ) (slots : List Slot) (head : Head) (shape : AbbreviationLayout) (stored : EntryRecord) (name code after : ℕ) (slot : Slot)
    → head.end ≤ length info → IsLayout abbrevs slots shape → IsSlotFor slots shape.slots_from shape.slots_to name slot → IsAsked name
    → (form : ℕ) → slot.form ≡ form → form ≢ 0
    → uleb_at (take head.end info) stored.offset ≡ Some (code, after)
    → (read : Option ℕ) → read ≡ number_at 4 (take head.end info) (after + slot.from) → IfSome read (SpellsNumber info abbrevs head (shaped shape stored) name form)
spelled_short info abbrevs slots head shape stored name code after slot fits say found asked form is told begins None read = tt
spelled_short info abbrevs slots head shape stored name code after slot fits say found asked form is told begins (Some n) read =
    let inside : after + slot.from + 4 ≤ length (take head.end info) = number_inside 4 (take head.end info) (after + slot.from) n (sym read) in
    let room : after + slot.from ≤ head.end = omega (arith, inside, length-take-le head.end info fits) in
    let tells : slot.form ≢ 0 = λ e. told (sym is ∙ e) in
    record {
      place = after + slot.from;
      number = sym read;
      value =
          ap (λ (f : ℕ). value_read (value_at f (pos 0) head.offset head.end stored.offset info (after + slot.from))) (sym is)
          ∙ slot_value info abbrevs slots head shape stored name code after slot fits say found asked tells begins room;
    }

module _ (info abbrevs : List ℕ) (head : Head) (kept : EntryHead) (name n : ℕ) where
  pub refers_short : Refers dw_form_ref4 4 from_unit → SpellsNumber info abbrevs head kept name dw_form_ref4 n
      → attribute_of (values_of info abbrevs head kept) name ≡ Some (value.Reference ((n + head.offset) % 2 ^ 64))
  refers_short refers spells =
      sym spells.value ∙ ap value_read (refers (pos 0) head.offset head.end kept.offset info spells.place n spells.number)

  pub text_short : SpellsNumber info abbrevs head kept name dw_form_strp n → attribute_of (values_of info abbrevs head kept) name ≡ Some (value.StrOffset n)
  unfolding value_at value_of shape_of forms
  text_short spells = sym spells.value ∙ rw spells.number refl
