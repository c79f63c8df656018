-- Names that are texts of `.debug_str`.
use Rattle.std.proofs.Common.{◌≡◌, ◌∙◌, ℕ, List, true, Option, Some, None, refl, sym, ap}
use Rattle.std.specs.Prelude.{is_some}
use Rattle.std.specs.Option.{option_map_or}
use Rattle.abi_base.specs.declared.fault.Fault.{Fault}
use Rattle.abi_base.specs.Dwarf.{dw_at_name}
use Rattle.abi_base.specs.Numbers.{text_at}
use Rattle.abi_base.specs.Outcome.{or_end}
use Rattle.dwarf_forms.specs.declared.values.Value.{Value}
use Rattle.dwarf_forms.specs.declared.values.Value.TheVariants as value
use Rattle.dwarf_text.specs.Texts.{fault_of}
use Rattle.dwarf_tree.specs.Trees.{own_of}
use Rattle.dwarf_entries.specs.Addresses.{where_there}
use Rattle.dwarf_entries.specs.Chains.{known, known_text, name_of, own_text}
use Rattle.dwarf_entries.specs.Debug.{PlainDwarf, text_at_entry}
use Rattle.dwarf_entries.specs.Pass.{name_fault}
use Rattle.dwarf_entries.proofs.ChainLemmas.{holder_here}

known_there : (text : Option (List ℕ)) (f : Fault) → known (or_end text f) ≡ text
known_there None f = refl
known_there (Some t) f = refl

sound_there : (text : Option (List ℕ)) (f : Fault) (v : Value) → is_some text ≡ true → fault_of (where_there (λ (x : Value). or_end text f) (Some v)) ≡ None
sound_there None f v there = absurd cc
sound_there (Some t) f v there = refl

module _ (d : PlainDwarf) (e place : ℕ) (own : own_of d.tree e dw_at_name ≡ Some (value.StrOffset place)) where
  pub short_name : (text : Option (List ℕ)) → text ≡ text_at d.sections.str place → text ≡ name_of d e
  unfolding name_of text_at_entry
  short_name text is =
      is
      ∙ sym (ap (λ (o : Option ℕ). option_map_or (λ f. known_text (own_text d f dw_at_name)) o None) (holder_here d.tree e dw_at_name (value.StrOffset place) own)
      ∙ rw own (known_there (text_at d.sections.str place) _))

  pub short_sound : is_some (text_at d.sections.str place) ≡ true → name_fault d e ≡ None
  unfolding text_at_entry
  short_sound there = rw own (sound_there (text_at d.sections.str place) _ (value.StrOffset place) there)
