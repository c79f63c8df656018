-- Members without a name.
use Rattle.std.proofs.Common.{◌≡◌, ℕ, true, not, Option, Some, None, refl, ◌∙◌, ap}
use Rattle.std.specs.Prelude.{is_some, is_none}
use Rattle.abi_base.specs.Dwarf.{dw_tag_member, dw_at_name}
use Rattle.dwarf_entries.specs.Chains.{attribute_along, is_read_tag, name_of}
use Rattle.dwarf_entries.specs.Debug.{PlainDwarf}
use Rattle.type_reach.specs.Values.{is_there}
use Rattle.type_reach.specs.Placement.{is_nameless}

pub member-is-read : (tag : ℕ) → tag ≡ dw_tag_member → is_read_tag tag ≡ true
unfolding is_read_tag
member-is-read tag is = rw is refl

none-or-some : {X : Type 0} (x : Option X) → not (is_some x) ≡ is_none x
none-or-some None = refl
none-or-some (Some x) = refl

pub without-name : (d : PlainDwarf) (m : ℕ) → is_some (attribute_along d.tree m dw_at_name) ≡ is_some (name_of d m) → not (is_there d.tree m dw_at_name) ≡ is_nameless d m
unfolding is_there is_nameless
without-name d m same = ap not same ∙ none-or-some (name_of d m)
