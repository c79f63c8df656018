-- What references lead to is inside.
use Rattle.std.proofs.Common.{◌≡◌, ◌<◌, ℕ, Option, Some, None, length, refl}
use Rattle.std.specs.Prelude.{IfSome, position, ◌==◌}
use Rattle.std.specs.Option.{option_map_or}
use Rattle.std.proofs.lemmas.List.Quantifiers.{position-Some}
use Rattle.dwarf_forms.specs.declared.values.Value.{Value}
use Rattle.dwarf_forms.specs.declared.values.Value.TheVariants as value
use Rattle.dwarf_tree.specs.Trees.{PlainTree, entry_of, head_at, no_entry}
use Rattle.dwarf_entries.specs.Chains.{signed_of, target_of, attribute_along, has_signature}
use Rattle.type_reach.specs.References.{type_of, type_attribute, is_signed}

abbrev pub Inside : PlainTree → Option ℕ → Type 0
Inside t o = IfSome o (λ e. e < length t.entries)

inside_from : (t : PlainTree) (o : Option ℕ) → ((e : ℕ) → o ≡ Some e → e < length t.entries) → Inside t o
inside_from t None inside = tt
inside_from t (Some e) inside = inside e refl

pub entry_inside : (t : PlainTree) (offset : ℕ) → Inside t (entry_of t offset)
unfolding entry_of
entry_inside t offset =
    inside_from t (entry_of t offset) (λ e is. (position-Some (λ x. x.offset == offset) t.entries e no_entry is).0)

over_unit : (t : PlainTree) (o : Option ℕ) → Inside t (option_map_or (λ unit. entry_of t (head_at t unit).type_entry) o None)
over_unit t None = tt
over_unit t (Some unit) = entry_inside t (head_at t unit).type_entry

target_inside : (t : PlainTree) (v : Value) → Inside t (target_of t v)
unfolding signed_of
target_inside t (value.Reference offset) = entry_inside t offset
target_inside t (value.Signature signature) = over_unit t (position (has_signature signature) t.units)
target_inside t other = tt

over_value : (t : PlainTree) (o : Option Value) → Inside t (option_map_or (target_of t) o None)
over_value t None = tt
over_value t (Some v) = target_inside t v

pub type_inside : (t : PlainTree) (e : ℕ) → Inside t (type_of t e)
unfolding type_of
type_inside t e = over_value t (attribute_along t e (type_attribute (is_signed t e)))
