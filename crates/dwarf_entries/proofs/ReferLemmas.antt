-- What references refer to.
use Rattle.std.proofs.Common.{◌≡◌, ◌<◌, ◌+◌, arith, ℕ, Option, Some, None, length, refl, sym, ◌∙◌, ap, subst}
use Rattle.std.specs.Prelude.{find, IfSome}
use Rattle.std.specs.List.{range_with_len}
use Rattle.std.specs.Option.{option_map_or}
use Rattle.dwarf_tree.specs.Trees.{PlainTree, entry_of, head_at}
use Rattle.abi_base.proofs.lemmas.Places.{places}
use Rattle.dwarf_entries.specs.Debug.{PlainDwarf}
use Rattle.dwarf_entries.specs.Chains.{signed_of}
use Rattle.dwarf_entries.specs.Addresses.{is_typed_at, typed_of}
use Rattle.dwarf_entries.proofs.PlaceLemmas.{find_inside}
use Rattle.dwarf_entries.specs.Places.{Places, place_under, HoldUnits}

-- ---- what is found is inside

abbrev pub Inside : PlainTree → Option ℕ → Type 0
Inside t o = IfSome o (λ e. e < length t.entries)

inside_from : (t : PlainTree) (o : Option ℕ) → ((e : ℕ) → o ≡ Some e → e < length t.entries) → Inside t o
inside_from t None inside = tt
inside_from t (Some e) inside = inside e refl

-- ---- signatures

pub signed_there : (places : Places) (t : PlainTree) (signature unit : ℕ) → HoldUnits places t → Some unit ≡ place_under places signature
    → signed_of t signature ≡ entry_of t (head_at t unit).type_entry
unfolding signed_of
signed_there places t signature unit holds is =
    ap (λ (o : Option ℕ). option_map_or (λ k. entry_of t (head_at t k).type_entry) o None) (sym (is ∙ holds.first signature))

pub signed_nowhere : (places : Places) (t : PlainTree) (signature : ℕ) → HoldUnits places t → None ≡ place_under places signature → signed_of t signature ≡ None
unfolding signed_of
signed_nowhere places t signature holds is =
    ap (λ (o : Option ℕ). option_map_or (λ k. entry_of t (head_at t k).type_entry) o None) (sym (is ∙ holds.first signature))

-- ---- the entry for an address

pub typed_inside : (d : PlainDwarf) (address : ℕ) (found : Option ℕ) → found ≡ typed_of d address → Inside d.tree found
unfolding typed_of
typed_inside d address found is =
    subst (Inside d.tree) (sym is)
    (inside_from d.tree (find (is_typed_at d address) (range_with_len 0 (length d.tree.entries))) (λ e here. let lt : e < 0 + length d.tree.entries = find_inside (is_typed_at d address) 0 (length d.tree.entries) e here in omega arith))
