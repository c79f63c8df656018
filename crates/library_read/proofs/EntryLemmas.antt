-- Each export has the first entry that stands for its address.
use Rattle.std.proofs.Common.{◌≡◌, ◌<◌, ℕ, Bool, true, false, cond, List, length, map, get_or, Option, Some, None, refl, sym, ap}
use Rattle.std.specs.Prelude.{All}
use Rattle.std.proofs.lemmas.List.Elements.{All-map}
use Rattle.abi_types.specs.Exports.{PlainExport}
use Rattle.dwarf_entries.specs.Addresses.{is_typed_at, typed_of}
use Rattle.dwarf_entries.specs.Debug.{PlainDwarf}
use Rattle.dwarf_entries.specs.First.{IsFirstEntry}
use Rattle.dwarf_tree.specs.Trees.{IsOrdered}
use Rattle.type_reach.specs.Views.{offset_of}
use Rattle.library_read.specs.Debug.{debug_of}
use Rattle.library_read.specs.Exports.{entry_for, has_address, typed, typed_exports_of, untyped_exports_of}
use Rattle.library_read.specs.Laws.{HasItsEntry}

-- what the law of typed entries promises
abbrev pub FirstIsFound : Type 0
FirstIsFound = (d : PlainDwarf) (address e : ℕ) → IsOrdered d.tree → typed_of d address ≡ Some e → IsFirstEntry d.tree (is_typed_at d address) e

abbrev pub NoneIsThere : Type 0
NoneIsThere = (d : PlainDwarf) (address e : ℕ) → typed_of d address ≡ None → e < length d.tree.entries → is_typed_at d address e ≡ false

some-if : (b : Bool) (o : Option ℕ) (t : ℕ) → cond b o None ≡ Some t → (b ≡ true) × (o ≡ Some t)
some-if true o t is = (refl, is)
some-if false o t is = absurd cc

none-if : (b : Bool) (o : Option ℕ) → cond b o None ≡ None → b ≡ true → o ≡ None
none-if true o is holds = is
none-if false o is holds = absurd cc

entry-is : (d : PlainDwarf) (e : PlainExport) (o : Option ℕ) → entry_for d e ≡ o → (typed d e).entry ≡ offset_of d.tree o
unfolding typed
entry-is d e o is = ap (offset_of d.tree) is

has-entry : FirstIsFound → NoneIsThere → (d : PlainDwarf) (e : PlainExport) → IsOrdered d.tree → (o : Option ℕ) → entry_for d e ≡ o → HasItsEntry d (typed d e) o
unfolding typed entry_for
has-entry first none d e ordered None is = record {
  none = λ holds t inside. none d e.value t (none-if (has_address e) (typed_of d e.value) is holds) inside;
  entry = entry-is d e None is;
}
has-entry first none d e ordered (Some t) is =
    let both = some-if (has_address e) (typed_of d e.value) t is in
    record { address = both.0; first = first d e.value t ordered both.1; entry = entry-is d e (Some t) is }

-- its declared name and its entry do not change which entry it has
same-entry : (d : PlainDwarf) (e : PlainExport) → entry_for d (typed d e) ≡ entry_for d e
unfolding typed entry_for
same-entry d e = refl

pub exports-have : FirstIsFound → NoneIsThere → (d : PlainDwarf) (es : List PlainExport) → IsOrdered d.tree → All (λ (e : PlainExport). HasItsEntry d e (entry_for d e)) (map (typed d) es)
exports-have first none d es ordered =
    All-map (λ (e : PlainExport). HasItsEntry d e (entry_for d e)) (typed d) es (λ k z inside.
    has-entry first none d (get_or es k z) ordered (entry_for d (typed d (get_or es k z))) (sym (same-entry d (get_or es k z))))

pub file-entries : FirstIsFound → NoneIsThere → (f : List ℕ) → IsOrdered (debug_of f).tree → All (λ (e : PlainExport). HasItsEntry (debug_of f) e (entry_for (debug_of f) e)) (typed_exports_of f)
unfolding typed_exports_of
file-entries first none f ordered = exports-have first none (debug_of f) (untyped_exports_of f) ordered
