-- What an outline says of its entry.
use Rattle.std.proofs.Common.{◌≡◌, ℕ, List, [], ◌∷◌, Ok, refl, sym, ap, ◌∙◌, length}
use Rattle.std.specs.Prelude.{map, IsOk}
use Rattle.std.proofs.lemmas.List.{length-map}
use Rattle.abi_base.specs.declared.fault.NoMemory.{NoMemory}
use Rattle.abi_base.specs.declared.fault.NoMemory.TheVariants as memory
use Rattle.abi_base.specs.Outcome.{OnLimit}
use Rattle.abi_base.proofs.lemmas.Cases.{result_cases, same_Ok}
use Rattle.dwarf_forms.specs.declared.abbreviations.abbrev.Spec.{Spec}
use Rattle.dwarf_forms.specs.declared.values.Value.{Value}
use Rattle.dwarf_forms.specs.Values.{value_at}
use Rattle.dwarf_units.specs.Outlines.{values_read}
use Rattle.dwarf_units.specs.Units.{PlainUnit, values_at}

-- values that were read are those of the attributes of the pairs, in order
named_alike : (u : PlainUnit) (entry : ℕ) (specs : List Spec) (at : ℕ) (r : List (ℕ × Value) × ℕ) → values_at u entry specs at ≡ Ok r
    → map (λ (s : Spec). s.attribute) specs ≡ map (λ (a : ℕ × Value). a.0) r.0
unfolding values_at
named_alike u entry [] at r h = ap (λ (p : List (ℕ × Value) × ℕ). map (λ (a : ℕ × Value). a.0) p.0) (same_Ok ([], at) r h)
named_alike u entry (s ∷ specs) at r h =
    result_cases (value_at s.form s.implicit u.offset u.end entry u.info at)
    (λ v is. let h1 = rw is at h in
    result_cases (values_at u entry specs v.1)
    (λ w js. let h2 = rw js at h1 in
    ap (λ (names : List ℕ). s.attribute ∷ names) (named_alike u entry specs v.1 w js)
    ∙ ap (λ (p : List (ℕ × Value) × ℕ). map (λ (a : ℕ × Value). a.0) p.0) (same_Ok ((s.attribute, v.0) ∷ w.0, w.1) r h2))
    (λ f js. absurd (let g = rw js at h1 in cc)))
    (λ f is. absurd (let g = rw is at h in cc))

pub attributes_of_specs : (u : PlainUnit) (entry : ℕ) (specs : List Spec) (at : ℕ) → IsOk (values_at u entry specs at)
    → map (λ (s : Spec). s.attribute) specs ≡ map (λ (a : ℕ × Value). a.0) (values_read (values_at u entry specs at))
attributes_of_specs u entry specs at read =
    result_cases (values_at u entry specs at)
    (λ r is. rw is (named_alike u entry specs at r is))
    (λ f is. absurd (let g = rw is at read in cc))

-- as many pairs as attributes
pub as_many : (specs : List Spec) (attributes : List (ℕ × Value)) → map (λ (s : Spec). s.attribute) specs ≡ map (λ (a : ℕ × Value). a.0) attributes → length specs ≡ length attributes
as_many specs attributes same =
    sym (length-map specs (λ (s : Spec). s.attribute)) ∙ ap (λ (names : List ℕ). length names) same ∙ length-map attributes (λ (a : ℕ × Value). a.0)

-- a cause that no limit can be is an allocation
pub allocation_alone : (cause : NoMemory) → OnLimit cause (λ l. ⊥) → cause ≡ memory.Allocation
allocation_alone memory.Allocation none = refl
allocation_alone (memory.Past l) none = absurd none
