-- Reading values moves on.
use Rattle.std.proofs.Common.{◌≡◌, ℕ, ◌≤◌, List, [], ◌∷◌, Ok, ap, arith}
use Rattle.std.specs.Prelude.{ℤ}
use Rattle.abi_base.proofs.lemmas.Cases.{result_cases, same_Ok}
use Rattle.dwarf_forms.specs.declared.abbreviations.abbrev.Spec.{Spec}
use Rattle.dwarf_forms.specs.declared.values.Value.{Value}
use Rattle.dwarf_forms.specs.Values.{value_at}
use Rattle.dwarf_units.specs.Units.{PlainUnit, values_at}

-- the place after a value is not before the value
abbrev pub ValuesMove : Type 0
ValuesMove = (form : ℕ) (implicit : ℤ) (unit end entry : ℕ) (bytes : List ℕ) (at : ℕ) (read : Value × ℕ) → value_at form implicit unit end entry bytes at ≡ Ok read → at ≤ read.1

pub values_after : (moves : ValuesMove) (u : PlainUnit) (entry : ℕ) (specs : List Spec) (at : ℕ) (r : List (ℕ × Value) × ℕ) → values_at u entry specs at ≡ Ok r → at ≤ r.1
unfolding values_at
values_after moves u entry [] at r h = let same = ap (λ (p : List (ℕ × Value) × ℕ). p.1) (same_Ok ([], at) r h) in omega (arith, same)
values_after moves u entry (s ∷ specs) at r h =
    result_cases (value_at s.form s.implicit u.offset u.end entry u.info at)
    (λ v is. let h1 = rw is at h in
    let after = moves s.form s.implicit u.offset u.end entry u.info at v is in
    result_cases (values_at u entry specs v.1)
    (λ w js. let h2 = rw js at h1 in
    let same = ap (λ (p : List (ℕ × Value) × ℕ). p.1) (same_Ok ((s.attribute, v.0) ∷ w.0, w.1) r h2) in
    let later = values_after moves u entry specs v.1 w js in
    omega (arith, after, later, same))
    (λ e js. absurd (let g = rw js at h1 in cc)))
    (λ e is. absurd (let g = rw is at h in cc))
