-- Units follow one another inside the section.
use Rattle.std.proofs.Common.{◌≡◌, ℕ, ◌+◌, ◌<◌, ◌≤◌, ltb, Bool, true, false, List, [], ◌∷◌, length, Option, Some, None, Ok, refl, ap, subst, arith, lit<, inl, inr}
use Rattle.std.specs.Prelude.{◌&&◌, ◌==◌, nat_lt, nat_le, is_some, if◌then◌else◌}
use Rattle.std.proofs.lemmas.Bool.{cases_Bool, ltb-false, or_parts}
use Rattle.abi_base.proofs.lemmas.Outcomes.{fault_if-none}
use Rattle.abi_base.proofs.lemmas.Cases.{option_cases, same_Ok}
use Rattle.dwarf_units.specs.HeaderLayout.{length_size, dwarf64_length, reserved_length, header_size_4, dwarf_4, type_signature_at}
use Rattle.abi_base.specs.declared.fault.Fault.{Fault}
use Rattle.abi_base.specs.declared.fault.FaultKind.TheVariants as kind
use Rattle.abi_base.specs.Numbers.{number}
use Rattle.abi_base.specs.Outcome.{first, fault_if}
use Rattle.dwarf_forms.specs.abbreviations.Abbrevs.{table_run}
use Rattle.dwarf_units.specs.Units.{PlainUnit, header_size_of, is_type_unit}
use Rattle.dwarf_units.specs.Sequence.{UnitStands, unit_version, is_type_at, unit_abbrevs, unit_length, unit_end, header_size_at, bad_length, kind_rows, header_fault, unit_fault, unit_of, unit_step}

none_both : (o : Option Fault) (others : List (Option Fault)) → first (o ∷ others) ≡ None → (o ≡ None) × (first others ≡ None)
none_both None others h = (refl, h)
none_both (Some f) others h = absurd cc

-- a unit without a fault ends after its header and inside the section
record LiesInside (info : List ℕ) (at : ℕ) : Type 0 where
  inside : unit_end info at ≤ length info
  header : at + header_size_at info at ≤ unit_end info at

header_inside : (info : List ℕ) (at : ℕ) → header_fault info at ≡ None → LiesInside info at
unfolding header_fault
header_inside info at none =
    let dwarf64 = fault_if (nat_le (at + length_size) (length info) && unit_length info at == dwarf64_length) kind.Dwarf64 at in
    let length_row = fault_if (bad_length info at) kind.UnitHeader at in
    let good = fault_if-none (bad_length info at) kind.UnitHeader at (none_both length_row (kind_rows info at) (none_both dwarf64 (length_row ∷ kind_rows info at) none).1).0 in
    let inside = or_parts (nat_lt (length info) (unit_end info at)) _ (or_parts (nat_lt (length info) (at + length_size)) _ good).1 in
    let short = or_parts (nat_lt (unit_end info at) (at + header_size_4)) _ (or_parts (nat_le reserved_length (unit_length info at)) _ inside.1).1 in
    record {
      inside = ltb-false (length info) (unit_end info at) inside.0;
      header = ltb-false (unit_end info at) (at + header_size_at info at) short.1;
    }

-- a unit has a signature exactly when it is a type unit
signed : (is_type : Bool) (signature : ℕ) → is_some (if is_type then Some signature else None) ≡ is_type
signed true signature = refl
signed false signature = refl

some_header : (version : ℕ) (is_type : Bool) → 0 < header_size_of version is_type
some_header version true = elim (cases_Bool (version == dwarf_4)) [
  | inl is ↦ rw is (lit< tt)
  | inr is ↦ rw is (lit< tt)
]
some_header version false = elim (cases_Bool (version == dwarf_4)) [
  | inl is ↦ rw is (lit< tt)
  | inr is ↦ rw is (lit< tt)
]

made_stands : (info abbrevs : List ℕ) (at : ℕ) → unit_fault info abbrevs at ≡ None → UnitStands info at (unit_of info abbrevs at) (unit_of info abbrevs at).end
unfolding unit_fault unit_of
made_stands info abbrevs at none =
    let lies = header_inside info at (none_both (header_fault info at) ((table_run abbrevs (unit_abbrevs info at)).end ∷ []) none).0 in
    let same : header_size_of (unit_version info at) (is_type_unit (unit_of info abbrevs at)) ≡ header_size_at info at =
    ap (λ (b : Bool). header_size_of (unit_version info at) b) (signed (is_type_at info at) (number 8 info (at + type_signature_at))) in
    record {
      root = omega (arith, some_header (unit_version info at) (is_type_unit (unit_of info abbrevs at)));
      on = omega (arith, lies.header, same);
      end = refl;
      inside = lies.inside;
    }

pub unit_stands : (info abbrevs : List ℕ) (at : ℕ) (u : PlainUnit) (next : ℕ) → unit_step info abbrevs at ≡ Ok (u, next) → UnitStands info at u next
unfolding unit_step
unit_stands info abbrevs at u next h =
    elim (cases_Bool (ltb at (length info))) [
      | inl lt ↦ let h1 = rw lt at h in
          option_cases (unit_fault info abbrevs at)
          (λ is. let h2 = rw is at h1 in
          let made = unit_of info abbrevs at in
          subst (λ (p : PlainUnit × ℕ). UnitStands info at p.0 p.1) (same_Ok (made, made.end) (u, next) h2) (made_stands info abbrevs at is))
          (λ f is. absurd (let g = rw is at h1 in cc))
      | inr ge ↦ absurd (let g = rw ge at h in cc)
    ]
