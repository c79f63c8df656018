-- Reading a value moves on, and stays inside the unit.
use Rattle.std.proofs.Common.{◌≡◌, ℕ, ◌+◌, ◌<◌, ◌≤◌, List, length, take, drop, leb, Some, Result, Ok, Err, ap, arith, inl, inr}
use Rattle.std.specs.Prelude.{ℤ, true, position}
use Rattle.std.proofs.lemmas.List.{length-take, length-drop}
use Rattle.std.proofs.lemmas.List.Quantifiers.{position-Some}
use Rattle.std.proofs.lemmas.Option.{same_Some}
use Rattle.std.proofs.lemmas.Bool.{cases_Bool, leb-true}
use Rattle.abi_base.proofs.lemmas.Cases.{option_cases, same_Ok}
use Rattle.abi_base.specs.declared.fault.Fault.{Fault}
use Rattle.abi_base.specs.declared.fault.FaultKind.TheVariants as kind
use Rattle.abi_base.specs.Numbers.{number_at, text_at, is_zero}
use Rattle.abi_base.specs.Leb.{uleb_at, sleb_at}
use Rattle.abi_base.proofs.lemmas.Numbers.{number_inside}
use Rattle.abi_base.proofs.lemmas.Leb.{uleb_inside, sleb_inside}
use Rattle.dwarf_forms.specs.declared.values.Value.{Value}
use Rattle.dwarf_forms.specs.declared.values.Value.TheVariants as value
use Rattle.dwarf_forms.specs.Values.{Shape, fixed, block_behind_uleb, of_uleb, of_sleb, implicit_const, sixteen_bytes, block_behind, inline_text, is_present, indirect, supplementary, means, block, fault, spelled, named_shape, shape_of, indirect_at, value_of, value_at}

-- the place after a value that begins at a place, in a unit that ends at a place
pub record Moves (at end next : ℕ) : Type 0 where
  pub after : at ≤ next
  pub inside : at ≤ end → next ≤ end

moved : (v : Value) (at end next : ℕ) (r : Value × ℕ) → ◌≡◌ {A = Result (Value × ℕ) Fault} (Ok (v, next)) (Ok r) → at ≤ next → (at ≤ end → next ≤ end) → Moves at end r.1
moved v at end next r h le inside =
    let same : next ≡ r.1 = ap (λ (p : Value × ℕ). p.1) (same_Ok (v, next) r h) in
    record { after = omega arith; inside = λ i. omega (arith, inside i) }

text_inside : (bytes : List ℕ) (at : ℕ) (t : List ℕ) → text_at bytes at ≡ Some t → at + length t < length bytes
unfolding text_at
text_inside bytes at t h =
    option_cases (position is_zero (drop at bytes)) (λ is. absurd (let e = rw is at h in cc))
    (λ len is.
    let lt = (position-Some is_zero (drop at bytes) len 0 is).0 in
    let same : take len (drop at bytes) ≡ t = same_Some (take len (drop at bytes)) t (rw is at h) in
    omega (arith, lt, ap length same, length-take len (drop at bytes), length-drop at bytes))

block_moves : (bytes : List ℕ) (end from len : ℕ) (f : Fault) (r : Value × ℕ) → length bytes ≤ end → block bytes from len (Err f) ≡ Ok r → Moves from end r.1
block_moves bytes end from len f r small h =
    elim (cases_Bool (leb (from + len) (length bytes))) [
      | inl is ↦ let le = leb-true (from + len) (length bytes) is in
          moved (value.Block from (from + len)) from end (from + len) r (rw is at h) (omega arith) (λ i. omega arith)
      | inr is ↦ absurd (let e = rw is at h in cc)
    ]

then : (at end next last : ℕ) → at ≤ next → next ≤ end → Moves next end last → Moves at end last
then at end next last le inside m = record { after = omega (arith, m.after); inside = λ i. omega (arith, m.inside inside) }

spelled_moves : (s : Shape) (implicit : ℤ) (unit end entry : ℕ) (bytes : List ℕ) (at : ℕ) (r : Value × ℕ) → length bytes ≤ end → spelled s implicit unit entry bytes at ≡ Ok r → Moves at end r.1
spelled_moves (fixed size m) implicit unit end entry bytes at r small h =
    option_cases (number_at size bytes at) (λ is. absurd (let e = rw is at h in cc))
    (λ n is. let le = number_inside size bytes at n is in
    moved (means m unit n) at end (at + size) r (rw is at h) (omega arith) (λ i. omega arith))
spelled_moves (of_uleb m) implicit unit end entry bytes at r small h =
    option_cases (uleb_at bytes at) (λ is. absurd (let e = rw is at h in cc))
    (λ n is. let le = uleb_inside bytes at n is in
    moved (means m unit n.0) at end n.1 r (rw is at h) (omega arith) (λ i. omega arith))
spelled_moves of_sleb implicit unit end entry bytes at r small h =
    option_cases (sleb_at bytes at) (λ is. absurd (let e = rw is at h in cc))
    (λ n is. let le = sleb_inside bytes at n is in
    moved (value.Signed n.0) at end n.1 r (rw is at h) (omega arith) (λ i. omega arith))
spelled_moves implicit_const implicit unit end entry bytes at r small h = moved (value.Signed implicit) at end at r h (omega arith) (λ i. i)
spelled_moves sixteen_bytes implicit unit end entry bytes at r small h =
    elim (cases_Bool (leb (at + 16) (length bytes))) [
      | inl is ↦ let le = leb-true (at + 16) (length bytes) is in
          moved (value.Wide at) at end (at + 16) r (rw is at h) (omega arith) (λ i. omega arith)
      | inr is ↦ absurd (let e = rw is at h in cc)
    ]
spelled_moves (block_behind size) implicit unit end entry bytes at r small h =
    option_cases (number_at size bytes at) (λ is. absurd (let e = rw is at h in cc))
    (λ n is. let le = number_inside size bytes at n is in
    then at end (at + size) r.1 (omega arith) (omega arith) (block_moves bytes end (at + size) n (fault kind.Cut entry) r small (rw is at h)))
spelled_moves block_behind_uleb implicit unit end entry bytes at r small h =
    option_cases (uleb_at bytes at) (λ is. absurd (let e = rw is at h in cc))
    (λ n is. let le = uleb_inside bytes at n is in
    then at end n.1 r.1 (omega arith) (omega arith) (block_moves bytes end n.1 n.0 (fault kind.Cut entry) r small (rw is at h)))
spelled_moves inline_text implicit unit end entry bytes at r small h =
    option_cases (text_at bytes at) (λ is. absurd (let e = rw is at h in cc))
    (λ t is. let le = text_inside bytes at t is in
    moved (value.Inline at) at end (at + length t + 1) r (rw is at h) (omega arith) (λ i. omega arith))
spelled_moves is_present implicit unit end entry bytes at r small h = moved (value.Flag true) at end at r h (omega arith) (λ i. i)
spelled_moves indirect implicit unit end entry bytes at r small h = absurd cc
spelled_moves supplementary implicit unit end entry bytes at r small h = absurd cc

indirect_moves : (implicit : ℤ) (unit end entry : ℕ) (bytes : List ℕ) (at : ℕ) (r : Value × ℕ) → length bytes ≤ end → indirect_at implicit unit entry bytes at ≡ Ok r → Moves at end r.1
indirect_moves implicit unit end entry bytes at r small h =
    option_cases (uleb_at bytes at) (λ is. absurd (let e = rw is at h in cc)) (λ n is.
    let le = uleb_inside bytes at n is in
    let h1 = rw is at h in
    option_cases (named_shape (shape_of n.0)) (λ no. absurd (let e = rw no at h1 in cc)) (λ s so.
    then at end n.1 r.1 (omega arith) (omega arith) (spelled_moves s implicit unit end entry bytes n.1 r small (rw so at h1))))

value_of_moves : (s : Shape) (implicit : ℤ) (unit end entry : ℕ) (bytes : List ℕ) (at : ℕ) (r : Value × ℕ) → length bytes ≤ end → value_of s implicit unit entry bytes at ≡ Ok r → Moves at end r.1
unfolding value_of
value_of_moves indirect implicit unit end entry bytes at r small h = indirect_moves implicit unit end entry bytes at r small h
value_of_moves other implicit unit end entry bytes at r small h = spelled_moves other implicit unit end entry bytes at r small h

-- the place after a value is not before it, and not past the unit's end
pub value_moves : (form : ℕ) (implicit : ℤ) (unit end entry : ℕ) (bytes : List ℕ) (at : ℕ) (r : Value × ℕ) → value_at form implicit unit end entry bytes at ≡ Ok r → Moves at end r.1
unfolding value_at
value_moves form implicit unit end entry bytes at r h =
    let small : length (take end bytes) ≤ end = omega (arith, length-take end bytes) in
    option_cases (shape_of form) (λ is. absurd (let e = rw is at h in cc))
    (λ s is. value_of_moves s implicit unit end entry (take end bytes) at r small (rw is at h))
