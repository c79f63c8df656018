-- Which forms are direct, and what references count from.
use Rattle.std.proofs.Common.{◌≡◌, ◌≢◌, ℕ, zero, suc, ◌+◌, ◌-◌, ◌<◌, ◌≤◌, Bool, true, false, leb, List, [], ◌∷◌, length, get_or, take, Option, Some, None, Result, Ok, refl, sym, ap, arith, inl, inr}
use Rattle.std.specs.Prelude.{ℤ, ◌==◌, ◌||◌, not, find}
use Rattle.std.specs.List.{list_all}
use Rattle.std.specs.Option.{option_map}
use Rattle.std.proofs.Math.Seq.{drop-cons}
use Rattle.std.proofs.lemmas.Bool.{cases_Bool, eqb-true, le-leb}
use Rattle.std.proofs.lemmas.List.{length-take-le}
use Rattle.std.proofs.lemmas.Option.{same_Some}
use Rattle.abi_base.proofs.lemmas.Cases.{option_cases}
use Rattle.abi_base.specs.Numbers.{number, number_at}
use Rattle.abi_base.proofs.lemmas.Numbers.{number_of-nil, number_of-cons}
use Rattle.abi_base.specs.declared.fault.Fault.{Fault}
use Rattle.dwarf_forms.specs.declared.meaning.Meaning.{Meaning}
use Rattle.abi_base.specs.Dwarf.{dw_form_indirect, dw_form_implicit_const, dw_form_ref_addr, dw_form_ref1, dw_form_ref2, dw_form_ref4, dw_form_ref8, dw_form_ref_udata}
use Rattle.abi_base.specs.Leb.{uleb_at}
use Rattle.dwarf_forms.specs.Values.{Shape, fixed, of_uleb, implicit_const, indirect, forms, shape_of, named_shape, spelled, place_after, fixed_size_of, value_of, value_at, direct_at, indirect_at, Refers, RefersByUleb, absolute, from_unit, of_sleb, sixteen_bytes, block_behind, block_behind_uleb, inline_text, is_present, supplementary}

-- the number in one byte is the byte
pub number_one : (bytes : List ℕ) (at : ℕ) → at < length bytes → number 1 bytes at ≡ get_or bytes at 0
unfolding number
number_one bytes at lt = rw (drop-cons bytes at 0 lt, number_of-cons, number_of-nil) (omega arith)

-- what holds of every row holds of a shape that is found
row_found : (ok : ℕ → Shape → Bool) (form : ℕ) (rows : List (ℕ × Shape)) (s : Shape) → list_all (λ row. ok row.0 row.1) rows ≡ true → option_map (λ row. row.1) (find (λ row. row.0 == form) rows) ≡ Some s → ok form s ≡ true
row_found ok form [] s all h = absurd cc
row_found ok form ((f, t) ∷ rows) s all h =
    elim (cases_Bool (ok f t)) [
      | inl good ↦ let others = rw good at all in
          elim (cases_Bool (f == form)) [
            | inl is ↦ let found = rw is at h in
                let same : t ≡ s = same_Some t s found in
                let key : f ≡ form = eqb-true f form is in
                rw (← same, ← key) good
            | inr is ↦ row_found ok form rows s others (rw is at h)
          ]
      | inr bad ↦ absurd (let none = rw bad at all in cc)
    ]

-- a shape that only one form has
abbrev only : (Shape → Bool) → ℕ → ℕ → Shape → Bool
only is form f s = not (is s) || f == form

is_indirect : Shape → Bool
is_indirect indirect = true
is_indirect other = false

is_implicit : Shape → Bool
is_implicit implicit_const = true
is_implicit other = false

only_indirect : (form : ℕ) → shape_of form ≡ Some indirect → form ≡ dw_form_indirect
unfolding shape_of forms is_indirect
only_indirect form h = eqb-true form dw_form_indirect (row_found (only is_indirect dw_form_indirect) form forms indirect refl h)

only_implicit : (form : ℕ) → shape_of form ≡ Some implicit_const → form ≡ dw_form_implicit_const
unfolding shape_of forms is_implicit
only_implicit form h = eqb-true form dw_form_implicit_const (row_found (only is_implicit dw_form_implicit_const) form forms implicit_const refl h)

-- the shape of a form that DW_FORM_indirect may name
pub named_shape_is : (form : ℕ) → form ≢ dw_form_indirect → form ≢ dw_form_implicit_const → named_shape (shape_of form) ≡ shape_of form
named_shape_is form n1 n2 = cases (shape_of form) refl
  where
    cases : (o : Option Shape) → shape_of form ≡ o → named_shape o ≡ o
    cases None is = refl
    cases (Some indirect) is = absurd (n1 (only_indirect form is))
    cases (Some implicit_const) is = absurd (n2 (only_implicit form is))
    cases (Some other) is = refl

-- a form other than DW_FORM_indirect
pub value_at_is : (form : ℕ) (implicit : ℤ) (unit end entry : ℕ) (bytes : List ℕ) (at : ℕ) → form ≢ dw_form_indirect → value_at form implicit unit end entry bytes at ≡ direct_at form implicit unit entry (take end bytes) at
unfolding value_at value_of
value_at_is form implicit unit end entry bytes at n1 = cases (shape_of form) refl
  where
    cases : (o : Option Shape) → shape_of form ≡ o → value_at form implicit unit end entry bytes at ≡ direct_at form implicit unit entry (take end bytes) at
    cases None is = rw is refl
    cases (Some indirect) is = absurd (n1 (only_indirect form is))
    cases (Some other) is = rw is refl

pub shape_of_indirect : shape_of dw_form_indirect ≡ Some indirect
unfolding shape_of forms
shape_of_indirect = refl

-- DW_FORM_indirect
pub value_at_indirect : (form : ℕ) (implicit : ℤ) (unit end entry : ℕ) (bytes : List ℕ) (at : ℕ) → form ≡ dw_form_indirect → value_at form implicit unit end entry bytes at ≡ indirect_at implicit unit entry (take end bytes) at
unfolding value_at value_of shape_of forms
value_at_indirect form implicit unit end entry bytes at is = rw is refl

pub shape_of_implicit : shape_of dw_form_implicit_const ≡ Some implicit_const
unfolding shape_of forms
shape_of_implicit = refl

-- ---- the place after a value depends neither on the constant in the abbreviation nor on the start of the unit

spelled_after : (s : Shape) (i j : ℤ) (u v entry : ℕ) (bytes : List ℕ) (at : ℕ) → place_after (spelled s i u entry bytes at) ≡ place_after (spelled s j v entry bytes at)
spelled_after (fixed size m) i j u v entry bytes at = option_cases (number_at size bytes at) (λ is. rw is refl) (λ n is. rw is refl)
spelled_after (of_uleb m) i j u v entry bytes at = option_cases (uleb_at bytes at) (λ is. rw is refl) (λ n is. rw is refl)
spelled_after other i j u v entry bytes at = refl

indirect_after : (i j : ℤ) (u v entry : ℕ) (bytes : List ℕ) (at : ℕ) → place_after (indirect_at i u entry bytes at) ≡ place_after (indirect_at j v entry bytes at)
indirect_after i j u v entry bytes at =
    option_cases (uleb_at bytes at) (λ is. rw is refl) (λ n is.
    option_cases (named_shape (shape_of n.0)) (λ no. rw (is, no) refl) (λ s so. rw (is, so) (spelled_after s i j u v entry bytes n.1)))

shape_after : (s : Shape) (i j : ℤ) (u v entry : ℕ) (bytes : List ℕ) (at : ℕ) → place_after (value_of s i u entry bytes at) ≡ place_after (value_of s j v entry bytes at)
unfolding value_of
shape_after indirect i j u v entry bytes at = indirect_after i j u v entry bytes at
shape_after other i j u v entry bytes at = spelled_after other i j u v entry bytes at

pub after_is_same : (form : ℕ) (i j : ℤ) (u v end entry : ℕ) (bytes : List ℕ) (at : ℕ) → place_after (value_at form i u end entry bytes at) ≡ place_after (value_at form j v end entry bytes at)
unfolding value_at
after_is_same form i j u v end entry bytes at =
    option_cases (shape_of form) (λ is. rw is refl) (λ s is. rw is (shape_after s i j u v entry (take end bytes) at))

-- ---- values that all have the same size

-- no form encodes a number in no bytes
has_bytes : Shape → Bool
has_bytes (fixed zero m) = false
has_bytes other = true

all_have_bytes : (form : ℕ) (s : Shape) → shape_of form ≡ Some s → has_bytes s ≡ true
unfolding shape_of forms has_bytes
all_have_bytes form s h = row_found (λ f s. has_bytes s) form forms s refl h

module _ (i : ℤ) (u end entry : ℕ) (bytes : List ℕ) (at size : ℕ) (room : size ≤ end - at) (inside : end ≤ length bytes) where
  ends_inside : 0 < size → leb (at + size) (length (take end bytes)) ≡ true
  ends_inside some = le-leb (at + size) (length (take end bytes)) (omega (arith, room, inside, length-take-le end bytes inside))

  no_bytes : 0 ≡ size → ◌≡◌ {A = Result ℕ Fault} (Ok at) (Ok (at + size))
  no_bytes same = let here : at ≡ at + size = omega (arith, same) in ap (λ (n : ℕ). let r : Result ℕ Fault = Ok n in r) here

  number_ends : (n : ℕ) (m : Meaning) → 0 < n → n ≡ size → place_after (spelled (fixed n m) i u entry (take end bytes) at) ≡ Ok (at + size)
  number_ends n m some same =
      let there = ends_inside (omega (arith, some, same)) in
      rw (same, there) refl

  shape_ends : (s : Shape) → has_bytes s ≡ true → fixed_size_of (Some s) ≡ Some size → place_after (value_of s i u entry (take end bytes) at) ≡ Ok (at + size)
  unfolding value_of has_bytes
  shape_ends (fixed zero m) some is = absurd cc
  shape_ends (fixed (suc n) m) some is = number_ends (suc n) m (omega arith) (same_Some (suc n) size is)
  shape_ends sixteen_bytes some is =
      let same : 16 ≡ size = same_Some 16 size is in
      let there : leb (at + 16) (length (take end bytes)) ≡ true = rw (sym same) at (ends_inside (omega (arith, same))) in
      rw (there, sym same) refl
  shape_ends implicit_const some is = no_bytes (same_Some 0 size is)
  shape_ends is_present some is = no_bytes (same_Some 0 size is)
  shape_ends (of_uleb m) some is = absurd cc
  shape_ends of_sleb some is = absurd cc
  shape_ends (block_behind n) some is = absurd cc
  shape_ends block_behind_uleb some is = absurd cc
  shape_ends inline_text some is = absurd cc
  shape_ends indirect some is = absurd cc
  shape_ends supplementary some is = absurd cc

pub fixed_ends : (form : ℕ) (i : ℤ) (u end entry : ℕ) (bytes : List ℕ) (at size : ℕ) → fixed_size_of (shape_of form) ≡ Some size → size ≤ end - at → end ≤ length bytes
    → place_after (value_at form i u end entry bytes at) ≡ Ok (at + size)
unfolding value_at
fixed_ends form i u end entry bytes at size is room inside =
    option_cases (shape_of form) (λ no. absurd (let e = rw no at is in cc))
    (λ s named. rw named (shape_ends i u end entry bytes at size room inside s (all_have_bytes form s named) (rw named at is)))

-- ---- what references count from

pub refers_absolute : Refers dw_form_ref_addr 4 absolute
unfolding value_at value_of shape_of forms
refers_absolute implicit unit end entry bytes at n h = rw h refl

pub refers1 : Refers dw_form_ref1 1 from_unit
unfolding value_at value_of shape_of forms
refers1 implicit unit end entry bytes at n h = rw h refl

pub refers2 : Refers dw_form_ref2 2 from_unit
unfolding value_at value_of shape_of forms
refers2 implicit unit end entry bytes at n h = rw h refl

pub refers4 : Refers dw_form_ref4 4 from_unit
unfolding value_at value_of shape_of forms
refers4 implicit unit end entry bytes at n h = rw h refl

pub refers8 : Refers dw_form_ref8 8 from_unit
unfolding value_at value_of shape_of forms
refers8 implicit unit end entry bytes at n h = rw h refl

pub refers_by_uleb : RefersByUleb dw_form_ref_udata from_unit
unfolding value_at value_of shape_of forms
refers_by_uleb implicit unit end entry bytes at n h = rw h refl
