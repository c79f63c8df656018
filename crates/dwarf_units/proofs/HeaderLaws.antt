-- The fault that the units end with is the first row of the first header that has one, or the fault of its table.
use Rattle.std.proofs.Common.{◌≡◌, ◌⊎◌, ℕ, ◌+◌, ◌<◌, ◌≤◌, Bool, true, false, ltb, leb, List, [], ◌∷◌, length, Option, Some, None, Result, Ok, Err, refl, sym, ap, subst, arith, inl, inr, suc, ◌-◌, ◌∙◌}
use Rattle.std.specs.Prelude.{◌↔◌, ◌==◌, ◌&&◌, ◌||◌, not}
use Rattle.std.proofs.lemmas.Bool.{cases_lt, ltb-true, lt-ltb, le-ltb}
use Rattle.std.proofs.lemmas.Bool.Decides.{leb_tells, eqb_tells}
use Rattle.abi_base.specs.Dwarf.{dw_ut_compile, dw_ut_type, dw_ut_partial}
use Rattle.dwarf_units.specs.HeaderLayout.{dwarf_4, dwarf_5, length_size, dwarf64_length, reserved_length, header_size_4, x86_64_address_size}
use Rattle.abi_base.specs.Outcome.{fault_if, first}
use Rattle.abi_base.specs.Runs.{Chain, Run}
use Rattle.abi_base.proofs.lemmas.Runs.{chain_run}
use Rattle.std.proofs.lemmas.Option.{same_Some}
use Rattle.abi_base.proofs.lemmas.Cases.{option_cases, result_cases}
use Rattle.dwarf_units.proofs.UnitPlaces.{unit_stands}
use Rattle.abi_base.specs.declared.fault.Fault.{Fault}
use Rattle.abi_base.specs.declared.fault.FaultKind.{FaultKind}
use Rattle.abi_base.specs.declared.fault.FaultKind.TheVariants as kind
use Rattle.dwarf_forms.specs.abbreviations.Abbrevs.{table_run}
use Rattle.dwarf_units.specs.HeaderRows.{HeaderRow, header_rows, UnitWhole, UnitFaulty, UnitsUpTo, IsFaultOfUnits, AreWhole}
use Rattle.dwarf_units.specs.Rows.{IsFirst, NoRow}
use Rattle.dwarf_units.specs.Sequence.{unit_length, unit_end, unit_version, unit_type, unit_address_size, unit_abbrevs, header_size_at, bad_length, is_version, header_fault, unit_fault, unit_of, unit_step, units_from, units_of}
use Rattle.dwarf_units.specs.Units.{PlainUnit}
use Rattle.dwarf_units.proofs.UnitsLeft.{units_chain}

-- ---- what follows from a test

abbrev Tells : Bool → Type 0 → Type 0
Tells b P = (b ≡ true → P) × (b ≡ false → P → ⊥)

lt_tells : (a b : ℕ) → Tells (ltb a b) (a < b)
lt_tells a b = (ltb-true a b, λ is lt. (let t = lt-ltb a b lt in cc))

le_tells : (a b : ℕ) → Tells (leb a b) (a ≤ b)
le_tells a b =
    elim (leb_tells a b) [
      | inl (is, le) ↦ (λ h. le, λ h p. cc)
      | inr (is, lt) ↦ (λ h. absurd cc, λ h p. omega (arith, lt, p))
    ]

eq_tells : (a b : ℕ) → Tells (a == b) (a ≡ b)
eq_tells a b =
    elim (eqb_tells a b) [
      | inl (is, same) ↦ (λ h. same, λ h p. cc)
      | inr (is, apart) ↦ (λ h. absurd cc, λ h p. apart p)
    ]

and_tells : {P Q : Type 0} (a b : Bool) → Tells a P → Tells b Q → Tells (a && b) (P × Q)
and_tells true true p q = (λ h. (p.0 refl, q.0 refl), λ h x. absurd cc)
and_tells true false p q = (λ h. absurd cc, λ h x. q.1 refl x.1)
and_tells false b p q = (λ h. absurd cc, λ h x. p.1 refl x.0)

or_tells : {P Q : Type 0} (a b : Bool) → Tells a P → Tells b Q → Tells (a || b) (P ⊎ Q)
or_tells {P} {Q} true b p q = (λ h. inl (p.0 refl), λ h x. absurd cc)
or_tells {P} {Q} false true p q = (λ h. inr (q.0 refl), λ h x. absurd cc)
or_tells {P} {Q} false false p q = (λ h. absurd cc, λ h x. neither x)
  where
    neither : P ⊎ Q → ⊥
    neither (inl x) = p.1 refl x
    neither (inr x) = q.1 refl x

not_tells : {P : Type 0} (b : Bool) → Tells b P → Tells (not b) (P → ⊥)
not_tells true p = (λ h. absurd cc, λ h x. x (p.0 refl))
not_tells false p = (λ h x. p.1 refl x, λ h x. absurd cc)

-- ---- the first of the rows

abbrev Says : (FaultKind → Type 0) → ℕ → List FaultKind → Option Fault → Type 0
Says Holds at ks o = ((f : Fault) → o ≡ Some f → (f.at ≡ at) × IsFirst Holds ks f.kind) × (o ≡ None → NoRow Holds ks)

no_rows : (Holds : FaultKind → Type 0) (at : ℕ) → Says Holds at [] (first [])
no_rows Holds at = (λ f h. absurd cc, λ h. tt)

row_then : (Holds : FaultKind → Type 0) (at : ℕ) (k : FaultKind) (ks : List FaultKind) (b : Bool) (others : List (Option Fault)) → Tells b (Holds k) → Says Holds at ks (first others) → Says Holds at (k ∷ ks) (first (fault_if b k at ∷ others))
row_then Holds at k ks true others t rest = (this, λ h. absurd cc)
  where
    this : (f : Fault) → ◌≡◌ {A = Option Fault} (Some (record { kind = k; at = at })) (Some f) → (f.at ≡ at) × IsFirst Holds (k ∷ ks) f.kind
    this f h = let made : Fault = record { kind = k; at = at } in let it : f ≡ made = cc in (ap (λ (x : Fault). x.at) it, inl (ap (λ (x : Fault). x.kind) it, t.0 refl))
row_then Holds at k ks false others t rest = (λ f h. (let r = rest.0 f h in (r.0, inr (t.1 refl, r.1))), λ h. (t.1 refl, rest.1 h))

header_says : (info : List ℕ) (at : ℕ) → Says (HeaderRow info at) at header_rows (header_fault info at)
unfolding header_fault
header_says info at =
    let Holds = HeaderRow info at in
    let v = unit_version info at in
    let t = unit_type info at in
    let short = unit_end info at in
    let size = unit_address_size info at in
    row_then Holds at kind.Dwarf64 (kind.UnitHeader ∷ kind.DwarfVersion ∷ kind.UnitType ∷ kind.AddressSize ∷ []) _ _
    (and_tells _ _ (le_tells (at + length_size) (length info)) (eq_tells (unit_length info at) dwarf64_length))
    (row_then Holds at kind.UnitHeader (kind.DwarfVersion ∷ kind.UnitType ∷ kind.AddressSize ∷ []) (bad_length info at) _
    (or_tells _ _ (lt_tells (length info) (at + length_size)) (or_tells _ _ (lt_tells (length info) short)
    (or_tells _ _ (le_tells reserved_length (unit_length info at)) (or_tells _ _ (lt_tells short (at + header_size_4)) (lt_tells short (at + header_size_at info at))))))
    (row_then Holds at kind.DwarfVersion (kind.UnitType ∷ kind.AddressSize ∷ []) (not (is_version v)) _
    (not_tells _ (or_tells _ _ (eq_tells v dwarf_4) (eq_tells v dwarf_5)))
    (row_then Holds at kind.UnitType (kind.AddressSize ∷ []) _ _
    (and_tells _ _ (eq_tells v dwarf_5) (not_tells _ (or_tells _ _ (eq_tells t dw_ut_compile) (or_tells _ _ (eq_tells t dw_ut_type) (eq_tells t dw_ut_partial)))))
    (row_then Holds at kind.AddressSize [] _ [] (not_tells _ (eq_tells size x86_64_address_size)) (no_rows Holds at)))))

-- ---- a unit

abbrev Step : Type 0
Step = Result (PlainUnit × ℕ) (Option Fault)

abbrev Judged : List ℕ → List ℕ → ℕ → Step → Type 0
Judged info abbrevs at (Ok r) = UnitWhole info abbrevs at × (r.0 ≡ unit_of info abbrevs at) × (r.1 ≡ r.0.end)
Judged info abbrevs at (Err None) = length info ≤ at
Judged info abbrevs at (Err (Some f)) = UnitFaulty info abbrevs at f

judge : (info abbrevs : List ℕ) (at : ℕ) → Judged info abbrevs at (unit_step info abbrevs at)
unfolding unit_step unit_fault
judge info abbrevs at =
    let come : (t : Step) → unit_step info abbrevs at ≡ t → Judged info abbrevs at t → Judged info abbrevs at (unit_step info abbrevs at) =
    λ t is j. subst (λ (x : Step). Judged info abbrevs at x) (sym is) j in
    let says = header_says info at in
    let u = unit_of info abbrevs at in
    elim (cases_lt at (length info)) [
      | inl lt ↦ let l = lt-ltb at (length info) lt in
          option_cases (header_fault info at)
          (λ is. option_cases ((table_run abbrevs (unit_abbrevs info at)).end)
          (λ js. come (Ok (u, u.end)) (rw (l, is, js) refl) (record { inside = lt; header = says.1 is; table = js }, refl, refl))
          (λ f js. come (Err (Some f)) (rw (l, is, js) refl) (lt, inr (says.1 is, js))))
          (λ f is. come (Err (Some f)) (rw (l, is) refl) (lt, inl (says.0 f is)))
      | inr ge ↦ let l = le-ltb at (length info) ge in come (Err None) (rw l refl) ge
    ]

judged_as : (info abbrevs : List ℕ) (at : ℕ) (t : Step) → unit_step info abbrevs at ≡ t → Judged info abbrevs at t
judged_as info abbrevs at t is = subst (λ (x : Step). Judged info abbrevs at x) is (judge info abbrevs at)

abbrev Last : List ℕ → List ℕ → ℕ → Option Fault → Type 0
Last info abbrevs at e = unit_step info abbrevs at ≡ Err e

up_to : (info abbrevs : List ℕ) (at : ℕ) (us : List PlainUnit) (e : Option Fault) → Chain (unit_step info abbrevs) at us e → (end : ℕ) × UnitsUpTo info abbrevs at us end × Last info abbrevs end e
up_to info abbrevs at [] e h = (at, refl, h)
up_to info abbrevs at (u ∷ us) e (next, is, later) =
    let j : UnitWhole info abbrevs at × (u ≡ unit_of info abbrevs at) × (next ≡ u.end) = judged_as info abbrevs at (Ok (u, next)) is in
    let others = up_to info abbrevs u.end us e (subst (λ (n : ℕ). Chain (unit_step info abbrevs) n us e) j.2 later) in
    (others.0, (j.0, j.1, others.1), others.2)

units_fault : (info abbrevs : List ℕ) (f : Fault) → (units_of info abbrevs).end ≡ Some f → (at : ℕ) × UnitsUpTo info abbrevs 0 (units_of info abbrevs).items at × UnitFaulty info abbrevs at f
units_fault info abbrevs f h =
    let all = up_to info abbrevs 0 (units_of info abbrevs).items (Some f) (subst (λ (e : Option Fault). Chain (unit_step info abbrevs) 0 (units_of info abbrevs).items e) h (units_chain info abbrevs)) in
    (all.0, all.1, judged_as info abbrevs all.0 (Err (Some f)) all.2)

units_whole : (info abbrevs : List ℕ) → (units_of info abbrevs).end ≡ None → (at : ℕ) × UnitsUpTo info abbrevs 0 (units_of info abbrevs).items at × (length info ≤ at)
units_whole info abbrevs h =
    let all = up_to info abbrevs 0 (units_of info abbrevs).items None (subst (λ (e : Option Fault). Chain (unit_step info abbrevs) 0 (units_of info abbrevs).items e) h (units_chain info abbrevs)) in
    (all.0, all.1, judged_as info abbrevs all.0 (Err None) all.2)

-- ---- the reader reads what the bytes hold

first_not : (Holds : FaultKind → Type 0) (ks : List FaultKind) (k : FaultKind) → IsFirst Holds ks k → NoRow Holds ks → ⊥
first_not Holds [] k h none = h
first_not Holds (j ∷ ks) k (inl h) none = none.0 h.1
first_not Holds (j ∷ ks) k (inr h) none = first_not Holds ks k h.1 none.1

first_same : (Holds : FaultKind → Type 0) (ks : List FaultKind) (j k : FaultKind) → IsFirst Holds ks j → IsFirst Holds ks k → j ≡ k
first_same Holds [] j k a b = absurd a
first_same Holds (i ∷ ks) j k (inl a) (inl b) = a.0 ∙ sym b.0
first_same Holds (i ∷ ks) j k (inl a) (inr b) = absurd (b.0 a.1)
first_same Holds (i ∷ ks) j k (inr a) (inl b) = absurd (a.0 b.1)
first_same Holds (i ∷ ks) j k (inr a) (inr b) = first_same Holds ks j k a.1 b.1

module _ (info abbrevs : List ℕ) where
  whole_not : (at : ℕ) (f : Fault) → UnitWhole info abbrevs at → UnitFaulty info abbrevs at f → ⊥
  whole_not at f w (lt, inl a) = first_not (HeaderRow info at) header_rows f.kind a.1 w.header
  whole_not at f w (lt, inr a) = let e = sym w.table ∙ a.1 in cc

  faulty_same : (at : ℕ) (g f : Fault) → UnitFaulty info abbrevs at g → UnitFaulty info abbrevs at f → g ≡ f
  faulty_same at g f (lt, inl a) (again, inl b) =
      let of_kind = first_same (HeaderRow info at) header_rows g.kind f.kind a.1 b.1 in
      ap (λ (k : FaultKind). let x : Fault = record { kind = k; at = g.at } in x) of_kind ∙ ap (λ (n : ℕ). let x : Fault = record { kind = f.kind; at = n } in x) (a.0 ∙ sym b.0)
  faulty_same at g f (lt, inl a) (again, inr b) = absurd (first_not (HeaderRow info at) header_rows g.kind a.1 b.0)
  faulty_same at g f (lt, inr a) (again, inl b) = absurd (first_not (HeaderRow info at) header_rows f.kind b.1 a.0)
  faulty_same at g f (lt, inr a) (again, inr b) = same_Some g f (sym a.1 ∙ b.1)

  err_is : (at : ℕ) (e o : Option Fault) → unit_step info abbrevs at ≡ Err e → e ≡ o → unit_step info abbrevs at ≡ Err o
  err_is at e o is same = is ∙ ap (λ (x : Option Fault). let t : Step = Err x in t) same

  unit_is : (at : ℕ) → UnitWhole info abbrevs at → unit_step info abbrevs at ≡ Ok (unit_of info abbrevs at, (unit_of info abbrevs at).end)
  unit_is at w =
      result_cases (unit_step info abbrevs at)
      (λ r is. let j : UnitWhole info abbrevs at × (r.0 ≡ unit_of info abbrevs at) × (r.1 ≡ r.0.end) = judged_as info abbrevs at (Ok r) is in
      is ∙ ap (λ (n : ℕ). let t : Step = Ok (r.0, n) in t) j.2 ∙ ap (λ (x : PlainUnit). let t : Step = Ok (x, x.end) in t) j.1)
      (λ e is. option_cases e
      (λ js. let ge : length info ≤ at = judged_as info abbrevs at (Err None) (err_is at e None is js) in absurd (omega (arith, ge, w.inside)))
      (λ f js. let bad : UnitFaulty info abbrevs at f = judged_as info abbrevs at (Err (Some f)) (err_is at e (Some f) is js) in absurd (whole_not at f w bad)))

  faulty_is : (at : ℕ) (f : Fault) → UnitFaulty info abbrevs at f → unit_step info abbrevs at ≡ Err (Some f)
  faulty_is at f bad =
      result_cases (unit_step info abbrevs at)
      (λ r is. let j : UnitWhole info abbrevs at × (r.0 ≡ unit_of info abbrevs at) × (r.1 ≡ r.0.end) = judged_as info abbrevs at (Ok r) is in absurd (whole_not at f j.0 bad))
      (λ e is. option_cases e
      (λ js. let ge : length info ≤ at = judged_as info abbrevs at (Err None) (err_is at e None is js) in absurd (omega (arith, ge, bad.0)))
      (λ g js. let other : UnitFaulty info abbrevs at g = judged_as info abbrevs at (Err (Some g)) (err_is at e (Some g) is js) in
      err_is at e (Some f) is (js ∙ ap Some (faulty_same at g f other bad))))

  end_is : (at : ℕ) → length info ≤ at → unit_step info abbrevs at ≡ Err None
  unfolding unit_step
  end_is at ge = let l = le-ltb at (length info) ge in rw l refl

  chain_of : (at : ℕ) (us : List PlainUnit) (end : ℕ) (e : Option Fault) → UnitsUpTo info abbrevs at us end → unit_step info abbrevs end ≡ Err e → Chain (unit_step info abbrevs) at us e
  chain_of at [] end e here last = subst (λ (n : ℕ). unit_step info abbrevs n ≡ Err e) (sym here) last
  chain_of at (u ∷ us) end e (w, is, later) last =
      (u.end, unit_is at w ∙ ap (λ (x : PlainUnit). let t : Step = Ok (x, x.end) in t) (sym is), chain_of u.end us end e later last)

  chain_length : (at : ℕ) (us : List PlainUnit) (e : Option Fault) → Chain (unit_step info abbrevs) at us e → length us ≤ length info - at
  chain_length at [] e h = omega arith
  chain_length at (u ∷ us) e h =
      let s = unit_stands info abbrevs at u h.0 h.1 in
      omega (arith, s.root, s.on, s.inside, chain_length h.0 us e h.2)

  units_are : (us : List PlainUnit) (e : Option Fault) → Chain (unit_step info abbrevs) 0 us e → (units_of info abbrevs).end ≡ e
  unfolding units_from
  units_are us e h =
      ap (λ (r : Run PlainUnit (Option Fault)). r.end) (chain_run (unit_step info abbrevs) None (suc (length info)) 0 us e (omega (arith, chain_length 0 us e h)) h)

pub fault_of_units : (info abbrevs : List ℕ) (f : Fault) → ((units_of info abbrevs).end ≡ Some f) ↔ IsFaultOfUnits info abbrevs f
fault_of_units info abbrevs f = (
  (λ h. (let t = units_fault info abbrevs f h in ((units_of info abbrevs).items, t.0, t.1, t.2))),
  (λ h. units_are info abbrevs h.0 (Some f) (chain_of info abbrevs 0 h.0 h.1 (Some f) h.2 (faulty_is info abbrevs h.1 f h.3))),
)

pub whole_units : (info abbrevs : List ℕ) → ((units_of info abbrevs).end ≡ None) ↔ AreWhole info abbrevs
whole_units info abbrevs = (
  (λ h. (let t = units_whole info abbrevs h in ((units_of info abbrevs).items, t.0, t.1, t.2))),
  (λ h. units_are info abbrevs h.0 None (chain_of info abbrevs 0 h.0 h.1 None h.2 (end_is info abbrevs h.1 h.3))),
)
