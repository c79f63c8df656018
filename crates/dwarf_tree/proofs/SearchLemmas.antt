-- What binary searches find.
use Rattle.std.proofs.Common.{◌≡◌, ◌∙◌, ◌+◌, ℕ, ◌<◌, ◌≤◌, Bool, true, false, nat_lt, List, length, get_or, Some, None, sym, ap, subst, arith, inl, inr}
use Rattle.std.specs.Prelude.{position, ◌==◌, IsSome}
use Rattle.std.specs.List.Sorted.{IsNonDecreasingBy, IsPartitionedBy, IsPartitionPoint}
use Rattle.std.proofs.lemmas.Bool.{cases_lt, ltb-true, ltb-false, eq-eqb, eqb-true, eqb-false, ne_eqb}
use Rattle.std.proofs.lemmas.List.{get_or_default}
use Rattle.std.proofs.lemmas.List.Quantifiers.{position-Some}
use Rattle.std.proofs.lemmas.List.Sorted.{IsPartitionedBy-ltb}
use Rattle.abi_base.proofs.lemmas.Lists.{position_is, position_none}
use Rattle.abi_base.proofs.lemmas.Cases.{option_cases}
use Rattle.dwarf_tree.specs.declared.entry_records.AbbreviationLayout.{AbbreviationLayout}
use Rattle.dwarf_tree.specs.declared.entry_records.EntryRecord.{EntryRecord}
use Rattle.dwarf_tree.specs.Keeping.{Ascend, BeginBefore, BeginBehind, StandsBetween, UnitsRise, unit_in}

abbrev pub no_stored : EntryRecord
no_stored = record { offset = 0; shape = 0; depth = 0 }

-- ---- entries by offset

abbrev pub offset_in : EntryRecord → ℕ
offset_in stored = stored.offset

module _ (entries : List EntryRecord) (offset : ℕ) (ascend : Ascend entries) where
  abbrev begins : EntryRecord → Bool
  begins stored = stored.offset == offset

  rises : IsNonDecreasingBy offset_in entries
  rises i j d le inside = elim (cases_lt i j) [
    | inl lt ↦ omega (arith, ascend i j d lt inside)
    | inr ge ↦ let same : i ≡ j = omega arith in rw same (omega arith)
  ]

  -- an entry that begins at the offset is the first that does
  pub offset_is : (k : ℕ) (d : EntryRecord) → k < length entries → (get_or entries k d).offset ≡ offset → position begins entries ≡ Some k
  offset_is k d inside at =
      let here : (get_or entries k no_stored).offset ≡ offset = ap (λ (x : EntryRecord). x.offset) (get_or_default entries k no_stored d inside) ∙ at in
      position_is begins entries k no_stored inside
      (λ j before. ne_eqb (get_or entries j no_stored).offset offset (λ same. absurd (omega (arith, ascend j k no_stored before inside, here, same))))
      (eq-eqb (get_or entries k no_stored).offset offset here)

  -- no entry begins at the offset where no place is left for it
  pub offset_missed : (from to : ℕ) → StandsBetween entries offset from to → to ≤ from → position begins entries ≡ None
  offset_missed from to between none =
      position_none begins entries no_stored (λ k inside.
      ne_eqb (get_or entries k no_stored).offset offset (λ same. elim (cases_lt k from) [
        | inl before ↦ absurd (omega (arith, between.before k no_stored before, same))
        | inr past ↦ absurd (omega (arith, between.behind k no_stored (omega (arith, past, none)) inside, same))
      ]))

  -- all up to an entry that begins before the offset begin before it
  pub before_through : (k : ℕ) (e : EntryRecord) → k < length entries → (get_or entries k e).offset < offset → BeginBefore entries offset (k + 1)
  before_through k e inside here j d before =
      let there : j ≤ k = omega (arith, before) in
      let at : get_or entries k d ≡ get_or entries k e = get_or_default entries k d e inside in
      let here_too : (get_or entries k d).offset < offset = subst (λ (x : EntryRecord). x.offset < offset) (sym at) here in
      omega (arith, rises j k d there inside, here_too)

  -- all from an entry on that begins after the offset begin after it
  pub behind_from : (k : ℕ) (e : EntryRecord) → k < length entries → offset < (get_or entries k e).offset → BeginBehind entries offset k
  behind_from k e inside here j d past j_inside =
      let at : get_or entries k d ≡ get_or entries k e = get_or_default entries k d e inside in
      let here_too : offset < (get_or entries k d).offset = subst (λ (x : EntryRecord). offset < x.offset) (sym at) here in
      omega (arith, rises k j d past j_inside, here_too)

-- ---- entries by unit

abbrev pub is_before : List AbbreviationLayout → ℕ → EntryRecord → Bool
is_before shapes unit stored = nat_lt (unit_in shapes stored) unit

module _ (shapes : List AbbreviationLayout) (entries : List EntryRecord) (unit : ℕ) (rise : UnitsRise shapes entries) where
  abbrev stands : EntryRecord → Bool
  stands stored = unit_in shapes stored == unit

  pub units_parted : IsPartitionedBy (is_before shapes unit) entries
  units_parted = IsPartitionedBy-ltb (unit_in shapes) entries unit (λ i j d le inside. elim (cases_lt i j) [
    | inl lt ↦ rise i j d lt inside
    | inr ge ↦ let same : i ≡ j = omega arith in rw same (omega arith)
  ])

  pub root_found : (i : ℕ) → IsSome (position stands entries) → IsPartitionPoint (λ (stored : EntryRecord). is_before shapes unit stored ≡ true) (λ (stored : EntryRecord). is_before shapes unit stored ≡ false) entries i
      → position stands entries ≡ Some i
  root_found i there parted =
      option_cases (position stands entries) (λ none. absurd (let bad = rw none at there in cc)) (λ j is.
      let first = position-Some stands entries j no_stored is in
      let of_unit : unit_in shapes (get_or entries j no_stored) ≡ unit = eqb-true (unit_in shapes (get_or entries j no_stored)) unit first.1 in
      let le : i ≤ j = elim (cases_lt j i) [
        | inl before ↦ absurd (omega (arith, ltb-true (unit_in shapes (get_or entries j no_stored)) unit (parted.0 j no_stored (omega arith) before), of_unit))
        | inr past ↦ past
      ] in
      let same : j ≡ i = elim (cases_lt i j) [
        | inl lt ↦
            let above : unit ≤ unit_in shapes (get_or entries i no_stored) = ltb-false (unit_in shapes (get_or entries i no_stored)) unit (parted.1 i no_stored (omega arith) (omega (arith, lt, first.0))) in
            let other = eqb-false (unit_in shapes (get_or entries i no_stored)) unit (first.2 i lt) in
            absurd (other (omega (arith, above, rise i j no_stored lt first.0, of_unit)))
        | inr ge ↦ omega arith
      ] in
      is ∙ ap (λ (n : ℕ). Some n) same)
