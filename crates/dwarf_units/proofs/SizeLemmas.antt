-- The sizes of the values of entries.
use Rattle.std.proofs.Common.{◌≡◌, ℕ, ◌+◌, ◌-◌, ◌<◌, ◌≤◌, List, [], ◌∷◌, ◌++◌, length, drop, get_or, Option, Some, sym, ◌∙◌, subst, inl, inr, arith}
use Rattle.abi_base.proofs.lemmas.Lists.{slice_get_push_cases}
use Rattle.dwarf_forms.specs.declared.abbreviations.abbrev.Abbrev.{Abbrev}
use Rattle.dwarf_forms.specs.declared.abbreviations.abbrev.Spec.{Spec}
use Rattle.dwarf_forms.specs.Values.{FixedSizesEnd, fixed_size_of, place_after, shape_of}
use Rattle.dwarf_units.specs.Sizes.{AreSizes, EndBehind, IsSizeIn}
use Rattle.dwarf_units.specs.Units.{PlainUnit, values_at}
use Rattle.dwarf_units.proofs.ValuesLoop.{passed_more, passed_all}

-- ---- the pairs of an abbreviation

-- how many bytes the values of the first pairs have
pub record Sized (specs : List Spec) (i size : ℕ) : Type 0 where
  pub passed : (u : PlainUnit) (entry at : ℕ) → size ≤ u.end - at → u.end ≤ length u.info
      → place_after (values_at u entry (drop i specs) (at + size)) ≡ place_after (values_at u entry specs at)

pub sized_more : (ends : FixedSizesEnd) (specs : List Spec) (i : ℕ) (d : Spec) (size more : ℕ) → i < length specs → fixed_size_of (shape_of (get_or specs i d).form) ≡ Some more
    → Sized specs i size → Sized specs (i + 1) (size + more)
sized_more ends specs i d size more lt is so_far = record {
  passed = λ u entry at room inside.
      let s = get_or specs i d in
      let next : at + size + more ≡ at + (size + more) = omega arith in
      let here = ends s.form more s.implicit u.offset u.end entry u.info (at + size) is (omega arith) inside in
      let before = so_far.passed u entry at (omega arith) inside in
      passed_more u entry specs i d (at + size) (at + (size + more)) (place_after (values_at u entry specs at)) lt (rw (← next) here) before;
}

pub sized_all : (specs : List Spec) (i size : ℕ) → length specs ≤ i → Sized specs i size → EndBehind specs size
sized_all specs i size le so_far = record {
  ends = λ u entry at room inside. passed_all u entry specs i (at + size) (place_after (values_at u entry specs at)) le (so_far.passed u entry at room inside);
}

-- ---- the codes of a table

pub sizes_more : (abbrevs : List Abbrev) (sizes : List (Option ℕ)) (code : ℕ) (known : Option ℕ) → length sizes ≡ code
    → ((size : ℕ) → known ≡ Some size → IsSizeIn abbrevs code size) → AreSizes abbrevs sizes → AreSizes abbrevs (sizes ++ known ∷ [])
sizes_more abbrevs sizes code known len here so_far k size is =
    elim (slice_get_push_cases sizes known k (Some size) is) [
      | inl there ↦ so_far k size there
      | inr last ↦ subst (λ (n : ℕ). IsSizeIn abbrevs n size) (sym (last.0 ∙ len)) (here size last.1)
    ]
