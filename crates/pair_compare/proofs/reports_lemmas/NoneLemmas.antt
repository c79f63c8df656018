-- There is no row on sonames and exports exactly where these are compatible.
use Rattle.std.proofs.Common.{◌≡◌, ◌<◌, ℕ, zero, suc, ◌+◌, Bool, true, false, List, [], ◌∷◌, ◌++◌, length, slice_get, Option, Some, None, refl, sym, ◌∙◌, ap, subst, inl, inr, arith}
use Rattle.std.specs.Prelude.{◌↔◌, slice_index_or}
use Rattle.std.proofs.lemmas.Bool.{cases_Bool, cases_lt, false≢true}
use Rattle.std.proofs.lemmas.Option.{same_Some, none-some, slice_get_within}
use Rattle.abi_base.proofs.lemmas.Lists.{left-nil, right-nil}
use Rattle.abi_types.specs.declared.rule.Rule.TheVariants.{ExportKind, ExportSize, ExportType}
use Rattle.abi_types.specs.Exports.{PlainExport}
use Rattle.report.specs.declared.row.Row.{Row}
use Rattle.pair_rules.specs.ExportRules.{breaks_kind, breaks_size, breaks_type}
use Rattle.pair_rules.specs.Closed.{AreCompatible}
use Rattle.elf_bind.specs.Exports.{same_name}
use Rattle.cert_check.specs.Compatible.{Sides, IsCompared, IsBound, IsCompatible, KeepsExport, bound, task_of}
use Rattle.pair_compare.specs.reports.ExportRows.{soname_rows, export_row, row_if, gone_rows, changed_rows, rows_between, has_name, rows_for, rows_from, rows_at, rows_upto, export_rows}
use Rattle.abi_types.proofs.lemmas.Ranges.{flat_map-range_more}
use Rattle.abi_base.proofs.lemmas.Orders.{bytes_eq-is_same, bytes_eq-refl}

both-nil : {X : Type 0} (xs ys : List X) → xs ≡ [] → ys ≡ [] → xs ++ ys ≡ []
both-nil [] ys a b = b
both-nil (x ∷ xs) ys a b = cc

-- ---- sonames

sonames_equal : (old new : Option (List ℕ)) → same_name old new ≡ true → old ≡ new
sonames_equal None None same = refl
sonames_equal None (Some n) same = absurd cc
sonames_equal (Some o) None same = absurd cc
sonames_equal (Some o) (Some n) same = ap (λ x. Some x) (bytes_eq-is_same o n same)

equal_sonames : (old new : Option (List ℕ)) → old ≡ new → same_name old new ≡ true
equal_sonames None new same = subst (λ (o : Option (List ℕ)). same_name None o ≡ true) same refl
equal_sonames (Some o) new same = subst (λ (n : Option (List ℕ)). same_name (Some o) n ≡ true) same (bytes_eq-refl o)

no_soname_row : (old new : Option (List ℕ)) → (soname_rows old new ≡ []) ↔ (old ≡ new)
unfolding soname_rows
no_soname_row old new = (
  λ none. elim (cases_Bool (same_name old new)) [
    | inl same ↦ sonames_equal old new same
    | inr other ↦ let bad = rw other at none in absurd (cc)
  ],
  λ same. let e = equal_sonames old new same in rw e refl,
)

-- ---- one export

not_broken : (b : Bool) (row : Row) → row_if b row ≡ [] → b ≡ false
not_broken true row none = cc
not_broken false row none = refl

no_changed_row : (e f : PlainExport) → (changed_rows e f ≡ []) ↔ KeepsExport e f
unfolding changed_rows
no_changed_row e f = (
  λ none.
      let behind = row_if (breaks_size e f) (export_row ExportSize e f) ++ row_if (breaks_type e f) (export_row ExportType e f) in
      let kind = not_broken (breaks_kind e f) (export_row ExportKind e f) (left-nil (row_if (breaks_kind e f) (export_row ExportKind e f)) behind none) in
      let rest = right-nil (row_if (breaks_kind e f) (export_row ExportKind e f)) behind none in
      let size = not_broken (breaks_size e f) (export_row ExportSize e f) (left-nil (row_if (breaks_size e f) (export_row ExportSize e f)) (row_if (breaks_type e f) (export_row ExportType e f)) rest) in
      let type = not_broken (breaks_type e f) (export_row ExportType e f) (right-nil (row_if (breaks_size e f) (export_row ExportSize e f)) (row_if (breaks_type e f) (export_row ExportType e f)) rest) in
      ap (λ b. b ∷ breaks_size e f ∷ breaks_type e f ∷ []) kind ∙ ap (λ b. false ∷ b ∷ breaks_type e f ∷ []) size ∙ ap (λ b. false ∷ false ∷ b ∷ []) type,
  λ keeps.
      let kind : breaks_kind e f ≡ false = first (breaks_kind e f) (breaks_size e f) (breaks_type e f) keeps in
      let size : breaks_size e f ≡ false = second (breaks_kind e f) (breaks_size e f) (breaks_type e f) keeps in
      let type : breaks_type e f ≡ false = third (breaks_kind e f) (breaks_size e f) (breaks_type e f) keeps in
      rows_none (breaks_kind e f) (breaks_size e f) (breaks_type e f) (export_row ExportKind e f) (export_row ExportSize e f) (export_row ExportType e f) kind size type,
) where
  first : (a b c : Bool) → a ∷ b ∷ c ∷ [] ≡ false ∷ false ∷ false ∷ [] → a ≡ false
  first a b c e = cc

  second : (a b c : Bool) → a ∷ b ∷ c ∷ [] ≡ false ∷ false ∷ false ∷ [] → b ≡ false
  second a b c e = cc

  third : (a b c : Bool) → a ∷ b ∷ c ∷ [] ≡ false ∷ false ∷ false ∷ [] → c ≡ false
  third a b c e = cc

  rows_none : (a b c : Bool) (p q r : Row) → a ≡ false → b ≡ false → c ≡ false → row_if a p ++ (row_if b q ++ row_if c r) ≡ []
  rows_none a b c p q r x y z = rw (x, y, z) refl

some_gone_row : (named : Bool) (e : PlainExport) → gone_rows named e ≡ [] → ⊥
unfolding gone_rows
some_gone_row named e none = cc

no_row_between : (s : Sides) (e : PlainExport) (o : Option PlainExport) → bound s e ≡ o → (rows_between (has_name s e.name) e o ≡ []) ↔ IsBound s e
no_row_between s e None is = (
  λ none. absurd (some_gone_row (has_name s e.name) e none),
  λ binds. absurd (none-some binds.partner (sym is ∙ binds.binds)),
)
no_row_between s e (Some f) is = (
  λ none. record { partner = f; binds = is; keeps = (no_changed_row e f).0 none },
  λ binds.
      let same : binds.partner ≡ f = same_Some binds.partner f (sym binds.binds ∙ is) in
      (no_changed_row e f).1 (subst (KeepsExport e) same binds.keeps),
)

no_row_for : (s : Sides) (e : PlainExport) → (rows_for s e ≡ []) ↔ IsBound s e
unfolding rows_for
no_row_for s e = no_row_between s e (bound s e) refl

-- ---- all exports

-- the old export at the position binds, where it is compared
abbrev IsKept : Sides → ℕ → Type 0
IsKept s k = (e : PlainExport) → IsCompared s k e → IsBound s e

no_row_from : (s : Sides) (k : ℕ) (o : Option PlainExport) → slice_get s.old.exports k ≡ o → (rows_from s k o ≡ []) ↔ IsKept s k
no_row_from s k None is = (
  λ none e compared. absurd (none-some e (sym is ∙ compared.at)),
  λ kept. refl,
)
no_row_from s k (Some e) is =
    elim (cases_Bool (slice_index_or s.marks.exports k false)) [
      | inl dropped ↦ (
        λ none f compared. absurd (false≢true (sym compared.kept ∙ dropped)),
        λ kept. rw dropped refl,
      )
      | inr compared ↦ (
        λ none f told.
            let there : rows_for s e ≡ [] = rw compared at none in
            subst (IsBound s) (same_Some e f (sym is ∙ told.at)) ((no_row_for s e).0 there),
        λ kept.
            let none : rows_for s e ≡ [] = (no_row_for s e).1 (kept e (record { at = is; kept = compared })) in
            rw compared none,
      )
    ]

no_row_at : (s : Sides) (k : ℕ) → (rows_at s k ≡ []) ↔ IsKept s k
unfolding rows_at
no_row_at s k = no_row_from s k (slice_get s.old.exports k) refl

rows_upto-suc : (s : Sides) (k : ℕ) → rows_upto s (suc k) ≡ rows_upto s k ++ rows_at s k
unfolding rows_upto
rows_upto-suc s k = flat_map-range_more (rows_at s) k

pub rows_upto-more : (s : Sides) (k : ℕ) → rows_upto s (k + 1) ≡ rows_upto s k ++ rows_at s k
rows_upto-more s k = let e : k + 1 ≡ suc k = omega arith in ap (rows_upto s) e ∙ rows_upto-suc s k

pub rows_upto-none : (s : Sides) → rows_upto s 0 ≡ []
unfolding rows_upto
rows_upto-none s = refl

kept_below : (s : Sides) (n : ℕ) → rows_upto s n ≡ [] → (k : ℕ) → k < n → IsKept s k
kept_below s zero none k lt = absurd (omega arith)
kept_below s (suc n) none k lt =
    let split : rows_upto s n ++ rows_at s n ≡ [] = sym (rows_upto-suc s n) ∙ none in
    elim (cases_lt k n) [
      | inl earlier ↦ kept_below s n (left-nil (rows_upto s n) (rows_at s n) split) k earlier
      | inr last ↦ let same : n ≡ k = omega (arith, lt, last) in subst (IsKept s) same ((no_row_at s n).0 (right-nil (rows_upto s n) (rows_at s n) split))
    ]

none_below : (s : Sides) (n : ℕ) → ((k : ℕ) → k < n → IsKept s k) → rows_upto s n ≡ []
none_below s zero kept = rows_upto-none s
none_below s (suc n) kept =
    rows_upto-suc s n ∙ both-nil (rows_upto s n) (rows_at s n) (none_below s n (λ k lt. kept k (omega arith))) ((no_row_at s n).1 (kept n (omega arith)))

-- no row, where the types have none exactly where they are compatible
pub no_row : (s : Sides) (type_rows : List Row) → (type_rows ≡ []) ↔ AreCompatible (task_of s) → (export_rows s ++ type_rows ≡ []) ↔ IsCompatible s
unfolding export_rows
no_row s type_rows types =
    let of_sonames = soname_rows s.old.soname s.new.soname in
    let count = length s.old.exports in (
      λ none.
          let front = left-nil (of_sonames ++ rows_upto s count) type_rows none in
          record {
            sonames = (no_soname_row s.old.soname s.new.soname).0 (left-nil of_sonames (rows_upto s count) front);
            exports = λ k e compared. kept_below s count (right-nil of_sonames (rows_upto s count) front) k (slice_get_within s.old.exports k e compared.at) e compared;
            types = types.0 (right-nil (of_sonames ++ rows_upto s count) type_rows none);
          },
      λ fits.
          both-nil (of_sonames ++ rows_upto s count) type_rows
          (both-nil of_sonames (rows_upto s count) ((no_soname_row s.old.soname s.new.soname).1 fits.sonames) (none_below s count (λ k lt. fits.exports k)))
          (types.1 fits.types),
    )
