-- The rows of a report on sonames and exports.
use Rattle.std.specs.Prelude.{ℕ, Bool, false, if◌then◌else◌, List, [], ◌∷◌, ◌++◌, length, Option, Some, None, slice_get, slice_index_or, codes}
use Rattle.std.specs.List.{flat_map, list_any, range_with_len}
use Rattle.abi_types.specs.declared.rule.Rule.{Rule}
use Rattle.abi_types.specs.declared.rule.Rule.TheVariants.{LibrarySoname, ExportPresence, ExportVersion, ExportKind, ExportSize, ExportType}
use Rattle.abi_types.specs.Exports.{PlainExport}
use Rattle.abi_types.specs.Shown.{label}
use Rattle.pair_rules.specs.ExportRules.{breaks_kind, breaks_size, breaks_type}
use Rattle.elf_bind.specs.Binding.{is_named}
use Rattle.elf_bind.specs.Exports.{same_name}
use Rattle.cert_check.specs.Compatible.{Sides, bound}
use Rattle.report.specs.Details.{export_detail, soname_detail}
use Rattle.report.specs.declared.row.Row.{Row}
use Rattle.report.specs.declared.value.Value.{Value}
use Rattle.report.specs.Values.{export_is, export_was, soname_value}

-- a row about no types
abbrev pub plain_row : Rule → List ℕ → List ℕ → Value → Value → Row
plain_row rule of detail was is =
    record { rule = rule; export = of; path = []; detail = detail; part = []; was = was; is = is; old_entry = 0; new_entry = 0 }

-- X1, where the sonames differ
unfoldable pub soname_rows : Option (List ℕ) → Option (List ℕ) → List Row
soname_rows old new =
    if same_name old new then [] else plain_row LibrarySoname (codes "-") (soname_detail old new) (soname_value old) (soname_value new) ∷ []

-- ---- one old export

-- the row of a rule that an old export breaks beside a new one
abbrev pub export_row : Rule → PlainExport → PlainExport → Row
export_row rule e f = plain_row rule (label e) (export_detail rule e f) (export_was rule e) (export_is rule f)

abbrev pub row_if : Bool → Row → List Row
row_if broken row = if broken then row ∷ [] else []

-- X3 if a new export has the name, else X2, for an export that is gone; there is no new export to compare with
unfoldable pub gone_rows : Bool → PlainExport → List Row
gone_rows named e = (if named then export_row ExportVersion e e else export_row ExportPresence e e) ∷ []

-- those of X4 to X6 that are broken
unfoldable pub changed_rows : PlainExport → PlainExport → List Row
changed_rows e f = row_if (breaks_kind e f) (export_row ExportKind e f) ++ (row_if (breaks_size e f) (export_row ExportSize e f) ++ row_if (breaks_type e f) (export_row ExportType e f))

-- the rows of an old export, by what it binds to
abbrev pub rows_between : Bool → PlainExport → Option PlainExport → List Row
rows_between named e None = gone_rows named e
rows_between named e (Some f) = changed_rows e f

-- whether some new export has this name
unfoldable pub has_name : Sides → List ℕ → Bool
has_name s name = list_any (is_named name) s.new.exports

unfoldable pub rows_for : Sides → PlainExport → List Row
rows_for s e = rows_between (has_name s e.name) e (bound s e)

-- ---- all old exports

abbrev pub rows_from : Sides → ℕ → Option PlainExport → List Row
rows_from s k None = []
rows_from s k (Some e) = if slice_index_or s.marks.exports k false then [] else rows_for s e

-- the rows of the old export at a position, if it is compared
unfoldable pub rows_at : Sides → ℕ → List Row
rows_at s k = rows_from s k (slice_get s.old.exports k)

-- the rows of the first exports, in order
unfoldable pub rows_upto : Sides → ℕ → List Row
rows_upto s count = flat_map (rows_at s) (range_with_len 0 count)

-- the row on sonames, and then those on exports, by export and rule
unfoldable pub export_rows : Sides → List Row
export_rows s = soname_rows s.old.soname s.new.soname ++ rows_upto s (length s.old.exports)
