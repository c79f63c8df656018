-- The lines of the exports so far, and what they took.
use Rattle.std.proofs.Common.{◌≡◌, ◌++◌, take, string_bytes}
use Rattle.std.specs.List.{flat_map}
use Rattle.abi_types.specs.Plain.{plain_exports}
use Rattle.listings.specs.exports.ExportLines.{export_line}
use Rattle.listings.proofs.LinesTaken.{LinesTaken}
use Rattle.listings.proofs.exports.lines.push_lines.Given as goal

abbrev pub invariant-loop-export : goal.invariant-loop-export
invariant-loop-export g l =
    (string_bytes l.text ≡ string_bytes l.fn.text ++ flat_map (export_line l.graph) (plain_exports (take l.export-index l.exports)))
    × LinesTaken (export_line l.graph) (plain_exports (take l.export-index l.exports)) l.fn.budget l.budget
