use Rattle.std.proofs.Common.{◌≡◌, ◌++◌, take}
use Rattle.std.specs.Prelude.{string_bytes}
use Rattle.abi_types.specs.Plain.{plain_exports}
use Rattle.library_check.specs.Applications.{use_lines}
use Rattle.library_check.proofs.applying.push_uses.Given as goal

abbrev pub invariant-loop-place : goal.invariant-loop-place
invariant-loop-place l = string_bytes l.text ≡ string_bytes l.initial.text ++ use_lines (take l.place (plain_exports l.exports)) (take l.place l.dropped)
