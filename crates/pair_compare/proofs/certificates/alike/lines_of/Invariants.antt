-- The lines of the nodes before this one.
use Rattle.std.proofs.Common.{◌≡◌, ◌^◌}
use Rattle.std.specs.List.{All}
use Rattle.cert_text.specs.Certs.{IsBelow}
use Rattle.pair_compare.specs.certificates.LineLists.{alike_below}
use Rattle.pair_compare.proofs.certificates.alike.lines_of.Given as goal

abbrev pub invariant-loop-number : goal.invariant-loop-number
invariant-loop-number g l = (l.lines ≡ alike_below l.classes l.number) × All (IsBelow (2 ^ 64)) l.lines
