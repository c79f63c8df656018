-- The lines of the visits before this one.
use Rattle.std.proofs.Common.{◌≡◌, ◌^◌, map, take}
use Rattle.std.specs.List.{All}
use Rattle.cert_text.specs.Certs.{IsPairBelow}
use Rattle.pair_compare.specs.certificates.LineLists.{pair_line}
use Rattle.pair_compare.proofs.certificates.pairs.lines_of.Given as goal

abbrev pub invariant-loop-number : goal.invariant-loop-number
invariant-loop-number l = (l.lines.items ≡ map (pair_line l.old l.new) (take l.number l.visits)) × All (IsPairBelow (2 ^ 64)) l.lines.items
