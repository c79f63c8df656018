use Rattle.std.proofs.Common.{◌≡◌, ◌≤◌, ◌+◌, map, drop, length}
use Rattle.std.specs.Prelude.{zip}
use Rattle.std.specs.List.{list_any}
use Rattle.type_reach.specs.Facts.{most, spread, member_align, member_span, member_beyond}
use Rattle.type_reach.proofs.NearLemmas.{NearLow, NearHigh}
use Rattle.type_reach.proofs.member_totals.member_totals_of.Given as goal

abbrev pub invariant-down : goal.invariant-down
invariant-down l = record {
  align : l.align ≡ most (map (member_align l.dwarf) (drop l.k (zip l.members l.of_types)));
  span : l.span ≡ spread (map (member_span l.dwarf) (drop l.k (zip l.members l.of_types)));
  beyond : l.beyond ≡ list_any (member_beyond l.dwarf) (drop l.k (zip l.members l.of_types));
  members : l.k ≤ length l.members;
  types : l.k ≤ length l.of_types;
  low : NearLow (l.rank + 1) l.span;
  high : NearHigh (l.rank + 1) l.span;
}

abbrev pub decreases-down : goal.decreases-down
decreases-down l = l.k
