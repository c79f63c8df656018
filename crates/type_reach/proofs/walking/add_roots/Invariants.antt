use Rattle.std.proofs.Common.{◌≡◌, map, drop, Some}
use Rattle.type_reach.specs.Reached.{with_types}
use Rattle.type_reach.proofs.walking.add_roots.Given as goal

abbrev pub invariant-roots : goal.invariant-roots
invariant-roots l = record {
  entries : with_types l.met.entries (map (λ e. Some e) (drop l.k l.roots)) ≡ with_types l.fn.met.entries (map (λ e. Some e) l.roots);
  room : l.met.room ≡ l.fn.met.room;
}
