use Rattle.std.proofs.Common.{◌≡◌, length, take, map, ℕ, Some}
use Rattle.type_reach.specs.Facts.{AreFacts, facts_of}
use Rattle.type_reach.proofs.learning.collect.Given as goal

abbrev pub invariant-found : goal.invariant-found
invariant-found l = record {
  known : AreFacts l.types.dwarf.now l.types.found.now l.known.items;
  len : length l.known.items ≡ length l.types.found.now;
  facts : l.facts.items ≡ map (λ (e : ℕ). facts_of l.types.dwarf.now (Some e)) (take l.number l.types.found.now);
}
