use Rattle.std.proofs.Common.{◌≡◌, length, take, ℕ, Some}
use Rattle.std.specs.Prelude.{All}
use Rattle.type_reach.specs.ByValue.{IsTooDeep}
use Rattle.type_reach.specs.Facts.{AreFacts}
use Rattle.type_reach.proofs.learning.find_deep.Given as goal

abbrev pub invariant-order : goal.invariant-order
invariant-order l = record {
  known : AreFacts l.types.dwarf.now l.types.found.now l.known.items;
  len : length l.known.items ≡ length l.types.found.now;
  shallow : All (λ (e : ℕ). IsTooDeep l.types.dwarf.now.tree (Some e) → ⊥) (take l.k l.order.items);
}
