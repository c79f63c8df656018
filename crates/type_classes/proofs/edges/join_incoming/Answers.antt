-- A sort moves pairs alone.
use Rattle.std.proofs.Common.{ℕ, rules}
use Rattle.std.specs.Prelude.{Contains}
use Rattle.std.proofs.lemmas.List.Sorted.{IsNonDecreasingBy-from_sort_by_key}
use Rattle.type_classes.specs.Splits.{key_of}
use Rattle.type_classes.specs.Edges.{IsIncoming}
use Rattle.type_classes.proofs.EdgeLemmas.{moved_pairs}
use Rattle.type_classes.proofs.edges.join_incoming.Goals as goal

pub returns-clause-pairs : goal.returns-clause-pairs
returns-clause-pairs c = moved_pairs c.join.new.into.items c.sort_unstable_by_key.new.self.items (λ e. (s : ℕ) × Contains c.args.nodes.now s × IsIncoming c.args.incoming.now s e) c.sort_unstable_by_key.ensures.permutation c.in_ok-join.ensures.joined

pub returns-clause-rising : goal.returns-clause-rising
returns-clause-rising c = IsNonDecreasingBy-from_sort_by_key key_of c.sort_unstable_by_key.new.self.items c.sort_unstable_by_key.ensures.sorted (λ a r q k. search rules)
