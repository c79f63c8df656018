-- A sort moves pairs alone.
use Rattle.std.proofs.Common.{rules}
use Rattle.std.proofs.lemmas.List.Sorted.{IsNonDecreasingBy-from_sort_by_key}
use Rattle.type_classes.specs.Splits.{key_of}
use Rattle.type_classes.proofs.NumberLemmas.{sorted_inside, sorted_shapes}
use Rattle.type_classes.proofs.shapes.shape_pairs.Goals as goal

pub returns-clause-rising : goal.returns-clause-rising
returns-clause-rising g c = IsNonDecreasingBy-from_sort_by_key key_of c.sort_unstable_by_key.new.self.items c.sort_unstable_by_key.ensures.sorted (λ a r q k. search rules)

pub returns-clause-numbers : goal.returns-clause-numbers
returns-clause-numbers g c = sorted_inside c.args.graph.now c.in_ok-pairs.pairs c.sort_unstable_by_key.new.self.items c.in_ok-pairs.ensures.numbered c.sort_unstable_by_key.ensures.permutation

pub returns-clause-shapes : goal.returns-clause-shapes
returns-clause-shapes g c = sorted_shapes c.args.graph.now c.in_ok-pairs.pairs c.sort_unstable_by_key.new.self.items c.in_ok-pairs.ensures.numbered c.sort_unstable_by_key.ensures.permutation
