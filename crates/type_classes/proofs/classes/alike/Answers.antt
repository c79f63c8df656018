-- The coarsest stable classes, each with its node of least entry offset.
use Rattle.std.proofs.Common.{◌≡◌, ◌<◌, ℕ, List, length, subst, sym, ◌∙◌, arith}
use Rattle.std.specs.Prelude.{◌↔◌}
use Rattle.abi_types.specs.Graphs.{node_at}
use Rattle.abi_types.specs.ClassLooks.{shape_of}
use Rattle.type_classes.specs.Blocks.{class_in}
use Rattle.type_classes.specs.Splits.{HaveSameKeys}
use Rattle.type_classes.proofs.RepLemmas.{first_refined, AreSound-reps, coarsest_reps}
use Rattle.type_classes.proofs.classes.alike.Goals as goal

pub one-requires : goal.one-requires
one-requires g c = let some = c.known.ensures.void_first in let e = c.len.ensures in omega arith

pub refine-requires-clause-refined : goal.refine-requires-clause-refined
refine-requires-clause-refined g c =
    let told = c.in_ok-blocks.ensures in
    let nodes = c.args.graph.now in
    let len = c.len.ensures in
    let whole = told.len in
    first_refined nodes c.in_ok-blocks.blocks c.split_by_keys.new.blocks c.as_slice.result.now (told.len ∙ c.len.ensures) (λ x inside. told.classes x (omega arith))
    (subst (λ (ps : List (ℕ × ℕ)). (x y : ℕ) → x < length nodes → y < length nodes → HaveSameKeys ps x y ↔ (shape_of (node_at nodes x) ≡ shape_of (node_at nodes y))) (sym c.as_slice.ensures.value) c.in_ok-pairs.ensures.shapes)
    c.in_ok-split_by_keys.ensures.split

pub invariant_of-result : goal.invariant_of-result
invariant_of-result g c = AreSound-reps c.args.graph.now (class_in c.refine.new.blocks) c.in_ok-reps.reps.items c.known.ensures c.in_ok-reps.ensures.reps c.in_ok-refine.ensures.refined

pub returns-clause-coarsest : goal.returns-clause-coarsest
returns-clause-coarsest g c = coarsest_reps c.args.graph.now (class_in c.refine.new.blocks) c.in_ok-reps.reps.items c.known.ensures c.in_ok-reps.ensures.reps c.in_ok-refine.ensures.refined
