-- Classes that are known, of the same nodes.
use Rattle.std.proofs.Common.{◌≡◌, ◌∙◌, ℕ, List, subst, sym}
use Rattle.abi_types.specs.Types.{PlainNode}
use Rattle.type_classes.specs.Classes.{PlainClasses, AreCoarsest}
use Rattle.type_classes.proofs.classes.alike_beside.Goals as goal

moved : (one other : List PlainNode) (reps copied : List ℕ) (known : PlainClasses) → one ≡ other → copied ≡ reps → record { nodes = one; reps = reps } ≡ known → AreCoarsest known → AreCoarsest (record { nodes = other; reps = copied })
moved one other reps copied known same copy is coarsest =
    let here : AreCoarsest (record { nodes = one; reps = reps }) = subst AreCoarsest (sym is) coarsest in
    let there : AreCoarsest (record { nodes = other; reps = reps }) = subst (λ (nodes : List PlainNode). AreCoarsest (record { nodes = nodes; reps = reps })) same here in
    subst (λ (rs : List ℕ). AreCoarsest (record { nodes = other; reps = rs })) (sym copy) there

pub returns-clause-coarsest : goal.returns-clause-coarsest
returns-clause-coarsest g c =
    moved c.known.inside.graph.now c.args.graph.now c.known.inside.reps.items c.in_ok-reps.reps.items c.args.known.now (c.are_same.ensures c.if-not-are_same.false) (c.in_ok-reps.ensures.items ∙ c.as_slice.ensures.value) c.known.view_is c.requires
