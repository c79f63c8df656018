use Rattle.std.proofs.Common.{ℕ, sym, subst, arith}
use Rattle.dwarf_tree.specs.Keeping.{LooksFrom}
use Rattle.dwarf_tree.proofs.Below.{below_is}
use Rattle.dwarf_tree.proofs.Children.{looks_on, next_none, next_some, next_is_child}
use Rattle.dwarf_tree.proofs.tree.Tree.next_place.Goals as goal

pub depth_at-requires : goal.depth_at-requires
depth_at-requires c = omega (arith, c.end-end.ensures.end, (below_is c.args.self.now c.args.e c.requires).inside)

pub overflow_add-depth : goal.overflow_add-depth
overflow_add-depth c =
    let deeper = (below_is c.args.self.now c.args.e c.requires).deeper c.below.next c.below.invariant.behind (omega (arith, c.end-end.ensures.end)) in
    omega (arith, deeper, c.depth_at.type_inv, c.depth_at.ensures, c.depth_at-depth.ensures)

pub returns-then-depth_at-depth-clause-next : goal.returns-then-depth_at-depth-clause-next
returns-then-depth_at-depth-clause-next c =
    next_some c.args.self.now c.args.e c.requires c.args.after c.below.next c.below.invariant (omega (arith, c.end-end.ensures.end)) (omega arith)

pub returns-then-depth_at-depth-clause-child : goal.returns-then-depth_at-depth-clause-child
returns-then-depth_at-depth-clause-child c =
    next_is_child c.args.self.now c.args.e c.args.after c.below.next
    (next_some c.args.self.now c.args.e c.requires c.args.after c.below.next c.below.invariant (omega (arith, c.end-end.ensures.end)) (omega arith))

pub end-next-requires : goal.end-next-requires
end-next-requires c = omega (arith, c.end-end.ensures.end, (below_is c.args.self.now c.args.e c.requires).inside)

pub below-preserved : goal.below-preserved
below-preserved c =
    subst (λ (next : ℕ). LooksFrom c.args.self.now c.args.e c.args.after next) (sym c.end-next.ensures.end)
    (looks_on c.args.self.now c.args.e c.requires c.args.after c.below.next c.below.invariant (omega (arith, c.end-end.ensures.end)) (λ deep. absurd (omega arith)))

pub returns-clause-next : goal.returns-clause-next
returns-clause-next c =
    next_none c.args.self.now c.args.e c.requires c.args.after c.below.next c.below.invariant (omega (arith, c.end-end.ensures.end))
