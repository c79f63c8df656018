use Rattle.std.proofs.Common.{ℕ, Option, sym, subst, arith}
use Rattle.dwarf_tree.specs.Keeping.{LooksFrom, end_below}
use Rattle.dwarf_tree.proofs.Below.{below_is}
use Rattle.dwarf_tree.proofs.Children.{looks_behind}
use Rattle.dwarf_tree.proofs.tree.Tree.start.Goals as goal

pub end-requires : goal.end-requires
end-requires c = omega (arith, c.end-end.ensures.end, (below_is c.args.self.now c.args.e c.requires).inside)

pub returns-then-place-e : goal.returns-then-place-e
returns-then-place-e c =
    let here = looks_behind c.args.self.now c.args.e c.requires c.in-Some.place c.if-place-e.true (omega (arith, c.end-end.ensures.end)) in
    subst (λ (next : ℕ). LooksFrom c.args.self.now c.args.e c.args.after next) (sym c.end.ensures.end)
    (subst (λ (after : Option ℕ). LooksFrom c.args.self.now c.args.e after (end_below c.args.self.now c.in-Some.place)) (sym c.in-Some.is) here)
