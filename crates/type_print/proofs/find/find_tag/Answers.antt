use Rattle.std.proofs.Common.{◌≡◌, ◌<◌, ◌+◌, ℕ, length, Option, sym, subst, arith}
use Rattle.std.specs.Option.{option_map}
use Rattle.type_print.proofs.FindLemmas.{IsFoundBelow, found_more, found_inside, found_tagged, found_untagged}
use Rattle.type_print.proofs.find.find_tag.Goals as goal

pub loop-number-preserved : goal.loop-number-preserved
loop-number-preserved g c =
    let nodes = c.args.graph.now in
    let tag = c.args.tag.now in
    let number_of = g.Ix.Index.number_of in
    let inside : c.loop-number.number < length c.args.graph.now = omega arith in
    let P : Option ℕ → Type 0 = λ o. IsFoundBelow nodes tag (c.loop-number.number + 1) o in
    let found : IsFoundBelow nodes tag (c.loop-number.number + 1) (option_map number_of c.found_with-found.result) =
    subst P (sym c.found_with-found.ensures) (found_more nodes tag c.loop-number.number inside (option_map number_of c.loop-number.found) c.loop-number.invariant.found) in
    record { inside = found_inside number_of nodes tag (c.loop-number.number + 1) c.found_with-found.result found; found = found }

pub returns-clause-found : goal.returns-clause-found
returns-clause-found g c =
    let done : c.loop-number.number ≡ length c.args.graph.now = omega arith in
    let P : ℕ → Type 0 = λ k. IsFoundBelow c.args.graph.now c.args.tag.now k (option_map g.Ix.Index.number_of c.loop-number.found) in
    found_tagged g.Ix.Index.number_of c.args.graph.now c.args.tag.now c.loop-number.found (subst P done c.loop-number.invariant.found)

pub returns-clause-none : goal.returns-clause-none
returns-clause-none g c =
    let done : c.loop-number.number ≡ length c.args.graph.now = omega arith in
    let P : ℕ → Type 0 = λ k. IsFoundBelow c.args.graph.now c.args.tag.now k (option_map g.Ix.Index.number_of c.loop-number.found) in
    found_untagged g.Ix.Index.number_of c.args.graph.now c.args.tag.now c.loop-number.found (subst P done c.loop-number.invariant.found)
