-- One arrow after another, the last one first.
use Rattle.std.proofs.Common.{◌≡◌, ◌<◌, ◌+◌, ◌-◌, ℕ, length, slice_index_or, subst, arith}
use Rattle.std.proofs.lemmas.List.Elements.{Contains-get_or}
use Rattle.std.proofs.lemmas.Option.{slice_get-get_or}
use Rattle.leading_exports.proofs.Spreading.{Passing, Passing-arrow, AreClosed-all}
use Rattle.leading_exports.proofs.arrows.follow_all.Goals as goal

pub follow-found-requires : goal.follow-found-requires
follow-found-requires c =
    let lt : c.arrows.left - 1 < length c.args.arrows.now = omega (arith, c.arrows.invariant.within, c.arrows-test.true) in
    let inside = c.requires (slice_index_or c.args.arrows.now (c.arrows.left - 1) (0, 0)) (Contains-get_or c.args.arrows.now (c.arrows.left - 1) (0, 0) lt) in
    omega (arith, inside, c.arrows.invariant.same)

pub arrows-preserved : goal.arrows-preserved
arrows-preserved c =
    let k : ℕ = c.arrows.left - 1 in
    let lt : k < length c.args.arrows.now = omega (arith, c.arrows.invariant.within, c.arrows-test.true) in
    let arrow : ℕ × ℕ = slice_index_or c.args.arrows.now k (0, 0) in
    let inside = c.requires arrow (Contains-get_or c.args.arrows.now k (0, 0) lt) in
    let within : arrow.0 < length c.arrows.marks = omega (arith, inside, c.arrows.invariant.same) in
    let back : c.arrows.left ≡ k + 1 = omega (arith, c.arrows-test.true) in
    let P : ℕ → Type 0 = λ n. Passing c.args.arrows.now c.args.marks.now c.arrows.marks n c.arrows.is_new in
    Passing-arrow c.args.arrows.now c.args.marks.now c.arrows.marks c.follow-found.new.marks k c.arrows.is_new c.follow-found.result arrow
    (slice_get-get_or c.args.arrows.now k (0, 0) lt) within
    c.follow-found.ensures.kept c.follow-found.ensures.closed c.follow-found.ensures.leads c.follow-found.ensures.unmarked c.follow-found.ensures.marked
    (subst P back c.arrows.invariant)

pub returns-clause-closed : goal.returns-clause-closed
returns-clause-closed c =
    let none : c.arrows.left ≡ 0 = omega (arith, c.arrows-test.false) in
    let P : ℕ → Type 0 = λ n. Passing c.args.arrows.now c.args.marks.now c.arrows.marks n c.arrows.is_new in
    AreClosed-all c.args.arrows.now c.args.marks.now c.arrows.marks c.arrows.is_new (subst P none c.arrows.invariant)
