use Rattle.std.proofs.Common.{◌≡◌, ◌<◌, ℕ, length, sym, subst, arith}
use Rattle.type_print.specs.Rows.{AreExactly, key_of}
use Rattle.type_print.proofs.OverlapLemmas.{IsOutsideUpto, outsides_start, outsides_more, outsides_end}
use Rattle.type_print.proofs.overlaps.outsides.Goals as goal

pub loop-member-init : goal.loop-member-init
loop-member-init c = λ all names.
    subst (AreExactly (IsOutsideUpto c.args.members.now c.args.bits 0) (key_of all)) (sym c.new-rows.ensures.items) (outsides_start c.args.members.now c.requires all c.args.bits)

pub loop-member-preserved : goal.loop-member-preserved
loop-member-preserved c = λ all names.
    let inside : c.loop-member.member-index < length c.args.members.now = omega arith in
    outsides_more c.args.members.now c.requires all names c.args.bits c.loop-member.member-index inside c.loop-member.rows.items (c.loop-member.invariant all names) c.push_outside.new.rows.items c.in_ok-push_outside.ensures.added

pub returns-clause-exact : goal.returns-clause-exact
returns-clause-exact c = λ all names.
    let done : c.loop-member.member-index ≡ length c.args.members.now = omega arith in
    let P : ℕ → Type 0 = λ k. AreExactly (IsOutsideUpto c.args.members.now c.args.bits k) (key_of all) c.loop-member.rows.items in
    outsides_end c.args.members.now c.requires all c.args.bits c.loop-member.rows.items (subst P done (c.loop-member.invariant all names))
