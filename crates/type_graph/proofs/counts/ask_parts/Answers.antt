use Rattle.std.proofs.Common.{refl, inl, inr, arith}
use Rattle.std.proofs.lemmas.Result.{err_from_is_err_and}
use Rattle.abi_base.proofs.lemmas.Outcomes.{on_limit_weaker}
use Rattle.abi_base.specs.declared.limit.Limit.TheVariants.{Letters, Members}
use Rattle.type_graph.specs.Counts.{members_held, member_letters_held}
use Rattle.type_graph.proofs.CountLemmas.{parts-le}
use Rattle.type_graph.proofs.lemmas.Spending.{spent-all, spent-next, spent-passes}
use Rattle.type_graph.proofs.counts.ask_parts.Goals as goal

pub returns-in_err-take_parts-clause-past : goal.returns-in_err-take_parts-clause-past
returns-in_err-take_parts-clause-past c =
    let d = c.args.types.now.dwarf.now in
    let found = c.args.types.now.found.now in
    let was = c.found.invariant in
    let p = err_from_is_err_and c.from_residual.result c.from_residual.ensures.1 in
    rw (p.1, p.2) (on_limit_weaker c.in_err-take_parts.field-0.0 _ _
    (λ l h. elim h [
      | inl one ↦ inl (spent-passes Members c.args.bytes (members_held d) found c.found.number c.at-e.result _ c.found.budget l was.parts c.at-e.ensures one refl)
      | inr other ↦ inr (spent-passes Letters c.args.bytes (member_letters_held d) found c.found.number c.at-e.result _ c.found.letters l was.letters c.at-e.ensures other refl)
    ])
    c.in_err-take_parts.ensures.past)

pub found-preserved : goal.found-preserved
found-preserved c =
    let d = c.args.types.now.dwarf.now in
    let found = c.args.types.now.found.now in
    let was = c.found.invariant in
    let after = c.in_ok-take_parts.ensures in
    record {
      parts = spent-next Members c.args.bytes (members_held d) found c.found.number c.at-e.result _ c.found.budget c.take_parts.new.budget was.parts c.at-e.ensures after.parts refl;
      letters = spent-next Letters c.args.bytes (member_letters_held d) found c.found.number c.at-e.result _ c.found.letters c.take_parts.new.letters was.letters c.at-e.ensures after.letters refl;
    }

pub returns-clause-members : goal.returns-clause-members
returns-clause-members c =
    let d = c.args.types.now.dwarf.now in
    let found = c.args.types.now.found.now in
    spent-all Members c.args.bytes (members_held d) found c.found.number c.found.budget c.found.invariant.parts (omega (arith, c.found-test.false, c.len-number-end.ensures))

pub returns-clause-parts : goal.returns-clause-parts
returns-clause-parts c =
    let d = c.args.types.now.dwarf.now in
    let found = c.args.types.now.found.now in
    let read = spent-all Members c.args.bytes (members_held d) found c.found.number c.found.budget c.found.invariant.parts (omega (arith, c.found-test.false, c.len-number-end.ensures)) in
    omega (arith, read, parts-le d (c.laws_of_types.ensures d) found c.requires.closed c.requires.summaries.shallow)
