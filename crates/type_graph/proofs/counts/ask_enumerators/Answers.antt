use Rattle.std.proofs.Common.{refl, inl, inr}
use Rattle.std.proofs.lemmas.Result.{err_from_is_err_and}
use Rattle.abi_base.proofs.lemmas.Lists.{contains_at}
use Rattle.abi_base.proofs.lemmas.Outcomes.{on_limit_weaker}
use Rattle.abi_base.specs.declared.limit.Limit.TheVariants.{Letters, Enumerators}
use Rattle.type_graph.specs.Counts.{enumerators_held, enumerator_letters_held}
use Rattle.type_graph.proofs.lemmas.Spending.{spent-next, spent-passes}
use Rattle.type_graph.proofs.counts.ask_enumerators.Goals as goal

pub take_enumerators-requires-clause-inside : goal.take_enumerators-requires-clause-inside
take_enumerators-requires-clause-inside c = c.requires.closed.inside c.at-e.result (contains_at c.args.found.now c.found.number c.at-e.result c.at-e.ensures)

pub returns-in_err-take_enumerators-clause-past : goal.returns-in_err-take_enumerators-clause-past
returns-in_err-take_enumerators-clause-past c =
    let d = c.args.dwarf.now in
    let found = c.args.found.now in
    let was = c.found.invariant in
    let p = err_from_is_err_and c.from_residual.result c.from_residual.ensures.1 in
    rw (p.1, p.2) (on_limit_weaker c.in_err-take_enumerators.field-0.0 _ _
    (λ l h. elim h [
      | inl one ↦ inl (spent-passes Enumerators c.args.bytes (enumerators_held d) found c.found.number c.at-e.result _ c.found.budget l was.parts c.at-e.ensures one refl)
      | inr other ↦ inr (spent-passes Letters c.args.bytes (enumerator_letters_held d) found c.found.number c.at-e.result _ c.found.letters l was.letters c.at-e.ensures other refl)
    ])
    c.in_err-take_enumerators.ensures.past)

pub found-preserved : goal.found-preserved
found-preserved c =
    let d = c.args.dwarf.now in
    let found = c.args.found.now in
    let was = c.found.invariant in
    let after = c.in_ok-take_enumerators.ensures in
    record {
      parts = spent-next Enumerators c.args.bytes (enumerators_held d) found c.found.number c.at-e.result _ c.found.budget c.take_enumerators.new.budget was.parts c.at-e.ensures after.parts refl;
      letters = spent-next Letters c.args.bytes (enumerator_letters_held d) found c.found.number c.at-e.result _ c.found.letters c.take_enumerators.new.letters was.letters c.at-e.ensures after.letters refl;
    }
