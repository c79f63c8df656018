use Rattle.std.proofs.Common.{◌∙◌, ◌+◌, refl, sym, ap, length}
use Rattle.std.proofs.lemmas.Result.{err_from_is_err_and}
use Rattle.abi_base.proofs.lemmas.Budgets.{spent_none, spent_more, spent_past}
use Rattle.abi_base.specs.declared.limit.Limit.TheVariants.{VersionDefinitions}
use Rattle.elf.specs.versions.Definitions.{definition_cost, definition_fault}
use Rattle.std.specs.Prelude.{is_some}
use Rattle.elf.proofs.versions_lemmas.ReadBefore.{read_none, read_more, sound_new, named_cost, malformed_fault, repeated_fault, was_there, refuses}
use Rattle.elf.proofs.versions.definitions.names_in.Goals as goal

pub loop-number-init : goal.loop-number-init
loop-number-init c = (
  read_none c.args.table.now c.args.strings.now c.args.count c.new-names.result c.new-names.ensures.empty,
  spent_none VersionDefinitions (length c.args.table.now + length c.args.strings.now) (definition_fault c.args.table.now c.args.strings.now c.args.count)
      (definition_cost c.args.table.now c.args.strings.now) c.of-budget.result c.of-budget.ensures,
)

pub returns-in-None-clause-judged : goal.returns-in-None-clause-judged
returns-in-None-clause-judged c =
    refuses c.args.table.now c.args.strings.now c.args.count c.loop-number.number c.loop-number.at c.loop-number.names c.bad_definition.result c.loop-number.invariant.0 c.loop-number-test.true
    (malformed_fault c.args.table.now c.args.strings.now c.args.count c.loop-number.number (sym c.in-None.ensures.malformed)) c.bad_definition.ensures

pub returns-then-stood-clause-judged : goal.returns-then-stood-clause-judged
returns-then-stood-clause-judged c =
    refuses c.args.table.now c.args.strings.now c.args.count c.loop-number.number c.loop-number.at c.loop-number.names c.bad_definition-then-stood.result c.loop-number.invariant.0 c.loop-number-test.true
    (repeated_fault c.args.table.now c.args.strings.now c.args.count c.loop-number.number
    (was_there c.args.table.now c.args.strings.now c.args.count c.loop-number.number c.loop-number.at c.loop-number.names c.in-Some.definition.index c.loop-number.invariant.0 c.in-Some.ensures.index
    (sym (ap is_some c.in_ok-insert-in-Some.ensures.old) ∙ sym c.is_some-stood.ensures ∙ c.if-stood.true))) c.bad_definition-then-stood.ensures

pub loop-number-preserved : goal.loop-number-preserved
loop-number-preserved c = (
  read_more c.args.table.now c.args.strings.now c.args.count c.loop-number.number c.loop-number.at c.in-Some.definition.next c.loop-number.names c.insert.new.self c.in-Some.definition.index
      c.in-Some.definition.name c.loop-number.invariant.0 c.loop-number-test.true (sym c.in-Some.ensures.malformed) c.in-Some.ensures.index c.in-Some.ensures.name c.in-Some.ensures.next
      (sym (ap is_some c.in_ok-insert-in-Some.ensures.old) ∙ sym c.is_some-stood.ensures ∙ c.if-stood.false) c.in_ok-insert-in-Some.ensures.updates.0,
  spent_more VersionDefinitions (length c.args.table.now + length c.args.strings.now) (definition_fault c.args.table.now c.args.strings.now c.args.count)
      (definition_cost c.args.table.now c.args.strings.now) c.loop-number.number _ c.loop-number.budget c.take.new.self c.loop-number.invariant.1
      (sound_new c.args.table.now c.args.strings.now c.args.count c.loop-number.number c.loop-number.at c.loop-number.names c.in-Some.definition.index c.loop-number.invariant.0 (sym c.in-Some.ensures.malformed) c.in-Some.ensures.index
      (sym (ap is_some c.in_ok-insert-in-Some.ensures.old) ∙ sym c.is_some-stood.ensures ∙ c.if-stood.false))
      (named_cost c.args.table.now c.args.strings.now c.loop-number.number c.in-Some.definition.name.now c.in-Some.ensures.name)
      c.in_ok-take-in-Some.ensures.within c.in_ok-take-in-Some.ensures.taken,
)

pub returns-in_err-take-in-Some-clause-past : goal.returns-in_err-take-in-Some-clause-past
returns-in_err-take-in-Some-clause-past c =
    let p = err_from_is_err_and c.from_residual.result c.from_residual.ensures.1 in
    rw (p.1, p.2, c.in_err-take-in-Some.ensures.named, c.loop-number.invariant.1.limit_is) (
      refl,
      spent_past VersionDefinitions (length c.args.table.now + length c.args.strings.now) (definition_fault c.args.table.now c.args.strings.now c.args.count)
          (definition_cost c.args.table.now c.args.strings.now) c.loop-number.number _ c.args.count c.loop-number.budget c.loop-number.invariant.1 c.loop-number-test.true
          (named_cost c.args.table.now c.args.strings.now c.loop-number.number c.in-Some.definition.name.now c.in-Some.ensures.name) c.in_err-take-in-Some.ensures.past,
    )
