use Rattle.std.proofs.Common.{◌≡◌, ◌+◌, ◌-◌, refl, arith}
use Rattle.std.proofs.lemmas.Result.{err_from_is_err_and}
use Rattle.abi_base.specs.declared.limit.Limit.TheVariants.{PatternClasses}
use Rattle.abi_base.specs.Outcome.{first}
use Rattle.abi_base.proofs.lemmas.Filtered.{spent_nothing}
use Rattle.suppression_text.specs.Lines.{form_of, forms_of}
use Rattle.suppression_text.specs.Faults.{form_fault, last_of, line_faults}
use Rattle.suppression_text.proofs.ReadingLemmas.{started, read_on, read_fault, read_whole, read_clear, refused, classes_past, classes_spent, classes_whole}
use Rattle.suppression_text.proofs.reading.read_sections.Goals as goal

pub lines-init : goal.lines-init
lines-init c = record {
  number = omega arith;
  reading = rw c.new-sections.ensures.items (started c.args.bytes.now);
  spent = spent_nothing PatternClasses 0 c.of-budget.result c.of-budget.ensures;
}

pub returns-in_err-take-clause-past : goal.returns-in_err-take-clause-past
returns-in_err-take-clause-past c =
    let p = err_from_is_err_and c.from_residual.result c.from_residual.ensures.1 in
    rw (p.1, p.2, c.in_err-take.ensures.named, c.lines.invariant.spent.limit_is) (
      refl,
      classes_past c.args.bytes.now c.lines.left.now c.in-Some.next.rest.now c.in-Some.next.line.now (c.lines.number - 1) c.lines.sections.items c.lines.budget c.classes_in.result c.lines.invariant.reading c.in-Some.ensures.lines
          c.lines.invariant.spent c.classes_in.ensures c.in_err-take.ensures.past,
    )

pub returns-in_err-read_line-clause-fault : goal.returns-in_err-read_line-clause-fault
returns-in_err-read_line-clause-fault c =
    let p = err_from_is_err_and c.from_residual-in_err-read_line.result c.from_residual-in_err-read_line.ensures.1 in
    let number : (c.lines.number - 1) + 1 ≡ c.lines.number = omega (arith, c.lines.invariant.number) in
    rw (p.1, p.2) (refused c.in_err-read_line.field-0.0 (form_fault c.lines.number (last_of c.lines.sections.items) (form_of c.in-Some.next.line.now)) (first (line_faults (forms_of c.args.bytes.now)))
    (rw c.line_of.ensures at c.in_err-read_line.ensures.fault)
    (λ f is. read_fault c.args.bytes.now c.lines.left.now c.in-Some.next.rest.now c.in-Some.next.line.now (c.lines.number - 1) c.lines.sections.items f c.lines.invariant.reading c.in-Some.ensures.lines (rw number is)))

pub lines-preserved : goal.lines-preserved
lines-preserved c =
    let number : (c.lines.number - 1) + 1 ≡ c.lines.number = omega (arith, c.lines.invariant.number) in
    let next : c.lines.number + 1 - 1 ≡ (c.lines.number - 1) + 1 = omega (arith, c.lines.invariant.number) in record {
      number = omega arith;
      reading = rw next (read_on c.args.bytes.now c.lines.left.now c.in-Some.next.rest.now c.in-Some.next.line.now (c.lines.number - 1) c.lines.sections.items c.read_line.new.sections.items c.lines.invariant.reading c.in-Some.ensures.lines c.in-Some.ensures.shorter
          (rw number (rw c.line_of.ensures at c.in_ok-read_line.ensures.fault))
          (rw number (rw c.line_of.ensures at c.in_ok-read_line.ensures.put)));
      spent =
          rw next (classes_spent c.args.bytes.now c.lines.left.now c.in-Some.next.rest.now c.in-Some.next.line.now (c.lines.number - 1) c.lines.sections.items c.lines.budget c.take.new.self c.classes_in.result
          c.lines.invariant.reading c.in-Some.ensures.lines c.lines.invariant.spent c.classes_in.ensures c.in_ok-take.ensures.within c.in_ok-take.ensures.taken);
    }

pub returns-clause-sections : goal.returns-clause-sections
returns-clause-sections c = read_whole c.args.bytes.now c.lines.left.now (c.lines.number - 1) c.lines.sections.items c.lines.invariant.reading c.in_default.ensures.lines

pub returns-clause-fault : goal.returns-clause-fault
returns-clause-fault c = read_clear c.args.bytes.now c.lines.left.now (c.lines.number - 1) c.lines.sections.items c.lines.invariant.reading c.in_default.ensures.lines

pub returns-clause-within : goal.returns-clause-within
returns-clause-within c = classes_whole c.args.bytes.now c.lines.left.now (c.lines.number - 1) c.lines.sections.items c.lines.budget c.lines.invariant.reading c.in_default.ensures.lines c.lines.invariant.spent
