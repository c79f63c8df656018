-- Case by case.
use Rattle.std.proofs.Common.{◌≡◌, refl, sym, arith, true, false}
use Rattle.psabi.specs.Registers.{has_no_place}
use Rattle.psabi.specs.Arguments.{goes_to_stack}
use Rattle.psabi.proofs.CallLemmas.{place-none, place-stack, place-registers, registers-suffice, stack-bound}
use Rattle.psabi.proofs.argument_registers.ArgumentRegisters.place.Goals as goal

pub returns-then-has_no_place-clause-place : goal.returns-then-has_no_place-clause-place
returns-then-has_no_place-clause-place c =
    let none : has_no_place c.args.bytes c.args.classes.now ≡ true = cc in
    sym (place-none c.args.self.now c.args.bytes c.args.align c.args.classes.now none).0

pub returns-then-has_no_place-clause-taken : goal.returns-then-has_no_place-clause-taken
returns-then-has_no_place-clause-taken c =
    let none : has_no_place c.args.bytes c.args.classes.now ≡ true = cc in
    sym (place-none c.args.self.now c.args.bytes c.args.align c.args.classes.now none).1

pub overflow_add-self : goal.overflow_add-self
overflow_add-self c =
    let bound = stack-bound c.args.self.now.stack c.args.bytes c.args.align c.requires.align in
    omega (arith, bound)

pub returns-then-goes_to_stack-clause-place : goal.returns-then-goes_to_stack-clause-place
returns-then-goes_to_stack-clause-place c =
    let some : has_no_place c.args.bytes c.args.classes.now ≡ false = cc in
    let stack : goes_to_stack c.args.self.now c.args.classes.now ≡ true = cc in
    rw ((place-stack c.args.self.now c.args.bytes c.args.align c.args.classes.now some stack).0, c.stack_offset-offset.ensures, c.stack_size-size.ensures) refl

pub returns-then-goes_to_stack-clause-taken : goal.returns-then-goes_to_stack-clause-taken
returns-then-goes_to_stack-clause-taken c =
    let some : has_no_place c.args.bytes c.args.classes.now ≡ false = cc in
    let stack : goes_to_stack c.args.self.now c.args.classes.now ≡ true = cc in
    rw ((place-stack c.args.self.now c.args.bytes c.args.align c.args.classes.now some stack).1, c.stack_offset-offset.ensures, c.stack_size-size.ensures) refl

pub returns-then-goes_to_stack-clause-stack : goal.returns-then-goes_to_stack-clause-stack
returns-then-goes_to_stack-clause-stack c =
    let bound = stack-bound c.args.self.now.stack c.args.bytes c.args.align c.requires.align in
    omega (arith, bound)

pub returns-clause-place : goal.returns-clause-place
returns-clause-place c =
    let some : has_no_place c.args.bytes c.args.classes.now ≡ false = cc in
    let stack : goes_to_stack c.args.self.now c.args.classes.now ≡ false = cc in
    rw ((place-registers c.args.self.now c.args.bytes c.args.align c.args.classes.now some stack).0, c.argument_slots.ensures) refl

pub returns-clause-taken : goal.returns-clause-taken
returns-clause-taken c =
    let some : has_no_place c.args.bytes c.args.classes.now ≡ false = cc in
    let stack : goes_to_stack c.args.self.now c.args.classes.now ≡ false = cc in
    rw ((place-registers c.args.self.now c.args.bytes c.args.align c.args.classes.now some stack).1, c.general_count.ensures.number, c.vector_count.ensures.number) refl

pub returns-clause-general : goal.returns-clause-general
returns-clause-general c =
    let stack : goes_to_stack c.args.self.now c.args.classes.now ≡ false = cc in
    let suffice = registers-suffice c.args.self.now c.args.classes.now stack in
    omega (arith, suffice.0)

pub returns-clause-vector : goal.returns-clause-vector
returns-clause-vector c =
    let stack : goes_to_stack c.args.self.now c.args.classes.now ≡ false = cc in
    let suffice = registers-suffice c.args.self.now c.args.classes.now stack in
    omega (arith, suffice.1)
