use Rattle.std.proofs.Common.{◌∙◌, sym, ap}
use Rattle.std.specs.Option.{option_copied}
use Rattle.abi_types.specs.Plain.{plain_exports}
use Rattle.app_check.proofs.Places.{wanted_added, wanted_passed}
use Rattle.app_check.proofs.using.wanted_of.Goals as goal
use Rattle.app_check.proofs.using.wanted_of.Goals.{then-may_come_from+in_ok-push, else-may_come_from}

pub loop-import-preserved : goal.loop-import-preserved
loop-import-preserved c =
    elim c.if-may_come_from.branch [
      | then-may_come_from+in_ok-push w ↦
          wanted_added (option_copied c.args.soname) c.args.imports.now c.loop-import.import-index _ c.loop-import-test.true c.loop-import.wanted.items c.if-may_come_from.wanted.items w.wanted_by.result
          (sym c.may_come_from.ensures ∙ w.if-may_come_from.true) w.wanted_by.ensures (ap (λ v. v.items) w.wanted-is ∙ w.in_ok-push.ensures.items) c.loop-import.invariant
      | else-may_come_from w ↦
          ap (λ v. plain_exports v.items) w.wanted-is
          ∙ wanted_passed (option_copied c.args.soname) c.args.imports.now c.loop-import.import-index _ c.loop-import-test.true c.loop-import.wanted.items
          (sym c.may_come_from.ensures ∙ w.if-may_come_from.false) c.loop-import.invariant
    ]
