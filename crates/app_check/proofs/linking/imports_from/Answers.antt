use Rattle.std.proofs.Common.{◌∙◌, sym, ap}
use Rattle.std.specs.Option.{option_copied}
use Rattle.app_check.specs.Plain.{plain_imports}
use Rattle.app_check.proofs.LinksLemmas.{import_kept, import_passed}
use Rattle.app_check.proofs.linking.imports_from.Goals as goal
use Rattle.app_check.proofs.linking.imports_from.Goals.{then-may_come_from+in_ok-push, else-may_come_from}

pub loop-import-preserved : goal.loop-import-preserved
loop-import-preserved c =
    elim c.if-may_come_from.branch [
      | then-may_come_from+in_ok-push w ↦
          import_kept c.args.imports.now c.loop-import.import-index _ c.loop-import-test.true (option_copied c.args.soname) c.loop-import.those.items c.if-may_come_from.those.items
          (sym c.may_come_from.ensures ∙ w.if-may_come_from.true) (ap (λ v. v.items) w.those-is ∙ w.in_ok-push.ensures.items) c.loop-import.invariant
      | else-may_come_from w ↦
          ap (λ v. plain_imports v.items) w.those-is
          ∙ import_passed c.args.imports.now c.loop-import.import-index _ c.loop-import-test.true (option_copied c.args.soname) c.loop-import.those.items
          (sym c.may_come_from.ensures ∙ w.if-may_come_from.false) c.loop-import.invariant
    ]
