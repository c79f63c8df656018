use Rattle.std.proofs.Common.{◌≡◌, take}
use Rattle.std.specs.Option.{option_copied}
use Rattle.app_check.specs.Links.{imports_from}
use Rattle.app_check.specs.Plain.{plain_imports}
use Rattle.app_check.proofs.linking.imports_from.Given as goal

abbrev pub invariant-loop-import : goal.invariant-loop-import
invariant-loop-import l = plain_imports l.those.items ≡ imports_from (option_copied l.soname) (take l.import-index (plain_imports l.imports))
