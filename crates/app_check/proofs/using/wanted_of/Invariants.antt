use Rattle.std.proofs.Common.{◌≡◌, take}
use Rattle.std.specs.Option.{option_copied}
use Rattle.abi_types.specs.Plain.{plain_exports}
use Rattle.app_check.specs.Plain.{plain_imports}
use Rattle.app_check.proofs.Places.{wanted_among}
use Rattle.app_check.proofs.using.wanted_of.Given as goal

abbrev pub invariant-loop-import : goal.invariant-loop-import
invariant-loop-import l = plain_exports l.wanted.items ≡ wanted_among (option_copied l.soname) (take l.import-index (plain_imports l.imports))
