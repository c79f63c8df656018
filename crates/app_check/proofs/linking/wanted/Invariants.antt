use Rattle.std.proofs.Common.{◌≡◌, take, map}
use Rattle.abi_types.specs.Plain.{plain_exports}
use Rattle.app_check.specs.Plain.{plain_imports}
use Rattle.app_check.specs.Used.{wanted_by}
use Rattle.app_check.proofs.linking.wanted.Given as goal

abbrev pub invariant-loop-import : goal.invariant-loop-import
invariant-loop-import l = plain_exports l.wanted.items ≡ map wanted_by (take l.import-index (plain_imports l.imports))
