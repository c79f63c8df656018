use Rattle.std.proofs.Common.{◌≡◌, ◌≤◌, take, map, count_by}
use Rattle.abi_types.specs.Plain.{plain_exports}
use Rattle.elf.specs.symbols.Plain.{plain_symbols}
use Rattle.app_check.specs.Links.{is_bound, lacking_names}
use Rattle.app_check.specs.Plain.{plain_imports}
use Rattle.app_check.proofs.linking.links_of.Given as goal

abbrev pub invariant-loop-index : goal.invariant-loop-index
invariant-loop-index l = record {
  bound : l.bound ≡ count_by (is_bound (plain_exports l.exports)) (take l.index (plain_imports l.imports));
  few : l.bound ≤ l.index;
  lacking : map (λ name. name.now) l.lacking.items ≡ lacking_names (plain_symbols l.symbols) (plain_exports l.exports) (take l.index (plain_imports l.imports));
}
