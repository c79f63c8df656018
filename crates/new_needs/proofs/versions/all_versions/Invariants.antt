use Rattle.std.proofs.Common.{◌≡◌}
use Rattle.std.specs.Prelude.{filter_map}
use Rattle.std.specs.List.{range_with_len}
use Rattle.elf_needs.specs.Plain.{needed}
use Rattle.new_needs.specs.Versions.{plain_versions}
use Rattle.new_needs.proofs.versions.all_versions.Given as goal

abbrev pub invariant-loop-index : goal.invariant-loop-index
invariant-loop-index l = plain_versions l.all.items ≡ filter_map (needed l.needs) (range_with_len 0 l.index)
