use Rattle.std.proofs.Common.{◌∙◌, List, ap}
use Rattle.std.proofs.lemmas.Simd.{map-map}
use Rattle.abi_types.specs.declared.export.Export.{Export}
use Rattle.abi_types.specs.Exports.{PlainExport}
use Rattle.abi_types.specs.Plain.{plain_exports}
use Rattle.elf_bind.specs.Binding.{bind_to, bind_each}
use Rattle.app_check.specs.Plain.{plain_imports}
use Rattle.app_check.specs.Used.{wanted_by}
use Rattle.app_check.proofs.linking.places_of.Goals as goal

pub returns-clause-read : goal.returns-clause-read
returns-clause-read c =
    let exports = plain_exports c.args.exports.now in
    c.in_ok-places.ensures.places
    ∙ ap (λ (l : List Export). bind_each (plain_exports l) exports) c.deref.ensures.value
    ∙ ap (λ (l : List PlainExport). bind_each l exports) c.in_ok-wanted.ensures.read
    ∙ map-map (bind_to exports) wanted_by (plain_imports c.args.imports.now)
