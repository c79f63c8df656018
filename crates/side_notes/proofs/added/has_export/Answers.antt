use Rattle.abi_types.specs.Plain.{plain_export}
use Rattle.side_notes.proofs.AddedLemmas.{export_there}
use Rattle.side_notes.proofs.added.has_export.Goals as goal

pub returns : goal.returns
returns c = export_there (plain_export c.args.export.now) c.args.old.now.exports c.exports_of_version.result.now c.is_empty.result c.exports_of_version.ensures c.is_empty.ensures
