-- An export that the old library has takes no place, and another one that of its stem.
use Rattle.std.proofs.lemmas.Result.{on_ok_weaker}
use Rattle.abi_types.specs.Plain.{plain_export}
use Rattle.side_notes.proofs.SuccessorLemmas.{kept_added, kept_known}
use Rattle.side_notes.proofs.successors.put_if_added.Goals as goal

pub returns-then-has_export-clause-ok : goal.returns-then-has_export-clause-ok
returns-then-has_export-clause-ok c = kept_known c.args.old.now.exports c.args.kin.now (plain_export c.args.export.now) c.args.place c.has_export.result c.has_export.ensures c.if-has_export.true

pub returns-clause-ok : goal.returns-clause-ok
returns-clause-ok c =
    on_ok_weaker c.put.result
    (kept_added c.args.old.now.exports c.args.kin.now c.put.new.kin (plain_export c.args.export.now) c.stem.result.now c.args.place c.has_export.result c.has_export.ensures c.if-has_export.false c.stem.ensures)
    c.put.ensures.ok
