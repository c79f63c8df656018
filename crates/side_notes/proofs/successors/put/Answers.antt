-- A stem keeps the place that it has.
use Rattle.side_notes.proofs.SuccessorLemmas.{first_kept, kept_before}
use Rattle.side_notes.proofs.successors.put.Goals as goal
use Rattle.abi_base.proofs.lemmas.Options.{absent}

pub returns-then-contains_key-clause-ok : goal.returns-then-contains_key-clause-ok
returns-then-contains_key-clause-ok c = kept_before c.args.kin.now c.args.stem.now c.args.place c.contains_key.result c.contains_key.ensures c.if-contains_key.true

pub returns-clause-ok : goal.returns-clause-ok
returns-clause-ok c =
    first_kept c.args.kin.now c.insert.new.self c.args.stem.now c.args.place (absent _ c.contains_key.result c.contains_key.ensures c.if-contains_key.false) c.in_ok-insert.ensures.updates.0
