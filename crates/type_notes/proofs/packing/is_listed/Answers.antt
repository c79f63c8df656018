-- The item at the node's number.
use Rattle.std.proofs.Common.{◌∙◌, length, ap}
use Rattle.type_notes.specs.Packing.{is_packed}
use Rattle.type_notes.proofs.PackingLemmas.{listed_at, listed_inside}
use Rattle.type_notes.proofs.packing.is_listed.Goals as goal

pub bounds-packed-number : goal.bounds-packed-number
bounds-packed-number g c =
    let nodes = c.args.graph.now in
    listed_inside (is_packed nodes) (length nodes) c.number-number.result c.args.packed.now (rw c.number-number.ensures c.requires.node) c.requires.packed

pub returns : goal.returns
returns g c =
    let nodes = c.args.graph.now in
    listed_at (is_packed nodes) (length nodes) c.number-number.result _ c.args.packed.now (rw c.number-number.ensures c.requires.node) c.requires.packed ∙ ap (is_packed nodes) c.number-number.ensures
