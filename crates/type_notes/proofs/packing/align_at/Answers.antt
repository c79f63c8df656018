-- The item at the node's number.
use Rattle.std.proofs.Common.{◌<◌, ◌∙◌, length, ap, rules}
use Rattle.psabi.specs.Alignment.{align_of}
use Rattle.type_notes.proofs.PackingLemmas.{listed_at, listed_inside}
use Rattle.type_notes.proofs.packing.align_at.Goals as goal

pub bounds-aligns-number : goal.bounds-aligns-number
bounds-aligns-number g c =
    let nodes = c.args.graph.now in
    listed_inside (align_of nodes) (length nodes) c.number-number.result c.args.aligns.now (rw c.number-number.ensures c.requires.node) c.requires.aligns

pub offset_bounds-aligns-number : goal.offset_bounds-aligns-number
offset_bounds-aligns-number g c =
    let nodes = c.args.graph.now in
    let inside : c.number-number.result < length c.args.aligns.now = listed_inside (align_of nodes) (length nodes) c.number-number.result c.args.aligns.now (rw c.number-number.ensures c.requires.node) c.requires.aligns in
    search rules

pub returns : goal.returns
returns g c =
    let nodes = c.args.graph.now in
    listed_at (align_of nodes) (length nodes) c.number-number.result _ c.args.aligns.now (rw c.number-number.ensures c.requires.node) c.requires.aligns ∙ ap (align_of nodes) c.number-number.ensures
