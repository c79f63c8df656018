use Rattle.std.proofs.Common.{length, ◌∙◌, ap, arith}
use Rattle.dwarf_tree.specs.Trees.{head_at}
use Rattle.dwarf_entries.specs.Chains.{has_signature}
use Rattle.dwarf_entries.proofs.PlaceLemmas.{keep_none, keep_more, hold_units, signature_number}
use Rattle.dwarf_entries.proofs.links.units_by_signature.Goals as goal

pub loop-unit-init : goal.loop-unit-init
loop-unit-init c = keep_none c.new-places.result (λ q k. has_signature q (head_at c.args.tree.now k)) (length c.args.tree.now.units) c.new-places.ensures.empty

pub loop-unit-preserved : goal.loop-unit-preserved
loop-unit-preserved c =
    keep_more c.loop-unit.places c.keep_first.new.places (λ q k. has_signature q (head_at c.args.tree.now k)) c.loop-unit.unit (length c.args.tree.now.units) c.head-head.result.signature
    c.loop-unit.invariant (omega arith) (λ q. signature_number q c.head-head.result.signature ∙ ap (has_signature q) c.head-head.ensures) c.in_ok-keep_first.ensures.kept

pub returns-clause-units : goal.returns-clause-units
returns-clause-units c = hold_units c.loop-unit.places c.args.tree.now c.loop-unit.unit c.loop-unit.invariant (omega arith)
