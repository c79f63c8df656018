use Rattle.std.proofs.Common.{◌<◌, ◌≤◌, length, arith}
use Rattle.dwarf_entries.specs.Addresses.{is_typed_at}
use Rattle.dwarf_entries.proofs.PlaceLemmas.{keep_none, keep_more, hold_entries}
use Rattle.dwarf_entries.proofs.typed.entries_by_address.Goals as goal

pub loop-e-init : goal.loop-e-init
loop-e-init c = keep_none c.new-places.result (is_typed_at c.args.source.now) (length c.args.source.now.tree.entries) c.new-places.ensures.empty

pub loop-e-preserved : goal.loop-e-preserved
loop-e-preserved c =
    let lt : c.loop-e.e < length c.args.source.now.tree.entries = omega arith in
    keep_more c.loop-e.places c.keep_first.new.places (is_typed_at c.args.source.now) c.loop-e.e (length c.args.source.now.tree.entries) c.typed_address-address.result
    c.loop-e.invariant lt (rw c.new-entry.ensures at c.typed_address-address.ensures) (rw c.new-entry.ensures at c.in_ok-keep_first.ensures.kept)

pub returns-clause-entries : goal.returns-clause-entries
returns-clause-entries c =
    let le : length c.args.source.now.tree.entries ≤ c.loop-e.e = omega arith in
    hold_entries c.loop-e.places c.args.source.now c.loop-e.e c.loop-e.invariant le
