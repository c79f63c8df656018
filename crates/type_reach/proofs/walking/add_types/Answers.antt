use Rattle.std.proofs.Common.{◌∙◌, ap, map}
use Rattle.type_reach.specs.References.{type_of}
use Rattle.type_reach.specs.Reached.{with_type, with_types}
use Rattle.type_reach.proofs.GrowLemmas.{with_types-step, with_types-end}
use Rattle.type_reach.proofs.walking.add_types.Goals as goal

pub parts-preserved : goal.parts-preserved
parts-preserved c =
    let t = c.args.dwarf.now.tree in
    let parts = c.args.parts.now in
    let k = c.parts.k in
    record {
      entries = with_types-step (type_of t) c.parts.met.entries c.add_type.new.self.entries parts k c.index-parts-k.result (with_types c.args.met.now.entries (map (type_of t) parts)) c.parts-test.true c.index-parts-k.is (c.in_ok-add_type.ensures.entries ∙ ap (with_type c.parts.met.entries) c.type_of.ensures.found) c.parts.invariant.entries;
      room = c.in_ok-add_type.ensures.room ∙ c.parts.invariant.room;
    }

pub returns-clause-entries : goal.returns-clause-entries
returns-clause-entries c = with_types-end (type_of c.args.dwarf.now.tree) c.parts.met.entries c.args.parts.now c.parts.k (with_types c.args.met.now.entries (map (type_of c.args.dwarf.now.tree) c.args.parts.now)) c.parts-test.false c.parts.invariant.entries
