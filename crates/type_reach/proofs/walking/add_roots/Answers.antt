use Rattle.std.proofs.Common.{◌∙◌, Some, map}
use Rattle.type_reach.specs.Reached.{with_types}
use Rattle.type_reach.proofs.GrowLemmas.{with_types-step, with_types-end}
use Rattle.type_reach.proofs.walking.add_roots.Goals as goal

pub roots-preserved : goal.roots-preserved
roots-preserved c =
    let roots = c.args.roots.now in
    let k = c.roots.k in
    record {
      entries = with_types-step (λ e. Some e) c.roots.met.entries c.add.new.self.entries roots k c.index-roots-k.result (with_types c.args.met.now.entries (map (λ e. Some e) roots)) c.roots-test.true c.index-roots-k.is c.in_ok-add.ensures.entries c.roots.invariant.entries;
      room = c.in_ok-add.ensures.room ∙ c.roots.invariant.room;
    }

pub returns-clause-entries : goal.returns-clause-entries
returns-clause-entries c = with_types-end (λ e. Some e) c.roots.met.entries c.args.roots.now c.roots.k (with_types c.args.met.now.entries (map (λ e. Some e) c.args.roots.now)) c.roots-test.false c.roots.invariant.entries
