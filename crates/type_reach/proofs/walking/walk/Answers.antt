-- The walk goes on until all that was found is expanded.
use Rattle.std.proofs.Common.{[], map, Some, arith, ◌<◌, ◌∙◌, length, ℕ}
use Rattle.std.proofs.lemmas.List.Elements.{All-contains}
use Rattle.std.proofs.lemmas.Option.{slice_get_within}
use Rattle.abi_base.proofs.lemmas.Lists.{contains_at}
use Rattle.type_reach.specs.References.{types_of}
use Rattle.type_reach.proofs.GrowLemmas.{Grew-types}
use Rattle.type_reach.proofs.OriginLemmas.{ArePassed-none}
use Rattle.type_reach.proofs.WalkLemmas.{IsWalking-start, IsWalking-more, IsWalk-end, lead_inside, found-le}
use Rattle.type_reach.proofs.walking.walk.Goals as goal

pub walk-init : goal.walk-init
walk-init c =
    let t = c.args.dwarf.now.tree in
    record {
      walking = IsWalking-start t c.args.roots.now (lead_inside t) c.add_roots.new.met.entries (λ f h. All-contains (λ (x : ℕ). x < length t.entries) c.args.roots.now f c.requires h) (rw (c.in_ok-add_roots.ensures.entries, c.in_ok-met.ensures.none) (Grew-types [] (map (λ e. Some e) c.args.roots.now)));
      room = rw (c.in_ok-add_roots.ensures.room, c.in_ok-met.ensures.none) c.len.ensures;
      passed = ArePassed-none t c.new-origins.result c.add_roots.new.met.entries c.new-origins.ensures;
    }

pub expand-requires-clause-inside : goal.expand-requires-clause-inside
expand-requires-clause-inside c = c.walk.invariant.walking.inside c.at-e.result (contains_at c.walk.met.entries c.walk.number c.at-e.result c.at-e.ensures)

pub walk-smaller : goal.walk-smaller
walk-smaller c =
    let le = found-le c.args.dwarf.now.tree c.args.roots.now c.walk.met.entries c.walk.number c.walk.invariant.walking c.known-in-walk.ensures in
    let lt = slice_get_within c.walk.met.entries c.walk.number c.at-e.result c.at-e.ensures in
    omega (arith, le, lt)

pub walk-preserved : goal.walk-preserved
walk-preserved c =
    let t = c.args.dwarf.now.tree in
    record {
      walking = IsWalking-more t c.args.roots.now (lead_inside t) c.walk.met.entries c.walk.number c.at-e.result c.expand.new.met.entries c.walk.invariant.walking c.at-e.ensures (rw c.in_ok-expand.ensures.entries (Grew-types c.walk.met.entries (types_of t c.at-e.result)));
      room = c.in_ok-expand.ensures.room ∙ c.walk.invariant.room;
      passed = c.in_ok-expand.ensures.passed;
    }

pub returns-clause-walk : goal.returns-clause-walk
returns-clause-walk c =
    let t = c.args.dwarf.now.tree in
    IsWalk-end t c.args.roots.now (lead_inside t) c.walk.met.entries c.walk.number c.walk.invariant.walking (omega (arith, c.walk-test.false, c.len-in-walk.ensures)) c.known-2.ensures
