-- Part by part.
use Rattle.std.proofs.Common.{◌≡◌, ◌<◌, ◌≤◌, ◌∙◌, Some, None, sym, arith, rules, true, false, length}
use Rattle.abi_types.specs.Graphs.{view_at, part_at}
use Rattle.abi_types.specs.Forms.{is_aggregate}
use Rattle.psabi.specs.Found.{IsRight}
use Rattle.psabi.specs.Past.{led_to, own_past}
use Rattle.psabi.proofs.FoundLemmas.{found-past}
use Rattle.psabi.proofs.Named.{to_from_inner}
use Rattle.psabi.proofs.PastLemmas.{inner_of-led, past-part, past-alone, past-none, past-more, part_past-led, part_past-own, part_past-none}
use Rattle.psabi.proofs.overlong_members.+ends_past.Goals as goal
use Rattle.psabi.proofs.overlong_members.+ends_past.Goals.{in-Some-led_to+else-ends_past, in_default-led_to}

pub returns-then-not-is_aggregate-clause-past : goal.returns-then-not-is_aggregate-clause-past
returns-then-not-is_aggregate-clause-past g t c =
    let i = g.Ix.Index.number_of c.args.ix in
    let alone : is_aggregate (view_at c.args.graph.now i).kind ≡ false = rw (← c.view-view.ensures, ← c.view.view_is) (cc) in
    sym (past-alone c.args.graph.now c.known.ensures i alone)

pub returns-in-Some-clause-past : goal.returns-in-Some-clause-past
returns-in-Some-clause-past g t c = found-past c.args.graph.now c.args.found.now (g.Ix.Index.number_of c.args.ix) c.found_at.result c.in-Some.past c.requires.right c.found_at.ensures c.in-Some.is

pub keep_past-requires-clause-past : goal.keep_past-requires-clause-past
keep_past-requires-clause-past g t c =
    let i = g.Ix.Index.number_of c.args.ix in
    let whole : is_aggregate (view_at c.args.graph.now i).kind ≡ true = rw (← c.view-view.ensures, ← c.view.view_is) (cc) in
    let lt : c.loop-k.k < length (view_at c.args.graph.now i).parts = rw (← c.view-view.ensures) (omega arith) in
    let own : own_past c.args.graph.now (view_at c.args.graph.now i) (part_at (view_at c.args.graph.now i) c.loop-k.k) ≡ true = cc in
    sym (past-part c.args.graph.now c.known.ensures i c.loop-k.k whole lt (part_past-own c.args.graph.now (view_at c.args.graph.now i) (part_at (view_at c.args.graph.now i) c.loop-k.k) own))

pub ends_past-requires : goal.ends_past-requires
ends_past-requires g t c κs within =
    let i = g.Ix.Index.number_of c.args.ix in
    let to = g.Ix.Index.number_of c.in-Some-led_to.to in
    let led : led_to (view_at c.args.graph.now i) (part_at (view_at c.args.graph.now i) c.loop-k.k) ≡ Some to = rw (← c.view-view.ensures, ← c.part.ensures) (sym c.in-Some-led_to.ensures) in
    let e = inner_of-led c.args.graph.now (view_at c.args.graph.now i) c.loop-k.k to led in
    let less = c.known.ensures.falls i c.loop-k.k to e in
    let inside = c.known.ensures.inside i c.loop-k.k to (to_from_inner _ _ e) in
    let right : IsRight c.args.graph.now c.loop-k.found = c.loop-k.invariant.right in
    search rules

pub keep_past-requires-then-ends_past-clause-past : goal.keep_past-requires-then-ends_past-clause-past
keep_past-requires-then-ends_past-clause-past g t c =
    let i = g.Ix.Index.number_of c.args.ix in
    let to = g.Ix.Index.number_of c.in-Some-led_to.to in
    let v = view_at c.args.graph.now i in
    let whole : is_aggregate (view_at c.args.graph.now i).kind ≡ true = rw (← c.view-view.ensures, ← c.view.view_is) (cc) in
    let lt : c.loop-k.k < length (view_at c.args.graph.now i).parts = rw (← c.view-view.ensures) (omega arith) in
    let own : own_past c.args.graph.now (view_at c.args.graph.now i) (part_at (view_at c.args.graph.now i) c.loop-k.k) ≡ false = cc in
    let led : led_to (view_at c.args.graph.now i) (part_at (view_at c.args.graph.now i) c.loop-k.k) ≡ Some to = rw (← c.view-view.ensures, ← c.part.ensures) (sym c.in-Some-led_to.ensures) in
    sym (past-part c.args.graph.now c.known.ensures i c.loop-k.k whole lt (part_past-led c.args.graph.now v (part_at v c.loop-k.k) to true own led (sym c.ends_past.ensures.past ∙ c.if-ends_past.true)))

pub loop-k-preserved : goal.loop-k-preserved
loop-k-preserved g t c =
    let v = c.view-view.result.now in
    let lt : c.loop-k.k < length v.parts = omega arith in
    let own : own_past c.args.graph.now v (part_at v c.loop-k.k) ≡ false = rw c.view-view.ensures (cc) in
    elim c.match-led_to.branch [
      | in-Some-led_to+else-ends_past w ↦
          let led : led_to v (part_at v c.loop-k.k) ≡ Some (g.Ix.Index.number_of w.in-Some-led_to.to) = rw (← c.part.ensures) (sym w.in-Some-led_to.ensures) in
          record {
            none = past-more c.args.graph.now v c.loop-k.k lt c.loop-k.invariant.none (part_past-led c.args.graph.now v (part_at v c.loop-k.k) (g.Ix.Index.number_of w.in-Some-led_to.to) false own led (sym w.ends_past.ensures.past ∙ w.if-ends_past.false));
            right = rw w.found-is w.ends_past.ensures.right;
          }
      | in_default-led_to w ↦
          let led : led_to v (part_at v c.loop-k.k) ≡ None = rw (← c.part.ensures) (sym w.in_default-led_to.ensures) in
          record {
            none = past-more c.args.graph.now v c.loop-k.k lt c.loop-k.invariant.none (part_past-none c.args.graph.now v (part_at v c.loop-k.k) own led);
            right = rw w.found-is c.loop-k.invariant.right;
          }
    ]

pub keep_past-requires-2-clause-past : goal.keep_past-requires-2-clause-past
keep_past-requires-2-clause-past g t c =
    let i = g.Ix.Index.number_of c.args.ix in
    let past : length (view_at c.args.graph.now i).parts ≤ c.loop-k.k = rw (← c.view-view.ensures) (omega arith) in
    sym (past-none c.args.graph.now c.known.ensures i c.loop-k.k past (rw (← c.view-view.ensures) c.loop-k.invariant.none))
