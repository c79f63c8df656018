-- Parameter by parameter.
use Rattle.abi_types.specs.Forms.{is_function}
use Rattle.std.specs.Prelude.{IfOk}
use Rattle.std.proofs.Common.{◌≡◌, true, false, ◌<◌, ◌++◌, ◌∷◌, [], Some, None, length, sym, ◌∙◌, subst, arith}
use Rattle.abi_types.specs.declared.place.CallShape.{CallShape}
use Rattle.abi_types.specs.Graphs.{view_at, part_at, param_of}
use Rattle.psabi.specs.Results.{registers_of_result}
use Rattle.psabi.proofs.CallLemmas.{param-named, params-none, placed-params, placed-taken, placed-stack, passed-stack, call-none, call-whole, result-takes, places-none, taken-none}
use Rattle.psabi.proofs.calling.shape_with.Goals as goal
use Rattle.psabi.proofs.calling.shape_with.Goals.{in-Some+in_ok-push, in_default}

pub loop-k-init : goal.loop-k-init
loop-k-init g c =
    let o = c.outcome-outcome.result in
    let e = c.registers_of_result-taken.ensures in
    let few = result-takes o in
    record {
      right = c.outcome-outcome.ensures.right;
      params = c.new-params.ensures ∙ sym (places-none c.args.graph.now (registers_of_result o));
      taken = e ∙ sym (taken-none c.args.graph.now (registers_of_result o));
      general = rw e few.0;
      vector = rw e few.1;
      stack = rw e few.2;
    }

pub place_argument-place-requires-clause-inside : goal.place_argument-place-requires-clause-inside
place_argument-place-requires-clause-inside g c =
    let i = g.Ix.Index.number_of c.args.ix in
    let to = g.Ix.Index.number_of c.in-Some.to in
    let e : param_of (part_at (view_at c.args.graph.now i) c.loop-k.k) ≡ Some to = rw (← c.view-view.ensures, ← c.part.ensures) (sym c.in-Some.ensures) in
    c.known.ensures.inside i c.loop-k.k to (param-named _ to e)

pub loop-k-preserved : goal.loop-k-preserved
loop-k-preserved g c =
    let v = c.view-view.result.now in
    let nodes = c.args.graph.now in
    let start = registers_of_result c.outcome-outcome.result in
    let lt : c.loop-k.k < length v.parts = omega arith in
    elim c.match-param.branch [
      | in-Some+in_ok-push w ↦
          let to = g.Ix.Index.number_of w.in-Some.to in
          let e : param_of (part_at v c.loop-k.k) ≡ Some to = rw (← c.part.ensures) (sym w.in-Some.ensures) in
          let next : c.match-param.params ≡ c.loop-k.params ++ w.place_argument-place.result ∷ [] = w.params-is ∙ w.in_ok-push.ensures.ok in
          record {
            right = rw w.found-is w.place_argument-place.ensures.right;
            params = placed-params nodes start c.loop-k.taken v.parts c.loop-k.k to w.place_argument-place.result c.loop-k.params c.match-param.params lt e c.loop-k.invariant.params c.loop-k.invariant.taken w.place_argument-place.ensures.place next;
            taken = placed-taken nodes start c.loop-k.taken c.match-param.taken v.parts c.loop-k.k to lt e c.loop-k.invariant.taken (w.taken-is ∙ w.place_argument-place.ensures.taken);
            general = rw w.taken-is w.place_argument-place.ensures.general;
            vector = rw w.taken-is w.place_argument-place.ensures.vector;
            stack = placed-stack nodes v.parts c.loop-k.k to c.loop-k.taken.stack c.match-param.taken.stack lt e c.loop-k.invariant.stack (rw w.taken-is w.place_argument-place.ensures.stack);
          }
      | in_default w ↦
          let e : param_of (part_at v c.loop-k.k) ≡ None = rw (← c.part.ensures) (sym w.in_default.ensures) in
          let same = params-none v.parts c.loop-k.k lt e in
          record {
            right = rw w.found-is c.loop-k.invariant.right;
            params = rw (same, w.params-is) c.loop-k.invariant.params;
            taken = rw (same, w.taken-is) c.loop-k.invariant.taken;
            general = rw w.taken-is c.loop-k.invariant.general;
            vector = rw w.taken-is c.loop-k.invariant.vector;
            stack = rw w.taken-is (passed-stack nodes v.parts c.loop-k.k c.loop-k.taken.stack lt c.loop-k.invariant.stack);
          }
    ]

pub returns-then-not-is_function-clause-shape : goal.returns-then-not-is_function-clause-shape
returns-then-not-is_function-clause-shape g c =
    let i = g.Ix.Index.number_of c.args.ix in
    let other : is_function (view_at c.args.graph.now i).kind ≡ false = rw (← c.view-view.ensures, ← c.view.view_is) (cc) in
    c.none.ensures ∙ call-none c.args.graph.now i other

pub returns-clause-shape : goal.returns-clause-shape
returns-clause-shape g c =
    let i = g.Ix.Index.number_of c.args.ix in
    let function : is_function (view_at c.args.graph.now i).kind ≡ true = rw (← c.view-view.ensures, ← c.view.view_is) (cc) in
    let whole = call-whole c.args.graph.now i c.loop-k.k c.view-view.result.now c.outcome-outcome.result c.loop-k.params c.view-view.ensures function (omega arith) c.outcome-outcome.ensures.place c.loop-k.invariant.params in
    subst (λ (shape : CallShape). IfOk c.of.result (λ call. call ≡ shape)) whole c.of.ensures.call
