-- One more node has its call, and at the end no call is left.
use Rattle.std.proofs.Common.{◌≡◌, ◌∙◌, ◌∷◌, [], ◌++◌, ◌+◌, ap, length, arith, rules}
use Rattle.std.proofs.lemmas.List.{length-append, length-set}
use Rattle.abi_types.proofs.ShapedLemmas.{others-done, rest-is, rest-untouched, shaped-all}
use Rattle.abi_types.proofs.graph.with_each_call.Goals as goal

pub loop-call-preserved : goal.loop-call-preserved
loop-call-preserved g c =
    let so_far = c.loop-call.invariant in
    let popped : c.loop-call.calls.items ≡ c.pop.new.self.items ++ c.in-Some.call ∷ [] = c.in-Some.ensures.items in
    let longer : length c.loop-call.calls.items ≡ length c.pop.new.self.items + 1 = ap length popped ∙ length-append c.pop.new.self.items (c.in-Some.call ∷ []) in
    let at_last : c.len-last.result ≡ length c.pop.new.self.items = search rules in
    record {
      many = length-set c.loop-call.nodes.items c.len-last.result c.put_call.new.node ∙ so_far.many;
      few = omega (arith, so_far.few, longer);
      calls = rest-is c.args.nodes.items c.loop-call.nodes.items c.args.calls.items c.loop-call.calls.items c.pop.new.self.items c.in-Some.call c.len-last.result c.index_mut.result.now c.put_call.new.node so_far.many so_far.few so_far.calls popped at_last c.index_mut.ensures.value c.put_call.ensures so_far.left;
      done = others-done c.args.nodes.items c.loop-call.nodes.items c.args.calls.items c.loop-call.calls.items c.pop.new.self.items c.in-Some.call c.len-last.result c.index_mut.result.now c.put_call.new.node so_far.many so_far.few so_far.calls popped at_last c.index_mut.ensures.value c.put_call.ensures so_far.left so_far.done;
      left = rest-untouched c.args.nodes.items c.loop-call.nodes.items c.args.calls.items c.loop-call.calls.items c.pop.new.self.items c.in-Some.call c.len-last.result c.index_mut.result.now c.put_call.new.node so_far.many so_far.few so_far.calls popped at_last c.index_mut.ensures.value c.put_call.ensures so_far.left;
    }

pub returns : goal.returns
returns g c =
    let none : length c.loop-call.calls.items ≡ 0 = search (rules, c.in_default.ensures.cases) in
    let many = c.loop-call.invariant.many in
    shaped-all c.args.nodes.items c.loop-call.nodes.items c.args.calls.items many (λ k lt. c.loop-call.invariant.done k (omega arith) (omega arith))
