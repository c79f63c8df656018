use Rattle.std.proofs.Common.{arith}
use Rattle.abi_base.specs.Limits.{depth_limit}
use Rattle.type_reach.proofs.CoreLemmas.{labels_of-is, flat_of-is, core-is, core-found, array-whole, passed-step, step_found, void_shallow}
use Rattle.type_reach.proofs.FactLemmas.{shallow-step, rank-falls, rank-bound, facts_of-is, facts_of-void}
use Rattle.type_reach.proofs.FlatLemmas.{flat-lower, flat-void, labels-void, labels-passed, labels-last, member-step, members-of-last}
use Rattle.type_reach.proofs.HullLemmas.{beyond-is}
use Rattle.type_reach.proofs.laws.laws_of_types.Goals as goal

pub returns : goal.returns
returns c = λ d. record {
  shallow = shallow-step d.tree;
  falls = rank-falls d;
  ranks = λ r shallow. rank-bound d depth_limit r (omega arith) shallow;
  facts = facts_of-is d;
  labels = labels_of-is d;
  flats = flat_of-is d;
  cores = core-is d;
  found = λ found r closed. core-found d found r closed;
  lower = λ found closed. flat-lower d found closed;
  arrays = array-whole d;
  beyond = beyond-is d;
  facts_void = facts_of-void d;
  flats_void = flat-void d;
  labels_void = labels-void d;
  labels_passed = labels-passed d;
  labels_last = labels-last d;
  passed_step = passed-step d.tree;
  member_step = member-step d.tree;
  members = members-of-last d;
  step_found = step_found d.tree;
  void_shallow = void_shallow d.tree;
}
