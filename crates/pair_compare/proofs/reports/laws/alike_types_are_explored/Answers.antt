-- Put together.
use Rattle.std.proofs.Common.{List, ◌∙◌, ap}
use Rattle.abi_types.specs.Types.{PlainNode}
use Rattle.pair_rules.specs.Steps.{PlainRoot}
use Rattle.pair_explorer.specs.Scopes.{scope, task_of as the_task_of}
use Rattle.pair_compare.proofs.reports.laws.alike_types_are_explored.Goals as goal

pub returns : goal.returns
returns c = λ s old_nodes new_nodes roots old new visits broken is_old is_new are old_graph new_graph old_sound new_sound old_coarse new_coarse given exploration. record {
  scope = scope old_nodes new_nodes roots s.marks old new;
  is = ap (λ (ns : List PlainNode). the_task_of ns new_nodes s.marks roots) is_old ∙ ap (λ (ns : List PlainNode). the_task_of s.old.graph ns s.marks roots) is_new ∙ ap (λ (rs : List PlainRoot). the_task_of s.old.graph s.new.graph s.marks rs) are;
  coarse = record { sound = record { scope = given; old = old_sound; new = new_sound }; graphs = record { old = old_graph; new = new_graph }; old = old_coarse; new = new_coarse };
  exploration = exploration;
}
