-- One class more.
use Rattle.std.proofs.Common.{refl}
use Rattle.type_classes.specs.Blocks.{len_of, class_in}
use Rattle.type_classes.proofs.RepLemmas.{AreOfClasses-start, AreOfClasses-more}
use Rattle.type_classes.proofs.reps.first_nodes.Goals as goal

pub classes-init : goal.classes-init
classes-init c = AreOfClasses-start (len_of c.args.blocks.now) (class_in c.args.blocks.now) c.in_ok-list.list.items c.in_ok-list.ensures.items

pub classes-preserved : goal.classes-preserved
classes-preserved c =
    AreOfClasses-more (len_of c.args.blocks.now) c.classes.class _ (class_in c.args.blocks.now) c.members-members.result.now c.classes.list.items c.push.new.self.items c.classes.invariant c.members-members.ensures.some c.members-members.ensures.all refl c.in_ok-push.ensures.items
