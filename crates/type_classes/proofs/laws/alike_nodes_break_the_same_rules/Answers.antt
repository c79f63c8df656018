-- Rules see of the nodes that parts name only which they are.
use Rattle.type_classes.proofs.AlikeLemmas.{AreUnseen, same_breaks_old, same_breaks_new, same_partner_old, same_partner_new}
use Rattle.type_classes.proofs.laws.alike_nodes_break_the_same_rules.Goals as goal

unseen : (c : goal.After-rules_see_no_nodes) → AreUnseen
unseen c = record { breaks = c.rules_see_no_nodes.ensures.breaks; partners = c.rules_see_no_nodes.ensures.partners }

pub returns-clause-old : goal.returns-clause-old
returns-clause-old c = same_breaks_old (unseen c)

pub returns-clause-new : goal.returns-clause-new
returns-clause-new c = same_breaks_new (unseen c)

pub returns-clause-old_partners : goal.returns-clause-old_partners
returns-clause-old_partners c = same_partner_old (unseen c)

pub returns-clause-new_partners : goal.returns-clause-new_partners
returns-clause-new_partners c = same_partner_new (unseen c)
