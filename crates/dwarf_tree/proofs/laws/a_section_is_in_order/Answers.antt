use Rattle.dwarf_tree.proofs.TreeOrdered.{tree_few, tree_ordered}
use Rattle.dwarf_tree.proofs.UnitLaws.{UnitLaws}
use Rattle.dwarf_tree.proofs.laws.a_section_is_in_order.Goals as goal

pub returns-clause-ordered : goal.returns-clause-ordered
returns-clause-ordered c =
    let laws : UnitLaws = record {
      tree = c.a_unit_is_one_tree.ensures;
      units = c.units_stand_one_after_another.ensures.chain;
      unit = c.units_stand_one_after_another.ensures.inside;
      tokens = c.tokens_stand_one_after_another.ensures.chain;
      token = c.tokens_stand_one_after_another.ensures.there;
      entries = c.tokens_stand_one_after_another.ensures.entries;
    } in
    tree_ordered laws

pub returns-clause-few : goal.returns-clause-few
returns-clause-few c =
    let laws : UnitLaws = record {
      tree = c.a_unit_is_one_tree.ensures;
      units = c.units_stand_one_after_another.ensures.chain;
      unit = c.units_stand_one_after_another.ensures.inside;
      tokens = c.tokens_stand_one_after_another.ensures.chain;
      token = c.tokens_stand_one_after_another.ensures.there;
      entries = c.tokens_stand_one_after_another.ensures.entries;
    } in
    tree_few laws
