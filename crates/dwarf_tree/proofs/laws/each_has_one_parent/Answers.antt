use Rattle.dwarf_tree.proofs.ParentLaws.{has_one_parent}
use Rattle.dwarf_tree.proofs.UnitLaws.{UnitLaws}
use Rattle.dwarf_tree.proofs.laws.each_has_one_parent.Goals as goal

pub returns : goal.returns
returns c =
    let laws : UnitLaws = record {
      tree = c.a_unit_is_one_tree.ensures;
      units = c.units_stand_one_after_another.ensures.chain;
      unit = c.units_stand_one_after_another.ensures.inside;
      tokens = c.tokens_stand_one_after_another.ensures.chain;
      token = c.tokens_stand_one_after_another.ensures.there;
      entries = c.tokens_stand_one_after_another.ensures.entries;
    } in
    has_one_parent laws
