use Rattle.std.proofs.Common.{◌+◌, ◌-◌, ◌/◌, sym, ◌∙◌, arith}
use Rattle.dwarf_tree.proofs.SearchLemmas.{no_stored, offset_is, offset_missed, before_through, behind_from}
use Rattle.dwarf_tree.proofs.searches.place_between.Goals as goal

pub returns-then-begins-offset : goal.returns-then-begins-offset
returns-then-begins-offset c =
    sym (offset_is c.args.entries.now c.args.offset c.requires.ascend (c.halves.low + (c.halves.high - c.halves.low) / 2) no_stored
    (omega (arith, c.halves-test.true, c.halves.invariant.inside)) (sym c.from-begins.ensures ∙ c.if-begins-offset.true))

pub halves-preserved-then-begins-offset-2 : goal.halves-preserved-then-begins-offset-2
halves-preserved-then-begins-offset-2 c = record {
  inside = c.halves.invariant.inside;
  between = record {
    before = before_through c.args.entries.now c.args.offset c.requires.ascend (c.halves.low + (c.halves.high - c.halves.low) / 2) no_stored
        (omega (arith, c.halves-test.true, c.halves.invariant.inside)) (omega (arith, c.from-begins.ensures, c.if-begins-offset-2.true));
    behind = c.halves.invariant.between.behind;
  };
}

pub halves-preserved : goal.halves-preserved
halves-preserved c = record {
  inside = omega (arith, c.halves-test.true, c.halves.invariant.inside);
  between = record {
    before = c.halves.invariant.between.before;
    behind = behind_from c.args.entries.now c.args.offset c.requires.ascend (c.halves.low + (c.halves.high - c.halves.low) / 2) no_stored
        (omega (arith, c.halves-test.true, c.halves.invariant.inside)) (omega (arith, c.from-begins.ensures, c.if-begins-offset.false, c.if-begins-offset-2.false));
  };
}

pub returns : goal.returns
returns c = sym (offset_missed c.args.entries.now c.args.offset c.requires.ascend c.halves.low c.halves.high c.halves.invariant.between (omega (arith, c.halves-test.false)))
