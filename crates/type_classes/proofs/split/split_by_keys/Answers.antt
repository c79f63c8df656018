-- One run after the other.
use Rattle.type_classes.proofs.SplitLemmas.{parted_start, parted_next, fresh_key, IsSplitBy-start, IsSplitBy-more}
use Rattle.type_classes.proofs.split.split_by_keys.Goals as goal

pub runs-init : goal.runs-init
runs-init c = record {
  split = IsSplitBy-start c.args.blocks.now c.args.pairs.now c.requires.blocks c.requires.listed c.requires.unmarked;
  parted = parted_start c.args.pairs.now;
}

pub mark_run-requires-clause-fresh : goal.mark_run-requires-clause-fresh
mark_run-requires-clause-fresh c = fresh_key c.args.pairs.now c.runs.at c.runs.invariant.parted c.runs-test.true

pub runs-preserved : goal.runs-preserved
runs-preserved c =
    let run = c.in_ok-at.ensures.marked in
    let told = c.in_ok-split.ensures in
    record {
      split = IsSplitBy-more c.args.blocks.now c.runs.blocks c.mark_run.new.blocks c.split.new.self c.args.pairs.now c.runs.at c.in_ok-at.at c.runs.invariant.parted c.runs-test.true c.runs.invariant.split run told.blocks told.listed told.unmarked told.keeps;
      parted = parted_next c.runs.blocks c.mark_run.new.blocks c.args.pairs.now c.runs.at c.in_ok-at.at c.requires.rising c.runs.invariant.parted run;
    }
