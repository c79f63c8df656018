use Rattle.std.proofs.Common.{rules, ◌≤◌, ◌∙◌, arith}
use Rattle.std.specs.Range.{range_inclusive_start, range_inclusive_end}
use Rattle.std.proofs.lemmas.Map.Keys.{le_from_is_le}
use Rattle.cli_args.proofs.Counting.{counted, uncounted}
use Rattle.cli_args.proofs.judge.trial_count.Goals as goal

pub returns-in_err-count : goal.returns-in_err-count
returns-in_err-count c =
    c.from_residual.ensures ∙ uncounted c.args.word.now c.parse.result c.parse.ensures.value.0 (search rules) (search rules)

pub returns-then-contains : goal.returns-then-contains
returns-then-contains c =
    let least : range_inclusive_start c.new.result ≤ c.in_ok-count.count = le_from_is_le _ _ c.if-contains.ensures.cases.0 in
    let most : c.in_ok-count.count ≤ range_inclusive_end c.new.result = le_from_is_le _ _ c.if-contains.ensures.cases.1 in
    counted c.args.word.now c.in_ok-count.count (search rules) (search rules) (omega (arith, c.new.ensures.start)) (omega (arith, c.new.ensures.end))
