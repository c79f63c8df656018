use Rattle.std.proofs.Common.{◌≡◌, ◌∙◌, sym, arith, [], length}
use Rattle.std.proofs.lemmas.List.{drop_all}
use Rattle.suppression_text.proofs.LineLemmas.{lines-fed, lines-last}
use Rattle.suppression_text.proofs.line.first_line.Goals as goal

pub returns-in-Some-clause-lines : goal.returns-in-Some-clause-lines
returns-in-Some-clause-lines c =
    rw (c.without_return.ensures, c.from.ensures, c.before-in-Some.ensures) (lines-fed c.args.text.now c.in-Some.at (sym c.in-Some.ensures))

pub returns-else-is_empty-clause-lines : goal.returns-else-is_empty-clause-lines
returns-else-is_empty-clause-lines c =
    let none : c.from-else-is_empty.result.now ≡ [] = c.from-else-is_empty.ensures ∙ drop_all (length c.args.text.now) c.args.text.now (omega arith) in
    rw none (lines-last c.args.text.now (sym c.in-None.ensures) (sym c.is_empty.ensures ∙ c.if-is_empty.false))
