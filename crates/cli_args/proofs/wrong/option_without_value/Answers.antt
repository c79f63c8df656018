use Rattle.std.proofs.Common.{◌∙◌, ℕ, List, [], Bor, sym}
use Rattle.cli_args.proofs.FoundLemmas.{word_here, word_later, words_past}
use Rattle.cli_args.proofs.wrong.option_without_value.Goals as goal

-- what stands at no place
abbrev none : Bor (List ℕ)
none = record { ref_ptr = (0, 0); now = [] }

pub returns-then-is_without_value : goal.returns-then-is_without_value
returns-then-is_without_value c =
    let is = rw c.words_behind.ensures at (sym c.is_without_value.ensures ∙ c.if-is_without_value.true) in
    word_here c.args.words.now c.loop-index.index none c.loop-index-test.true is ∙ c.loop-index.invariant

pub loop-index-preserved : goal.loop-index-preserved
loop-index-preserved c =
    let is = rw c.words_behind.ensures at (sym c.is_without_value.ensures ∙ c.if-is_without_value.false) in
    word_later c.args.words.now c.loop-index.index none c.loop-index-test.true is ∙ c.loop-index.invariant

pub returns : goal.returns
returns c = words_past c.args.words.now c.loop-index.index c.loop-index-test.false ∙ c.loop-index.invariant
