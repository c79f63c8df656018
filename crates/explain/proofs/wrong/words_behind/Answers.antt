use Rattle.std.proofs.Common.{◌∙◌, sym, arith, below_more}
use Rattle.explain.proofs.CommandLemmas.{found, none_found}
use Rattle.explain.proofs.wrong.words_behind.Goals as goal

pub loop-index-init : goal.loop-index-init
loop-index-init c = record { none = λ i below. absurd (omega arith) }

pub loop-index-preserved : goal.loop-index-preserved
loop-index-preserved c = record { none = below_more _ _ c.loop-index.invariant.none (sym c.is_command.ensures ∙ c.if-is_command.false) }

pub returns-then-is_command : goal.returns-then-is_command
returns-then-is_command c = c.command_words.ensures ∙ found c.loop-index.index c.args.command.now (sym c.is_command.ensures ∙ c.if-is_command.true)

pub returns : goal.returns
returns c = none_found c.args.command.now (record { none = λ i below. c.loop-index.invariant.none i (omega arith) })
