-- What the lines before this one count was taken.
use Rattle.std.proofs.Common.{take}
use Rattle.abi_base.specs.declared.limit.Limit.TheVariants.{PairParts}
use Rattle.abi_base.proofs.lemmas.Budgets.{SpentOn}
use Rattle.pair_rules.specs.Weights.{weight_units}
use Rattle.cert_check.specs.CertifiedPair.{case_of}
use Rattle.cert_check.specs.Fitting.{line_weight}
use Rattle.cert_check.proofs.fitting.pairs_fit.Given as goal

abbrev pub invariant-loop-line : goal.invariant-loop-line
invariant-loop-line l = SpentOn PairParts (weight_units l.old.graph l.new.graph) (line_weight (case_of l.ground).sides) (take l.line-index l.lines) l.budget
