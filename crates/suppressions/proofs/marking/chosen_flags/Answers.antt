use Rattle.std.proofs.Common.{List, subst}
use Rattle.std.specs.Prelude.{IfOk}
use Rattle.std.proofs.lemmas.Result.{IfErr-weaker}
use Rattle.abi_base.specs.Outcome.{OnLimit}
use Rattle.suppression_text.specs.Rules.{PlainSection}
use Rattle.suppressions.specs.Limits.{PassesCompiled, PassesHandles}
use Rattle.suppressions.specs.Flags.{AreFlags}
use Rattle.suppressions.proofs.CrowdLemmas.{chosen_pass}
use Rattle.suppressions.proofs.marking.chosen_flags.Goals as goal

pub returns-clause-is : goal.returns-clause-is
returns-clause-is c = subst (λ (ss : List PlainSection). IfOk c.compiled_flags.result (AreFlags ss c.args.old.now)) c.in_ok-compiled.ensures.is c.compiled_flags.ensures.is

pub returns-clause-past : goal.returns-clause-past
returns-clause-past c =
    IfErr-weaker c.compiled_flags.result (λ e. OnLimit e (PassesCompiled c.in_ok-compiled.compiled)) (λ e. OnLimit e (PassesHandles c.args.sections.now))
    (λ e h. chosen_pass e c.args.asking c.args.sections.now c.in_ok-compiled.compiled c.in_ok-compiled.ensures.is h) c.compiled_flags.ensures.past
