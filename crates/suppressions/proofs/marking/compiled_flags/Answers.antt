use Rattle.std.proofs.Common.{◌≡◌, List, subst}
use Rattle.std.specs.Prelude.{IfOk}
use Rattle.std.proofs.lemmas.Result.{IfErr-weaker}
use Rattle.abi_base.specs.declared.fault.NoMemory.TheVariants.{Allocation}
use Rattle.abi_base.specs.Outcome.{OnLimit}
use Rattle.suppression_text.specs.Rules.{PlainSection}
use Rattle.suppressions.specs.Flags.{AreFlags}
use Rattle.suppressions.specs.Limits.{PassesCompiled}
use Rattle.suppressions.proofs.CrowdLemmas.{memory_passes}
use Rattle.suppressions.proofs.marking.compiled_flags.Goals as goal

pub returns-clause-is : goal.returns-clause-is
returns-clause-is c = subst (λ (ss : List PlainSection). IfOk c.ready_flags.result (AreFlags ss c.args.old.now)) c.in_ok-ready.ensures.is c.ready_flags.ensures.is

pub returns-clause-past : goal.returns-clause-past
returns-clause-past c =
    IfErr-weaker c.ready_flags.result (λ e. e ≡ Allocation) (λ e. OnLimit e (PassesCompiled c.args.compiled.now)) (λ e is. memory_passes e (PassesCompiled c.args.compiled.now) is) c.ready_flags.ensures.named
