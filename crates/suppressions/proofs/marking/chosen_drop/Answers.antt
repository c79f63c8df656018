use Rattle.std.proofs.Common.{◌≡◌, List, subst}
use Rattle.std.specs.Prelude.{IfOk}
use Rattle.std.specs.Option.{option_copied}
use Rattle.std.proofs.lemmas.Result.{IfErr-weaker}
use Rattle.abi_base.specs.Outcome.{OnLimit}
use Rattle.abi_types.specs.Plain.{plain_export}
use Rattle.suppression_text.specs.Rules.{PlainSection}
use Rattle.suppressions.specs.Limits.{PassesCompiled, PassesHandles}
use Rattle.suppressions.specs.Meaning.{drops}
use Rattle.suppressions.proofs.CrowdLemmas.{chosen_pass}
use Rattle.suppressions.proofs.marking.chosen_drop.Goals as goal

pub returns-clause-is : goal.returns-clause-is
returns-clause-is c = subst (λ (ss : List PlainSection). IfOk c.compiled_drop.result (λ drop. drop ≡ drops ss (option_copied c.args.soname) (plain_export c.args.export.now))) c.in_ok-compiled.ensures.is c.compiled_drop.ensures.is

pub returns-clause-past : goal.returns-clause-past
returns-clause-past c =
    IfErr-weaker c.compiled_drop.result (λ e. OnLimit e (PassesCompiled c.in_ok-compiled.compiled)) (λ e. OnLimit e (PassesHandles c.args.sections.now))
    (λ e h. chosen_pass e c.args.asking c.args.sections.now c.in_ok-compiled.compiled c.in_ok-compiled.ensures.is h) c.compiled_drop.ensures.past
