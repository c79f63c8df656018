use Rattle.std.proofs.Common.{map}
use Rattle.std.specs.Option.{option_copied}
use Rattle.abi_types.specs.Plain.{plain_label}
use Rattle.suppressions.proofs.FlagLemmas.{marked_by}
use Rattle.suppressions.proofs.marking.drops_labels.Goals as goal

pub returns-clause-is : goal.returns-clause-is
returns-clause-is c =
    marked_by c.args.rules.now (option_copied c.args.soname) (map plain_label c.args.labels.now) c.args.way c.sections.result.now c.sections-2.result.now c.in_ok-named.named c.in_ok-others.others c.one_of.result
    c.sections.ensures c.sections-2.ensures c.in_ok-named.ensures.is c.in_ok-others.ensures.is c.one_of.ensures
