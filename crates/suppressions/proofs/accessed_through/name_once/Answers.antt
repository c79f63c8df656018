use Rattle.std.proofs.Common.{◌∙◌, sym}
use Rattle.std.specs.Option.{option_copied}
use Rattle.abi_types.specs.Plain.{plain_label}
use Rattle.suppressions.proofs.NameLemmas.{known_more}
use Rattle.suppressions.proofs.UnnamedLemmas.{marked_as_judged}
use Rattle.suppressions.proofs.accessed_through.name_once.Goals as goal

pub returns-in-Some-clause-ways : goal.returns-in-Some-clause-ways
returns-in-Some-clause-ways c =
    marked_as_judged c.args.sections.now (option_copied c.args.soname) (plain_label c.args.label.now) (plain_label c.judged_label-judged.result) c.in-Some.ways c.judged_label-judged.ensures
    (c.requires (plain_label c.judged_label-judged.result) c.in-Some.ways (sym c.known_name.ensures ∙ c.in-Some.is))

pub returns-clause-ways : goal.returns-clause-ways
returns-clause-ways c =
    marked_as_judged c.args.sections.now (option_copied c.args.soname) (plain_label c.args.label.now) (plain_label c.judged_label-judged.result) c.judge_name-ways.result c.judged_label-judged.ensures c.judge_name-ways.ensures.ways

pub returns-clause-known : goal.returns-clause-known
returns-clause-known c =
    known_more c.args.sections.now (option_copied c.args.soname) c.args.known.now c.insert.new.self (plain_label c.judged_label-judged.result) c.kind_number.result c.judge_name-ways.result
    c.requires c.kind_number.ensures c.judge_name-ways.ensures.ways c.in_ok-insert.ensures.updates.0
