use Rattle.std.proofs.Common.{◌≡◌, ◌∙◌, ℕ, List, IfOk, string_bytes, subst}
use Rattle.abi_types.specs.Plain.{plain_export}
use Rattle.pair_compare.proofs.reports_lemmas.ExportLemmas.{label_none, label_some}
use Rattle.pair_compare.proofs.reports.paths.label_at.Goals as goal

pub returns-in-None-clause-label : goal.returns-in-None-clause-label
returns-in-None-clause-label c = c.new.ensures.bytes ∙ label_none c.args.library.now c.args.export c.in-None.ensures

pub returns-in-Some-clause-label : goal.returns-in-Some-clause-label
returns-in-Some-clause-label c =
    subst (λ (t : List ℕ). IfOk c.label_of.result (λ text. string_bytes text ≡ t)) (label_some c.args.library.now c.args.export (plain_export c.in-Some.export.now) c.in-Some.ensures) c.label_of.ensures.label
