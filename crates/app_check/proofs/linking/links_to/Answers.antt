use Rattle.std.proofs.Common.{◌∙◌, List, ap, count_by}
use Rattle.abi_types.specs.declared.export.Export.{Export}
use Rattle.abi_types.specs.Plain.{plain_exports}
use Rattle.app_check.specs.declared.import.Import.{Import}
use Rattle.app_check.specs.Imports.{PlainImport}
use Rattle.app_check.specs.Links.{is_bound}
use Rattle.app_check.specs.Plain.{plain_imports}
use Rattle.app_check.proofs.linking.links_to.Goals as goal

pub returns-then-branch-clause-bound : goal.returns-then-branch-clause-bound
returns-then-branch-clause-bound c =
    let exports = plain_exports c.args.offered.now.exports.items in
    c.in_ok-links.ensures.bound
    ∙ ap (λ (l : List Export). count_by (is_bound (plain_exports l)) (plain_imports c.deref.result.now)) c.deref-2.ensures.value
    ∙ ap (λ (l : List Import). count_by (is_bound exports) (plain_imports l)) c.deref.ensures.value
    ∙ ap (λ (l : List PlainImport). count_by (is_bound exports) l) c.in_ok-imports.ensures.read

pub returns-clause-bound : goal.returns-clause-bound
returns-clause-bound c =
    let exports = plain_exports c.args.offered.now.exports.items in
    c.unlisted.ensures.bound
    ∙ c.in_ok-links.ensures.bound
    ∙ ap (λ (l : List Export). count_by (is_bound (plain_exports l)) (plain_imports c.deref.result.now)) c.deref-2.ensures.value
    ∙ ap (λ (l : List Import). count_by (is_bound exports) (plain_imports l)) c.deref.ensures.value
    ∙ ap (λ (l : List PlainImport). count_by (is_bound exports) l) c.in_ok-imports.ensures.read
