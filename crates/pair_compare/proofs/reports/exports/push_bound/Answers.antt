-- By what the export binds to.
use Rattle.std.proofs.Common.{◌≡◌, ◌++◌, List, OnOk, subst}
use Rattle.abi_types.specs.Plain.{plain_export}
use Rattle.report.specs.declared.row.Row.{Row}
use Rattle.pair_compare.specs.BoundPair.{sides_of}
use Rattle.pair_compare.proofs.reports_lemmas.ExportLemmas.{changed_for, gone_for}
use Rattle.pair_compare.proofs.reports.exports.push_bound.Goals as goal

pub returns-in-Some-clause-appended : goal.returns-in-Some-clause-appended
returns-in-Some-clause-appended c =
    subst (λ (rs : List Row). OnOk c.push_changed.result (c.push_changed.new.rows ≡ c.args.rows.now ++ rs))
    (changed_for (sides_of c.args.ground.now) (plain_export c.args.export.now) c.args.place c.requires (plain_export c.in-Some.partner.now) c.in-Some.ensures) c.push_changed.ensures.appended

pub returns-in-None-clause-appended : goal.returns-in-None-clause-appended
returns-in-None-clause-appended c =
    subst (λ (rs : List Row). OnOk c.push_gone.result (c.push_gone.new.rows ≡ c.args.rows.now ++ rs))
    (gone_for (sides_of c.args.ground.now) (plain_export c.args.export.now) c.args.place c.requires c.is_named.result c.in-None.ensures c.is_named.ensures) c.push_gone.ensures.appended
