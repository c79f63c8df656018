-- An export that a rule drops has no row.
use Rattle.std.proofs.Common.{◌≡◌, ◌∙◌, ◌++◌, List, OnOk, ap, sym, subst, append-nil}
use Rattle.abi_types.specs.Plain.{plain_export}
use Rattle.report.specs.declared.row.Row.{Row}
use Rattle.pair_compare.specs.BoundPair.{sides_of}
use Rattle.pair_compare.proofs.reports_lemmas.ExportLemmas.{bound_at, dropped_at, none_at, compared_at}
use Rattle.pair_compare.proofs.reports.exports.push_at.Goals as goal

pub returns-then-not-is_compared-clause-appended : goal.returns-then-not-is_compared-clause-appended
returns-then-not-is_compared-clause-appended c =
    sym (ap (λ (rs : List Row). c.args.rows.now ++ rs) (dropped_at (sides_of c.args.ground.now) c.args.k c.is_compared.result c.is_compared.ensures c.if-not-is_compared.true) ∙ append-nil c.args.rows.now)

pub returns-in-None-clause-appended : goal.returns-in-None-clause-appended
returns-in-None-clause-appended c = sym (ap (λ (rs : List Row). c.args.rows.now ++ rs) (none_at (sides_of c.args.ground.now) c.args.k c.in-None.ensures) ∙ append-nil c.args.rows.now)

pub push_bound-requires : goal.push_bound-requires
push_bound-requires c = bound_at c.args.ground.now.old.now.exports c.args.ground.now.new.now.exports c.args.ground.now.bound.now c.args.k (plain_export c.in-Some.export.now) c.requires.bound.is c.in-Some.ensures

pub returns-in-Some-clause-appended : goal.returns-in-Some-clause-appended
returns-in-Some-clause-appended c =
    subst (λ (rs : List Row). OnOk c.push_bound.result (c.push_bound.new.rows ≡ c.args.rows.now ++ rs))
    (compared_at (sides_of c.args.ground.now) c.args.k (plain_export c.in-Some.export.now) c.is_compared.result c.is_compared.ensures c.if-not-is_compared.false c.in-Some.ensures) c.push_bound.ensures.appended
