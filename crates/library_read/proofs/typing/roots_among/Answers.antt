use Rattle.std.proofs.Common.{◌<◌, ◌∙◌, ℕ, length, ap, arith}
use Rattle.std.proofs.lemmas.List.Elements.{All-same}
use Rattle.abi_types.specs.Plain.{plain_exports}
use Rattle.library_read.specs.Exports.{roots_among}
use Rattle.library_read.proofs.LoopLemmas.{root-added, root-passed, roots-end}
use Rattle.library_read.proofs.TypedLemmas.{roots-all}
use Rattle.library_read.proofs.typing.roots_among.Goals as goal
use Rattle.library_read.proofs.typing.roots_among.Goals.{in-Some+in_ok-push, in_default}

pub exports-preserved : goal.exports-preserved
exports-preserved c =
    let d = c.args.dwarf.now in
    let exports = c.args.exports.now in
    let k = c.exports.k in
    let before = c.exports.roots.items in
    elim c.match-entry_for.branch [
      | in-Some+in_ok-push w ↦ root-added d exports k c.exports-test.true before c.match-entry_for.roots.items w.in-Some.root w.in-Some.ensures.entry (ap (λ v. v.items) w.roots-is ∙ w.in_ok-push.ensures.items) c.exports.invariant
      | in_default w ↦ ap (λ v. v.items) w.roots-is ∙ root-passed d exports k c.exports-test.true before w.in_default.ensures.entry c.exports.invariant
    ]

pub returns-clause-inside : goal.returns-clause-inside
returns-clause-inside c =
    let d = c.args.dwarf.now in
    let exports = c.args.exports.now in
    All-same (λ (e : ℕ). e < length d.tree.entries) c.exports.roots.items (roots_among d (plain_exports exports)) (roots-end d exports c.exports.k c.exports.roots.items (omega (arith, c.exports-test.false)) c.exports.invariant) (roots-all d (plain_exports exports))
