use Rattle.std.proofs.Common.{◌≡◌, ℕ, List, length, sym, ap, ◌∙◌, arith}
use Rattle.std.specs.List.{filter_map, range_with_len}
use Rattle.abi_types.specs.Exports.{PlainExport}
use Rattle.abi_types.specs.Plain.{plain_export}
use Rattle.std.proofs.lemmas.List.{length-map}
use Rattle.cert_check.specs.Compatible.{typed_root, typed_roots}
use Rattle.pair_compare.specs.BoundPair.{sides_of}
use Rattle.pair_compare.proofs.Reading.{given_some, given_none}
use Rattle.pair_compare.proofs.typed.roots.Goals as goal
use Rattle.pair_compare.proofs.typed.roots.Goals.{in-Some+in_ok-push, in_default}

pub exports-preserved : goal.exports-preserved
exports-preserved c =
    let s = sides_of c.args.pair.now in
    elim c.match-root_at.branch [
      | in-Some+in_ok-push w ↦
          rw (w.roots-is, w.in_ok-push.ensures.items, c.exports.invariant)
          (sym (given_some (typed_root s) c.exports.k w.in-Some.root (sym c.root_at.ensures ∙ w.in-Some.is)))
      | in_default w ↦ rw (w.roots-is, c.exports.invariant) (sym (given_none (typed_root s) c.exports.k (sym c.root_at.ensures ∙ w.in_default.is)))
    ]

pub returns-clause-roots : goal.returns-clause-roots
unfolding typed_roots
returns-clause-roots c =
    let s = sides_of c.args.pair.now in
    let long : length c.exports-count.result.now ≡ length c.args.pair.now.old.now.exports =
    sym (length-map c.exports-count.result.now plain_export) ∙ ap (λ (es : List PlainExport). length es) c.exports-count.ensures in
    let whole : c.exports.k ≡ length c.args.pair.now.old.now.exports = omega (arith, long, c.exports.auto.k-end, c.exports-test.false) in
    c.exports.invariant ∙ ap (λ (n : ℕ). filter_map (typed_root s) (range_with_len 0 n)) whole
