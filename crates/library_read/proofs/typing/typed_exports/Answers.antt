use Rattle.std.proofs.Common.{◌∙◌, set, length-set, refl, arith, rules}
use Rattle.std.proofs.lemmas.Result.{err_from_is_err_and}
use Rattle.abi_base.specs.declared.limit.Limit.TheVariants.{DeclaredNames}
use Rattle.abi_types.specs.Plain.{plain_exports}
use Rattle.type_graph.proofs.lemmas.Spending.{spent-start}
use Rattle.library_read.specs.Limits.{declared_letters}
use Rattle.library_read.proofs.Declared.{declared-more, declared-past}
use Rattle.library_read.proofs.LoopLemmas.{typed-more}
use Rattle.library_read.proofs.typing.typed_exports.Goals as goal

pub exports-preserved : goal.exports-preserved
exports-preserved c =
    let before = c.args.exports.items in
    let now = c.exports.exports.items in
    let after = set now c.exports.k c.with_type-export.result in
    record {
      many = length-set now c.exports.k c.with_type-export.result ∙ c.exports.invariant.many;
      letters = declared-more c.args.dwarf.now c.args.bytes before now c.exports.k c.index.result.now c.with_type-export.result c.exports.letters c.take.new.self (omega (arith, c.exports-test.true, c.len-k-end.ensures)) c.exports.invariant.many c.index.ensures c.exports.invariant.typed c.with_type-export.ensures c.exports.invariant.letters c.in_ok-take.ensures.taken c.in_ok-take.ensures.within;
      typed = typed-more c.args.dwarf.now before now after c.exports.k c.index.result.now c.with_type-export.result (omega (arith, c.exports-test.true, c.len-k-end.ensures)) c.exports.invariant.many c.index.ensures c.with_type-export.ensures refl c.exports.invariant.typed;
    }

pub exports-init : goal.exports-init
exports-init c = record {
  many = refl;
  typed = search rules;
  letters = spent-start DeclaredNames c.args.bytes (declared_letters c.args.dwarf.now) (plain_exports c.args.exports.items) c.of-letters.result c.of-letters.ensures;
}

pub returns-in_err-take-clause-past : goal.returns-in_err-take-clause-past
returns-in_err-take-clause-past c =
    let p = err_from_is_err_and c.from_residual.result c.from_residual.ensures.1 in
    rw (p.1, p.2, c.in_err-take.ensures.named)
    (declared-past c.args.dwarf.now c.args.bytes c.args.exports.items c.exports.exports.items c.exports.k c.index.result.now c.with_type-export.result c.exports.letters (omega (arith, c.exports-test.true, c.len-k-end.ensures)) c.exports.invariant.many c.index.ensures c.exports.invariant.typed c.with_type-export.ensures c.exports.invariant.letters c.in_err-take.ensures.past)
