-- The fault that is met is the first one, since the groups are read in their order.
use Rattle.std.proofs.Common.{◌≡◌, ℕ, List, None, refl, subst}
use Rattle.std.proofs.lemmas.Result.{err_from_is_err_and}
use Rattle.abi_base.specs.Outcome.{OnPast, Refuses}
use Rattle.abi_types.specs.Plain.{plain_exports}
use Rattle.library_read.specs.Exports.{untyped_exports_of}
use Rattle.library_read.specs.Faults.{debug_fault, listing_fault}
use Rattle.library_read.specs.Limits.{ListingPasses}
use Rattle.library_read.proofs.LimitLemmas.{listing_pass, types_pass}
use Rattle.library_read.proofs.FaultLemmas.{by_file, by_listing, by_debug, by_none}
use Rattle.library_read.proofs.LibraryLemmas.{nodes-are, typed-are}
use Rattle.library_read.proofs.library.read_parts.Goals as goal

pub returns-in_err-file-clause-judged : goal.returns-in_err-file-clause-judged
returns-in_err-file-clause-judged g c =
    let p = err_from_is_err_and c.from_residual.result c.from_residual.ensures.1 in
    rw (p.1, p.2) (by_file c.args.bytes.now c.in_err-file.field-0.0 c.in_err-file.ensures.judged)

pub returns-in_err-soname-clause-judged : goal.returns-in_err-soname-clause-judged
returns-in_err-soname-clause-judged g c =
    let p = err_from_is_err_and c.from_residual-in_err-soname.result c.from_residual-in_err-soname.ensures.1 in
    let refused = c.in_err-soname.field-0.0 in
    let listing = subst (λ (f : List ℕ). Refuses refused (listing_fault f)) c.in_ok-file.ensures.held c.in_err-soname.ensures.judged in
    rw (p.1, p.2) (by_listing c.args.bytes.now refused c.in_ok-file.ensures.judged listing)

pub returns-in-Err-clause-judged : goal.returns-in-Err-clause-judged
returns-in-Err-clause-judged g c =
    let refused = c.in-Err.refused in
    let exports = plain_exports c.in_ok-soname.field-0.exports.items in
    let held = c.in_ok-file.ensures.held in
    let listing = subst (λ (f : List ℕ). listing_fault f ≡ None) held c.in_ok-soname.ensures.judged in
    let read = subst (λ (f : List ℕ). exports ≡ untyped_exports_of f) held c.in_ok-soname.ensures.exports in
    let debug = subst (λ (f : List ℕ). Refuses refused (debug_fault f exports)) held c.in-Err.ensures.judged in
    by_debug c.args.bytes.now exports refused c.in_ok-file.ensures.judged listing read debug

pub returns-clause-judged : goal.returns-clause-judged
returns-clause-judged g c =
    let exports = plain_exports c.in_ok-soname.field-0.exports.items in
    let held = c.in_ok-file.ensures.held in
    let listing = subst (λ (f : List ℕ). listing_fault f ≡ None) held c.in_ok-soname.ensures.judged in
    let read = subst (λ (f : List ℕ). exports ≡ untyped_exports_of f) held c.in_ok-soname.ensures.exports in
    let debug = subst (λ (f : List ℕ). debug_fault f exports ≡ None) held c.in-Ok.ensures.judged in
    by_none c.args.bytes.now exports c.in_ok-file.ensures.judged listing read debug

pub returns-clause-exports : goal.returns-clause-exports
returns-clause-exports g c =
    typed-are c.args.bytes.now c.in_ok-file.file (plain_exports c.in_ok-soname.field-0.exports.items) (plain_exports c.in-Ok.read.0.exports) c.in_ok-file.ensures.held c.in_ok-soname.ensures.exports c.in-Ok.ensures.exports

pub returns-clause-graph : goal.returns-clause-graph
returns-clause-graph g c =
    nodes-are c.args.bytes.now c.in_ok-file.file (plain_exports c.in_ok-soname.field-0.exports.items) c.in-Ok.read.0.graph c.in_ok-file.ensures.held c.in_ok-soname.ensures.exports c.in-Ok.ensures.graph

pub returns-in_err-soname-clause-past : goal.returns-in_err-soname-clause-past
returns-in_err-soname-clause-past g c =
    let p = err_from_is_err_and c.from_residual-in_err-soname.result c.from_residual-in_err-soname.ensures.1 in
    let refused = c.in_err-soname.field-0.0 in
    rw (p.1, p.2) (listing_pass c.args.bytes.now refused (subst (λ (f : List ℕ). OnPast refused (ListingPasses f)) c.in_ok-file.ensures.held c.in_err-soname.ensures.past))

pub returns-in-Err-clause-past : goal.returns-in-Err-clause-past
returns-in-Err-clause-past g c =
    let exports = plain_exports c.in_ok-soname.field-0.exports.items in
    let read = subst (λ (f : List ℕ). exports ≡ untyped_exports_of f) c.in_ok-file.ensures.held c.in_ok-soname.ensures.exports in
    types_pass c.args.bytes.now _ exports _ c.in-Err.refused c.in_ok-file.ensures.held read refl c.in-Err.ensures.past
