-- The law of readable files says that the parts are a library.
use Rattle.std.proofs.Common.{◌≡◌, List, sym, subst}
use Rattle.std.specs.Prelude.{IfOk}
use Rattle.abi_types.specs.Exports.{PlainExport}
use Rattle.abi_types.specs.Libraries.{IsLibrary, PlainLibrary}
use Rattle.library_read.specs.Exports.{typed_exports_of}
use Rattle.library_read.proofs.LibraryLemmas.{called-is, library-is}
use Rattle.library_read.proofs.library.library_with.Goals as goal

pub new-requires : goal.new-requires
new-requires g c =
    let f = c.args.bytes.now in
    let nodes = called-is f c.args.typed.graph c.in_ok-calls.calls c.with_calls-graph.result c.requires.graph c.in_ok-calls.ensures.shapes c.with_calls-graph.ensures in
    subst (λ (es : List PlainExport). IsLibrary es c.with_calls-graph.result) (sym c.requires.exports)
    (subst (IsLibrary (typed_exports_of f)) (sym nodes) (c.readable_files_are_libraries.ensures f c.requires.small c.requires.readable))

pub returns-clause-library : goal.returns-clause-library
returns-clause-library g c =
    let f = c.args.bytes.now in
    let nodes = called-is f c.args.typed.graph c.in_ok-calls.calls c.with_calls-graph.result c.requires.graph c.in_ok-calls.ensures.shapes c.with_calls-graph.ensures in
    subst (λ (l : PlainLibrary). IfOk c.new.result (λ (library : PlainLibrary). library ≡ l))
    (library-is f c.args.soname c.args.typed.exports c.with_calls-graph.result c.requires.soname c.requires.exports nodes) c.new.ensures.library
