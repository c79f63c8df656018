-- Libraries as plain data, and their invariants.
use Rattle.std.specs.Prelude.{◌≡◌, ◌<◌, ℕ, List, length, Option, Some, IsSome, All, count_by, slice_get}
use Rattle.std.specs.Borrow.{Bor}
use Rattle.std.specs.Option.{option_copied}
use Rattle.abi_types.specs.declared.export.Export.{Export}
use Rattle.abi_types.specs.declared.kind.Kind.TheVariants as kind
use Rattle.abi_types.specs.Exports.{PlainExport}
use Rattle.abi_types.specs.Types.{PlainView, PlainNode}
use Rattle.abi_types.specs.Forms.{is_param}
use Rattle.abi_types.specs.Graphs.{node_of, view_at}
use Rattle.abi_types.specs.Limits.{symbol_limit}
use Rattle.abi_types.specs.Plain.{plain_exports}

-- a library without the addresses of its names in memory
pub record PlainLibrary : Type 0 where
  pub digest : List ℕ
  pub soname : Option (List ℕ)
  pub exports : List PlainExport
  pub graph : List PlainNode

abbrev pub plain_library : List ℕ → Option (Bor (List ℕ)) → List Export → List PlainNode → PlainLibrary
plain_library digest soname exports graph = record {
  digest = digest;
  soname = option_copied soname;
  exports = plain_exports exports;
  graph = graph;
}

-- a function's call has a place for each of its parameters
abbrev pub HasPlaces : PlainView → Type 0
HasPlaces v = v.kind ≡ kind.Function → length v.call.params ≡ count_by is_param v.parts

-- the numbers of the exports' symbols strictly ascend
pub record AreNumbered (exports : List PlainExport) : Type 0 where
  pub ascend : (j k : ℕ) (e f : PlainExport) → j < k → slice_get exports j ≡ Some e → slice_get exports k ≡ Some f → e.symbol < f.symbol
  pub below : (k : ℕ) (e : PlainExport) → slice_get exports k ≡ Some e → e.symbol < symbol_limit

-- The entry of each export belongs to a node, and is that of void where it is 0. Each function's call has a place for each of its
-- parameters.
pub record IsLibrary (exports : List PlainExport) (graph : List PlainNode) : Type 0 where
  pub entries : All (λ (e : PlainExport). IsSome (node_of graph e.entry)) exports
  pub numbered : AreNumbered exports
  pub places : (i : ℕ) → HasPlaces (view_at graph i)
