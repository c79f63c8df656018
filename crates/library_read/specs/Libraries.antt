-- What a readable library is.
use Rattle.std.specs.Prelude.{ℕ, List}
use Rattle.abi_types.specs.Graphs.{shaped}
use Rattle.abi_types.specs.Libraries.{PlainLibrary}
use Rattle.abi_types.specs.Types.{PlainNode}
use Rattle.elf.specs.symbols.Dynamic.{soname_of}
use Rattle.psabi.specs.Calls.{calls_of}
use Rattle.sha2.specs.Sha256.{sha256}
use Rattle.type_graph.specs.Nodes.{nodes_of}
use Rattle.library_read.specs.Debug.{debug_of}
use Rattle.library_read.specs.Exports.{roots_of, typed_exports_of}

-- the types that the exports of a file reach, without the places of calls
abbrev pub uncalled_graph_of : List ℕ → List PlainNode
uncalled_graph_of f = nodes_of (debug_of f) (roots_of f)

-- nodes, in which each function has the places of its call
abbrev pub with_calls : List PlainNode → List PlainNode
with_calls nodes = shaped nodes (calls_of nodes)

-- the types that the exports of a file reach
unfoldable pub graph_of : List ℕ → List PlainNode
graph_of f = with_calls (uncalled_graph_of f)

-- the library that a file is
unfoldable pub library_of : List ℕ → PlainLibrary
library_of f = record {
  digest = sha256 f;
  soname = soname_of f;
  exports = typed_exports_of f;
  graph = graph_of f;
}
