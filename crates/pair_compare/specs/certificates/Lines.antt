-- The lines that the certificate of two libraries has.
use Rattle.std.specs.Prelude.{◌≡◌, ◌≢◌, ◌<◌, ◌↔◌, ℕ, false, if◌then◌else◌, List, Option, Some, None, Contains, length, filter_map, slice_get, slice_index_or}
use Rattle.std.specs.List.{range_with_len}
use Rattle.abi_types.specs.Types.{PlainNode}
use Rattle.abi_types.specs.Exports.{PlainExport}
use Rattle.abi_types.specs.Graphs.{node_at}
use Rattle.pair_rules.specs.Steps.{Task, Triple}
use Rattle.pair_rules.specs.Paths.{IsReachable}
use Rattle.type_classes.specs.Classes.{IsLeastEntry}
use Rattle.cert_text.specs.Certs.{Ascend, PairLine, first_cmp, pair_cmp}
use Rattle.cert_check.specs.Compatible.{Sides, bound}

-- ---- bind lines

-- the symbols of an old export and of the one that it binds to, where it binds
abbrev pub line_between : PlainExport → Option PlainExport → Option (ℕ × ℕ)
line_between e None = None
line_between e (Some f) = Some (e.symbol, f.symbol)

abbrev pub line_from : Sides → ℕ → Option PlainExport → Option (ℕ × ℕ)
line_from s k None = None
line_from s k (Some e) = if slice_index_or s.marks.exports k false then None else line_between e (bound s e)

-- the line of the old export at a position, where it is compared and binds
unfoldable pub bind_line : Sides → ℕ → Option (ℕ × ℕ)
bind_line s k = line_from s k (slice_get s.old.exports k)

unfoldable pub bind_lines : Sides → List (ℕ × ℕ)
bind_lines s = filter_map (bind_line s) (range_with_len 0 (length s.old.exports))

-- ---- alike lines

-- the entry of a node, and the least entry of the nodes alike to it, which is a different one
pub record IsAlikeEntry (nodes : List PlainNode) (line : ℕ × ℕ) : Type 0 where
  pub node : ℕ
  pub inside : node < length nodes
  pub entry : line.0 ≡ (node_at nodes node).entry
  pub least : IsLeastEntry nodes line.1 node
  pub other : line.0 ≢ line.1

-- in strictly ascending order, exactly the lines of all entries that are not the least among those alike to them
pub record AreAlikeLines (nodes : List PlainNode) (lines : List (ℕ × ℕ)) : Type 0 where
  pub ascending : Ascend first_cmp lines
  pub exact : (line : ℕ × ℕ) → Contains lines line ↔ IsAlikeEntry nodes line

-- ---- pair lines

-- the least entries of nodes alike to those of a reachable triple, with its way
pub record IsReachedPair (t : Task) (line : PairLine) : Type 0 where
  pub triple : Triple
  pub reachable : IsReachable t triple
  pub old : IsLeastEntry t.old line.0 triple.old
  pub new : IsLeastEntry t.new line.1 triple.new
  pub way : line.2 ≡ triple.way

-- in strictly ascending order, exactly the lines of all reachable triples
pub record ArePairLines (t : Task) (lines : List PairLine) : Type 0 where
  pub ascending : Ascend pair_cmp lines
  pub exact : (line : PairLine) → Contains lines line ↔ IsReachedPair t line
