-- Layouts of the structures of a graph.
use Rattle.std.proofs.Common.{◌≡◌, ◌≤◌, ℕ, List, sym, ◌∙◌, ap, subst, arith}
use Rattle.std.proofs.lemmas.Bool.{both_ways}
use Rattle.abi_types.specs.Types.{PlainNode, PlainView}
use Rattle.abi_types.specs.Graphs.{IsGraph, node_at, view_at}
use Rattle.type_print.specs.declared.row.LayoutRow.{LayoutRow}
use Rattle.type_print.specs.Laws.{CleanRowsCoverEachBitOnce, RowsAreDetermined, RowsNameClashes}
use Rattle.type_print.specs.Structures.{bits_at, has_layout, members_at, AreRowsAt, IsFirstTagged, IsUntagged}
use Rattle.type_print.specs.Texts.{layout_text}
use Rattle.library_layout.specs.Structures.{IsLayoutIn, IsCoverIn}
use Rattle.library_layout.proofs.MemberLemmas.{numbered}

pub same_text : (v w : PlainView) (rows other : List LayoutRow) → v ≡ w → rows ≡ other → layout_text v rows ≡ layout_text w other
same_text v w rows other views same = ap (λ (u : PlainView). layout_text u rows) views ∙ ap (layout_text w) same

-- two nodes that stand for the earliest entry of a tag are one
same_node : (nodes : List PlainNode) (tag : List ℕ) (i j : ℕ) → IsGraph nodes → IsFirstTagged nodes tag i → IsFirstTagged nodes tag j → i ≡ j
same_node nodes tag i j graph one other =
    let before : (node_at nodes i).entry ≤ (node_at nodes j).entry = one.first j other.inside other.tagged in
    let behind : (node_at nodes j).entry ≤ (node_at nodes i).entry = other.first i one.inside one.tagged in
    let same : (node_at nodes i).entry ≡ (node_at nodes j).entry = omega arith in
    graph.apart i j one.inside other.inside same

pub one_text : RowsAreDetermined → (nodes : List PlainNode) (tag text other : List ℕ) → IsGraph nodes → IsLayoutIn nodes tag text → IsLayoutIn nodes tag other → text ≡ other
one_text determined nodes tag text other graph one two =
    let node : two.number ≡ one.number = same_node nodes tag two.number one.number graph two.tagged one.tagged in
    let P : ℕ → Type 0 = λ n. AreRowsAt nodes n two.rows in
    let rows : one.rows ≡ two.rows = determined (members_at nodes one.number) (bits_at nodes one.number) one.rows two.rows one.laid (subst P node two.laid) in
    one.is ∙ same_text (view_at nodes one.number) (view_at nodes two.number) one.rows two.rows (ap (view_at nodes) (sym node)) rows ∙ sym two.is

pub text_or_none : (nodes : List PlainNode) (tag text : List ℕ) → IsLayoutIn nodes tag text → IsUntagged nodes tag → ⊥
text_or_none nodes tag text laid none =
    both_ways (has_layout (view_at nodes laid.number) tag) (none laid.number laid.tagged.inside) laid.tagged.tagged

pub covers : CleanRowsCoverEachBitOnce → RowsNameClashes → (nodes : List PlainNode) (tag text : List ℕ) → IsLayoutIn nodes tag text → IsCoverIn nodes tag text
covers once clashes nodes tag text laid = record {
  number = laid.number;
  tagged = laid.tagged;
  rows = laid.rows;
  is = laid.is;
  covered = λ clean. once (members_at nodes laid.number) (bits_at nodes laid.number) laid.rows (numbered nodes (view_at nodes laid.number)) laid.laid clean;
  clashes = clashes (members_at nodes laid.number) (bits_at nodes laid.number) laid.rows laid.laid;
}
