use Rattle.std.proofs.Common.{◌≡◌, ◌≤◌, ◌^◌, ℕ, List, Some, sym, ◌∙◌, ap, subst}
use Rattle.abi_types.specs.Types.{PlainView, PlainNode}
use Rattle.abi_types.specs.Graphs.{part_at, to_of, view_at}
use Rattle.type_print.specs.declared.extent.Extent.{Extent}
use Rattle.type_print.specs.declared.row.LayoutRow.{LayoutRow}
use Rattle.type_print.specs.Members.{AreNumbered}
use Rattle.type_print.specs.Rows.{AreRows}
use Rattle.type_print.specs.Structures.{bits_of, members_of}
use Rattle.type_print.proofs.LawLemmas.{covers, name_clashes}
use Rattle.type_print.proofs.StructureLemmas.{members_numbered, rows_inside}
use Rattle.type_print.proofs.structure.layout.Goals as goal

pub bits_of-bits-requires : goal.bits_of-bits-requires
bits_of-bits-requires g c =
    let P : PlainView → Type 0 = λ v. v.size ≤ 2 ^ 60 in
    subst P (sym c.view-view.ensures) (c.known.ensures.limits (g.Ix.Index.number_of c.args.ix)).size

pub members_of-requires : goal.members_of-requires
members_of-requires g c = λ k to is.
    let P : PlainView → Type 0 = λ v. to_of (part_at v k) ≡ Some to in
    c.known.ensures.inside (g.Ix.Index.number_of c.args.ix) k to (subst P c.view-view.ensures is)

pub rows_of-requires : goal.rows_of-requires
rows_of-requires g c = subst AreNumbered (sym c.in_ok-members.ensures.members) (members_numbered c.args.graph.now c.view-view.result.now)

-- the rows are those of the node
are_rows : (nodes : List PlainNode) (v w : PlainView) (members : List Extent) (bits : ℕ) (rows : List LayoutRow) → v ≡ w → members ≡ members_of nodes v → bits ≡ bits_of v → AreRows members bits rows → AreRows (members_of nodes w) (bits_of w) rows
are_rows nodes v w members bits rows seen same size are =
    let P : List Extent → Type 0 = λ es. AreRows es bits rows in
    let Q : ℕ → Type 0 = λ n. AreRows (members_of nodes w) n rows in
    subst Q (size ∙ ap bits_of seen) (subst P (same ∙ ap (members_of nodes) seen) are)

pub returns : goal.returns
returns g c =
    let nodes = c.args.graph.now in
    let v = view_at nodes (g.Ix.Index.number_of c.args.ix) in
    let rows = c.in_ok-rows.rows.items in
    let are : AreRows (members_of nodes v) (bits_of v) rows =
    are_rows nodes c.view-view.result.now v c.in_ok-members.members.items c.bits_of-bits.result rows c.view-view.ensures c.in_ok-members.ensures.members c.bits_of-bits.ensures c.in_ok-rows.ensures.rows in
    record {
      rows = are;
      inside = rows_inside nodes v (bits_of v) rows are;
      covered = λ clean. covers (members_of nodes v) (bits_of v) rows (members_numbered nodes v) are clean;
      clashes = name_clashes (members_of nodes v) (bits_of v) rows are;
      named = tt;
    }
