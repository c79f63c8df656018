-- The typed pairs of two libraries, and where paths from them end.
use Rattle.std.proofs.Common.{◌≡◌, ℕ, slice_get, Some, sym, ◌∙◌, ap}
use Rattle.std.specs.Prelude.{◌↔◌, option_and_then, unwrap_or}
use Rattle.abi_types.specs.Exports.{PlainExport}
use Rattle.abi_types.specs.Graphs.{node_of}
use Rattle.abi_types.proofs.lemmas.Nodes.{node_of-is}
use Rattle.pair_rules.specs.Paths.{Path, From, Then, PathLeadsTo, root_triple}
use Rattle.pair_rules.specs.Stable.{IsInside}
use Rattle.pair_rules.specs.Steps.{PlainRoot, Task, Triple, step, IsStep}
use Rattle.cert_check.specs.Compatible.{Sides, typed_roots, task_of}
use Rattle.pair_compare.specs.reports.PathTexts.{type_of, next_from, end_of}
use Rattle.cert_check.proofs.lemmas.Roots.{typed_pair}

-- ---- typed pairs

pub roots_inside : (s : Sides) (j : ℕ) (root : PlainRoot) → slice_get (typed_roots s) j ≡ Some root → IsInside (task_of s) (root_triple root)
roots_inside s j root at =
    let p = typed_pair s j root at in
    record { old = (node_of-is s.old.graph p.old.entry root.old p.old_node).0; new = (node_of-is s.new.graph p.new.entry root.new p.new_node).0 }

-- ---- ends of paths

abbrev pub StepsAreExact : Type 0
StepsAreExact = (t : Task) (x y : Triple) (i : ℕ) → (step t x i ≡ Some y) ↔ IsStep t x i y

type_is : (s : Sides) (export : ℕ) (e : PlainExport) (node : ℕ) → slice_get s.old.exports export ≡ Some e → node_of s.old.graph e.entry ≡ Some node → type_of s.old export ≡ node
unfolding type_of
type_is s export e node at is = ap (λ o. unwrap_or (option_and_then (λ (e : PlainExport). node_of s.old.graph e.entry) o) 0) at ∙ ap (λ o. unwrap_or o 0) is

pub end_is : StepsAreExact → (s : Sides) (path : Path) (x : Triple) → PathLeadsTo (task_of s) path x → end_of s.old path ≡ x.old
unfolding end_of
end_is exact s (From export) x (k, root, at, is, e) =
    let p = typed_pair s k root at in
    ap (type_of s.old) (sym is) ∙ type_is s root.export p.old root.old p.compared.at p.old_node ∙ sym (ap (λ (y : Triple). y.old) e)
end_is exact s (Then path part) y (x, leads, stepped) =
    let st = (exact (task_of s) x y part).0 stepped in
    ap (λ i. next_from s.old i part) (end_is exact s path x leads) ∙ ap (λ o. unwrap_or o 0) st.old
