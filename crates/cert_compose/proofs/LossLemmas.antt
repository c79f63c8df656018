-- An entry is lost exactly where the line of its representative loses.
use Rattle.std.proofs.Common.{◌≡◌, ◌<◌, not, ℕ, Bool, true, false, cond, List, [], ◌∷◌, length, Option, Some, None, refl, sym, ◌∙◌, ap, subst, inl, inr, arith}
use Rattle.std.specs.Prelude.{◌↔◌, is_none}
use Rattle.std.specs.List.{list_all, Contains}
use Rattle.std.proofs.lemmas.Bool.{cases_Bool}
use Rattle.std.proofs.lemmas.Option.{same_Some}
use Rattle.abi_base.proofs.lemmas.Lists.{at_contains}
use Rattle.abi_base.proofs.lemmas.Contained.{list_all_in}
use Rattle.abi_base.proofs.lemmas.Bools.{not_is_true}
use Rattle.abi_types.specs.Types.{PlainView, PlainNode}
use Rattle.abi_types.specs.Graphs.{IsGraph, node_at, node_of, view_at}
use Rattle.abi_types.specs.ClassLooks.{Look, look_of, view_seen}
use Rattle.pair_rules.specs.TypeRules.{breaks}
use Rattle.cert_text.specs.Certs.{PairLine}
use Rattle.cert_check.specs.Accepted.{line_of, rep, class_in, old_class, new_class, KeepsAlike}
use Rattle.cert_check.specs.ProvedConditions.{KeepsAll}
use Rattle.cert_compose.specs.Chains.{PlainChain, near_case, next_case}
use Rattle.cert_compose.specs.Between.{AreRelated, KeepsTypes}
use Rattle.cert_compose.specs.Joins.{through}
use Rattle.cert_compose.specs.Middles.{middle_at, IsMiddle}
use Rattle.cert_compose.specs.Losses.{keeps_views, keeps_entries, keeps_new, line_keeps, loses, lost_by, lost_entries}
use Rattle.abi_types.proofs.lemmas.Nodes.{node_of-at, node_of-is}
use Rattle.cert_compose.proofs.LineLemmas.{LineLaws, rep_own}
use Rattle.cert_compose.proofs.JoinLemmas.{if_in, in_if, only_in, from_through, to_through}
use Rattle.cert_compose.proofs.TestLemmas.{all_nodes, type_from, from_type, views_same, one_fails}
use Rattle.cert_compose.proofs.Accepting.{related_from, related_parts}
use Rattle.cert_check.proofs.lemmas.Lines.{rep-some, rep-none}
use Rattle.pair_rules.proofs.lemmas.Lists.{in_flat_map, from_flat_map}

-- ---- the node of a representative

pub record HasRep (nodes : List PlainNode) (lines : List (ℕ × ℕ)) (i : ℕ) : Type 0 where
  pub node : ℕ
  pub at : node_of nodes (class_in nodes lines i) ≡ Some node
  pub looks : look_of (class_in nodes lines) (node_at nodes i) ≡ look_of (class_in nodes lines) (node_at nodes node)

pub has_rep : LineLaws → (nodes : List PlainNode) → IsGraph nodes → (lines : List (ℕ × ℕ)) → ((k : ℕ) → KeepsAlike nodes lines k) → (i : ℕ) → i < length nodes → HasRep nodes lines i
has_rep laws nodes graph lines kept i inside = go (line_of lines (node_at nodes i).entry) refl where
  go : (o : Option ℕ) → line_of lines (node_at nodes i).entry ≡ o → HasRep nodes lines i
  go None is = record { node = i; at = node_of-at nodes (class_in nodes lines i) i graph inside (sym (rep-none lines (node_at nodes i).entry is)); looks = refl }
  go (Some r) is =
      let there = at_contains lines ((node_at nodes i).entry, r) (laws.found lines (node_at nodes i).entry r is) in
      let alike = kept there.0 ((node_at nodes i).entry, r) there.1 in
      let same : alike.one ≡ i = same_Some alike.one i (sym alike.stands ∙ node_of-at nodes (node_at nodes i).entry i graph inside refl) in
      record {
        node = alike.other;
        at = ap (node_of nodes) (rep-some lines (node_at nodes i).entry r is) ∙ alike.for_it;
        looks = ap (λ (k : ℕ). look_of (class_in nodes lines) (node_at nodes k)) (sym same) ∙ alike.looks;
      }

declared_same : (class : ℕ → ℕ) (n m : PlainNode) → look_of class n ≡ look_of class m → n.view.declared_only ≡ m.view.declared_only
unfolding view_seen
declared_same class n m e = ap (λ (l : Look). l.view.declared_only) e

-- what the laws below say of breaks
abbrev pub BreaksSee : Type 0
BreaksSee = (f g : ℕ → ℕ) (v w : PlainView) → breaks (view_seen f v) (view_seen g w) ≡ breaks v w

breaks_same : BreaksSee → (f g : ℕ → ℕ) (n m n' m' : PlainNode) → look_of f n ≡ look_of f n' → look_of g m ≡ look_of g m' → breaks n.view m.view ≡ breaks n'.view m'.view
breaks_same law f g n m n' m' one other =
    sym (law f g n.view m.view) ∙ ap (λ (l : Look). breaks l.view (view_seen g m.view)) one ∙ ap (λ (l : Look). breaks (view_seen f n'.view) l.view) other ∙ law f g n'.view m'.view

flip' : (b : Bool) → not b ≡ false → b ≡ true
flip' true e = refl
flip' false e = absurd cc

owned_false : (o : Option ℕ) (b : Bool) → cond (is_none o) b true ≡ false → (o ≡ None) × (b ≡ false)
owned_false None b e = (refl, e)
owned_false (Some n) b e = absurd cc

module _ (laws : LineLaws) (sees : BreaksSee) (ch : PlainChain) (first_graph : IsGraph ch.first.graph) (middle_graph : IsGraph ch.middle.graph) (last_graph : IsGraph ch.last.graph) (one : KeepsAll (near_case ch)) (other : KeepsAll (next_case ch))
    (middles : List (ℕ × ℕ)) (exact : (m : ℕ × ℕ) → Contains middles m ↔ IsMiddle ch m) where
  abbrev old : ℕ → ℕ
  old = old_class (near_case ch)

  abbrev mid : ℕ → ℕ
  mid = new_class (near_case ch)

  abbrev new : ℕ → ℕ
  new = new_class (next_case ch)

  -- the test of representatives is that of the nodes
  entries_are : (e f g : ℕ) → e < length ch.first.graph → f < length ch.middle.graph → g < length ch.last.graph
      → keeps_entries ch (old e) (mid f) (new g) ≡ keeps_views (view_at ch.first.graph e) (view_at ch.middle.graph f) (view_at ch.last.graph g)
  entries_are e f g e_in f_in g_in =
      let a = has_rep laws ch.first.graph first_graph ch.one.alike_old one.alike_old e e_in in
      let b = has_rep laws ch.middle.graph middle_graph ch.one.alike_new one.alike_new f f_in in
      let d = has_rep laws ch.last.graph last_graph ch.other.alike_new other.alike_new g g_in in
      sym (all_nodes ch (old e) (mid f) (new g) a.node b.node (Some d.node) (sym a.at) (sym b.at) (sym d.at))
      ∙ views_same (view_at ch.first.graph a.node) (view_at ch.middle.graph b.node) (view_at ch.last.graph d.node) (view_at ch.first.graph e) (view_at ch.middle.graph f) (view_at ch.last.graph g)
      (sym (declared_same old (node_at ch.first.graph e) (node_at ch.first.graph a.node) a.looks))
      (sym (declared_same mid (node_at ch.middle.graph f) (node_at ch.middle.graph b.node) b.looks))
      (sym (declared_same new (node_at ch.last.graph g) (node_at ch.last.graph d.node) d.looks))
      (breaks_same sees old new (node_at ch.first.graph a.node) (node_at ch.last.graph d.node) (node_at ch.first.graph e) (node_at ch.last.graph g) (sym a.looks) (sym d.looks))

  module _ (e : ℕ) (e_in : e < length ch.first.graph) where
    -- an entry whose representative is not on a line that loses keeps all
    pub not_lost : (Contains (lost_entries ch middles ch.one.pairs) (old e) → ⊥) → KeepsTypes ch e
    unfolding lost_entries line_keeps
    not_lost free f g way related =
        let near_line = related_parts laws (near_case ch) (record { old = e; new = f; way = way }) related.one in
        let next_line = related_parts laws (next_case ch) (record { old = f; new = g; way = way }) related.other in
        let line : PairLine = (old e, mid f, way) in
        let y : PairLine = (old e, new g, way) in
        let own = rep_own laws ch.first.graph ch.one.alike_old one.alike_old (node_at ch.first.graph e).entry in
        let new_own = rep_own laws ch.last.graph ch.other.alike_new other.alike_new (node_at ch.last.graph g).entry in
        let goes : Contains (through ch.other.alike_new ch.other.pairs middles (old e) (mid f) way) y =
        to_through ch.other.alike_new ch.other.pairs middles (old e) (mid f) way y (record {
          entry = (middle_at ch f).1;
          there = (exact (middle_at ch f)).1 (f, near_line.new, refl);
          on = record { own = new_own; there = next_line.line; is = refl };
        }) in
        let keeps : line_keeps ch middles line ≡ true = elim (cases_Bool (line_keeps ch middles line)) [
          | inl yes_keeps ↦ yes_keeps
          | inr other_way ↦
              absurd (free (in_flat_map (lost_by ch middles) ch.one.pairs line (old e) near_line.line (in_if (loses ch middles line) (old e ∷ []) (old e) (ap not other_way) (0, omega arith, refl))))
        ] in
        let all : list_all (keeps_new ch (old e) (mid f)) (through ch.other.alike_new ch.other.pairs middles (old e) (mid f) way) ≡ true = rw (own) at keeps in
        let kept = list_all_in (keeps_new ch (old e) (mid f)) (through ch.other.alike_new ch.other.pairs middles (old e) (mid f) way) y all goes in
        type_from ch e f g (sym (entries_are e f g e_in near_line.new next_line.new) ∙ kept)

    -- and one whose representative is does not
    pub is_lost : Contains (lost_entries ch middles ch.one.pairs) (old e) → KeepsTypes ch e → ⊥
    unfolding lost_entries line_keeps
    is_lost lost keeps =
        let given = from_flat_map (lost_by ch middles) ch.one.pairs (old e) lost in
        let line = given.0 in
        let both = if_in (loses ch middles line) (line.0 ∷ []) (old e) given.2 in
        let entry : old e ≡ line.0 = only_in line.0 (old e) both.1 in
        let unkept : line_keeps ch middles line ≡ false = not_is_true (line_keeps ch middles line) both.0 in
        let parts = owned_false (line_of ch.one.alike_old line.0) (list_all (keeps_new ch line.0 line.1) (through ch.other.alike_new ch.other.pairs middles line.0 line.1 line.2)) unkept in
        let bad = one_fails (keeps_new ch line.0 line.1) (through ch.other.alike_new ch.other.pairs middles line.0 line.1 line.2) parts.1 in
        let y = bad.item in
        let goes = from_through ch.other.alike_new ch.other.pairs middles line.0 line.1 line.2 y bad.there in
        let node = (exact (line.1, goes.entry)).0 goes.there in
        let first : mid node.0 ≡ line.1 = ap (λ (m : ℕ × ℕ). m.0) node.2 in
        let second : (middle_at ch node.0).1 ≡ goes.entry = ap (λ (m : ℕ × ℕ). m.1) node.2 in
        let on = at_contains ch.other.pairs (goes.entry, y.1, line.2) goes.on.there in
        let at = other.lines on.0 (goes.entry, y.1, line.2) on.1 in
        let g = at.triple.new in
        let g_is = node_of-is ch.last.graph y.1 g at.is.new in
        let g_entry : new g ≡ y.1 = ap (rep ch.other.alike_new) g_is.1 ∙ rep-none ch.other.alike_new y.1 goes.on.own in
        let mk : ℕ → ℕ → PairLine = λ a b. (a, b, line.2) in
        let near_line : Contains ch.one.pairs (old e, mid node.0, line.2) =
        subst (λ (l : PairLine). Contains ch.one.pairs l) (ap (λ a. mk a line.1) (sym entry) ∙ ap (mk (old e)) (sym first)) given.1 in
        let next_line : Contains ch.other.pairs ((middle_at ch node.0).1, new g, line.2) =
        subst (λ (l : PairLine). Contains ch.other.pairs l) (ap (λ a. mk a y.1) (sym second) ∙ ap (mk (middle_at ch node.0).1) (sym g_entry)) goes.on.there in
        let related : AreRelated ch e node.0 g line.2 = record {
          one = related_from laws (near_case ch) (record { old = e; new = node.0; way = line.2 }) (record { old = e_in; new = node.1; line = near_line });
          other = related_from laws (next_case ch) (record { old = node.0; new = g; way = line.2 }) (record { old = node.1; new = g_is.0; line = next_line });
        } in
        let kept = entries_are e node.0 g e_in node.1 g_is.0 ∙ from_type ch e node.0 g (keeps node.0 g line.2 related) in
        let same : keeps_entries ch (old e) (mid node.0) (new g) ≡ keeps_entries ch line.0 line.1 y.1 =
        ap (λ a. keeps_entries ch a (mid node.0) (new g)) entry ∙ ap (λ b. keeps_entries ch line.0 b (new g)) first ∙ ap (keeps_entries ch line.0 line.1) g_entry in
        let wrong : true ≡ false = sym kept ∙ same ∙ bad.fails in
        cc
