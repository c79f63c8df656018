-- Nodes that take their parts from the nodes of their cores are made nodes in the end.
use Rattle.std.proofs.Common.{◌≡◌, ◌<◌, ◌≤◌, ◌+◌, ℕ, zero, suc, false, not, List, length, map, set, slice_get, Some, None, refl, sym, ◌∙◌, ap, subst, arith, inl, inr}
use Rattle.std.proofs.lemmas.Bool.{cases_order, eq-eqb}
use Rattle.std.proofs.lemmas.List.{length-map, length-set, get_or-set_other, ext_get_or}
use Rattle.std.proofs.lemmas.Grind.{get_or-set_at}
use Rattle.std.proofs.lemmas.Option.{same_Some, slice_get_within, get_or_from_slice_get}
use Rattle.abi_base.proofs.lemmas.Lists.{at_below, slice_get-mapped}
use Rattle.dwarf_entries.specs.Debug.{PlainDwarf}
use Rattle.abi_types.specs.Types.{PlainNode}
use Rattle.abi_types.specs.Graphs.{void_node, node_at}
use Rattle.type_reach.specs.References.{Type_}
use Rattle.type_reach.specs.ByValue.{IsTooDeep}
use Rattle.type_reach.specs.Facts.{facts_of}
use Rattle.type_reach.specs.Flat.{core_of}
use Rattle.type_reach.specs.TypeLaws.{TypeLaws}
use Rattle.type_reach.specs.Views.{core_view, view_by}
use Rattle.type_graph.specs.Nodes.{number_in, made_node, found_types, made_nodes}
use Rattle.type_graph.specs.Sharing.{is_other, first_view, first_node, first_nodes, with_parts, AreShared}
use Rattle.type_graph.proofs.ViewLemmas.{made_at, made_length}

-- ---- one node

-- a type that is its own core has its parts from the first
pub own_first : (d : PlainDwarf) (found : List ℕ) (r : Type_) → is_other (core_of d r) r ≡ false → first_node d found r ≡ made_node d found r
own_first d found r own = ap (λ b. record (made_node d found r) { view = first_view b (made_node d found r).view }) own

first_void : (d : PlainDwarf) (found : List ℕ) → first_node d found None ≡ made_node d found None
first_void d found = own_first d found None (go (core_of d None)) where
  go : (c : Type_) → is_other c None ≡ false
  go None = refl
  go (Some c) = refl

-- the core of a core is itself
pub core_alone : (d : PlainDwarf) (r : Type_) (c : ℕ) → TypeLaws d → (IsTooDeep d.tree r → ⊥) → core_of d r ≡ Some c → core_of d (Some c) ≡ Some c
core_alone d r c laws shallow is = sym (subst (λ o. core_of d r ≡ core_of d o) is (laws.cores r shallow).same.core) ∙ is

pub own_is : (d : PlainDwarf) (c : ℕ) → core_of d (Some c) ≡ Some c → is_other (core_of d (Some c)) (Some c) ≡ false
own_is d c own = ap (λ o. is_other o (Some c)) own ∙ ap not (eq-eqb c c refl)

-- a type has the parts of its core
same_parts : (d : PlainDwarf) (found : List ℕ) (r : Type_) (c : ℕ) → core_of d r ≡ Some c → core_of d (Some c) ≡ Some c → (made_node d found (Some c)).view.parts ≡ (made_node d found r).view.parts
unfolding view_by
same_parts d found r c is own =
    ap (λ o. (core_view (number_in found) d (facts_of d (Some c)).align o).parts) own
    ∙ sym (ap (λ o. (core_view (number_in found) d (facts_of d r).align o).parts) is)

pub given_parts : (d : PlainDwarf) (found : List ℕ) (r : Type_) (c : ℕ) (old core : PlainNode) → core_of d r ≡ Some c → core_of d (Some c) ≡ Some c → old ≡ first_node d found r → core ≡ made_node d found (Some c)
    → with_parts old core.view.parts ≡ made_node d found r
given_parts d found r c old core is own was whole =
    ap (λ o. with_parts o core.view.parts) was
    ∙ ap (λ (n : PlainNode). with_parts (made_node d found r) n.view.parts) whole
    ∙ ap (with_parts (made_node d found r)) (same_parts d found r c is own)

-- ---- all nodes

first_at : (d : PlainDwarf) (found : List ℕ) (i e : ℕ) → slice_get found i ≡ Some e → node_at (first_nodes d found) (suc i) ≡ first_node d found (Some e)
unfolding first_nodes
first_at d found i e at =
    get_or_from_slice_get (map (first_node d found) (found_types found)) (suc i) (first_node d found (Some e)) void_node
    (slice_get-mapped (first_node d found) (found_types found) (suc i) (Some e) (slice_get-mapped (λ x. Some x) found i e at))

first_length : (d : PlainDwarf) (found : List ℕ) → length (first_nodes d found) ≡ suc (length found)
unfolding first_nodes
first_length d found = length-map (found_types found) (first_node d found) ∙ ap suc (length-map found (λ e. Some e))

first_begin : (d : PlainDwarf) (found : List ℕ) → node_at (first_nodes d found) 0 ≡ made_node d found None
unfolding first_nodes
first_begin d found = first_void d found

none_shared : (d : PlainDwarf) (found : List ℕ) → AreShared d found 0 (first_nodes d found)
none_shared d found = record {
  many = first_length d found;
  void = first_begin d found;
  done = λ i e at lt. absurd (omega (arith, lt));
  left = λ i e at le. first_at d found i e at;
}

pub none-shared : (d : PlainDwarf) (found : List ℕ) (nodes : List PlainNode) → nodes ≡ first_nodes d found → AreShared d found 0 nodes
none-shared d found nodes is = subst (AreShared d found 0) (sym is) (none_shared d found)

pub all-shared : (d : PlainDwarf) (found : List ℕ) (count : ℕ) (nodes : List PlainNode) → AreShared d found count nodes → length found ≤ count → nodes ≡ made_nodes d found
all-shared d found count nodes shared past = ext_get_or void_node nodes (made_nodes d found) (shared.many ∙ sym (made_length d found)) at where
  at : (i : ℕ) → i < length nodes → node_at nodes i ≡ node_at (made_nodes d found) i
  at zero lt = shared.void ∙ sym (made_at d found 0 None refl).1
  at (suc i) lt =
      let e = at_below found i (omega (arith, lt, shared.many)) in
      let inside = slice_get_within found i e.0 e.1 in
      shared.done i e.0 e.1 (omega (arith, inside, past)) ∙ sym (made_at d found (suc i) (Some e.0) (slice_get-mapped (λ x. Some x) found i e.0 e.1)).1

module _ (d : PlainDwarf) (found : List ℕ) (k : ℕ) (nodes : List PlainNode) (shared : AreShared d found k nodes) where
  -- the node of a core is whole, wherever it stands
  pub core-whole : (j c : ℕ) → slice_get found j ≡ Some c → is_other (core_of d (Some c)) (Some c) ≡ false → node_at nodes (suc j) ≡ made_node d found (Some c)
  core-whole j c at own = elim (cases_order j k) [
    | inl same ↦ shared.left j c at (omega (arith, same)) ∙ own_first d found (Some c) own
    | inr (inl less) ↦ shared.done j c at less
    | inr (inr above) ↦ shared.left j c at (omega (arith, above)) ∙ own_first d found (Some c) own
  ]

  module _ (e : ℕ) (here : slice_get found k ≡ Some e) where
    other_entry : (i f : ℕ) → k ≡ i → slice_get found i ≡ Some f → e ≡ f
    other_entry i f same at = same_Some e f (sym here ∙ ap (slice_get found) same ∙ at)

    pub one-kept : is_other (core_of d (Some e)) (Some e) ≡ false → AreShared d found (k + 1) nodes
    one-kept own = record {
      many = shared.many;
      void = shared.void;
      done = λ i f at lt. elim (cases_order k i) [
        | inl same ↦ subst (λ x. node_at nodes (suc i) ≡ made_node d found (Some x)) (other_entry i f same at) (subst (λ x. node_at nodes (suc x) ≡ made_node d found (Some e)) same (core-whole k e here own))
        | inr (inl less) ↦ absurd (omega (arith, less, lt))
        | inr (inr above) ↦ shared.done i f at above
      ];
      left = λ i f at le. shared.left i f at (omega (arith, le));
    }

    pub one-more : (n : PlainNode) → n ≡ made_node d found (Some e) → AreShared d found (k + 1) (set nodes (k + 1) n)
    one-more n is =
        let lt = slice_get_within found k e here in
        record {
          many = length-set nodes (k + 1) n ∙ shared.many;
          void = get_or-set_other nodes (k + 1) 0 n void_node (λ same. omega (arith, same)) ∙ shared.void;
          done = λ i f at below. elim (cases_order k i) [
            | inl same ↦ get_or-set_at nodes (k + 1) (suc i) n void_node (omega (arith, same)) (omega (arith, lt, shared.many)) ∙ is ∙ ap (λ x. made_node d found (Some x)) (other_entry i f same at)
            | inr (inl less) ↦ absurd (omega (arith, less, below))
            | inr (inr above) ↦ get_or-set_other nodes (k + 1) (suc i) n void_node (λ same. omega (arith, same, above)) ∙ shared.done i f at above
          ];
          left = λ i f at le. get_or-set_other nodes (k + 1) (suc i) n void_node (λ same. omega (arith, same, le)) ∙ shared.left i f at (omega (arith, le));
        }

    -- the entry takes the parts of its core's node
    pub one-shared : (j c : ℕ) (after : List PlainNode) → TypeLaws d → (IsTooDeep d.tree (Some e) → ⊥) → core_of d (Some e) ≡ Some c → slice_get found j ≡ Some c
        → after ≡ set nodes (k + 1) (with_parts (node_at nodes (k + 1)) (node_at nodes (j + 1)).view.parts) → AreShared d found (k + 1) after
    one-shared j c after laws shallow is at put =
        let own = core_alone d (Some e) c laws shallow is in
        let to : k + 1 ≡ suc k = omega arith in
        let from : j + 1 ≡ suc j = omega arith in
        let was = ap (node_at nodes) to ∙ shared.left k e here (omega arith) in
        let whole = ap (node_at nodes) from ∙ core-whole j c at (own_is d c own) in
        let made = given_parts d found (Some e) c (node_at nodes (k + 1)) (node_at nodes (j + 1)) is own was whole in
        subst (AreShared d found (k + 1)) (sym put) (one-more (with_parts (node_at nodes (k + 1)) (node_at nodes (j + 1)).view.parts) made)
