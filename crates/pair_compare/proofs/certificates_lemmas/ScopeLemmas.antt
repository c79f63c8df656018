-- The typed pairs, with classes of alike nodes and even marks, may be explored.
use Rattle.std.proofs.Common.{◌≡◌, ◌<◌, ◌≤◌, ℕ, false, List, length, slice_get, slice_index_or, Some, sym, ◌∙◌, ap, subst, inl, inr, arith}
use Rattle.std.specs.Prelude.{◌↔◌}
use Rattle.std.specs.List.{Contains}
use Rattle.std.proofs.lemmas.Bool.{cases_lt}
use Rattle.abi_base.proofs.lemmas.Lists.{contains_at}
use Rattle.abi_types.specs.declared.kind.Way.{Way}
use Rattle.abi_types.specs.declared.kind.Way.TheVariants.{Direct, Pointer}
use Rattle.abi_types.specs.Types.{PlainNode}
use Rattle.abi_types.specs.Graphs.{node_at}
use Rattle.abi_types.specs.ClassLooks.{Look}
use Rattle.pair_rules.specs.Steps.{PlainRoot, marks_at}
use Rattle.type_classes.specs.Alike.{AreAlike}
use Rattle.type_classes.specs.Classes.{PlainClasses, AreSound, AreCoarsest, rep_of}
use Rattle.pair_explorer.specs.Scopes.{IsScope, AreEvenMarks}
use Rattle.cert_check.specs.Compatible.{Sides, typed_roots, task_of}
use Rattle.cert_check.specs.TypedPairs.{IsTypedPair, HasTypes}
use Rattle.pair_compare.specs.certificates.Searches.{scope_of, AreMarksOf}
use Rattle.type_classes.proofs.lemmas.Reps.{rep_in-past}

labels_same : (nodes : List PlainNode) (a b : ℕ) → AreAlike nodes a b → (node_at nodes a).labels ≡ (node_at nodes b).labels
labels_same nodes a b (r, is, h) = ap (λ (l : Look). l.labels) (is.shapes a b h)

pub record TypedPairLaws : Type 0 where
  pub exact : (s : Sides) (root : PlainRoot) → Contains (typed_roots s) root ↔ IsTypedPair s root
  pub ascending : (s : Sides) (j k : ℕ) (first later : PlainRoot) → j < k → slice_get (typed_roots s) j ≡ Some first → slice_get (typed_roots s) k ≡ Some later → first.export < later.export
  pub nodes : (s : Sides) (root : PlainRoot) → IsTypedPair s root → HasTypes s root

module _ (s : Sides) (c : PlainClasses) (is : c.nodes ≡ s.old.graph) (sound : AreSound c) (coarsest : AreCoarsest c) (marks : AreMarksOf s) where
  even_inside : (a b : ℕ) (way : Way) → a < length c.nodes → b < length c.nodes → rep_of c a ≡ rep_of c b → slice_index_or (marks_at (task_of s) way) a false ≡ slice_index_or (marks_at (task_of s) way) b false
  even_inside a b way a_in b_in same =
      let alike : AreAlike s.old.graph a b = subst (λ (ns : List PlainNode). AreAlike ns a b) is ((coarsest a b a_in b_in).0 same) in
      let len = ap length is in
      marks.even a b way (omega (arith, len, a_in)) (omega (arith, len, b_in)) (labels_same s.old.graph a b alike)

  rep_outside : (a : ℕ) → length c.nodes ≤ a → rep_of c a ≡ a
  rep_outside a past = rep_in-past c.reps a (omega (arith, sound.each, past))

  pub even_marks : (way : Way) → length (marks_at (task_of s) way) ≡ length s.old.graph → AreEvenMarks c (marks_at (task_of s) way)
  even_marks way each = record {
    each = each ∙ sym (ap length is);
    even = λ a b same. elim (cases_lt a (length c.nodes)) [
      | inl a_in ↦ elim (cases_lt b (length c.nodes)) [
        | inl b_in ↦ even_inside a b way a_in b_in same
        | inr b_out ↦ absurd (omega (arith, sound.inside a a_in, same, rep_outside b (omega (arith, b_out)), b_out))
      ]
      | inr a_out ↦ elim (cases_lt b (length c.nodes)) [
        | inl b_in ↦ absurd (omega (arith, sound.inside b b_in, same, rep_outside a (omega (arith, a_out)), a_out))
        | inr b_out ↦ ap (λ (n : ℕ). slice_index_or (marks_at (task_of s) way) n false) (sym (rep_outside a (omega (arith, a_out))) ∙ same ∙ rep_outside b (omega (arith, b_out)))
      ]
    ];
  }

  pub scope_is : TypedPairLaws → (new : PlainClasses) → new.nodes ≡ s.new.graph → IsScope (scope_of s c new)
  scope_is laws new new_is = record {
    nodes = record {
      roots = λ k root at. let types = laws.nodes s root ((laws.exact s root).0 (contains_at (typed_roots s) k root at)) in (types.old, types.new);
      old_nodes = is;
      new_nodes = new_is;
    };
    ascending = laws.ascending s;
    direct = even_marks Direct marks.direct;
    pointer = even_marks Pointer marks.pointer;
  }
