-- What is explored of two libraries.
use Rattle.std.proofs.Common.{◌≡◌, ◌<◌, ℕ, Bool, false, List, length, get_or, sym, ◌∙◌, ap, replicate, inl, inr, arith}
use Rattle.std.proofs.lemmas.Bool.{cases_lt}
use Rattle.std.proofs.lemmas.List.{get_or_past, get_or-replicate, length-replicate}
use Rattle.abi_types.specs.declared.kind.Way.{Way}
use Rattle.abi_types.specs.declared.kind.Way.TheVariants.{Direct, Pointer}
use Rattle.abi_types.specs.declared.library.Marks.{Marks}
use Rattle.abi_types.specs.Types.{PlainNode}
use Rattle.abi_types.specs.Graphs.{node_at}
use Rattle.abi_types.specs.Libraries.{PlainLibrary}
use Rattle.abi_types.specs.ClassLooks.{Look}
use Rattle.pair_rules.specs.Steps.{is_marked}
use Rattle.type_classes.specs.Classes.{PlainClasses, AreSound}
use Rattle.pair_explorer.specs.Scopes.{IsScope, AreEvenMarks}
use Rattle.pair_explorer.specs.ByClass.{IsSound}
use Rattle.cert_check.specs.Compatible.{sides, task_of}
use Rattle.pair_compare.specs.Explored.{scope_of}
use Rattle.pair_compare.specs.Marking.{AreMarksOf, no_marks}
use Rattle.pair_compare.proofs.Pairs.{AreTypedPairs, inside}
use Rattle.type_classes.proofs.lemmas.Reps.{rep_of-past}

-- marks that are even by labels are even by class
even_by_class : (c : PlainClasses) (marks : List Bool) → AreSound c → length marks ≡ length c.nodes
    → ((a b : ℕ) → a < length c.nodes → b < length c.nodes → (node_at c.nodes a).labels ≡ (node_at c.nodes b).labels → get_or marks a false ≡ get_or marks b false) → AreEvenMarks c marks
even_by_class c marks sound each even = record {
  each = each;
  even = λ a b same. elim (cases_lt a (length c.nodes)) [
    | inl inside ↦ elim (cases_lt b (length c.nodes)) [
      | inl inside' ↦ even a b inside inside' (ap (λ (l : Look). l.labels) (sound.stable a b inside inside' same))
      | inr past ↦ absurd (let own = rep_of-past c b sound past in let below = sound.inside a inside in omega (arith, own, below, same))
    ]
    | inr past ↦ elim (cases_lt b (length c.nodes)) [
      | inl inside ↦ absurd (let own = rep_of-past c a sound past in let below = sound.inside b inside in omega (arith, own, below, same))
      | inr past' ↦ ap (λ (k : ℕ). get_or marks k false) (sym (rep_of-past c a sound past) ∙ same ∙ rep_of-past c b sound past')
    ]
  ];
}

module _ (pairs : AreTypedPairs) (old new : PlainLibrary) (marks : Marks) (old_classes new_classes : PlainClasses) (marked : AreMarksOf old marks) (old_sound : AreSound old_classes) (old_nodes : old_classes.nodes ≡ old.graph) (new_nodes : new_classes.nodes ≡ new.graph) where
  -- the marks at a way, over the nodes of the classes
  even_at : (way : Way) (a b : ℕ) → a < length old_classes.nodes → b < length old_classes.nodes → (node_at old_classes.nodes a).labels ≡ (node_at old_classes.nodes b).labels
      → is_marked (task_of (sides old new marks)) a way ≡ is_marked (task_of (sides old new marks)) b way
  even_at way a b below below' same =
      let long : length old_classes.nodes ≡ length old.graph = ap (λ (ns : List PlainNode). length ns) old_nodes in
      marked.even new a b way (omega arith) (omega arith)
      (ap (λ (ns : List PlainNode). (node_at ns a).labels) (sym old_nodes) ∙ same ∙ ap (λ (ns : List PlainNode). (node_at ns b).labels) old_nodes)

  pub scoped : IsScope (scope_of (sides old new marks) old_classes new_classes)
  scoped =
      let long : length old_classes.nodes ≡ length old.graph = ap (λ (ns : List PlainNode). length ns) old_nodes in
      record {
        nodes = record { roots = inside pairs (sides old new marks); old_nodes = old_nodes; new_nodes = new_nodes };
        ascending = pairs.ascending (sides old new marks);
        direct = even_by_class old_classes marks.direct old_sound (marked.direct ∙ sym long) (even_at Direct);
        pointer = even_by_class old_classes marks.pointer old_sound (marked.pointer ∙ sym long) (even_at Pointer);
      }

  pub sound : AreSound new_classes → IsSound (scope_of (sides old new marks) old_classes new_classes)
  sound new_sound = record { scope = scoped; old = old_sound; new = new_sound }

-- ---- nothing is marked

no_mark : (count a : ℕ) → get_or (replicate count false) a false ≡ false
no_mark count a = elim (cases_lt a count) [
  | inl inside ↦ get_or-replicate count a false false inside
  | inr past ↦ get_or_past (replicate count false) a false (omega (arith, length-replicate count false))
]

unmarked_at : (old new : PlainLibrary) (a : ℕ) (way : Way) → is_marked (task_of (sides old new (no_marks old))) a way ≡ false
unfolding no_marks
unmarked_at old new a Direct = no_mark (length old.graph) a
unmarked_at old new a Pointer = no_mark (length old.graph) a

pub no_marks-even : (old : PlainLibrary) → AreMarksOf old (no_marks old)
unfolding no_marks
no_marks-even old = record {
  exports = length-replicate (length old.exports) false;
  direct = length-replicate (length old.graph) false;
  pointer = length-replicate (length old.graph) false;
  even = λ new a b way below below' same. unmarked_at old new a way ∙ sym (unmarked_at old new b way);
}
