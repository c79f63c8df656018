-- Nodes of least entry offset, and the classes that they stand for.
use Rattle.std.proofs.Common.{◌≡◌, ◌+◌, ◌<◌, ◌≤◌, ℕ, inl, inr, List, [], ◌∷◌, ◌++◌, length, get_or, set, refl, sym, ◌∙◌, ap, arith, subst}
use Rattle.std.specs.Prelude.{◌↔◌, Contains}
use Rattle.std.proofs.lemmas.Bool.{cases_eq, cases_lt}
use Rattle.std.proofs.lemmas.List.{length-set, get_or-set_same, get_or-set_other, length_push, get_or_push, get_or_append_left, get_or_default}
use Rattle.abi_types.specs.Types.{PlainNode}
use Rattle.abi_types.specs.Graphs.{IsGraph, node_at}
use Rattle.type_classes.specs.declared.blocks.Blocks.{Blocks}
use Rattle.abi_types.specs.ClassLooks.{shape_of}
use Rattle.type_classes.specs.Alike.{AreAlike}
use Rattle.pair_rules.specs.Stable.{IsStable}
use Rattle.type_classes.specs.Classes.{PlainClasses, rep_in, rep_of, AreSound, AreCoarsest, IsLeast, IsLeastEntry}
use Rattle.type_classes.specs.Blocks.{at, len_of, class_in}
use Rattle.type_classes.specs.Splits.{HaveSameKeys, IsSplitBy}
use Rattle.type_classes.specs.Refined.{IsRefined}
use Rattle.type_classes.specs.Reps.{entry_at, AreOfClasses, IsLowered, AreReps}
use Rattle.type_classes.proofs.AlikeLemmas.{alike_from_stable}
use Rattle.type_classes.proofs.LookLemmas.{same_look}
use Rattle.type_classes.proofs.lemmas.Reps.{rep_in-past}

-- ---- a node for each class

pub AreOfClasses-start : (n : ℕ) (class : ℕ → ℕ) (list : List ℕ) → list ≡ [] → AreOfClasses n 0 class list
AreOfClasses-start n class list none = record {
  len = ap length none;
  inside = λ c lt. absurd (omega arith);
  own = λ c lt. absurd (omega arith);
}

pub AreOfClasses-more : (n c r : ℕ) (class : ℕ → ℕ) (members list grown : List ℕ) → AreOfClasses n c class list → 0 < length members → ((x : ℕ) → Contains members x ↔ ((x < n) × (class x ≡ c))) → r ≡ get_or members 0 0 → grown ≡ list ++ r ∷ [] → AreOfClasses n (c + 1) class grown
AreOfClasses-more n c r class members list grown going some all read push =
    let (r_in, r_of) = (all r).0 (0, some, get_or_default members 0 r 0 some ∙ sym read) in
    let last : at grown c ≡ r = ap (λ (xs : List ℕ). at xs c) push ∙ get_or_push list r 0 c going.len in
    let older : (d : ℕ) → d < c → at grown d ≡ at list d = λ d lt. ap (λ (xs : List ℕ). at xs d) push ∙ get_or_append_left list (r ∷ []) 0 d (let l = going.len in omega arith) in
    record {
      len = ap length push ∙ length_push list r ∙ ap (λ (k : ℕ). k + 1) going.len;
      inside = λ d lt. elim (cases_lt d c) [
        | inl less ↦ let u = older d less in let v = going.inside d less in omega arith
        | inr ge ↦ let e : d ≡ c = omega arith in let u : at grown d ≡ r = ap (at grown) e ∙ last in omega arith
      ];
      own = λ d lt. elim (cases_lt d c) [
        | inl less ↦ ap class (older d less) ∙ going.own d less
        | inr ge ↦ let e : d ≡ c = omega arith in ap class (ap (at grown) e ∙ last) ∙ r_of ∙ sym e
      ];
    }

-- ---- the least

pub lowered_to : (nodes : List PlainNode) (old new : List ℕ) (c x : ℕ) → c < length old → new ≡ set old c x → entry_at nodes x < entry_at nodes (at old c) → IsLowered nodes old new c x
lowered_to nodes old new c x inside write lt =
    let now : at new c ≡ x = ap (λ (xs : List ℕ). at xs c) write ∙ get_or-set_same old c x 0 inside in
    let e : entry_at nodes (at new c) ≡ entry_at nodes x = ap (entry_at nodes) now in
    record {
      len = ap length write ∙ length-set old c x;
      others = λ d ne. ap (λ (xs : List ℕ). at xs d) write ∙ get_or-set_other old c d x 0 ne;
      one_of = inr now;
      low = omega arith;
      lower = omega arith;
    }

pub lowered_not : (nodes : List PlainNode) (old : List ℕ) (c x : ℕ) → entry_at nodes (at old c) ≤ entry_at nodes x → IsLowered nodes old old c x
lowered_not nodes old c x le = record {
  len = refl;
  others = λ d ne. refl;
  one_of = inl refl;
  low = le;
  lower = omega arith;
}

pub record AreLeast (nodes : List PlainNode) (count : ℕ) (class : ℕ → ℕ) (m : ℕ) (list : List ℕ) : Type 0 where
  pub of_classes : AreOfClasses (length nodes) count class list
  pub least : (x : ℕ) → x < m → entry_at nodes (at list (class x)) ≤ entry_at nodes x

pub AreLeast-start : (nodes : List PlainNode) (count n : ℕ) (class : ℕ → ℕ) (list : List ℕ) → n ≡ length nodes → AreOfClasses n count class list → AreLeast nodes count class 0 list
AreLeast-start nodes count n class list same is = record {
  of_classes = subst (λ (k : ℕ). AreOfClasses k count class list) same is;
  least = λ x lt. absurd (omega arith);
}

pub AreLeast-more : (nodes : List PlainNode) (count : ℕ) (class : ℕ → ℕ) (m c : ℕ) (list new : List ℕ) → AreLeast nodes count class m list → m < length nodes → c ≡ class m → c < count → IsLowered nodes list new c m → AreLeast nodes count class (m + 1) new
AreLeast-more nodes count class m c list new going m_in is_c c_in low = record {
  of_classes = record {
    len = low.len ∙ going.of_classes.len;
    inside = λ d d_in. elim (cases_eq d c) [
      | inl e ↦ elim low.one_of [
        | inl same ↦ let u : at new d ≡ at list d = ap (at new) e ∙ same ∙ ap (at list) (sym e) in let v = going.of_classes.inside d d_in in omega arith
        | inr now ↦ let u : at new d ≡ m = ap (at new) e ∙ now in omega arith
      ]
      | inr ne ↦ let u = low.others d ne in let v = going.of_classes.inside d d_in in omega arith
    ];
    own = λ d d_in. elim (cases_eq d c) [
      | inl e ↦ elim low.one_of [
        | inl same ↦ ap class (ap (at new) e ∙ same ∙ ap (at list) (sym e)) ∙ going.of_classes.own d d_in
        | inr now ↦ ap class (ap (at new) e ∙ now) ∙ sym is_c ∙ sym e
      ]
      | inr ne ↦ ap class (low.others d ne) ∙ going.of_classes.own d d_in
    ];
  };
  least = λ x lt. elim (cases_lt x m) [
    | inl less ↦ elim (cases_eq (class x) c) [
      | inl e ↦
          let u : entry_at nodes (at new (class x)) ≡ entry_at nodes (at new c) = ap (λ (q : ℕ). entry_at nodes (at new q)) e in
          let v : entry_at nodes (at list (class x)) ≡ entry_at nodes (at list c) = ap (λ (q : ℕ). entry_at nodes (at list q)) e in
          let w = going.least x less in let z = low.lower in omega arith
      | inr ne ↦ let u : entry_at nodes (at new (class x)) ≡ entry_at nodes (at list (class x)) = ap (entry_at nodes) (low.others (class x) ne) in let w = going.least x less in omega arith
    ]
    | inr ge ↦
        let e : x ≡ m = omega arith in
        let u : entry_at nodes (at new (class x)) ≡ entry_at nodes (at new c) = ap (λ (q : ℕ). entry_at nodes (at new q)) (ap class e ∙ sym is_c) in
        let v : entry_at nodes x ≡ entry_at nodes m = ap (entry_at nodes) e in
        let w = low.low in omega arith
  ];
}

pub read_more : (class : ℕ → ℕ) (list reps grown : List ℕ) (m r c : ℕ) → length reps ≡ m → ((x : ℕ) → x < m → at reps x ≡ at list (class x)) → c ≡ class m → r ≡ at list c → grown ≡ reps ++ r ∷ [] → (x : ℕ) → x < m + 1 → at grown x ≡ at list (class x)
read_more class list reps grown m r c len read is_c is_r push x lt = elim (cases_lt x m) [
  | inl less ↦ ap (λ (xs : List ℕ). at xs x) push ∙ get_or_append_left reps (r ∷ []) 0 x (omega arith) ∙ read x less
  | inr ge ↦
      let e : x ≡ m = omega arith in
      ap (λ (xs : List ℕ). at xs x) push ∙ get_or_push reps r 0 x (len ∙ sym e) ∙ is_r ∙ ap (at list) (is_c ∙ ap class (sym e))
]

pub AreReps-from : (nodes : List PlainNode) (count m : ℕ) (class : ℕ → ℕ) (list reps : List ℕ) → m ≡ length nodes → ((x : ℕ) → x < length nodes → class x < count) → AreOfClasses (length nodes) count class list → ((x : ℕ) → x < length nodes → entry_at nodes (at list (class x)) ≤ entry_at nodes x)
    → length reps ≡ m → ((x : ℕ) → x < m → at reps x ≡ at list (class x)) → AreReps nodes class reps
AreReps-from nodes count m class list reps all class_in of_classes least len read = record {
  each = len ∙ all;
  inside = λ x lt. let u = read x (omega arith) in let v = of_classes.inside (class x) (class_in x lt) in omega arith;
  own = λ x lt. ap class (read x (omega arith)) ∙ of_classes.own (class x) (class_in x lt);
  same = λ x y x_in y_in e. read x (omega arith) ∙ ap (at list) e ∙ sym (read y (omega arith));
  least = λ x lt. let u = ap (entry_at nodes) (read x (omega arith)) in let v = least x lt in omega arith;
}

-- ---- the classes of a graph

rep_inside : (reps : List ℕ) (x : ℕ) → x < length reps → rep_in reps x ≡ at reps x
unfolding rep_in
rep_inside reps x lt = get_or_default reps x x 0 lt

-- nodes have one representative exactly where they are of one class
pub same_rep : (nodes : List PlainNode) (class : ℕ → ℕ) (reps : List ℕ) → AreReps nodes class reps → (x y : ℕ) → x < length nodes → y < length nodes → (rep_in reps x ≡ rep_in reps y) ↔ (class x ≡ class y)
same_rep nodes class reps is x y x_in y_in =
    let len = is.each in
    let x_is = rep_inside reps x (omega arith) in
    let y_is = rep_inside reps y (omega arith) in (
      λ e. sym (is.own x x_in) ∙ ap class (sym x_is ∙ e ∙ y_is) ∙ is.own y y_in,
      λ e. x_is ∙ is.same x y x_in y_in e ∙ sym y_is,
    )

reps_stable : (nodes : List PlainNode) (class : ℕ → ℕ) (reps : List ℕ) → IsGraph nodes → AreReps nodes class reps → IsRefined nodes class (λ c. c) → IsStable nodes (rep_in reps)
reps_stable nodes class reps graph is refined x y x_in y_in e =
    let same = (same_rep nodes class reps is x y x_in y_in).0 e in
    same_look (rep_in reps) (node_at nodes x) (node_at nodes y) (refined.shapes x y x_in y_in same)
    (λ k a b to_a to_b. (same_rep nodes class reps is a b (graph.inside x k a to_a) (graph.inside y k b to_b)).1 (refined.parts x y k a b x_in y_in same to_a to_b))

pub AreSound-reps : (nodes : List PlainNode) (class : ℕ → ℕ) (reps : List ℕ) → IsGraph nodes → AreReps nodes class reps → IsRefined nodes class (λ c. c) → AreSound (record { nodes = nodes; reps = reps })
AreSound-reps nodes class reps graph is refined =
    let len = is.each in
    record {
      each = is.each;
      inside = λ i lt. let u = rep_inside reps i (omega arith) in let v = is.inside i lt in omega arith;
      own = λ i. elim (cases_lt i (length nodes)) [
        | inl lt ↦
            let u = rep_inside reps i (omega arith) in
            let v = is.inside i lt in
            let r_in : rep_in reps i < length nodes = omega arith in
            (same_rep nodes class reps is (rep_in reps i) i r_in lt).1 (ap class u ∙ is.own i lt)
        | inr past ↦ ap (rep_in reps) (rep_in-past reps i (omega arith))
      ];
      least = λ i. elim (cases_lt i (length nodes)) [
        | inl lt ↦ let u = ap (entry_at nodes) (rep_inside reps i (omega arith)) in let v = is.least i lt in omega arith
        | inr past ↦ let u = ap (entry_at nodes) (rep_in-past reps i (omega arith)) in omega arith
      ];
      stable = reps_stable nodes class reps graph is refined;
    }

pub coarsest_reps : (nodes : List PlainNode) (class : ℕ → ℕ) (reps : List ℕ) → IsGraph nodes → AreReps nodes class reps → IsRefined nodes class (λ c. c) → (i j : ℕ) → i < length nodes → j < length nodes → (rep_in reps i ≡ rep_in reps j) ↔ AreAlike nodes i j
coarsest_reps nodes class reps graph is refined i j i_in j_in = (
  λ e. alike_from_stable nodes (rep_in reps) graph (reps_stable nodes class reps graph is refined) i j i_in j_in e,
  λ alike. (same_rep nodes class reps is i j i_in j_in).1 (refined.alike i j i_in j_in alike),
)

-- ---- the first classes

pub first_refined : (nodes : List PlainNode) (one b : Blocks) (pairs : List (ℕ × ℕ)) → len_of one ≡ length nodes → ((x : ℕ) → x < length nodes → class_in one x ≡ 0)
    → ((x y : ℕ) → x < length nodes → y < length nodes → HaveSameKeys pairs x y ↔ (shape_of (node_at nodes x) ≡ shape_of (node_at nodes y)))
    → IsSplitBy one b pairs → IsRefined nodes (class_in b) (λ c. 0)
first_refined nodes one b pairs len zeros keys split = record {
  shapes = λ x y x_in y_in e. (keys x y x_in y_in).0 ((split.classes x y (omega arith) (omega arith)).0 e).1;
  parts = λ x y k p q x_in y_in e names names'. refl;
  alike = λ x y x_in y_in (r, is, h). (split.classes x y (omega arith) (omega arith)).1 (zeros x x_in ∙ sym (zeros y y_in), (keys x y x_in y_in).1 (is.shapes x y h));
}

-- ---- what stands for a class

module _ (c : PlainClasses) (sound : AreSound c) (coarsest : AreCoarsest c) where
  rep_least : (i : ℕ) → i < length c.nodes → rep_of c i ≡ i → IsLeast c.nodes i
  rep_least i i_in own j j_in alike =
      let same = (coarsest j i j_in i_in).1 alike ∙ own in
      let low = sound.least j in
      let e = ap (entry_at c.nodes) same in
      omega arith

  pub stands : (a : ℕ) → a < length c.nodes → IsLeastEntry c.nodes (node_at c.nodes (rep_of c a)).entry a
  stands a a_in = record {
    node = rep_of c a;
    inside = sound.inside a a_in;
    alike = (coarsest a (rep_of c a) a_in (sound.inside a a_in)).0 (sym (sound.own a));
    least = rep_least (rep_of c a) (sound.inside a a_in) (sound.own a);
    is = refl;
  }

  pub stands_alone : (entry a : ℕ) → a < length c.nodes → IsLeastEntry c.nodes entry a → (node_at c.nodes (rep_of c a)).entry ≡ entry
  stands_alone entry a a_in s =
      let same = (coarsest a s.node a_in s.inside).1 s.alike in
      let low = sound.least s.node in
      let rep_in' = sound.inside s.node s.inside in
      let high = s.least (rep_of c s.node) rep_in' ((coarsest (rep_of c s.node) s.node rep_in' s.inside).0 (sound.own s.node)) in
      let e = ap (entry_at c.nodes) same in
      let is = s.is in
      omega arith
