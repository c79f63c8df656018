-- Classes of nodes, refined by one class after the other.
use Rattle.std.proofs.Common.{◌≡◌, ◌+◌, ◌<◌, ◌≤◌, ℕ, eqb, Bool, true, false, ◌&&◌, inl, inr, List, length, map, get_or, Option, Some, None, refl, sym, ◌∙◌, ap, arith, subst}
use Rattle.std.specs.Prelude.{◌↔◌, Contains, if◌then◌else◌}
use Rattle.std.specs.List.{IsDistinct}
use Rattle.std.proofs.lemmas.Bool.{cases_eq, cases_Bool, eqb-true, eq-eqb}
use Rattle.std.proofs.lemmas.Bool.Decides.{nat_tests}
use Rattle.std.proofs.lemmas.List.{get_or_default, get_or-map, length-map}
use Rattle.std.proofs.lemmas.Map.Keys.{IsDistinct-from_apart}
use Rattle.std.proofs.lemmas.Map.Steps.{length-le_from_distinct_below}
use Rattle.type_classes.specs.declared.blocks.Block.{Block}
use Rattle.std.proofs.lemmas.List.Folds.{Any-from_list_any, list_any_at}
use Rattle.abi_base.proofs.lemmas.Bools.{and_is_true, same_tests, and_of_true}
use Rattle.abi_types.specs.Types.{PlainNode}
use Rattle.abi_types.specs.Graphs.{IsGraph, node_at, view_at, part_at, to_of}
use Rattle.type_classes.specs.declared.blocks.Blocks.{Blocks}
use Rattle.type_classes.specs.Alike.{AreAlike}
use Rattle.type_classes.specs.Blocks.{no_block, first_at, len_of, count_of, class_in, AreBlocks, ListsMarks, HasNoMarks}
use Rattle.type_classes.specs.Splits.{number_at, stands_beside, HaveSameKeys, IsSplitBy}
use Rattle.type_classes.specs.declared.edges.Incoming.{Incoming}
use Rattle.type_classes.specs.Edges.{node_count, IsIncoming, AreIncoming}
use Rattle.type_classes.specs.Refined.{IsRefined}
use Rattle.type_classes.proofs.AlikeLemmas.{named_too}
use Rattle.pair_rules.proofs.lemmas.Lists.{same_pair}

-- ---- who stands beside a key

pub beside-contains : (pairs : List (ℕ × ℕ)) (k x : ℕ) → stands_beside pairs k x ≡ true → Contains pairs (k, x)
unfolding stands_beside
beside-contains pairs k x e =
    let (i, pair, below, at, holds) = Any-from_list_any (λ (p : ℕ × ℕ). eqb p.0 k && eqb p.1 x) pairs e in
    let (one, two) = and_is_true (eqb pair.0 k) (eqb pair.1 x) holds in
    let is : pair ≡ (k, x) = same_pair pair k x (eqb-true pair.0 k one) (eqb-true pair.1 x two) in
    (i, below, get_or_default pairs i (k, x) pair below ∙ at ∙ is)

pub contains-beside : (pairs : List (ℕ × ℕ)) (k x : ℕ) → Contains pairs (k, x) → stands_beside pairs k x ≡ true
unfolding stands_beside
contains-beside pairs k x (i, below, at) =
    let one : (get_or pairs i (k, x)).0 ≡ k = ap (λ (p : ℕ × ℕ). p.0) at in
    let two : (get_or pairs i (k, x)).1 ≡ x = ap (λ (p : ℕ × ℕ). p.1) at in
    list_any_at (λ (p : ℕ × ℕ). eqb p.0 k && eqb p.1 x) pairs i (k, x) below (and_of_true (eqb (get_or pairs i (k, x)).0 k) (eqb (get_or pairs i (k, x)).1 x) (eq-eqb (get_or pairs i (k, x)).0 k one) (eq-eqb (get_or pairs i (k, x)).1 x two))

-- ---- a class as a splitter

-- whether what a part names is of a class
pub named_in : (ℕ → ℕ) → ℕ → Option ℕ → Bool
named_in class c None = false
named_in class c (Some a) = eqb (class a) c

named_in-some : (class : ℕ → ℕ) (c a : ℕ) (o : Option ℕ) → o ≡ Some a → named_in class c o ≡ eqb (class a) c
unfolding named_in
named_in-some class c a o e = ap (named_in class c) e

named_in-true : (class : ℕ → ℕ) (c : ℕ) (o : Option ℕ) → named_in class c o ≡ true → (a : ℕ) × (o ≡ Some a) × (class a ≡ c)
unfolding named_in
named_in-true class c None e = cc
named_in-true class c (Some a) e = (a, refl, eqb-true (class a) c e)

-- what is known of the pairs by which classes are split
pub record AreOfClass (nodes : List PlainNode) (class : ℕ → ℕ) (c : ℕ) (pairs : List (ℕ × ℕ)) : Type 0 where
  pub are : (k x : ℕ) → x < length nodes → stands_beside pairs k x ≡ named_in class c (to_of (part_at (view_at nodes x) k))

AreOfClass-from : (nodes : List PlainNode) (edges : Incoming) (members : List ℕ) (pairs : List (ℕ × ℕ)) (class : ℕ → ℕ) (c : ℕ) → IsGraph nodes → AreIncoming nodes (length nodes) edges
    → ((s : ℕ) → Contains members s ↔ ((s < length nodes) × (class s ≡ c)))
    → ((e : ℕ × ℕ) → Contains pairs e ↔ ((s : ℕ) × Contains members s × IsIncoming edges s e)) → AreOfClass nodes class c pairs
AreOfClass-from nodes edges members pairs class c graph incoming of_class joined = record {
  are = λ k x x_in. same_tests (stands_beside pairs k x) (named_in class c (to_of (part_at (view_at nodes x) k)))
      (λ e.
      let (s, member, there) = (joined (k, x)).0 (beside-contains pairs k x e) in
      let (s_in, s_of) = (of_class s).0 member in
      let (below, names) = (incoming.edges s k x).0 there in
      named_in-some class c s (to_of (part_at (view_at nodes x) k)) names ∙ eq-eqb (class s) c s_of)
      (λ e.
      let (s, names, s_of) = named_in-true class c (to_of (part_at (view_at nodes x) k)) e in
      let s_in = graph.inside x k s names in
      contains-beside pairs k x ((joined (k, x)).1 (s, (of_class s).1 (s_in, s_of), (incoming.edges s k x).1 (x_in, names))));
}

-- by a slice of the pairs
pub AreOfClass-sliced : (nodes : List PlainNode) (edges : Incoming) (members : List ℕ) (pairs sliced : List (ℕ × ℕ)) (class : ℕ → ℕ) (c n : ℕ) → IsGraph nodes → AreIncoming nodes (length nodes) edges
    → sliced ≡ pairs → n ≡ length nodes → ((s : ℕ) → Contains members s ↔ ((s < n) × (class s ≡ c)))
    → ((e : ℕ × ℕ) → Contains pairs e ↔ ((s : ℕ) × Contains members s × IsIncoming edges s e)) → AreOfClass nodes class c sliced
AreOfClass-sliced nodes edges members pairs sliced class c n graph incoming of_pairs of_nodes of_class joined =
    subst (λ (ps : List (ℕ × ℕ)). AreOfClass nodes class c ps) (sym of_pairs)
    (AreOfClass-from nodes edges members pairs class c graph incoming (λ s. (λ h. let (below, of_c) = (of_class s).0 h in (omega arith, of_c), λ (below, of_c). (of_class s).1 (omega arith, of_c))) joined)

-- the numbers of the pairs are nodes
pub numbers_inside : (nodes : List PlainNode) (edges : Incoming) (members : List ℕ) (pairs sliced : List (ℕ × ℕ)) (n : ℕ) → AreIncoming nodes (length nodes) edges
    → sliced ≡ pairs → n ≡ length nodes
    → ((e : ℕ × ℕ) → Contains pairs e ↔ ((s : ℕ) × Contains members s × IsIncoming edges s e)) → (i : ℕ) → i < length sliced → number_at sliced i < n
numbers_inside nodes edges members pairs sliced n incoming of_pairs of_nodes joined i below =
    let e : ℕ × ℕ = get_or pairs i (0, 0) in
    let len = ap (λ (ps : List (ℕ × ℕ)). length ps) of_pairs in
    let same : number_at sliced i ≡ e.1 = ap (λ (ps : List (ℕ × ℕ)). number_at ps i) of_pairs in
    let i_in : i < length pairs = omega arith in
    let (s, member, there) = (joined e).0 (i, i_in, get_or_default pairs i e (0, 0) i_in) in
    let there' : IsIncoming edges s (e.0, e.1) = there in
    let (lt, names) = (incoming.edges s e.0 e.1).0 there' in
    omega arith

-- the numbers of a class are nodes
pub members_inside : (nodes : List PlainNode) (edges : Incoming) (members : List ℕ) (class : ℕ → ℕ) (c n : ℕ) → AreIncoming nodes (length nodes) edges
    → n ≡ length nodes → ((s : ℕ) → Contains members s ↔ ((s < n) × (class s ≡ c))) → (s : ℕ) → Contains members s → s < node_count edges
members_inside nodes edges members class c n incoming of_nodes of_class s member =
    let (lt, of_c) = (of_class s).0 member in
    let many = incoming.many in
    omega arith

-- ---- one class used

-- the parts of alike nodes name nodes of the class, or not, alike
alike_named : (nodes : List PlainNode) (class : ℕ → ℕ) (c x y k : ℕ) → IsGraph nodes → ((u v : ℕ) → u < length nodes → v < length nodes → AreAlike nodes u v → class u ≡ class v) → AreAlike nodes x y
    → named_in class c (to_of (part_at (view_at nodes x) k)) ≡ named_in class c (to_of (part_at (view_at nodes y) k))
alike_named nodes class c x y k graph keeps (r, is, h) =
    same_tests (named_in class c (to_of (part_at (view_at nodes x) k))) (named_in class c (to_of (part_at (view_at nodes y) k)))
    (λ e.
    let (a, names, of_c) = named_in-true class c (to_of (part_at (view_at nodes x) k)) e in
    let (b, names') = named_too (node_at nodes x) (node_at nodes y) k a (is.shapes x y h) names in
    let same = keeps a b (graph.inside x k a names) (graph.inside y k b names') (r, is, is.parts x y k a b h names names') in
    named_in-some class c b (to_of (part_at (view_at nodes y) k)) names' ∙ eq-eqb (class b) c (sym same ∙ of_c))
    (λ e.
    let (b, names', of_c) = named_in-true class c (to_of (part_at (view_at nodes y) k)) e in
    let (a, names) = named_too (node_at nodes y) (node_at nodes x) k b (sym (is.shapes x y h)) names' in
    let same = keeps a b (graph.inside x k a names) (graph.inside y k b names') (r, is, is.parts x y k a b h names names') in
    named_in-some class c a (to_of (part_at (view_at nodes x) k)) names ∙ eq-eqb (class a) c (same ∙ of_c))

-- What is kept while classes are used: all below a number were. A class that was not used shares its base with those that it was
-- split from, and one that was used is a base of its own.
pub record IsRefining (nodes : List PlainNode) (b : Blocks) (c : ℕ) : Type 0 where
  pub blocks : AreBlocks b
  pub listed : ListsMarks b
  pub unmarked : HasNoMarks b
  pub len : len_of b ≡ length nodes
  pub base : ℕ → ℕ
  pub refined : IsRefined nodes (class_in b) base
  pub own : (d : ℕ) → d < c → base d ≡ d
  pub low : c ≤ count_of b

pub IsRefining-start : (nodes : List PlainNode) (b : Blocks) → AreBlocks b → ListsMarks b → HasNoMarks b → len_of b ≡ length nodes → IsRefined nodes (class_in b) (λ c. 0) → IsRefining nodes b 0
IsRefining-start nodes b blocks listed unmarked len refined = record {
  blocks = blocks;
  listed = listed;
  unmarked = unmarked;
  len = len;
  base = λ c. 0;
  refined = refined;
  own = λ d lt. absurd (omega arith);
  low = omega arith;
}

-- the bases, where one more class is used
based : (ℕ → ℕ) → ℕ → ℕ → ℕ
based base c d = if eqb d c then c else base d

based-same : (base : ℕ → ℕ) (c m n : ℕ) → eqb m c ≡ eqb n c → base m ≡ base n → based base c m ≡ based base c n
unfolding based
based-same base c m n same old = elim (cases_Bool (eqb m c)) [
  | inl yes_m ↦
      let yes_n : eqb n c ≡ true = sym same ∙ yes_m in
      ap (λ (t : Bool). if t then c else base m) yes_m ∙ sym (ap (λ (t : Bool). if t then c else base n) yes_n)
  | inr no_m ↦
      let no_n : eqb n c ≡ false = sym same ∙ no_m in
      ap (λ (t : Bool). if t then c else base m) no_m ∙ old ∙ sym (ap (λ (t : Bool). if t then c else base n) no_n)
]

based-own : (base : ℕ → ℕ) (c d : ℕ) → ((e : ℕ) → e < c → base e ≡ e) → d < c + 1 → based base c d ≡ d
unfolding based
based-own base c d own lt = elim (cases_eq d c) [
  | inl e ↦ ap (λ (t : Bool). if t then c else base d) (eq-eqb d c e) ∙ sym e
  | inr ne ↦ let test : eqb d c ≡ false = grind (arith, nat_tests) in ap (λ (t : Bool). if t then c else base d) test ∙ own d (omega arith)
]

pub IsRefining-more : (nodes : List PlainNode) (b after : Blocks) (c : ℕ) (pairs : List (ℕ × ℕ)) → IsGraph nodes → IsRefining nodes b c → c < count_of b → AreOfClass nodes (class_in b) c pairs → IsSplitBy b after pairs → IsRefining nodes after (c + 1)
IsRefining-more nodes b after c pairs graph going c_in of_class split =
    let len_b = going.len in
    let len_s = split.len in
    let in_b : (x : ℕ) → x < length nodes → x < len_of b = λ x h. omega arith in
    let older : (x y : ℕ) → x < length nodes → y < length nodes → class_in after x ≡ class_in after y → (class_in b x ≡ class_in b y) × HaveSameKeys pairs x y = λ x y x_in y_in e. (split.classes x y (in_b x x_in) (in_b y y_in)).0 e in
    record {
      blocks = split.blocks;
      listed = split.listed;
      unmarked = split.unmarked;
      len = split.len ∙ going.len;
      base = λ d. based going.base c (split.origin d);
      refined = record {
        shapes = λ x y x_in y_in e. going.refined.shapes x y x_in y_in (older x y x_in y_in e).0;
        parts = λ x y k p q x_in y_in e names names'.
            let (same, keys) = older x y x_in y_in e in
            let p_in = graph.inside x k p names in
            let q_in = graph.inside y k q names' in
            let tests : eqb (class_in b p) c ≡ eqb (class_in b q) c =
            sym (named_in-some (class_in b) c p (to_of (part_at (view_at nodes x) k)) names) ∙ sym (of_class.are k x x_in) ∙ keys k ∙ of_class.are k y y_in ∙ named_in-some (class_in b) c q (to_of (part_at (view_at nodes y) k)) names' in
            ap (based going.base c) (split.origins p (in_b p p_in))
            ∙ based-same going.base c (class_in b p) (class_in b q) tests (going.refined.parts x y k p q x_in y_in same names names')
            ∙ sym (ap (based going.base c) (split.origins q (in_b q q_in)));
        alike = λ x y x_in y_in alike.
            let same = going.refined.alike x y x_in y_in alike in
            (split.classes x y (in_b x x_in) (in_b y y_in)).1 (
              same,
              λ k.
                  of_class.are k x x_in ∙ alike_named nodes (class_in b) c x y k graph going.refined.alike alike ∙ sym (of_class.are k y y_in),
            );
      };
      own = λ d lt.
          let d_in : d < count_of b = omega arith in
          ap (based going.base c) (split.own_origins d d_in) ∙ based-own going.base c d going.own lt;
      low = let u = split.count in omega arith;
    }

pub IsRefining-all : (nodes : List PlainNode) (b : Blocks) (c : ℕ) → IsGraph nodes → IsRefining nodes b c → count_of b ≤ c → IsRefined nodes (class_in b) (λ d. d)
IsRefining-all nodes b c graph going past =
    let own : (x : ℕ) → x < length nodes → going.base (class_in b x) ≡ class_in b x = λ x x_in. let u = going.blocks.layout.class_inside x (let l = going.len in omega arith) in going.own (class_in b x) (omega arith) in
    record {
      shapes = going.refined.shapes;
      parts = λ x y k p q x_in y_in e names names'. sym (own p (graph.inside x k p names)) ∙ going.refined.parts x y k p q x_in y_in e names names' ∙ own q (graph.inside y k q names');
      alike = going.refined.alike;
    }

-- ---- there are no more classes than numbers

firsts_at : (blocks : List Block) (i d : ℕ) → i < length blocks → get_or (map (λ (k : Block). k.first) blocks) i d ≡ first_at blocks i
firsts_at blocks i d inside = get_or-map (λ (k : Block). k.first) blocks i no_block d inside

firsts_apart : (b : Blocks) → AreBlocks b → IsDistinct eqb (map (λ (k : Block). k.first) b.blocks.items)
firsts_apart b is =
    let blocks = b.blocks.items in
    let len : length (map (λ (k : Block). k.first) blocks) ≡ length blocks = length-map blocks (λ (k : Block). k.first) in
    IsDistinct-from_apart eqb (map (λ (k : Block). k.first) blocks) (λ i j d lt j_in.
    let j' : j < length blocks = omega arith in
    let i' : i < length blocks = omega arith in
    let x = firsts_at blocks i d i' in
    let y = firsts_at blocks j d j' in
    elim (cases_eq (first_at blocks i) (first_at blocks j)) [
      | inl e ↦
          let si = is.layout.some i i' in
          let sj = is.layout.some j j' in
          let one = is.layout.own i (first_at blocks i) i' (omega arith) si in
          let two = is.layout.own j (first_at blocks i) j' (omega arith) (omega arith) in
          let same : i ≡ j = sym one ∙ two in
          absurd (omega arith)
      | inr ne ↦ grind (arith, nat_tests)
    ])

pub count-le : (b : Blocks) → AreBlocks b → count_of b ≤ len_of b
count-le b is =
    let blocks = b.blocks.items in
    let len : length (map (λ (k : Block). k.first) blocks) ≡ length blocks = length-map blocks (λ (k : Block). k.first) in
    let le = length-le_from_distinct_below (map (λ (k : Block). k.first) blocks) (len_of b) (firsts_apart b is) (λ q e.
    let (i, x, below, at, holds) = Any-from_list_any (eqb q) (map (λ (k : Block). k.first) blocks) e in
    let i' : i < length blocks = omega arith in
    let same : q ≡ x = eqb-true q x holds in
    let first = firsts_at blocks i x i' in
    let u = is.layout.some i i' in
    let v = is.layout.end_inside i i' in
    omega arith) in
    omega arith
