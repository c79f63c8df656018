-- Parts that name nodes, as they are added and linked.
use Rattle.std.proofs.Common.{◌≡◌, ◌≢◌, ◌+◌, ◌-◌, ◌<◌, ◌≤◌, ℕ, ◌⊎◌, inl, inr, List, [], ◌∷◌, ◌++◌, length, get_or, set, Option, Some, None, sym, ◌∙◌, ap, arith, subst, refl}
use Rattle.std.specs.Prelude.{◌↔◌, Contains, IsPermutation}
use Rattle.std.proofs.lemmas.Bool.{cases_eq, cases_lt}
use Rattle.std.proofs.lemmas.List.{get_or_past, length-set, get_or-set_same, get_or-set_other, get_or_push, get_or_append_left, length_push, get_or_default}
use Rattle.std.proofs.lemmas.List.Elements.{Contains-push, Contains-push_cases, Contains-append_left}
use Rattle.std.proofs.lemmas.List.Sorted.{Contains-permutation, IsPermutation-sym}
use Rattle.abi_types.specs.Types.{PlainPart, PlainView, PlainNode}
use Rattle.abi_types.specs.Graphs.{view_at, part_at, no_part, to_of}
use Rattle.std.proofs.lemmas.Option.{none-some, same_Some}
use Rattle.type_classes.specs.declared.edges.Edge.{Edge}
use Rattle.type_classes.specs.declared.edges.Incoming.{Incoming}
use Rattle.type_classes.specs.Blocks.{at}
use Rattle.type_classes.specs.Edges.{node_count, no_edge, edge_at, IsLast, HasLinks, AreLinked, LeadsFrom, IsIncoming, Names, AreIncoming, IsAdded}
use Rattle.pair_rules.proofs.lemmas.Lists.{same_pair}

contains_along : (xs ys : List (ℕ × ℕ)) (e : ℕ × ℕ) → xs ≡ ys → Contains xs e → Contains ys e
contains_along xs ys e same h = subst (λ (zs : List (ℕ × ℕ)). Contains zs e) same h

-- ---- one edge more

before_push : (old : List Edge) (edge : Edge) (i : ℕ) → i < length old → edge_at (old ++ edge ∷ []) i ≡ edge_at old i
before_push old edge i inside = get_or_append_left old (edge ∷ []) no_edge i inside

at_push : (old : List Edge) (edge : Edge) (i : ℕ) → length old ≡ i → edge_at (old ++ edge ∷ []) i ≡ edge
at_push old edge i is = get_or_push old edge no_edge i is

-- a link stays where edges are added
IsLast-push : (old : List Edge) (edge : Edge) (bound s link : ℕ) → bound ≤ length old → IsLast old bound s link → IsLast (old ++ edge ∷ []) bound s link
IsLast-push old edge bound s link low is =
    let link_in = is.inside in
    record {
      inside = is.inside;
      own = λ some. ap (λ (x : Edge). x.to) (before_push old edge (link - 1) (omega arith)) ∙ is.own some;
      none = λ j from below same. is.none j from below (sym (ap (λ (x : Edge). x.to) (before_push old edge j (omega arith))) ∙ same);
    }

-- the link of another node stays where an edge is added
IsLast-other : (old : List Edge) (edge : Edge) (s link : ℕ) → edge.to ≢ s → IsLast old (length old) s link → IsLast (old ++ edge ∷ []) (length old + 1) s link
IsLast-other old edge s link other is =
    let kept = IsLast-push old edge (length old) s link (omega arith) is in
    let link_in = is.inside in
    record {
      inside = omega arith;
      own = kept.own;
      none = λ j from below same. elim (cases_lt j (length old)) [
        | inl less ↦ kept.none j from less same
        | inr past ↦ other (ap (λ (x : Edge). x.to) (sym (at_push old edge j (omega arith))) ∙ same)
      ];
    }

-- the edge that is added is the last to its node
IsLast-own : (old : List Edge) (edge : Edge) (s link : ℕ) → edge.to ≡ s → link ≡ length old + 1 → IsLast (old ++ edge ∷ []) (length old + 1) s link
IsLast-own old edge s link to is = record {
  inside = omega arith;
  own = λ some. ap (λ (x : Edge). x.to) (at_push old edge (link - 1) (omega arith)) ∙ to;
  none = λ j from below same. absurd (omega arith);
}

IsLast-along : (edges : List Edge) (bound s t link next : ℕ) → s ≡ t → link ≡ next → IsLast edges bound s link → IsLast edges bound t next
IsLast-along edges bound s t link next same is h = subst (λ (n : ℕ). IsLast edges bound t n) is (subst (λ (n : ℕ). IsLast edges bound n link) same h)

HasLinks-push : (old : List Edge) (edge : Edge) (last written : List ℕ) → HasLinks old last → edge.to < length last → edge.earlier ≡ at last edge.to → written ≡ set last edge.to (length old + 1) → HasLinks (old ++ edge ∷ []) written
HasLinks-push old edge last written linked inside earlier write =
    let len : length (old ++ edge ∷ []) ≡ length old + 1 = length_push old edge in
    let many : length written ≡ length last = ap length write ∙ length-set last edge.to (length old + 1) in
    record {
      earlier = λ i below. elim (cases_lt i (length old)) [
        | inl less ↦
            let same = sym (before_push old edge i less) in
            IsLast-along (old ++ edge ∷ []) i (edge_at old i).to (edge_at (old ++ edge ∷ []) i).to (edge_at old i).earlier (edge_at (old ++ edge ∷ []) i).earlier (ap (λ (x : Edge). x.to) same) (ap (λ (x : Edge). x.earlier) same)
            (IsLast-push old edge i (edge_at old i).to (edge_at old i).earlier (omega arith) (linked.earlier i less))
        | inr past ↦
            let is : length old ≡ i = omega arith in
            let same = sym (at_push old edge i is) in
            IsLast-along (old ++ edge ∷ []) i edge.to (edge_at (old ++ edge ∷ []) i).to (at last edge.to) (edge_at (old ++ edge ∷ []) i).earlier (ap (λ (x : Edge). x.to) same) (sym earlier ∙ ap (λ (x : Edge). x.earlier) same)
            (IsLast-push old edge i edge.to (at last edge.to) (omega arith) (subst (λ (n : ℕ). IsLast old n edge.to (at last edge.to)) is (linked.last edge.to inside)))
      ];
      last = λ s below. subst (λ (n : ℕ). IsLast (old ++ edge ∷ []) n s (at written s)) (sym len) (elim (cases_eq s edge.to) [
        | inl is ↦ IsLast-own old edge s (at written s) (sym is) (ap (λ (xs : List ℕ). at xs s) write ∙ ap (at (set last edge.to (length old + 1))) is ∙ get_or-set_same last edge.to (length old + 1) 0 inside)
        | inr ne ↦
            let kept : at written s ≡ at last s = ap (λ (xs : List ℕ). at xs s) write ∙ get_or-set_other last edge.to s (length old + 1) 0 ne in
            subst (λ (n : ℕ). IsLast (old ++ edge ∷ []) (length old + 1) s n) (sym kept) (IsLast-other old edge s (at last s) (λ e. ne (sym e)) (linked.last s (omega arith)))
      ]);
    }

-- what leads to a node after an edge is added
leads_push : (old : List Edge) (edge : Edge) (s : ℕ) (e : ℕ × ℕ) → LeadsFrom (old ++ edge ∷ []) 0 s e ↔ (LeadsFrom old 0 s e ⊎ ((s ≡ edge.to) × (e ≡ edge.part)))
leads_push old edge s e =
    let len : length (old ++ edge ∷ []) ≡ length old + 1 = length_push old edge in (
      λ (i, low, below, to, part). elim (cases_lt i (length old)) [
        | inl less ↦
            let same = sym (before_push old edge i less) in
            inl (i, low, less, ap (λ (x : Edge). x.to) same ∙ to, ap (λ (x : Edge). x.part) same ∙ part)
        | inr past ↦
            let same = sym (at_push old edge i (omega arith)) in
            inr (sym (ap (λ (x : Edge). x.to) same ∙ to), sym (ap (λ (x : Edge). x.part) same ∙ part))
      ],
      λ h. elim h [
        | inl (i, low, below, to, part) ↦
            let same = before_push old edge i below in
            (i, low, omega arith, ap (λ (x : Edge). x.to) same ∙ to, ap (λ (x : Edge). x.part) same ∙ part)
        | inr (to, part) ↦
            let same = at_push old edge (length old) refl in
            (length old, omega arith, omega arith, ap (λ (x : Edge). x.to) same ∙ sym to, ap (λ (x : Edge). x.part) same ∙ sym part)
      ],
    )

pub added : (old new : Incoming) (edge : Edge) (n : ℕ) → AreLinked old → edge.to < node_count old → edge.earlier ≡ at old.last.items edge.to → new.edges.items ≡ old.edges.items ++ edge ∷ []
    → n ≡ length new.edges.items → new.last.items ≡ set old.last.items edge.to n → IsAdded old new edge.to edge.part
added old new edge n linked inside earlier push count write =
    let len : n ≡ length old.edges.items + 1 = count ∙ ap length push ∙ length_push old.edges.items edge in
    let written : new.last.items ≡ set old.last.items edge.to (length old.edges.items + 1) = write ∙ ap (set old.last.items edge.to) len in
    record {
      many = ap length write ∙ length-set old.last.items edge.to n;
      linked = subst (λ (es : List Edge). HasLinks es new.last.items) (sym push) (HasLinks-push old.edges.items edge old.last.items new.last.items linked inside earlier written);
      pairs = λ s e. subst (λ (es : List Edge). LeadsFrom es 0 s e ↔ (LeadsFrom old.edges.items 0 s e ⊎ ((s ≡ edge.to) × (e ≡ edge.part)))) (sym push) (leads_push old.edges.items edge s e);
    }

-- ---- no edges

pub none_incoming : (nodes : List PlainNode) (incoming : Incoming) (n : ℕ) → n ≡ length nodes → incoming.edges.items ≡ [] → node_count incoming ≡ n → ((s : ℕ) → s < n → at incoming.last.items s ≡ 0) → AreIncoming nodes 0 incoming
none_incoming nodes incoming n is empty many zero =
    let len : length incoming.edges.items ≡ 0 = ap length empty in
    record {
      many = many ∙ is;
      linked = record {
        earlier = λ i below. absurd (omega arith);
        last = λ s below.
            let z = zero s (omega arith) in
            record {
              inside = omega arith;
              own = λ some. absurd (omega arith);
              none = λ j from lt same. absurd (omega arith);
            };
      };
      edges = λ s k x. (
        λ (i, low, below, to, part). absurd (omega arith),
        λ (lt, names). absurd (omega arith),
      );
    }

-- ---- the parts that name a node, one by one

-- The parts by the edges from a link on are there, and what was there before. The link is one more than the number of an edge to
-- the node, or 0.
pub record IsWalking (incoming : Incoming) (node : ℕ) (base pairs : List (ℕ × ℕ)) (link : ℕ) : Type 0 where
  pub inside : link ≤ length incoming.edges.items
  pub own : 0 < link → (edge_at incoming.edges.items (link - 1)).to ≡ node
  pub pairs_are : (e : ℕ × ℕ) → Contains pairs e ↔ (Contains base e ⊎ LeadsFrom incoming.edges.items link node e)

pub IsWalking-start : (incoming : Incoming) (node link : ℕ) (base : List (ℕ × ℕ)) → AreLinked incoming → node < node_count incoming → link ≡ at incoming.last.items node → IsWalking incoming node base base link
IsWalking-start incoming node link base linked inside is =
    let last = subst (λ (n : ℕ). IsLast incoming.edges.items (length incoming.edges.items) node n) (sym is) (linked.last node inside) in
    record {
      inside = last.inside;
      own = last.own;
      pairs_are = λ e. (λ h. inl h, λ h. elim h [ inl before ↦ before | inr (i, low, below, to, part) ↦ absurd (last.none i low below to) ]);
    }

pub IsWalking-more : (incoming : Incoming) (node link : ℕ) (base pairs grown : List (ℕ × ℕ)) (edge : Edge) → AreLinked incoming → IsWalking incoming node base pairs link → 0 < link → edge ≡ edge_at incoming.edges.items (link - 1) → grown ≡ pairs ++ edge.part ∷ []
    → IsWalking incoming node base grown edge.earlier × (edge.earlier < link)
IsWalking-more incoming node link base pairs grown edge linked walking some is push =
    let es = incoming.edges.items in
    let link_in = walking.inside in
    let to : edge.to ≡ node = ap (λ (x : Edge). x.to) is ∙ walking.own some in
    let here = linked.earlier (link - 1) (omega arith) in
    let last : IsLast es (link - 1) node edge.earlier =
    IsLast-along es (link - 1) (edge_at es (link - 1)).to node (edge_at es (link - 1)).earlier edge.earlier (walking.own some) (sym (ap (λ (x : Edge). x.earlier) is)) here in
    let low = last.inside in (
      record {
        inside = omega arith;
        own = last.own;
        pairs_are = λ e.
            let (to_old, from_old) = walking.pairs_are e in (
              λ h. elim (Contains-push_cases pairs edge.part e (contains_along grown (pairs ++ edge.part ∷ []) e push h)) [
                | inl before ↦ elim (to_old before) [
                  | inl older ↦ inl older
                  | inr (i, from, below, at_node, part) ↦ inr (i, omega arith, below, at_node, part)
                ]
                | inr same ↦ inr (link - 1, omega arith, omega arith, walking.own some, ap (λ (x : Edge). x.part) (sym is) ∙ same)
              ],
              λ h. contains_along (pairs ++ edge.part ∷ []) grown e (sym push) (elim h [
                | inl older ↦ Contains-append_left pairs (edge.part ∷ []) e (from_old (inl older))
                | inr (i, from, below, at_node, part) ↦ elim (cases_lt i (link - 1)) [
                  | inl less ↦ absurd (last.none i from less at_node)
                  | inr ge ↦ elim (cases_eq i (link - 1)) [
                    | inl same ↦
                        let e1 : edge.part ≡ e = ap (λ (x : Edge). x.part) is ∙ ap (λ (q : ℕ). (edge_at es q).part) (sym same) ∙ part in
                        subst (λ (q : ℕ × ℕ). Contains (pairs ++ edge.part ∷ []) q) e1 (Contains-push pairs edge.part)
                    | inr ne ↦ Contains-append_left pairs (edge.part ∷ []) e (from_old (inr (i, omega arith, below, at_node, part)))
                  ]
                ]
              ]),
            );
      },
      omega arith,
    )

-- the edge that is read at a number
pub read_edge : (edges : List Edge) (i : ℕ) (edge : Edge) → i < length edges → edge ≡ get_or edges i edge → edge ≡ edge_at edges i
read_edge edges i edge inside read = read ∙ get_or_default edges i edge no_edge inside

pub IsWalking-all : (incoming : Incoming) (node link : ℕ) (base pairs : List (ℕ × ℕ)) → link ≡ 0 → IsWalking incoming node base pairs link → (e : ℕ × ℕ) → Contains pairs e ↔ (Contains base e ⊎ IsIncoming incoming node e)
IsWalking-all incoming node link base pairs none walking = subst (λ (n : ℕ). (e : ℕ × ℕ) → Contains pairs e ↔ (Contains base e ⊎ LeadsFrom incoming.edges.items n node e)) none walking.pairs_are

-- ---- the parts of a node

-- what is known after the parts of a node below a position
pub record IsAdding (nodes : List PlainNode) (old now : Incoming) (node p : ℕ) : Type 0 where
  pub many : node_count now ≡ length nodes
  pub linked : AreLinked now
  pub edges : (s : ℕ) (e : ℕ × ℕ) → IsIncoming now s e ↔ (IsIncoming old s e ⊎ ((e.1 ≡ node) × (e.0 < p) × Names nodes node e.0 s))

pub IsAdding-start : (nodes : List PlainNode) (old : Incoming) (node : ℕ) → node_count old ≡ length nodes → AreLinked old → IsAdding nodes old old node 0
IsAdding-start nodes old node many linked = record {
  many = many;
  linked = linked;
  edges = λ s e. (λ h. inl h, λ h. elim h [ inl before ↦ before | inr (is, lt, names) ↦ absurd (omega arith) ]);
}

pub IsAdding-more : (nodes : List PlainNode) (old now new : Incoming) (node p : ℕ) (part : PlainPart) → IsAdding nodes old now node p → part ≡ part_at (view_at nodes node) p → AreLinked new → node_count new ≡ node_count now
    → ((s : ℕ) (e : ℕ × ℕ) → IsIncoming new s e ↔ (IsIncoming now s e ⊎ ((to_of part ≡ Some s) × (e ≡ (p, node)))))
    → IsAdding nodes old new node (p + 1)
IsAdding-more nodes old now new node p part adding is_part linked many pairs = record {
  many = many ∙ adding.many;
  linked = linked;
  edges = λ s e.
      let (to, from) = pairs s e in
      let (to_old, from_old) = adding.edges s e in (
        λ h. elim (to h) [
          | inl before ↦ elim (to_old before) [ inl older ↦ inl older | inr (is, lt, names) ↦ inr (is, omega arith, names) ]
          | inr (names, is) ↦
              let e1 : e.1 ≡ node = ap (λ (q : ℕ × ℕ). q.1) is in
              let e0 : e.0 ≡ p = ap (λ (q : ℕ × ℕ). q.0) is in
              inr (e1, omega arith, ap (λ (q : ℕ). to_of (part_at (view_at nodes node) q)) e0 ∙ ap to_of (sym is_part) ∙ names)
        ],
        λ h. elim h [
          | inl older ↦ from (inl (from_old (inl older)))
          | inr (is, lt, names) ↦ elim (cases_lt e.0 p) [
            | inl less ↦ from (inl (from_old (inr (is, less, names))))
            | inr ge ↦
                let e0 : e.0 ≡ p = omega arith in
                from (inr (ap to_of is_part ∙ ap (λ (q : ℕ). to_of (part_at (view_at nodes node) q)) (sym e0) ∙ names, same_pair e p node e0 is))
          ]
        ],
      );
}

-- a part past the end names no node
past_end : (nodes : List PlainNode) (node k s : ℕ) → length (view_at nodes node).parts ≤ k → Names nodes node k s → ⊥
past_end nodes node k s past names = let e : to_of (part_at (view_at nodes node) k) ≡ None = ap to_of (get_or_past (view_at nodes node).parts k no_part past) in none-some s (sym e ∙ names)

pub IsAdding-all : (nodes : List PlainNode) (old now : Incoming) (node p : ℕ) → length (view_at nodes node).parts ≤ p → AreIncoming nodes node old → IsAdding nodes old now node p → AreIncoming nodes (node + 1) now
IsAdding-all nodes old now node p all before adding = record {
  many = adding.many;
  linked = adding.linked;
  edges = λ s k x.
      let (to, from) = adding.edges s (k, x) in
      let (to_old, from_old) = before.edges s k x in (
        λ h. elim (to h) [
          | inl older ↦ let (lt, names) = to_old older in (omega arith, names)
          | inr (is, lt, names) ↦ (omega arith, ap (λ (q : ℕ). to_of (part_at (view_at nodes q) k)) is ∙ names)
        ],
        λ (lt, names). elim (cases_lt x node) [
          | inl less ↦ from (inl (from_old (less, names)))
          | inr ge ↦
              let is : x ≡ node = omega arith in
              let names' : Names nodes node k s = ap (λ (q : ℕ). to_of (part_at (view_at nodes q) k)) (sym is) ∙ names in
              elim (cases_lt k p) [
                | inl less ↦ from (inr (is, less, names'))
                | inr past ↦ absurd (past_end nodes node k s (omega arith) names')
              ]
        ],
      );
}

-- ---- joined parts

-- what is known after the first nodes
pub record IsJoining (incoming : Incoming) (nodes : List ℕ) (i : ℕ) (pairs : List (ℕ × ℕ)) : Type 0 where
  pub pairs_are : (e : ℕ × ℕ) → Contains pairs e ↔ ((j : ℕ) × (j < i) × IsIncoming incoming (get_or nodes j 0) e)

pub IsJoining-start : (incoming : Incoming) (nodes : List ℕ) (pairs : List (ℕ × ℕ)) → pairs ≡ [] → IsJoining incoming nodes 0 pairs
IsJoining-start incoming nodes pairs none = record {
  pairs_are = λ e. (
    λ h. let (i, below, at_i) = contains_along pairs [] e none h in absurd (omega arith),
    λ (j, lt, there). absurd (omega arith),
  );
}

pub IsJoining-more : (incoming : Incoming) (nodes : List ℕ) (i : ℕ) (pairs grown : List (ℕ × ℕ)) → IsJoining incoming nodes i pairs
    → ((e : ℕ × ℕ) → Contains grown e ↔ (Contains pairs e ⊎ IsIncoming incoming (get_or nodes i 0) e)) → IsJoining incoming nodes (i + 1) grown
IsJoining-more incoming nodes i pairs grown joining push = record {
  pairs_are = λ e.
      let (to, from) = joining.pairs_are e in (
        λ h. elim ((push e).0 h) [
          | inl before ↦ let (j, lt, there) = to before in (j, omega arith, there)
          | inr now ↦ (i, omega arith, now)
        ],
        λ (j, lt, there). (push e).1 (elim (cases_lt j i) [
          | inl less ↦ inl (from (j, less, there))
          | inr ge ↦
              let same : j ≡ i = omega arith in
              inr (subst (λ (q : ℕ). IsIncoming incoming (get_or nodes q 0) e) same there)
        ]),
      );
}

pub IsJoining-all : (incoming : Incoming) (nodes : List ℕ) (i : ℕ) (pairs : List (ℕ × ℕ)) → i ≡ length nodes → IsJoining incoming nodes i pairs → (e : ℕ × ℕ) → Contains pairs e ↔ ((s : ℕ) × Contains nodes s × IsIncoming incoming s e)
IsJoining-all incoming nodes i pairs all joining e =
    let (to, from) = joining.pairs_are e in (
      λ h. let (j, lt, there) = to h in (get_or nodes j 0, (j, omega arith, get_or_default nodes j (get_or nodes j 0) 0 (omega arith)), there),
      λ (s, (j, below, is), there).
          let same : get_or nodes j 0 ≡ s = get_or_default nodes j 0 s below ∙ is in
          from (j, omega arith, subst (λ (q : ℕ). IsIncoming incoming q e) (sym same) there),
    )

-- a number that a slice of numbers has is in it
pub contains_at : (xs : List ℕ) (i : ℕ) → i < length xs → Contains xs (get_or xs i 0)
contains_at xs i inside = (i, inside, get_or_default xs i (get_or xs i 0) 0 inside)

pub moved_pairs : (pairs sorted : List (ℕ × ℕ)) (P : ℕ × ℕ → Type 0) → IsPermutation pairs sorted → ((e : ℕ × ℕ) → Contains pairs e ↔ P e) → (e : ℕ × ℕ) → Contains sorted e ↔ P e
moved_pairs pairs sorted P moved are e = (
  λ h. (are e).0 (Contains-permutation sorted pairs e (IsPermutation-sym pairs sorted moved) h),
  λ h. Contains-permutation pairs sorted e moved ((are e).1 h),
)

-- the pairs of a part that names a node
pub part_added : (old new : Incoming) (to : ℕ) (named : Option ℕ) (pair : ℕ × ℕ) → Some to ≡ named → IsAdded old new to pair → (s : ℕ) (e : ℕ × ℕ) → IsIncoming new s e ↔ (IsIncoming old s e ⊎ ((named ≡ Some s) × (e ≡ pair)))
part_added old new to named pair is push s e =
    let (go, back) = push.pairs s e in (
      λ h. elim (go h) [ inl before ↦ inl before | inr (at_to, same) ↦ inr (sym is ∙ ap Some (sym at_to), same) ],
      λ h. back (elim h [ inl before ↦ inl before | inr (names, same) ↦ inr (sym (same_Some to s (is ∙ names)), same) ]),
    )

pub AreIncoming-all : (nodes : List PlainNode) (m n : ℕ) (incoming : Incoming) → m ≡ n → AreIncoming nodes m incoming → AreIncoming nodes n incoming
AreIncoming-all nodes m n incoming same is = subst (λ (k : ℕ). AreIncoming nodes k incoming) same is

pub to_part : (nodes : List PlainNode) (node i k : ℕ) (v : PlainView) (part : PlainPart) → v ≡ view_at nodes i → i ≡ node → part ≡ part_at v k → part ≡ part_at (view_at nodes node) k
to_part nodes node i k v part is_v is_i is = is ∙ ap (λ (w : PlainView). part_at w k) (is_v ∙ ap (view_at nodes) is_i)

pub parts_past : (nodes : List PlainNode) (node i p n : ℕ) (v : PlainView) → v ≡ view_at nodes i → i ≡ node → n ≡ length v.parts → n ≤ p → length (view_at nodes node).parts ≤ p
parts_past nodes node i p n v is_v is_i is_n past = let e = ap (λ (w : PlainView). length w.parts) (is_v ∙ ap (view_at nodes) is_i) in omega arith
