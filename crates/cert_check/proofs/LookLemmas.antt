-- Looks, field by field and part by part.
use Rattle.std.proofs.Common.{◌≡◌, ◌<◌, ◌≤◌, ◌+◌, ◌==◌, ◌&&◌, ℕ, suc, Bool, true, false, List, [], ◌∷◌, length, map, get_or, Some, refl, sym, ◌∙◌, ap, subst, arith, slice_get, inl, inr}
use Rattle.std.specs.Prelude.{◌↔◌}
use Rattle.std.specs.Bool.{beq}
use Rattle.std.specs.Option.{option_map}
use Rattle.std.specs.Str.{bytes_eq}
use Rattle.std.proofs.lemmas.Bool.{and_parts, and_from, eqb-true, eq-eqb, cases_lt}
use Rattle.std.proofs.lemmas.List.{length-map}
use Rattle.std.proofs.lemmas.Option.{same_Some, slice_get-map, slice_get-get_or}
use Rattle.abi_base.proofs.lemmas.Bools.{beq_is_same, beq_same}
use Rattle.abi_base.proofs.lemmas.Orders.{bytes_eq-same, bytes_eq-is_same}
use Rattle.abi_types.specs.declared.kind.Kind.{Kind}
use Rattle.abi_types.specs.declared.kind.Group.{Group}
use Rattle.abi_types.specs.declared.kind.LabelKind.{LabelKind}
use Rattle.abi_types.specs.declared.kind.LabelKind.TheVariants as label
use Rattle.abi_types.specs.declared.place.Place.{Place}
use Rattle.abi_types.specs.declared.place.CallShape.{CallShape}
use Rattle.abi_types.specs.Types.{PlainPart, Member, Enumerator, Target, Element, Outcome, Param, PlainView, PlainLabel, PlainNode}
use Rattle.abi_types.specs.declared.view.Label.{Label}
use Rattle.abi_types.specs.Plain.{plain_label}
use Rattle.abi_types.specs.Graphs.{part_at, no_part}
use Rattle.abi_types.specs.ClassLooks.{part_seen, view_seen, Look, look_of}
use Rattle.pair_rules.specs.Same.{same_kind, same_group, same_place}
use Rattle.cert_check.specs.Looks.{same_label_kind, same_label, same_part, same_heads}
use Rattle.pair_rules.proofs.lemmas.Truths.{never}

-- ---- tests

kinds_same : (a b : LabelKind) → same_label_kind a b ≡ true → a ≡ b
kinds_same label.Structure label.Structure e = refl
kinds_same label.Union label.Union e = refl
kinds_same label.Enumeration label.Enumeration e = refl
kinds_same label.Typedef label.Typedef e = refl
kinds_same label.Builtin label.Builtin e = refl
kinds_same a b e = cc

kind_itself : (a : LabelKind) → same_label_kind a a ≡ true
kind_itself label.Structure = refl
kind_itself label.Union = refl
kind_itself label.Enumeration = refl
kind_itself label.Typedef = refl
kind_itself label.Builtin = refl

pub labels_same : (a b : PlainLabel) → same_label a b ≡ true → a ≡ b
labels_same a b e =
    let both = and_parts (same_label_kind a.kind b.kind) (bytes_eq a.name b.name) e in
    let mk : LabelKind → List ℕ → PlainLabel = λ k n. record { kind = k; name = n } in
    ap (λ k. mk k a.name) (kinds_same a.kind b.kind both.0) ∙ ap (mk b.kind) (bytes_eq-is_same a.name b.name both.1)

pub label_itself : (a b : PlainLabel) → a ≡ b → same_label a b ≡ true
label_itself a b e = subst (λ (x : PlainLabel). same_label a x ≡ true) e (and_from _ _ (kind_itself a.kind) (bytes_eq-same a.name a.name refl))

-- ---- parts

pub parts_same : (class : ℕ → ℕ) (p q : PlainPart) → same_part class p q ≡ true → part_seen class p ≡ part_seen class q
parts_same class (Member n b w t) (Member n' b' w' t') e =
    let one = and_parts (bytes_eq n n' && b == b' && w == w') (class t == class t') e in
    let two = and_parts (bytes_eq n n' && b == b') (w == w') one.0 in
    let three = and_parts (bytes_eq n n') (b == b') two.0 in
    ap (λ (x : List ℕ). Member x b w (class t)) (bytes_eq-is_same n n' three.0) ∙ ap (λ (x : ℕ). Member n' x w (class t)) (eqb-true b b' three.1)
    ∙ ap (λ (x : ℕ). Member n' b' x (class t)) (eqb-true w w' two.1) ∙ ap (Member n' b' w') (eqb-true (class t) (class t') one.1)
parts_same class (Enumerator n v) (Enumerator n' v') e =
    let both = and_parts (bytes_eq n n') (v == v') e in
    ap (λ (x : List ℕ). Enumerator x v) (bytes_eq-is_same n n' both.0) ∙ ap (Enumerator n') (eqb-true v v' both.1)
parts_same class (Target t) (Target t') e = ap Target (eqb-true (class t) (class t') e)
parts_same class (Element t) (Element t') e = ap Element (eqb-true (class t) (class t') e)
parts_same class (Outcome t) (Outcome t') e = ap Outcome (eqb-true (class t) (class t') e)
parts_same class (Param t) (Param t') e = ap Param (eqb-true (class t) (class t') e)
parts_same class p q e = cc

pub part_itself : (class : ℕ → ℕ) (p q : PlainPart) → part_seen class p ≡ part_seen class q → same_part class p q ≡ true
part_itself class (Member n b w t) (Member n' b' w' t') e =
    let a : n ≡ n' = cc in
    let c : b ≡ b' = cc in
    let d : w ≡ w' = cc in
    let f : class t ≡ class t' = cc in
    and_from _ _ (and_from _ _ (and_from _ _ (bytes_eq-same n n' a) (eq-eqb b b' c)) (eq-eqb w w' d)) (eq-eqb (class t) (class t') f)
part_itself class (Enumerator n v) (Enumerator n' v') e =
    let a : n ≡ n' = cc in
    let c : v ≡ v' = cc in
    and_from _ _ (bytes_eq-same n n' a) (eq-eqb v v' c)
part_itself class (Target t) (Target t') e = let f : class t ≡ class t' = cc in eq-eqb (class t) (class t') f
part_itself class (Element t) (Element t') e = let f : class t ≡ class t' = cc in eq-eqb (class t) (class t') f
part_itself class (Outcome t) (Outcome t') e = let f : class t ≡ class t' = cc in eq-eqb (class t) (class t') f
part_itself class (Param t) (Param t') e = let f : class t ≡ class t' = cc in eq-eqb (class t) (class t') f
part_itself class p q e = cc

-- ---- lists, item by item

pub lists_same : {X : Type 0} (xs ys : List X) → length xs ≡ length ys → ((k : ℕ) → k < length xs → slice_get xs k ≡ slice_get ys k) → xs ≡ ys
lists_same [] [] size each = refl
lists_same [] (y ∷ ys) size each = absurd (omega (arith, size))
lists_same (x ∷ xs) [] size each = absurd (omega (arith, size))
lists_same (x ∷ xs) (y ∷ ys) size each =
    let first : x ≡ y = same_Some x y (each 0 (omega arith)) in
    let e : length xs ≡ length ys = omega (arith, size) in
    ap (λ z. z ∷ xs) first ∙ ap (λ zs. y ∷ zs) (lists_same xs ys e (λ k lt. each (suc k) (omega (arith, lt))))

-- two lists that are seen as lists of other items
module _ {X Y : Type 0} (f : X → Y) (xs ys : List X) where
  -- a test of items
  pub loop_all : (n : ℕ) → length xs ≤ n → length xs ≡ length ys → ((j : ℕ) → j < n → slice_get (map f xs) j ≡ slice_get (map f ys) j) → (true ≡ true) ↔ (map f xs ≡ map f ys)
  loop_all n past size each = (
    λ t. lists_same (map f xs) (map f ys) (omega (arith, length-map xs f, length-map ys f, size)) (λ k lt. each k (omega (arith, length-map xs f, lt, past))),
    λ same. refl,
  )

  pub loop_size : (length xs ≡ length ys → ⊥) → (false ≡ true) ↔ (map f xs ≡ map f ys)
  loop_size other = (λ bad. absurd cc, λ same. absurd (other (omega (arith, length-map xs f, length-map ys f, ap length same))))

  pub item_same : (k : ℕ) (x y : X) → slice_get xs k ≡ Some x → slice_get ys k ≡ Some y → f x ≡ f y → slice_get (map f xs) k ≡ slice_get (map f ys) k
  item_same k x y one other e =
      slice_get-map f xs k ∙ ap (option_map f) one ∙ ap (λ (z : Y). Some z) e ∙ sym (slice_get-map f ys k ∙ ap (option_map f) other)

  pub loop_other : (k : ℕ) (x y : X) → slice_get xs k ≡ Some x → slice_get ys k ≡ Some y → (f x ≡ f y → ⊥) → (false ≡ true) ↔ (map f xs ≡ map f ys)
  loop_other k x y one other differ = (
    λ bad. absurd cc,
    λ same.
        let e : Some (f x) ≡ Some (f y) = sym (slice_get-map f xs k ∙ ap (option_map f) one) ∙ ap (λ (zs : List Y). slice_get zs k) same ∙ (slice_get-map f ys k ∙ ap (option_map f) other) in
        absurd (differ (same_Some (f x) (f y) e)),
  )

pub next_item : {Y : Type 0} (xs ys : List Y) (k : ℕ) → ((j : ℕ) → j < k → slice_get xs j ≡ slice_get ys j) → slice_get xs k ≡ slice_get ys k → (j : ℕ) → j < k + 1 → slice_get xs j ≡ slice_get ys j
next_item {Y} xs ys k before here j lt = elim (cases_lt j k) [
  | inl less ↦ before j less
  | inr past ↦ let same : k ≡ j = omega (arith, lt, past) in subst (λ (i : ℕ). slice_get xs i ≡ slice_get ys i) same here
]

-- ---- views

pub record AreLaws : Type 0 where
  pub kinds : (a b : Kind) → (same_kind a b ≡ true) ↔ (a ≡ b)
  pub groups : (a b : Group) → (same_group a b ≡ true) ↔ (a ≡ b)
  pub places : (a b : Place) → (same_place a b ≡ true) ↔ (a ≡ b)

-- all of two views but their parts and calls
pub record HaveSameHeads (v w : PlainView) : Type 0 where
  pub kind : v.kind ≡ w.kind
  pub group : v.group ≡ w.group
  pub declared_only : v.declared_only ≡ w.declared_only
  pub variadic : v.variadic ≡ w.variadic
  pub tag : v.tag ≡ w.tag
  pub size : v.size ≡ w.size
  pub align : v.align ≡ w.align
  pub count : v.count ≡ w.count

heads_same : AreLaws → (v w : PlainView) → same_heads v w ≡ true → HaveSameHeads v w
heads_same laws v w e =
    let t1 = same_kind v.kind w.kind in
    let t2 = t1 && same_group v.group w.group in
    let t3 = t2 && beq v.declared_only w.declared_only in
    let t4 = t3 && beq v.variadic w.variadic in
    let t5 = t4 && bytes_eq v.tag w.tag in
    let t6 = t5 && v.size == w.size in
    let t7 = t6 && v.align == w.align in
    let p7 = and_parts t7 (v.count == w.count) e in
    let p6 = and_parts t6 (v.align == w.align) p7.0 in
    let p5 = and_parts t5 (v.size == w.size) p6.0 in
    let p4 = and_parts t4 (bytes_eq v.tag w.tag) p5.0 in
    let p3 = and_parts t3 (beq v.variadic w.variadic) p4.0 in
    let p2 = and_parts t2 (beq v.declared_only w.declared_only) p3.0 in
    let p1 = and_parts t1 (same_group v.group w.group) p2.0 in
    record {
      kind = (laws.kinds v.kind w.kind).0 p1.0;
      group = (laws.groups v.group w.group).0 p1.1;
      declared_only = beq_is_same v.declared_only w.declared_only p2.1;
      variadic = beq_is_same v.variadic w.variadic p3.1;
      tag = bytes_eq-is_same v.tag w.tag p4.1;
      size = eqb-true v.size w.size p5.1;
      align = eqb-true v.align w.align p6.1;
      count = eqb-true v.count w.count p7.1;
    }

heads_from : AreLaws → (v w : PlainView) → HaveSameHeads v w → same_heads v w ≡ true
heads_from laws v w h =
    and_from _ _ (and_from _ _ (and_from _ _ (and_from _ _ (and_from _ _ (and_from _ _ (and_from _ _ ((laws.kinds v.kind w.kind).1 h.kind) ((laws.groups v.group w.group).1 h.group))
    (subst (λ (b : Bool). beq v.declared_only b ≡ true) h.declared_only (beq_same v.declared_only))) (subst (λ (b : Bool). beq v.variadic b ≡ true) h.variadic (beq_same v.variadic)))
    (bytes_eq-same v.tag w.tag h.tag)) (eq-eqb v.size w.size h.size)) (eq-eqb v.align w.align h.align)) (eq-eqb v.count w.count h.count)

-- the looks of two nodes are equal where all their fields are
pub record HaveSameLooks (class : ℕ → ℕ) (n m : PlainNode) : Type 0 where
  pub labels : n.labels ≡ m.labels
  pub heads : HaveSameHeads n.view m.view
  pub parts : map (part_seen class) n.view.parts ≡ map (part_seen class) m.view.parts
  pub call : n.view.call ≡ m.view.call

looks_from : (class : ℕ → ℕ) (n m : PlainNode) → HaveSameLooks class n m → look_of class n ≡ look_of class m
unfolding view_seen
looks_from class n m same =
    let v = n.view in
    let w = m.view in
    let h = same.heads in
    let mk : List PlainLabel → Kind → Bool → List ℕ → ℕ → Group → ℕ → ℕ → Bool → List PlainPart → CallShape → Look =
    λ labels kind declared tag size group align count variadic parts call. record { labels = labels; view = record { kind = kind; declared_only = declared; tag = tag; size = size; group = group; align = align; count = count; variadic = variadic; parts = parts; call = call } } in
    let ps = map (part_seen class) v.parts in
    let qs = map (part_seen class) w.parts in
    ap (λ x. mk x v.kind v.declared_only v.tag v.size v.group v.align v.count v.variadic ps v.call) same.labels
    ∙ ap (λ x. mk m.labels x v.declared_only v.tag v.size v.group v.align v.count v.variadic ps v.call) h.kind
    ∙ ap (λ x. mk m.labels w.kind x v.tag v.size v.group v.align v.count v.variadic ps v.call) h.declared_only
    ∙ ap (λ x. mk m.labels w.kind w.declared_only x v.size v.group v.align v.count v.variadic ps v.call) h.tag
    ∙ ap (λ x. mk m.labels w.kind w.declared_only w.tag x v.group v.align v.count v.variadic ps v.call) h.size
    ∙ ap (λ x. mk m.labels w.kind w.declared_only w.tag w.size x v.align v.count v.variadic ps v.call) h.group
    ∙ ap (λ x. mk m.labels w.kind w.declared_only w.tag w.size w.group x v.count v.variadic ps v.call) h.align
    ∙ ap (λ x. mk m.labels w.kind w.declared_only w.tag w.size w.group w.align x v.variadic ps v.call) h.count
    ∙ ap (λ x. mk m.labels w.kind w.declared_only w.tag w.size w.group w.align w.count x ps v.call) h.variadic
    ∙ ap (λ x. mk m.labels w.kind w.declared_only w.tag w.size w.group w.align w.count w.variadic x v.call) same.parts
    ∙ ap (λ x. mk m.labels w.kind w.declared_only w.tag w.size w.group w.align w.count w.variadic qs x) same.call

looks_to : (class : ℕ → ℕ) (n m : PlainNode) → look_of class n ≡ look_of class m → HaveSameLooks class n m
unfolding view_seen
looks_to class n m e = record {
  labels = ap (λ (l : Look). l.labels) e;
  heads = record {
    kind = ap (λ (l : Look). l.view.kind) e;
    group = ap (λ (l : Look). l.view.group) e;
    declared_only = ap (λ (l : Look). l.view.declared_only) e;
    variadic = ap (λ (l : Look). l.view.variadic) e;
    tag = ap (λ (l : Look). l.view.tag) e;
    size = ap (λ (l : Look). l.view.size) e;
    align = ap (λ (l : Look). l.view.align) e;
    count = ap (λ (l : Look). l.view.count) e;
  };
  parts = ap (λ (l : Look). l.view.parts) e;
  call = ap (λ (l : Look). l.view.call) e;
}

-- ---- what the code tells of two nodes

module _ (laws : AreLaws) (class : ℕ → ℕ) (n m : PlainNode) where
  pub other_labels : (r : Bool) (ls ms : List PlainLabel) → ls ≡ n.labels → ms ≡ m.labels → (r ≡ true) ↔ (ls ≡ ms) → r ≡ false → (false ≡ true) ↔ (look_of class n ≡ look_of class m)
  other_labels r ls ms one two iff is = never (λ e. let bad : true ≡ false = sym (iff.1 (one ∙ (looks_to class n m e).labels ∙ sym two)) ∙ is in cc)

  module _ (v w : PlainView) (is_v : v ≡ n.view) (is_w : w ≡ m.view) where
    seen : look_of class n ≡ look_of class m → HaveSameLooks class (record n { view = v }) (record m { view = w })
    seen e =
        let looks = looks_to class n m e in
        let one : HaveSameLooks class (record n { view = v }) m = subst (λ (x : PlainView). HaveSameLooks class (record n { view = x }) m) (sym is_v) looks in
        subst (λ (x : PlainView). HaveSameLooks class (record n { view = v }) (record m { view = x })) (sym is_w) one

    pub other_heads : same_heads v w ≡ false → (false ≡ true) ↔ (look_of class n ≡ look_of class m)
    other_heads is = never (λ e. let bad : true ≡ false = sym (heads_from laws v w (seen e).heads) ∙ is in cc)

    pub other_parts : (r : Bool) → (r ≡ true) ↔ (map (part_seen class) v.parts ≡ map (part_seen class) w.parts) → r ≡ false → (false ≡ true) ↔ (look_of class n ≡ look_of class m)
    other_parts r iff is = never (λ e. let bad : true ≡ false = sym (iff.1 (seen e).parts) ∙ is in cc)

    pub last_calls : (l p r : Bool) (ls ms : List PlainLabel) → ls ≡ n.labels → ms ≡ m.labels → (l ≡ true) ↔ (ls ≡ ms) → l ≡ true → same_heads v w ≡ true → (p ≡ true) ↔ (map (part_seen class) v.parts ≡ map (part_seen class) w.parts) → p ≡ true → (r ≡ true) ↔ (v.call ≡ w.call) → (r ≡ true) ↔ (look_of class n ≡ look_of class m)
    last_calls l p r ls ms one two labels is_l heads parts is_p iff = (
      λ right.
          let here : HaveSameLooks class (record n { view = v }) (record m { view = w }) = record {
            labels = sym one ∙ labels.0 is_l ∙ two;
            heads = heads_same laws v w heads;
            parts = parts.0 is_p;
            call = iff.0 right;
          } in
          let e = looks_from class (record n { view = v }) (record m { view = w }) here in
          ap (λ (x : PlainView). look_of class (record n { view = x })) (sym is_v) ∙ e ∙ ap (λ (x : PlainView). look_of class (record m { view = x })) is_w,
      λ e. iff.1 (seen e).call,
    )

pub calls_same : (a b : CallShape) (p r : Bool) → (p ≡ true) ↔ (a.outcome ≡ b.outcome) → (r ≡ true) ↔ (a.params ≡ b.params) → (p && r ≡ true) ↔ (a ≡ b)
calls_same a b p r one other = (
  λ right.
      let both = and_parts p r right in
      let mk : Place → List Place → CallShape = λ o ps. record { outcome = o; params = ps } in
      ap (λ o. mk o a.params) (one.0 both.0) ∙ ap (mk b.outcome) (other.0 both.1),
  λ e. and_from _ _ (one.1 (ap (λ (c : CallShape). c.outcome) e)) (other.1 (ap (λ (c : CallShape). c.params) e)),
)

-- ---- the loops of the code

pub labels_other : (one other : List Label) (k : ℕ) (d e : Label) → k < length one → length one ≡ length other → same_label (plain_label (get_or one k d)) (plain_label (get_or other k e)) ≡ false → (false ≡ true) ↔ (map plain_label one ≡ map plain_label other)
labels_other one other k d e lt size is =
    loop_other plain_label one other k (get_or one k d) (get_or other k e) (slice_get-get_or one k d lt) (slice_get-get_or other k e (omega (arith, lt, size)))
    (λ same. let bad : true ≡ false = sym (label_itself (plain_label (get_or one k d)) (plain_label (get_or other k e)) same) ∙ is in cc)

pub labels_more : (one other : List Label) (k : ℕ) (d e : Label) → k < length one → length one ≡ length other → ((j : ℕ) → j < k → slice_get (map plain_label one) j ≡ slice_get (map plain_label other) j) → same_label (plain_label (get_or one k d)) (plain_label (get_or other k e)) ≡ true → (j : ℕ) → j < k + 1 → slice_get (map plain_label one) j ≡ slice_get (map plain_label other) j
labels_more one other k d e lt size before is =
    next_item (map plain_label one) (map plain_label other) k before
    (item_same plain_label one other k (get_or one k d) (get_or other k e) (slice_get-get_or one k d lt) (slice_get-get_or other k e (omega (arith, lt, size))) (labels_same (plain_label (get_or one k d)) (plain_label (get_or other k e)) is))

module _ (class : ℕ → ℕ) (v w : PlainView) (k : ℕ) (p q : PlainPart) (is_p : p ≡ part_at v k) (is_q : q ≡ part_at w k) (lt : k < length v.parts) (size : length v.parts ≡ length w.parts) where
  at_p : slice_get v.parts k ≡ Some p
  at_p = slice_get-get_or v.parts k no_part lt ∙ ap (λ (x : PlainPart). Some x) (sym is_p)

  at_q : slice_get w.parts k ≡ Some q
  at_q = slice_get-get_or w.parts k no_part (omega (arith, lt, size)) ∙ ap (λ (x : PlainPart). Some x) (sym is_q)

  pub parts_other : same_part class p q ≡ false → (false ≡ true) ↔ (map (part_seen class) v.parts ≡ map (part_seen class) w.parts)
  parts_other is = loop_other (part_seen class) v.parts w.parts k p q at_p at_q (λ same. let bad : true ≡ false = sym (part_itself class p q same) ∙ is in cc)

  pub parts_more : ((j : ℕ) → j < k → slice_get (map (part_seen class) v.parts) j ≡ slice_get (map (part_seen class) w.parts) j) → same_part class p q ≡ true → (j : ℕ) → j < k + 1 → slice_get (map (part_seen class) v.parts) j ≡ slice_get (map (part_seen class) w.parts) j
  parts_more before is = next_item (map (part_seen class) v.parts) (map (part_seen class) w.parts) k before (item_same (part_seen class) v.parts w.parts k p q at_p at_q (parts_same class p q is))

pub places_all : (one other : List Place) (n : ℕ) → length one ≤ n → length one ≡ length other → ((j : ℕ) → j < n → slice_get one j ≡ slice_get other j) → (true ≡ true) ↔ (one ≡ other)
places_all one other n past size each = (λ t. lists_same one other size (λ k lt. each k (omega (arith, lt, past))), λ e. refl)

pub iff_moved : (r : Bool) (a b x y : CallShape) → a ≡ x → b ≡ y → (r ≡ true) ↔ (a ≡ b) → (r ≡ true) ↔ (x ≡ y)
iff_moved r a b x y one other iff = (λ right. sym one ∙ iff.0 right ∙ other, λ e. iff.1 (one ∙ e ∙ sym other))
