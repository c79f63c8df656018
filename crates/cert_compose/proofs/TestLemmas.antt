-- Tests of the types of three entries, and the least entry.
use Rattle.std.proofs.Common.{◌≡◌, ◌≤◌, ◌<◌, ◌+◌, ◌&&◌, min, not, ℕ, zero, suc, Bool, true, false, List, [], ◌∷◌, ◌++◌, length, get_or, Option, Some, None, refl, sym, ◌∙◌, ap, subst, inl, inr, arith}
use Rattle.std.specs.Prelude.{◌↔◌}
use Rattle.std.specs.List.{list_all, Contains, AllWithin}
use Rattle.std.specs.List.Sorted.{IsPermutation, IsSorted, IsNonDecreasingBy}
use Rattle.std.specs.Cmp.{nat_cmp_is}
use Rattle.std.specs.Ordering.{nat_cmp, ordering_index}
use Rattle.std.specs.declared.cmp.Ordering.TheVariants.{Less, Equal, Greater}
use Rattle.std.proofs.lemmas.List.Sorted.{Contains-permutation, IsPermutation-sym, IsNonDecreasingBy-from_sort}
use Rattle.std.proofs.lemmas.Bool.{cases_Bool, cases_lt, cases_order, and_parts, and_from}
use Rattle.abi_base.proofs.lemmas.Bools.{not_is_true}
use Rattle.abi_types.specs.Types.{PlainView, PlainNode}
use Rattle.abi_types.specs.Graphs.{node_of, node_at, view_at}
use Rattle.pair_rules.specs.declared.rules.Broken.{Broken}
use Rattle.pair_rules.specs.TypeRules.{breaks}
use Rattle.cert_text.specs.Certs.{PairLine}
use Rattle.cert_check.specs.Accepted.{class_in, rep, line_of}
use Rattle.cert_compose.specs.Chains.{PlainChain}
use Rattle.cert_compose.specs.Between.{hides, KeepsType}
use Rattle.cert_compose.specs.Joins.{through}
use Rattle.cert_compose.specs.Losses.{are_none, no_breaks, keeps_views, keeps_nodes, keeps_entries, keeps_new, line_keeps, lost_entries, IsLostIn, FindsLeast, FindsLeastEntry, next_least}
use Rattle.abi_base.proofs.lemmas.Orders.{index_le}

-- ---- the nodes of entries

module _ (ch : PlainChain) (e f g : ℕ) where
  pub none_first : None ≡ node_of ch.first.graph e → true ≡ keeps_entries ch e f g
  unfolding keeps_entries
  none_first is = ap (λ (o : Option ℕ). keeps_nodes ch o (node_of ch.middle.graph f) (node_of ch.last.graph g)) is

  pub none_second : (a : ℕ) → Some a ≡ node_of ch.first.graph e → None ≡ node_of ch.middle.graph f → true ≡ keeps_entries ch e f g
  unfolding keeps_entries
  none_second a one is =
      ap (λ (o : Option ℕ). keeps_nodes ch (Some a) o (node_of ch.last.graph g)) is ∙ ap (λ (o : Option ℕ). keeps_nodes ch o (node_of ch.middle.graph f) (node_of ch.last.graph g)) one

  pub all_nodes : (a b : ℕ) (o : Option ℕ) → Some a ≡ node_of ch.first.graph e → Some b ≡ node_of ch.middle.graph f → o ≡ node_of ch.last.graph g → keeps_nodes ch (Some a) (Some b) o ≡ keeps_entries ch e f g
  unfolding keeps_entries
  all_nodes a b o one two three =
      ap (keeps_nodes ch (Some a) (Some b)) three ∙ ap (λ (p : Option ℕ). keeps_nodes ch (Some a) p (node_of ch.last.graph g)) two
      ∙ ap (λ (p : Option ℕ). keeps_nodes ch p (node_of ch.middle.graph f) (node_of ch.last.graph g)) one

-- ---- what the tests say

none_are : (bs : List Broken) → are_none bs ≡ true → bs ≡ []
none_are [] e = refl
none_are (b ∷ bs) e = absurd cc

are_empty : (bs : List Broken) → bs ≡ [] → are_none bs ≡ true
are_empty bs e = rw e refl

false_not : (b : Bool) → b ≡ false → not b ≡ true
false_not b e = rw e refl

pub type_from : (ch : PlainChain) (e f g : ℕ) → keeps_views (view_at ch.first.graph e) (view_at ch.middle.graph f) (view_at ch.last.graph g) ≡ true → KeepsType ch e f g
type_from ch e f g h =
    let parts = and_parts (not (hides (view_at ch.first.graph e) (view_at ch.middle.graph f) (view_at ch.last.graph g))) (no_breaks (view_at ch.first.graph e) (view_at ch.last.graph g)) h in
    record { shown = not_is_true _ parts.0; keeps = none_are (breaks (view_at ch.first.graph e) (view_at ch.last.graph g)) parts.1 }

pub from_type : (ch : PlainChain) (e f g : ℕ) → KeepsType ch e f g → keeps_views (view_at ch.first.graph e) (view_at ch.middle.graph f) (view_at ch.last.graph g) ≡ true
from_type ch e f g k = and_from _ _ (false_not _ k.shown) (are_empty (breaks (view_at ch.first.graph e) (view_at ch.last.graph g)) k.keeps)

pub views_same : (v u w v' u' w' : PlainView) → v.declared_only ≡ v'.declared_only → u.declared_only ≡ u'.declared_only → w.declared_only ≡ w'.declared_only → breaks v w ≡ breaks v' w' → keeps_views v u w ≡ keeps_views v' u' w'
views_same v u w v' u' w' a b c d =
    let mk : Bool → Bool → Bool → List Broken → Bool = λ p q r bs. not (q && not p && not r) && are_none bs in
    ap (λ p. mk p u.declared_only w.declared_only (breaks v w)) a ∙ ap (λ q. mk v'.declared_only q w.declared_only (breaks v w)) b
    ∙ ap (λ r. mk v'.declared_only u'.declared_only r (breaks v w)) c ∙ ap (mk v'.declared_only u'.declared_only w'.declared_only) d

-- ---- all of a list

pub record Fails {X : Type 0} (p : X → Bool) (xs : List X) : Type 0 where
  pub item : X
  pub there : Contains xs item
  pub fails : p item ≡ false

no_and : (a b : Bool) → a ≡ true → (a && b) ≡ false → b ≡ false
no_and true b t e = e
no_and false b t e = absurd cc

pub one_fails : {X : Type 0} (p : X → Bool) (xs : List X) → list_all p xs ≡ false → Fails p xs
one_fails p [] e = absurd cc
one_fails p (x ∷ xs) e = elim (cases_Bool (p x)) [
  | inl here ↦
      let rest = one_fails p xs (no_and (p x) (list_all p xs) here e) in
      record { item = rest.item; there = (suc rest.there.0, omega (arith, rest.there.1), rest.there.2); fails = rest.fails }
  | inr other ↦ record { item = x; there = (0, omega arith, refl); fails = other }
]

pub all_by : {X : Type 0} (p : X → Bool) (xs : List X) (n : ℕ) → length xs ≤ n → ((k : ℕ) (d : X) → k < n → k < length xs → p (get_or xs k d) ≡ true) → list_all p xs ≡ true
all_by p [] n past holds = refl
all_by p (x ∷ xs) zero past holds = absurd (omega (arith, past))
all_by p (x ∷ xs) (suc n) past holds = and_from _ _ (holds 0 x (omega arith) (omega arith)) (all_by p xs n (omega (arith, past)) (λ k d below inside. holds (suc k) d (omega (arith, below)) (omega (arith, inside))))

pub not_all : {X : Type 0} (p : X → Bool) (xs : List X) (k : ℕ) (d : X) → k < length xs → p (get_or xs k d) ≡ false → list_all p xs ≡ false
not_all p [] k d inside fails = absurd (omega (arith, inside))
not_all p (x ∷ xs) zero d inside fails = rw fails refl
not_all p (x ∷ xs) (suc k) d inside fails = elim (cases_Bool (p x)) [
  | inl here ↦ rw here (not_all p xs k d (omega (arith, inside)) fails)
  | inr other ↦ rw other refl
]

-- ---- the least

pub least_next : (nodes : List PlainNode) (alike : List (ℕ × ℕ)) (lost : List ℕ) (n entry : ℕ) (found : Option ℕ) (r : Bool) → FindsLeast nodes alike lost n found → (r ≡ true) ↔ IsLostIn nodes alike lost n → entry ≡ (node_at nodes n).entry → FindsLeast nodes alike lost (n + 1) (next_least found entry r)
least_next nodes alike lost n entry None false finds iff is = λ i below there. elim (cases_order i n) [
  | inl same ↦ let bad : false ≡ true = iff.1 (subst (IsLostIn nodes alike lost) same there) in absurd cc
  | inr (inl less) ↦ finds i less there
  | inr (inr above) ↦ absurd (omega (arith, below, above))
]
least_next nodes alike lost n entry (Some at) false finds iff is = record {
  node = finds.node;
  inside = omega (arith, finds.inside);
  is_lost = finds.is_lost;
  entry = finds.entry;
  least = λ i below there. elim (cases_order i n) [
    | inl same ↦ let bad : false ≡ true = iff.1 (subst (IsLostIn nodes alike lost) same there) in absurd cc
    | inr (inl less) ↦ finds.least i less there
    | inr (inr above) ↦ absurd (omega (arith, below, above))
  ];
}
least_next nodes alike lost n entry None true finds iff is = record {
  node = n;
  inside = omega arith;
  is_lost = iff.0 refl;
  entry = is;
  least = λ i below there. elim (cases_order i n) [
    | inl same ↦ omega (arith, is, ap (λ (k : ℕ). (node_at nodes k).entry) same)
    | inr (inl less) ↦ absurd (finds i less there)
    | inr (inr above) ↦ absurd (omega (arith, below, above))
  ];
}
least_next nodes alike lost n entry (Some at) true finds iff is = elim (cases_order at entry) [
  | inl same ↦ record { node = n; inside = omega arith; is_lost = iff.0 refl; entry = omega (arith, is, same); least = lower at (omega (arith, same)) (omega (arith, same)) }
  | inr (inl less) ↦ record { node = finds.node; inside = omega (arith, finds.inside); is_lost = finds.is_lost; entry = omega (arith, finds.entry, less); least = lower at (omega (arith, less)) (omega (arith, less)) }
  | inr (inr above) ↦ record { node = n; inside = omega arith; is_lost = iff.0 refl; entry = omega (arith, is, above); least = lower entry (omega (arith, above)) (omega (arith, above)) }
] where
  lower : (m : ℕ) → m ≤ at → m ≤ entry → (i : ℕ) → i < n + 1 → IsLostIn nodes alike lost i → min at entry ≤ (node_at nodes i).entry
  lower m below_at below_entry i below there = elim (cases_order i n) [
    | inl same ↦ omega (arith, is, ap (λ (k : ℕ). (node_at nodes k).entry) same)
    | inr (inl less) ↦ omega (arith, finds.least i less there)
    | inr (inr above) ↦ absurd (omega (arith, below, above))
  ]

-- ---- what is lost, as the code finds it

pub views_read : (ch : PlainChain) (a b d : ℕ) (v u w : PlainView) (r : Bool) → r ≡ keeps_views v u w → v ≡ view_at ch.first.graph a → u ≡ view_at ch.middle.graph b → w ≡ view_at ch.last.graph d → r ≡ keeps_nodes ch (Some a) (Some b) (Some d)
views_read ch a b d v u w r is one two three =
    is ∙ ap (λ (x : PlainView). keeps_views x u w) one ∙ ap (λ (x : PlainView). keeps_views (view_at ch.first.graph a) x w) two ∙ ap (keeps_views (view_at ch.first.graph a) (view_at ch.middle.graph b)) three

pub unowned : (ch : PlainChain) (middles : List (ℕ × ℕ)) (line : PairLine) (alike : List (ℕ × ℕ)) (n : ℕ) → alike ≡ ch.one.alike_old → Some n ≡ line_of alike line.0 → true ≡ line_keeps ch middles line
unfolding line_keeps
unowned ch middles line alike n same is =
    let there : line_of ch.one.alike_old line.0 ≡ Some n = ap (λ (ls : List (ℕ × ℕ)). line_of ls line.0) (sym same) ∙ sym is in
    rw there refl

pub owned : (ch : PlainChain) (middles : List (ℕ × ℕ)) (line : PairLine) (alike news : List (ℕ × ℕ)) (seconds lines : List PairLine) (r : Bool) → alike ≡ ch.one.alike_old → None ≡ line_of alike line.0
    → news ≡ ch.other.alike_new → seconds ≡ ch.other.pairs → lines ≡ [] ++ through news seconds middles line.0 line.1 line.2 → r ≡ list_all (keeps_new ch line.0 line.1) lines → r ≡ line_keeps ch middles line
unfolding line_keeps
owned ch middles line alike news seconds lines r same is one two three four =
    let there : line_of ch.one.alike_old line.0 ≡ None = ap (λ (ls : List (ℕ × ℕ)). line_of ls line.0) (sym same) ∙ sym is in
    let all : lines ≡ through ch.other.alike_new ch.other.pairs middles line.0 line.1 line.2 =
    three ∙ ap (λ (ls : List (ℕ × ℕ)). through ls seconds middles line.0 line.1 line.2) one ∙ ap (λ (ls : List PairLine). through ch.other.alike_new ls middles line.0 line.1 line.2) two in
    rw there (four ∙ ap (list_all (keeps_new ch line.0 line.1)) all)

pub owns_lost : (nodes : List PlainNode) (alike : List (ℕ × ℕ)) (lost : List ℕ) (n entry : ℕ) (r : Bool) → (r ≡ true) ↔ Contains lost (rep alike entry) → entry ≡ (node_at nodes n).entry → (r ≡ true) ↔ IsLostIn nodes alike lost n
owns_lost nodes alike lost n entry r iff is = (
  λ e. subst (λ (m : ℕ). Contains lost (rep alike m)) is (iff.0 e),
  λ h. iff.1 (subst (λ (m : ℕ). Contains lost (rep alike m)) (sym is) h),
)

-- entries in another order are the same entries
pub finds_moved : (nodes : List PlainNode) (alike : List (ℕ × ℕ)) (xs ys : List ℕ) (count : ℕ) (found : Option ℕ) → IsPermutation xs ys → FindsLeast nodes alike ys count found → FindsLeast nodes alike xs count found
finds_moved nodes alike xs ys count None moved finds = λ i below there. finds i below (Contains-permutation xs ys (class_in nodes alike i) moved there)
finds_moved nodes alike xs ys count (Some at) moved finds = record {
  node = finds.node;
  inside = finds.inside;
  is_lost = Contains-permutation ys xs (class_in nodes alike finds.node) (IsPermutation-sym xs ys moved) finds.is_lost;
  entry = finds.entry;
  least = λ i below there. finds.least i below (Contains-permutation xs ys (class_in nodes alike i) moved there);
}

pub finds_none : (nodes : List PlainNode) (alike : List (ℕ × ℕ)) (xs : List ℕ) (count : ℕ) → xs ≡ [] → FindsLeast nodes alike xs count None
finds_none nodes alike xs count none = λ i below there. let h = subst (λ (l : List ℕ). Contains l (class_in nodes alike i)) none there in omega (arith, h.1)

-- ---- a binary search among numbers

pub index_rises : (xs : List ℕ) (x : ℕ) → IsSorted nat_cmp xs → IsNonDecreasingBy (λ y. ordering_index (nat_cmp y x)) xs
index_rises xs x sorted i j d le inside = index_le (get_or xs i d) (get_or xs j d) x (IsNonDecreasingBy-from_sort (λ (y : ℕ). y) xs sorted i j d le inside)

pub not_among : (xs : List ℕ) (x i : ℕ) → AllWithin (λ (y : ℕ). nat_cmp y x ≡ Less) xs 0 i → AllWithin (λ (y : ℕ). nat_cmp y x ≡ Greater) xs i (length xs) → Contains xs x → ⊥
not_among xs x i below above (k, inside, is) =
    let equal : nat_cmp (get_or xs k x) x ≡ Equal = ap (λ (y : ℕ). nat_cmp y x) is ∙ sym (nat_cmp_is x x Equal refl) in
    elim (cases_lt k i) [
      | inl less ↦ let bad : Less ≡ Equal = sym (below k x (omega arith) less) ∙ equal in cc
      | inr past ↦ let bad : Greater ≡ Equal = sym (above k x past inside) ∙ equal in cc
    ]

pub least_read : (ch : PlainChain) (middles : List (ℕ × ℕ)) (nodes : List PlainNode) (alike : List (ℕ × ℕ)) (pairs : List PairLine) (raw sorted slice : List ℕ) (found : Option ℕ) → nodes ≡ ch.first.graph → alike ≡ ch.one.alike_old → pairs ≡ ch.one.pairs
    → raw ≡ lost_entries ch middles pairs → IsPermutation raw sorted → slice ≡ sorted → FindsLeast nodes alike slice (length nodes) found → FindsLeastEntry ch middles found
least_read ch middles nodes alike pairs raw sorted slice found is_nodes is_alike is_pairs is_raw moved is_slice finds =
    let here : FindsLeast nodes alike sorted (length nodes) found = subst (λ (l : List ℕ). FindsLeast nodes alike l (length nodes) found) is_slice finds in
    let raws : FindsLeast nodes alike raw (length nodes) found = finds_moved nodes alike raw sorted (length nodes) found moved here in
    let lost : FindsLeast nodes alike (lost_entries ch middles ch.one.pairs) (length nodes) found = subst (λ (l : List ℕ). FindsLeast nodes alike l (length nodes) found) (is_raw ∙ ap (lost_entries ch middles) is_pairs) raws in
    let one : FindsLeast nodes ch.one.alike_old (lost_entries ch middles ch.one.pairs) (length nodes) found = subst (λ (a : List (ℕ × ℕ)). FindsLeast nodes a (lost_entries ch middles ch.one.pairs) (length nodes) found) is_alike lost in
    subst (λ (ns : List PlainNode). FindsLeast ns ch.one.alike_old (lost_entries ch middles ch.one.pairs) (length ns) found) is_nodes one
