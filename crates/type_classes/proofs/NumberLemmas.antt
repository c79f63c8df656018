-- Shapes that are numbered one after the other.
use Rattle.std.proofs.Common.{◌≡◌, ◌+◌, ◌<◌, ℕ, Bool, true, cond, ◌⊎◌, inl, inr, List, [], ◌∷◌, ◌++◌, length, get_or, Some, None, refl, sym, ◌∙◌, ap, arith, subst}
use Rattle.std.specs.Prelude.{◌↔◌, Contains, IsPermutation}
use Rattle.std.specs.Global.{Vec}
use Rattle.std.specs.BTreeMap.{get_by}
use Rattle.std.specs.declared.cmp.Ordering.{Ordering}
use Rattle.std.specs.declared.cmp.Ordering.TheVariants.{Less, Equal, Greater}
use Rattle.std.specs.Ordering.{is_eq, nat_cmp, ordering_then}
use Rattle.std.specs.Map.{lookup}
use Rattle.std.specs.Cmp.Lexicographic.{slice_cmp}
use Rattle.std.proofs.lemmas.Bool.{cases_lt, cases_Bool}
use Rattle.std.proofs.lemmas.Cmp.{nat_list_cmp_total, tied_itself}
use Rattle.std.proofs.lemmas.List.{get_or_default}
use Rattle.std.proofs.lemmas.List.Elements.{Contains-push, Contains-push_cases, Contains-append_left}
use Rattle.std.proofs.lemmas.List.Sorted.{Contains-permutation, IsPermutation-sym}
use Rattle.std.proofs.lemmas.Option.{same_Some, none-some}
use Rattle.abi_base.proofs.lemmas.Bools.{same_tests}
use Rattle.abi_base.proofs.lemmas.Orders.{bytes_equal, then_equal}
use Rattle.abi_types.specs.Types.{PlainNode, PlainLabel, PlainView}
use Rattle.abi_types.specs.Graphs.{node_at, view_at}
use Rattle.abi_types.specs.ClassLooks.{Look, shape_of}
use Rattle.type_classes.specs.declared.spelling.Spelling.{Spelling}
use Rattle.type_classes.specs.Numbered.{Numbers, same_spelling, spelling_cmp, number_in, AreOneSpelling, IsSpellingOf, IsNumbered}
use Rattle.type_classes.specs.Splits.{number_at, stands_beside, HaveSameKeys}
use Rattle.type_classes.proofs.SpellingLemmas.{own_look, AreTold, AreSpelledAlike, same_from_spelling, spelling_from_same}
use Rattle.type_classes.proofs.RefineLemmas.{beside-contains, contains-beside}

-- ---- equal spellings

equal_from_test : (o : Ordering) → is_eq o ≡ true → o ≡ Equal
equal_from_test Less e = cc
equal_from_test Equal e = refl
equal_from_test Greater e = cc

one_from_test : (s t : Spelling) → same_spelling s t ≡ true → AreOneSpelling s t
one_from_test s t e =
    let both = then_equal (slice_cmp nat_cmp s.numbers.items t.numbers.items) (slice_cmp nat_cmp s.letters.items t.letters.items) (equal_from_test (spelling_cmp s t) e) in
    record { numbers = bytes_equal s.numbers.items t.numbers.items both.0; letters = bytes_equal s.letters.items t.letters.items both.1 }

pub one-sym : (s t : Spelling) → AreOneSpelling s t → AreOneSpelling t s
one-sym s t e = record { numbers = sym e.numbers; letters = sym e.letters }

compares_to : (numbers letters : List ℕ) → Spelling → Ordering
compares_to numbers letters q = ordering_then (slice_cmp nat_cmp numbers q.numbers.items) (slice_cmp nat_cmp letters q.letters.items)

-- what stands under one spelling stands under the other
pub number_in-same : (numbers : Numbers) (s t : Spelling) → AreOneSpelling s t → number_in numbers s ≡ number_in numbers t
unfolding compares_to
number_in-same numbers s t e =
    ap (λ (xs : List ℕ). get_by (compares_to xs s.letters.items) numbers) e.numbers
    ∙ ap (λ (xs : List ℕ). get_by (compares_to t.numbers.items xs) numbers) e.letters

tied : (xs ys : List ℕ) → xs ≡ ys → slice_cmp nat_cmp xs ys ≡ Equal
tied xs ys e = ap (slice_cmp nat_cmp xs) (sym e) ∙ tied_itself nat_list_cmp_total xs

test_from_one : (s t : Spelling) → AreOneSpelling s t → same_spelling s t ≡ true
test_from_one s t e = rw (tied s.numbers.items t.numbers.items e.numbers, tied s.letters.items t.letters.items e.letters) refl

-- ---- one shape more

pub found_from : (old new : Numbers) (copied spelling : Spelling) (fresh : ℕ) → AreOneSpelling copied spelling → ((q : Spelling) → number_in new q ≡ cond (same_spelling copied q) (Some fresh) (number_in old q)) → number_in new spelling ≡ Some fresh
found_from old new copied spelling fresh is adds = adds spelling ∙ ap (λ (b : Bool). cond b (Some fresh) (number_in old spelling)) (test_from_one copied spelling is)

-- what stands under spellings after an insert of a new one
pub kept_from : (old new : Numbers) (copied spelling : Spelling) (fresh : ℕ) → AreOneSpelling copied spelling → None ≡ number_in old spelling → ((q : Spelling) → number_in new q ≡ cond (same_spelling copied q) (Some fresh) (number_in old q))
    → (key : Spelling) (n : ℕ) → number_in old key ≡ Some n → number_in new key ≡ Some n
kept_from old new copied spelling fresh is none adds key n there = elim (cases_Bool (same_spelling copied key)) [
  | inl same ↦
      let found : number_in old spelling ≡ Some n = number_in-same old spelling copied (one-sym copied spelling is) ∙ number_in-same old copied key (one_from_test copied key same) ∙ there in
      absurd (none-some n (none ∙ found))
  | inr other ↦ adds key ∙ ap (λ (b : Bool). cond b (Some fresh) (number_in old key)) other ∙ there
]

pub fresh_from : (old new : Numbers) (copied spelling : Spelling) (fresh : ℕ) → AreOneSpelling copied spelling → ((q : Spelling) → number_in new q ≡ cond (same_spelling copied q) (Some fresh) (number_in old q))
    → (key : Spelling) (n : ℕ) → number_in new key ≡ Some n → (number_in old key ≡ Some n) ⊎ (AreOneSpelling key spelling × (n ≡ fresh))
fresh_from old new copied spelling fresh is adds key n there = elim (cases_Bool (same_spelling copied key)) [
  | inl same ↦
      let e = one_from_test copied key same in
      let f : Some fresh ≡ Some n = sym (adds key ∙ ap (λ (b : Bool). cond b (Some fresh) (number_in old key)) same) ∙ there in
      inr (record { numbers = sym e.numbers ∙ is.numbers; letters = sym e.letters ∙ is.letters }, sym (same_Some fresh n f))
  | inr other ↦ inl (sym (adds key ∙ ap (λ (b : Bool). cond b (Some fresh) (number_in old key)) other) ∙ there)
]

-- ---- all nodes

-- the spelling is that of a node
abbrev pub IsOf : List PlainNode → Spelling → ℕ → Type 0
IsOf nodes s x = IsSpellingOf s (own_look (node_at nodes x))

-- what is kept of the nodes below a bound
pub record IsNumbering (nodes : List PlainNode) (m : ℕ) (numbers : Numbers) (pairs : List (ℕ × ℕ)) : Type 0 where
  pub of_nodes : (k x : ℕ) → Contains pairs (k, x) → (x < m) × ((s : Spelling) × IsOf nodes s x × (number_in numbers s ≡ Some k))
  pub all_nodes : (x : ℕ) → x < m → (k : ℕ) × Contains pairs (k, x)
  pub back : (s : Spelling) (n : ℕ) → number_in numbers s ≡ Some n → (n < m) × IsOf nodes s n

pub IsNumbering-start : (nodes : List PlainNode) (numbers : Numbers) (pairs : List (ℕ × ℕ)) → numbers.entries ≡ [] → pairs ≡ [] → IsNumbering nodes 0 numbers pairs
IsNumbering-start nodes numbers pairs none empty = record {
  of_nodes = λ k x h. let (i, below, e) = subst (λ (ps : List (ℕ × ℕ)). Contains ps (k, x)) empty h in absurd (omega arith);
  all_nodes = λ x lt. absurd (omega arith);
  back = λ s n e.
      let nothing : number_in numbers s ≡ None = ap (lookup (same_spelling s)) none in
      absurd (none-some n (sym nothing ∙ e));
}

of_node : (nodes : List PlainNode) (m : ℕ) (s : Spelling) (labels : List PlainLabel) (view : PlainView) → IsSpellingOf s (record { labels = labels; view = view }) → labels ≡ (node_at nodes m).labels → view ≡ view_at nodes m → IsOf nodes s m
of_node nodes m s labels view spells is_labels is_view =
    let made : List PlainLabel → PlainView → Look = λ ls v. record { labels = ls; view = v } in
    subst (λ (v : PlainView). IsSpellingOf s (made (node_at nodes m).labels v)) is_view (subst (λ (ls : List PlainLabel). IsSpellingOf s (made ls view)) is_labels spells)

pub IsNumbering-more : (nodes : List PlainNode) (m k : ℕ) (old new : Numbers) (pairs grown : List (ℕ × ℕ)) (spelling : Spelling) (labels : List PlainLabel) (view : PlainView) → IsNumbering nodes m old pairs
    → IsSpellingOf spelling (record { labels = labels; view = view }) → labels ≡ (node_at nodes m).labels → view ≡ view_at nodes m
    → number_in new spelling ≡ Some k → ((key : Spelling) (n : ℕ) → number_in old key ≡ Some n → number_in new key ≡ Some n)
    → ((key : Spelling) (n : ℕ) → number_in new key ≡ Some n → (number_in old key ≡ Some n) ⊎ (AreOneSpelling key spelling × (n ≡ m)))
    → grown ≡ pairs ++ (k, m) ∷ [] → IsNumbering nodes (m + 1) new grown
IsNumbering-more nodes m k old new pairs grown spelling labels view going spells is_labels is_view found kept fresh push =
    let here : IsOf nodes spelling m = of_node nodes m spelling labels view spells is_labels is_view in
    record {
      of_nodes = λ j x h. elim (Contains-push_cases pairs (k, m) (j, x) (subst (λ (ps : List (ℕ × ℕ)). Contains ps (j, x)) push h)) [
        | inl before ↦
            let (lt, (s, is, there)) = going.of_nodes j x before in
            (omega arith, (s, is, kept s j there))
        | inr same ↦
            let e0 : k ≡ j = ap (λ (p : ℕ × ℕ). p.0) same in
            let e1 : m ≡ x = ap (λ (p : ℕ × ℕ). p.1) same in
            (omega arith, (spelling, subst (IsOf nodes spelling) e1 here, found ∙ ap Some e0))
      ];
      all_nodes = λ x lt. elim (cases_lt x m) [
        | inl less ↦ let (j, there) = going.all_nodes x less in (j, subst (λ (ps : List (ℕ × ℕ)). Contains ps (j, x)) (sym push) (Contains-append_left pairs ((k, m) ∷ []) (j, x) there))
        | inr ge ↦
            let e : m ≡ x = omega arith in
            (k, subst (λ (q : ℕ). Contains grown (k, q)) e (subst (λ (ps : List (ℕ × ℕ)). Contains ps (k, m)) (sym push) (Contains-push pairs (k, m))))
      ];
      back = λ s n e. elim (fresh s n e) [
        | inl older ↦ let (lt, is) = going.back s n older in (omega arith, is)
        | inr (is, at) ↦ (omega arith, subst (IsOf nodes s) (sym at) (record { numbers = is.numbers ∙ here.numbers; letters = is.letters ∙ here.letters }))
      ];
    }

alike_from_one : (nodes : List PlainNode) (s : Spelling) (x y : ℕ) → IsOf nodes s x → IsOf nodes s y → AreSpelledAlike (node_at nodes x) (node_at nodes y)
alike_from_one nodes s x y of_x of_y = record { numbers = sym of_x.numbers ∙ of_y.numbers; letters = sym of_x.letters ∙ of_y.letters }

one_from_alike : (nodes : List PlainNode) (s t : Spelling) (x y : ℕ) → IsOf nodes s x → IsOf nodes t y → AreSpelledAlike (node_at nodes x) (node_at nodes y) → AreOneSpelling s t
one_from_alike nodes s t x y of_x of_y e = record { numbers = of_x.numbers ∙ e.numbers ∙ sym of_y.numbers; letters = of_x.letters ∙ e.letters ∙ sym of_y.letters }

pub IsNumbering-all : AreTold → (nodes : List PlainNode) (m : ℕ) (numbers : Numbers) (pairs : Vec (ℕ × ℕ)) → m ≡ length nodes → IsNumbering nodes m numbers pairs.items → IsNumbered nodes pairs
IsNumbering-all told nodes m numbers pairs all going = record {
  of_nodes = λ k x h. let (lt, w) = going.of_nodes k x h in omega arith;
  all_nodes = λ x lt. going.all_nodes x (omega arith);
  shapes = λ j k x y at_x at_y.
      let (x_in, (s, s_is, s_at)) = going.of_nodes j x at_x in
      let (y_in, (t, t_is, t_at)) = going.of_nodes k y at_y in (
        λ e.
            let (lt, one) = going.back s j s_at in
            let (lt', two) = going.back t k t_at in
            let first = same_from_spelling told (node_at nodes x) (node_at nodes j) (alike_from_one nodes s x j s_is one) in
            let second = same_from_spelling told (node_at nodes k) (node_at nodes y) (alike_from_one nodes t k y two t_is) in
            first ∙ ap (λ (q : ℕ). shape_of (node_at nodes q)) e ∙ second,
        λ e.
            let same = one_from_alike nodes s t x y s_is t_is (spelling_from_same (node_at nodes x) (node_at nodes y) e) in
            same_Some j k (sym s_at ∙ number_in-same numbers s t same ∙ t_at),
      );
}

-- ---- in order of the numbers

pub sorted_inside : (nodes : List PlainNode) (pairs : Vec (ℕ × ℕ)) (sorted : List (ℕ × ℕ)) → IsNumbered nodes pairs → IsPermutation pairs.items sorted → (i : ℕ) → i < length sorted → number_at sorted i < length nodes
sorted_inside nodes pairs sorted numbered moved i inside =
    let e : ℕ × ℕ = get_or sorted i (0, 0) in
    let here : Contains sorted (e.0, e.1) = (i, inside, get_or_default sorted i e (0, 0) inside) in
    numbered.of_nodes e.0 e.1 (Contains-permutation sorted pairs.items (e.0, e.1) (IsPermutation-sym pairs.items sorted moved) here)

pub sorted_shapes : (nodes : List PlainNode) (pairs : Vec (ℕ × ℕ)) (sorted : List (ℕ × ℕ)) → IsNumbered nodes pairs → IsPermutation pairs.items sorted → (x y : ℕ) → x < length nodes → y < length nodes
    → HaveSameKeys sorted x y ↔ (shape_of (node_at nodes x) ≡ shape_of (node_at nodes y))
sorted_shapes nodes pairs sorted numbered moved x y x_in y_in =
    let back = IsPermutation-sym pairs.items sorted moved in
    let (j, at_x) = numbered.all_nodes x x_in in
    let (k, at_y) = numbered.all_nodes y y_in in (
      λ keys.
          let beside : stands_beside sorted j y ≡ true = sym (keys j) ∙ contains-beside sorted j x (Contains-permutation pairs.items sorted (j, x) moved at_x) in
          let there = Contains-permutation sorted pairs.items (j, y) back (beside-contains sorted j y beside) in
          (numbered.shapes j j x y at_x there).0 refl,
      λ shapes key. same_tests (stands_beside sorted key x) (stands_beside sorted key y)
          (λ e.
          let there = Contains-permutation sorted pairs.items (key, x) back (beside-contains sorted key x e) in
          let same : key ≡ k = (numbered.shapes key k x y there at_y).1 shapes in
          contains-beside sorted key y (Contains-permutation pairs.items sorted (key, y) moved (subst (λ (q : ℕ). Contains pairs.items (q, y)) (sym same) at_y)))
          (λ e.
          let there = Contains-permutation sorted pairs.items (key, y) back (beside-contains sorted key y e) in
          let same : j ≡ key = (numbered.shapes j key x y at_x there).1 shapes in
          contains-beside sorted key x (Contains-permutation pairs.items sorted (key, x) moved (subst (λ (q : ℕ). Contains pairs.items (q, x)) same at_x))),
    )
