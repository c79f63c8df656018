-- Parts that are alike, and the place of one of them by its number.
use Rattle.std.proofs.Common.{◌≡◌, ◌≤◌, ◌<◌, ◌+◌, ℕ, zero, suc, ◌-◌, Bool, true, false, cond, List, [], ◌∷◌, ◌++◌, Option, Some, None, length, take, get_or, count_by, map, refl, sym, ap, ◌∙◌, arith}
use Rattle.std.specs.Prelude.{◌==◌, ◌&&◌}
use Rattle.std.specs.Str.{bytes_eq}
use Rattle.std.specs.Option.{option_map, IfSome}
use Rattle.std.proofs.lemmas.List.{take_all, get_or-map, length-map, take-map}
use Rattle.std.proofs.lemmas.List.Sums.{sum_by-cons, count_by_more_yes, count_by_more_no}
use Rattle.std.proofs.lemmas.Bool.{false≢true, and_parts}
use Rattle.std.proofs.lemmas.Bool.Decides.{nat_tests, same_from_decides}
use Rattle.std.proofs.lemmas.Slice.Eq.{bytes_eq-Decides}
use Rattle.abi_types.specs.declared.sort.Sort.{Sort}
use Rattle.abi_types.specs.declared.sort.Sort.TheVariants as sort
use Rattle.abi_types.specs.Types.{PlainPart, Member, Enumerator, Target, Element, Outcome, Param}
use Rattle.abi_types.specs.Graphs.{no_part}
use Rattle.abi_types.specs.Parts.{like, place_of, like_before}
use Rattle.abi_types.specs.Sorts.{sort_of, name_of, same_sort}

-- ---- alike

-- alike is of one sort and one name
pub like_is : (q x : PlainPart) → like q x ≡ (same_sort (sort_of q) (sort_of x) && bytes_eq (name_of q) (name_of x))
like_is (Member m _ _ _) (Member n _ _ _) = refl
like_is (Enumerator m _) (Enumerator n _) = refl
like_is (Target _) (Target _) = refl
like_is (Element _) (Element _) = refl
like_is (Outcome _) (Outcome _) = refl
like_is (Param _) (Param _) = refl
like_is _ _ = refl

sort_from_same : (s t : Sort) → same_sort s t ≡ true → s ≡ t
sort_from_same sort.Member sort.Member e = refl
sort_from_same sort.Enumerator sort.Enumerator e = refl
sort_from_same sort.Target sort.Target e = refl
sort_from_same sort.Element sort.Element e = refl
sort_from_same sort.Outcome sort.Outcome e = refl
sort_from_same sort.Param sort.Param e = refl
sort_from_same _ _ e = absurd (false≢true e)

same_sort-sym : (s t : Sort) → same_sort s t ≡ same_sort t s
same_sort-sym sort.Member sort.Member = refl
same_sort-sym sort.Enumerator sort.Enumerator = refl
same_sort-sym sort.Target sort.Target = refl
same_sort-sym sort.Element sort.Element = refl
same_sort-sym sort.Outcome sort.Outcome = refl
same_sort-sym sort.Param sort.Param = refl
same_sort-sym _ _ = refl

bytes_eq-sym : (m n : List ℕ) → bytes_eq m n ≡ bytes_eq n m
bytes_eq-sym m n =
    let d = bytes_eq-Decides n m in
    same_from_decides (bytes_eq m n) (bytes_eq n m) (bytes_eq-Decides m n) (λ e. sym (d.0 e), λ e. d.1 (sym e))

pub like-sym : (q x : PlainPart) → like q x ≡ like x q
like-sym q x = like_is q x ∙ ap (λ (b : Bool). b && bytes_eq (name_of q) (name_of x)) (same_sort-sym (sort_of q) (sort_of x)) ∙ ap (λ (b : Bool). same_sort (sort_of x) (sort_of q) && b) (bytes_eq-sym (name_of q) (name_of x)) ∙ sym (like_is x q)

pub like_sort : (q x : PlainPart) → like q x ≡ true → sort_of q ≡ sort_of x
like_sort q x e = sort_from_same (sort_of q) (sort_of x) (and_parts (same_sort (sort_of q) (sort_of x)) (bytes_eq (name_of q) (name_of x)) (sym (like_is q x) ∙ e)).0

pub like_name : (q x : PlainPart) → like q x ≡ true → name_of q ≡ name_of x
like_name q x e = (bytes_eq-Decides (name_of q) (name_of x)).0 (and_parts (same_sort (sort_of q) (sort_of x)) (bytes_eq (name_of q) (name_of x)) (sym (like_is q x) ∙ e)).1

-- what is like one of two that are alike is like the other
pub like-same : (q x y : PlainPart) → like q x ≡ true → like q y ≡ like x y
like-same q x y e =
    like_is q y ∙ ap (λ (s : Sort). same_sort s (sort_of y) && bytes_eq (name_of q) (name_of y)) (like_sort q x e) ∙ ap (λ (n : List ℕ). same_sort (sort_of x) (sort_of y) && bytes_eq n (name_of y)) (like_name q x e) ∙ sym (like_is x y)

-- ---- counts

pub count_by-agree : {X : Type 0} (p q : X → Bool) (xs : List X) → ((x : X) → p x ≡ q x) → count_by p xs ≡ count_by q xs
count_by-agree p q [] h = refl
count_by-agree p q (x ∷ xs) h =
    sum_by-cons (λ y. cond (p y) 1 0) x xs ∙ ap (λ (b : Bool). cond b 1 0 + count_by p xs) (h x) ∙ ap (λ (n : ℕ). cond (q x) 1 0 + n) (count_by-agree p q xs h) ∙ sym (sum_by-cons (λ y. cond (q y) 1 0) x xs)

-- ---- the place of the one with a number

-- as many that pass before it as are asked for
pub place_of-at : {X : Type 0} (p : X → Bool) (k : ℕ) (xs : List X) (i : ℕ) (d : X) → i < length xs → p (get_or xs i d) ≡ true → count_by p (take i xs) ≡ k → place_of p k xs ≡ Some i
unfolding place_of
place_of-at p k [] i d h passes e = grind arith
place_of-at p k (x ∷ xs) zero d h passes e = grind (arith, nat_tests)
place_of-at p k (x ∷ xs) (suc i) d h passes e =
    let c = sum_by-cons (λ y. cond (p y) 1 0) x (take i xs) in
    grind (arith, nat_tests, place_of-at p k xs i d, place_of-at p (count_by p (take i xs)) xs i d)

-- no more pass than are asked for
pub place_of-none : {X : Type 0} (p : X → Bool) (k : ℕ) (xs : List X) → count_by p xs ≤ k → place_of p k xs ≡ None
unfolding place_of
place_of-none p k [] h = refl
place_of-none p k (x ∷ xs) h =
    let c = sum_by-cons (λ y. cond (p y) 1 0) x xs in
    grind (arith, nat_tests, place_of-none p k xs, place_of-none p (k - 1) xs)

-- it is a place of the list
pub place_of-inside : {X : Type 0} (p : X → Bool) (k : ℕ) (xs : List X) (i : ℕ) → place_of p k xs ≡ Some i → i < length xs
unfolding place_of
place_of-inside p k [] i e = absurd cc
place_of-inside p k (x ∷ xs) i e = grind (arith, nat_tests, place_of-inside p k xs (i - 1), place_of-inside p (k - 1) xs (i - 1))

-- the item there passes
pub place_of-passes : {X : Type 0} (p : X → Bool) (k : ℕ) (xs : List X) (i : ℕ) (d : X) → place_of p k xs ≡ Some i → p (get_or xs i d) ≡ true
unfolding place_of
place_of-passes p k [] i d e = absurd cc
place_of-passes p k (x ∷ xs) zero d e = grind (arith, nat_tests)
place_of-passes p k (x ∷ xs) (suc i) d e = grind (arith, nat_tests, place_of-passes p k xs i d, place_of-passes p (k - 1) xs i d)

-- and as many pass before it as are asked for
pub place_of-counts : {X : Type 0} (p : X → Bool) (k : ℕ) (xs : List X) (i : ℕ) → place_of p k xs ≡ Some i → count_by p (take i xs) ≡ k
unfolding place_of
place_of-counts p k [] i e = absurd cc
place_of-counts p k (x ∷ xs) zero e = grind (arith, nat_tests)
place_of-counts p k (x ∷ xs) (suc i) e =
    let c = sum_by-cons (λ y. cond (p y) 1 0) x (take i xs) in
    grind (arith, nat_tests, place_of-counts p k xs i, place_of-counts p (k - 1) xs i)

one_on : (b : Bool) (n : ℕ) (o : Option ℕ) → option_map suc (cond b (Some n) o) ≡ cond b (Some (suc n)) (option_map suc o)
one_on true n o = refl
one_on false n o = refl

-- one more item
pub place_of-push : {X : Type 0} (p : X → Bool) (k : ℕ) (xs : List X) (x : X) → place_of p k (xs ++ x ∷ []) ≡ cond (p x && count_by p xs == k) (Some (length xs)) (place_of p k xs)
unfolding place_of
place_of-push p k [] x = grind (arith, nat_tests)
place_of-push p k (y ∷ ys) x =
    let c = sum_by-cons (λ z. cond (p z) 1 0) y ys in
    let e = place_of-push p k ys x in
    let f = place_of-push p (k - 1) ys x in
    grind (arith, nat_tests, one_on)

-- ---- a loop over items of the code, which are seen through a function

module _ {X Y : Type 0} (p : X → Bool) (f : Y → X) (ys : List Y) where
  mapped_at : (i : ℕ) (y : Y) → i < length ys → y ≡ get_or ys i y → get_or (map f ys) i (f y) ≡ f y
  mapped_at i y inside is = get_or-map f ys i y (f y) inside ∙ ap f (sym is)

  pub counted_one : (i : ℕ) (y : Y) (r : Bool) → i < length ys → y ≡ get_or ys i y → r ≡ p (f y) → r ≡ true → count_by p (take (i + 1) (map f ys)) ≡ count_by p (take i (map f ys)) + 1
  counted_one i y r inside is says passes = count_by_more_yes p (map f ys) i (f y) (rw (length-map ys f) inside) (rw (mapped_at i y inside is) (sym says ∙ passes))

  pub counted_none : (i : ℕ) (y : Y) (r : Bool) → i < length ys → y ≡ get_or ys i y → r ≡ p (f y) → r ≡ false → count_by p (take (i + 1) (map f ys)) ≡ count_by p (take i (map f ys))
  counted_none i y r inside is says fails = count_by_more_no p (map f ys) i (f y) (rw (length-map ys f) inside) (rw (mapped_at i y inside is) (sym says ∙ fails))

  pub found_at : (k i : ℕ) (y : Y) (r : Bool) → i < length ys → y ≡ get_or ys i y → r ≡ p (f y) → r ≡ true → count_by p (take i (map f ys)) ≡ k → Some i ≡ place_of p k (map f ys)
  found_at k i y r inside is says passes e = sym (place_of-at p k (map f ys) i (f y) (rw (length-map ys f) inside) (rw (mapped_at i y inside is) (sym says ∙ passes)) e)

  pub none_found : (k i : ℕ) → length ys ≤ i → count_by p (take i (map f ys)) ≤ k → None ≡ place_of p k (map f ys)
  none_found k i past few = sym (place_of-none p k (map f ys) (rw (take_all i (map f ys) (rw (length-map ys f) past)) at few))

pub place_of-within : {X : Type 0} (p : X → Bool) (k : ℕ) (xs : List X) (r : Option ℕ) → r ≡ place_of p k xs → IfSome r (λ i. i < length xs)
place_of-within p k xs None e = tt
place_of-within p k xs (Some i) e = place_of-inside p k xs i (sym e)

-- what a count among the items before a position gives
pub like_before_read : {Y : Type 0} (f : Y → PlainPart) (items : List Y) (parts : List PlainPart) (i : ℕ) (y : Y) (n : ℕ) → map f items ≡ parts → i < length parts → y ≡ get_or items i y
    → n ≡ count_by (like (f y)) (map f (take i items)) → n ≡ like_before parts (get_or parts i no_part) i
unfolding like_before
like_before_read f items parts i y n seen inside is counted =
    let within : i < length items = omega (arith, ap length seen, length-map items f) in
    let here : get_or parts i no_part ≡ f y = ap (λ (ps : List PlainPart). get_or ps i no_part) (sym seen) ∙ get_or-map f items i y no_part within ∙ ap f (sym is) in
    counted ∙ ap (count_by (like (f y))) (sym (take-map f i items) ∙ ap (take i) seen) ∙ ap (λ (x : PlainPart). count_by (like x) (take i parts)) (sym here)
