-- Laws of lists by their places: joined lists, images, lists in order, and the first items of a list.
use Rattle.std.proofs.Common.{◌≡◌, ◌<◌, ℕ, zero, suc, ◌+◌, Bool, true, false, cond, List, [], ◌∷◌, ◌++◌, map, length, slice_get, get_or, Option, Some, None, refl, sym, ◌∙◌, ap, subst, inl, inr, ◌⊎◌, arith, append-nil, append_assoc, count_by, take, drop}
use Rattle.std.specs.Prelude.{find, All, ◌||◌, position}
use Rattle.std.specs.List.{list_any, filter_map, Contains, flat_map, filter, list_all}
use Rattle.std.specs.Option.{option_map}
use Rattle.std.proofs.lemmas.Bool.{false≢true, or_cases, cases_Bool, and_from, and_parts, lt-ltb, le-ltb}
use Rattle.std.proofs.lemmas.List.Elements.{All-nil, All-cons, All-head, All-tail}
use Rattle.std.proofs.lemmas.Map.Keys.{any_passes_from_place}
use Rattle.std.proofs.lemmas.Option.{slice_get_within, slice_get-get_or, slice_get-map, get_or_from_slice_get, none-some, same_Some}
use Rattle.std.proofs.lemmas.List.Sums.{sum_by-cons, position_or_len_is}
use Rattle.std.proofs.lemmas.List.{take_more, length-map, get_or-map, drop_more}
use Rattle.abi_base.specs.Lists.{Ascends, with_first, firsts_after, HasSame, AreFirsts}
use Rattle.abi_base.proofs.lemmas.Cases.{bool_cases}

-- ---- what stands at a place

-- inside a list it does not matter what would stand past its end
pub same_inside : {X : Type 0} (xs : List X) (k : ℕ) (d d' : X) → k < length xs → get_or xs k d ≡ get_or xs k d'
same_inside [] k d d' lt = absurd (omega arith)
same_inside (x ∷ xs) zero d d' lt = refl
same_inside (x ∷ xs) (suc k) d d' lt = same_inside xs k d d' (omega arith)

pub contains_at : {X : Type 0} (xs : List X) (k : ℕ) (x : X) → slice_get xs k ≡ Some x → Contains xs x
contains_at xs k x at = (k, slice_get_within xs k x at, get_or_from_slice_get xs k x x at)

pub at_contains : {X : Type 0} (xs : List X) (x : X) → Contains xs x → (k : ℕ) × (slice_get xs k ≡ Some x)
at_contains xs x (k, lt, is) = (k, slice_get-get_or xs k x lt ∙ ap Some is)

pub slice_get-append : {X : Type 0} (xs ys : List X) (n : ℕ) (x : X) → slice_get xs n ≡ Some x → slice_get (xs ++ ys) n ≡ Some x
slice_get-append [] ys n x e = cc
slice_get-append (y ∷ xs) ys zero x e = e
slice_get-append (y ∷ xs) ys (suc n) x e = slice_get-append xs ys n x e

pub slice_get_last : {X : Type 0} (xs : List X) (x : X) → slice_get (xs ++ x ∷ []) (length xs) ≡ Some x
slice_get_last [] x = refl
slice_get_last (y ∷ xs) x = slice_get_last xs x

-- what stands in a list with one more stands in the list, or is the last
pub slice_get_push_cases : {X : Type 0} (xs : List X) (y : X) (n : ℕ) (x : X) → slice_get (xs ++ y ∷ []) n ≡ Some x → (slice_get xs n ≡ Some x) ⊎ ((n ≡ length xs) × (y ≡ x))
slice_get_push_cases [] y zero x e = inr (refl, cc)
slice_get_push_cases [] y (suc n) x e = cc
slice_get_push_cases (z ∷ xs) y zero x e = inl e
slice_get_push_cases (z ∷ xs) y (suc n) x e =
    elim (slice_get_push_cases xs y n x e) [ inl there ↦ inl there | inr last ↦ inr (ap suc last.0, last.1) ]

-- what stands in joined lists stands in one of them
pub slice_get_append_cases : {X : Type 0} (xs ys : List X) (n : ℕ) (x : X) → slice_get (xs ++ ys) n ≡ Some x → (slice_get xs n ≡ Some x) ⊎ ((k : ℕ) × (n ≡ length xs + k) × (slice_get ys k ≡ Some x))
slice_get_append_cases [] ys n x e = inr (n, omega arith, e)
slice_get_append_cases (z ∷ xs) ys zero x e = inl e
slice_get_append_cases (z ∷ xs) ys (suc n) x e =
    elim (slice_get_append_cases xs ys n x e) [ inl there ↦ inl there | inr later ↦ inr (later.0, omega (arith, later.1), later.2) ]

-- ---- what passes a test

-- one that passes, where any does
pub any_found : {X : Type 0} (p : X → Bool) (xs : List X) → list_any p xs ≡ true → (n : ℕ) × (x : X) × (slice_get xs n ≡ Some x) × (p x ≡ true)
any_found p [] h = absurd (false≢true h)
any_found p (x ∷ xs) h =
    elim (or_cases (p x) (list_any p xs) h) [
      | inl here ↦ (0, x, refl, here)
      | inr later ↦ let f = any_found p xs later in (suc f.0, f.1, f.2, f.3)
    ]

-- what holds of all items holds of the one that a search finds
pub found_of : {X : Type 0} (P : X → Type 0) (test : X → Bool) (xs : List X) (x : X) → All P xs → find test xs ≡ Some x → P x
found_of P test [] x all is = absurd cc
found_of {X = X} P test (y ∷ ys) x all is =
    bool_cases (test y)
    (λ here. let e : Some y ≡ Some x = sym (ap (λ (b : Bool). cond b (Some y) (find test ys)) here) ∙ is in
    let same : y ≡ x = cc in
    subst (λ (z : X). P z) same (All-head P y ys all))
    (λ there. found_of P test ys x (All-tail P y ys all) (sym (ap (λ (b : Bool). cond b (Some y) (find test ys)) there) ∙ is))

-- what holds of an item where there is one
abbrev pub IfGiven : {X : Type 0} → (X → Type 0) → Option X → Type 0
IfGiven P (Some x) = P x
IfGiven P None = Unit {0}

-- what holds of each item that is there holds of all in the list of them
pub given_all : {X : Type 0} (P : X → Type 0) (xs : List (Option X)) → All (IfGiven P) xs → All P (filter_map (λ x. x) xs)
given_all P [] all = All-nil P
given_all P (Some x ∷ xs) all = All-cons P x (filter_map (λ x. x) xs) (All-head (IfGiven P) (Some x) xs all) (given_all P xs (All-tail (IfGiven P) (Some x) xs all))
given_all P (None ∷ xs) all = given_all P xs (All-tail (IfGiven P) None xs all)

-- ---- images

-- an item whose image stands at a place
pub record IsMapped {X Y : Type 0} (f : X → Y) (xs : List X) (k : ℕ) (y : Y) : Type 0 where
  pub item : X
  pub at : slice_get xs k ≡ Some item
  pub is : f item ≡ y

-- what stands at a place of an image comes from there
pub map_source : {X Y : Type 0} (f : X → Y) (xs : List X) (k : ℕ) (y : Y) → slice_get (map f xs) k ≡ Some y → IsMapped f xs k y
map_source {X} {Y} f xs k y e = go (slice_get xs k) refl (sym (slice_get-map f xs k) ∙ e) where
  go : (o : Option X) → slice_get xs k ≡ o → option_map f o ≡ Some y → IsMapped f xs k y
  go None is h = absurd (none-some y h)
  go (Some x) is h = record { item = x; at = is; is = same_Some (f x) y h }

-- ---- lists in order

pub Ascends-map : {X Y : Type 0} (Q : X → X → Type 0) (R : Y → Y → Type 0) (f : X → Y) (xs : List X) → ((x y : X) → Q x y → R (f x) (f y)) → Ascends Q xs → Ascends R (map f xs)
Ascends-map Q R f xs keeps ascends m n x y lt at_m at_n =
    let a = map_source f xs m x at_m in
    let b = map_source f xs n y at_n in
    subst (R x) b.is (subst (λ z. R z (f b.item)) a.is (keeps a.item b.item (ascends m n a.item b.item lt a.at b.at)))

pub Ascends-append : {X : Type 0} (R : X → X → Type 0) (xs ys : List X) → Ascends R xs → Ascends R ys → ((m n : ℕ) (x y : X) → slice_get xs m ≡ Some x → slice_get ys n ≡ Some y → R x y) → Ascends R (xs ++ ys)
Ascends-append R xs ys left right across m n x y lt at_m at_n =
    elim (slice_get_append_cases xs ys m x at_m) [
      | inl m_left ↦ elim (slice_get_append_cases xs ys n y at_n) [
        | inl n_left ↦ left m n x y lt m_left n_left
        | inr n_right ↦ across m n_right.0 x y m_left n_right.2
      ]
      | inr m_right ↦ elim (slice_get_append_cases xs ys n y at_n) [
        | inl n_left ↦ absurd (omega (arith, m_right.1, slice_get_within xs n y n_left))
        | inr n_right ↦ right m_right.0 n_right.0 x y (omega (arith, m_right.1, n_right.1)) m_right.2 n_right.2
      ]
    ]

-- ---- the first items of a list

module _ {X : Type 0} (same : X → X → Bool) (before : X → X → Type 0) (itself : (x : X) → same x x ≡ true) (turned : (x y : X) → same x y ≡ true → same y x ≡ true) where
  AreFirsts-none : AreFirsts same before [] []
  AreFirsts-none = record {
    from = λ k x at. absurd (none-some x at);
    once = λ m n x y at_m at_n s. absurd (none-some x at_m);
    ascending = λ m n x y lt at_m at_n. absurd (none-some x at_m);
    there = λ n y at. absurd (none-some y at);
  }

  module _ (done kept : List X) (x : X) (was : AreFirsts same before done kept) (above : (n : ℕ) (y : X) → slice_get done n ≡ Some y → before y x) where
    is_above : (k : ℕ) (y : X) → slice_get kept k ≡ Some y → before y x
    is_above k y at = let f = was.from k y at in above f.0 y f.1

    still : list_any (same x) kept ≡ true → AreFirsts same before (done ++ x ∷ []) kept
    still any =
        let f = any_found (same x) kept any in
        record {
          from = λ k y at. let g = was.from k y at in (g.0, slice_get-append done (x ∷ []) g.0 y g.1);
          once = was.once;
          ascending = was.ascending;
          there = λ n y at. elim (slice_get_push_cases done x n y at) [
            | inl earlier ↦ was.there n y earlier
            | inr last ↦ subst (HasSame same before kept) last.1 (record { place = f.0; item = f.1; at = f.2; is = f.3; order = inl (is_above f.0 f.1 f.2) })
          ];
        }

    more : list_any (same x) kept ≡ false → AreFirsts same before (done ++ x ∷ []) (kept ++ x ∷ [])
    more none =
        let other : (k : ℕ) (y : X) → slice_get kept k ≡ Some y → same x y ≡ true → ⊥ = λ k y at s. false≢true (sym none ∙ any_passes_from_place (same x) kept k y at s) in
        record {
          from = λ k y at. elim (slice_get_push_cases kept x k y at) [
            | inl earlier ↦ let g = was.from k y earlier in (g.0, slice_get-append done (x ∷ []) g.0 y g.1)
            | inr last ↦ (length done, slice_get_last done x ∙ ap Some last.1)
          ];
          once = λ m n y z at_m at_n s. elim (slice_get_push_cases kept x m y at_m) [
            | inl m_there ↦ elim (slice_get_push_cases kept x n z at_n) [
              | inl n_there ↦ was.once m n y z m_there n_there s
              | inr n_last ↦ absurd (other m y m_there (turned y x (ap (same y) n_last.1 ∙ s)))
            ]
            | inr m_last ↦ elim (slice_get_push_cases kept x n z at_n) [
              | inl n_there ↦ absurd (other n z n_there (ap (λ w. same w z) m_last.1 ∙ s))
              | inr n_last ↦ m_last.0 ∙ sym n_last.0
            ]
          ];
          ascending = λ m n y z lt at_m at_n. elim (slice_get_push_cases kept x n z at_n) [
            | inl n_there ↦ elim (slice_get_push_cases kept x m y at_m) [
              | inl m_there ↦ was.ascending m n y z lt m_there n_there
              | inr m_last ↦ absurd (omega (arith, m_last.0, slice_get_within kept n z n_there))
            ]
            | inr n_last ↦ elim (slice_get_push_cases kept x m y at_m) [
              | inl m_there ↦ subst (before y) n_last.1 (is_above m y m_there)
              | inr m_last ↦ absurd (omega (arith, m_last.0, n_last.0))
            ]
          ];
          there = λ n y at. elim (slice_get_push_cases done x n y at) [
            | inl earlier ↦
                let h = was.there n y earlier in
                record { place = h.place; item = h.item; at = slice_get-append kept (x ∷ []) h.place h.item h.at; is = h.is; order = h.order }
            | inr last ↦ subst (HasSame same before (kept ++ x ∷ [])) last.1 (record { place = length kept; item = x; at = slice_get_last kept x; is = itself x; order = inr refl })
          ];
        }

    AreFirsts-more : AreFirsts same before (done ++ x ∷ []) (with_first same kept x)
    AreFirsts-more = go (list_any (same x) kept) refl where
      go : (b : Bool) → list_any (same x) kept ≡ b → AreFirsts same before (done ++ x ∷ []) (cond (list_any (same x) kept) kept (kept ++ x ∷ []))
      go true e = rw e (still e)
      go false e = rw e (more e)

  AreFirsts-after : (rest done kept : List X) → AreFirsts same before done kept → Ascends before (done ++ rest) → AreFirsts same before (done ++ rest) (firsts_after same kept rest)
  unfolding firsts_after
  AreFirsts-after [] done kept was ascends = rw (append-nil done) was
  AreFirsts-after (x ∷ rest) done kept was ascends =
      let above : (n : ℕ) (y : X) → slice_get done n ≡ Some y → before y x = λ n y at. ascends n (length done) y x (slice_get_within done n y at) (slice_get-append done (x ∷ rest) n y at) (middle done x rest) in
      let next = AreFirsts-more done kept x was above in
      let e = append_assoc done (x ∷ []) rest in
      subst (λ xs. AreFirsts same before xs (firsts_after same (with_first same kept x) rest)) e (AreFirsts-after rest (done ++ x ∷ []) (with_first same kept x) next (subst (Ascends before) (sym e) ascends))
    where
      middle : (done : List X) (x : X) (rest : List X) → slice_get (done ++ x ∷ rest) (length done) ≡ Some x
      middle [] x rest = refl
      middle (y ∷ done) x rest = middle done x rest

  pub AreFirsts-all : (xs : List X) → Ascends before xs → AreFirsts same before xs (firsts_after same [] xs)
  AreFirsts-all xs ascends = AreFirsts-after xs [] [] AreFirsts-none ascends

pub flat_map-same : {X A : Type 0} (f g : X → List A) (xs : List X) → ((x : X) → f x ≡ g x) → flat_map f xs ≡ flat_map g xs
flat_map-same f g [] same = refl
flat_map-same f g (x ∷ xs) same = let later = flat_map-same f g xs same in rw (same x, later) refl

pub same_functions : {A B C : Type 0} (f g : A → B → C) → ((a : A) (b : B) → f a b ≡ g a b) → f ≡ g
same_functions f g same = λ i a b. same a b i

pub append_none : (xs : List ℕ) → xs ++ [] ≡ xs
append_none [] = refl
append_none (x ∷ xs) = ap (λ (ys : List ℕ). x ∷ ys) (append_none xs)

pub All-none : {X : Type 0} (P : X → Type 0) (xs : List X) → xs ≡ [] → All P xs
All-none P xs none = subst (All P) (sym none) (All-nil P)

pub map-map : {X Y Z : Type 0} (g : Y → Z) (f : X → Y) (xs : List X) → map g (map f xs) ≡ map (λ x. g (f x)) xs
map-map g f [] = refl
map-map g f (x ∷ xs) = ap (λ ys. g (f x) ∷ ys) (map-map g f xs)

pub at_below : {X : Type 0} (xs : List X) (i : ℕ) → i < length xs → (x : X) × (slice_get xs i ≡ Some x)
at_below [] i lt = absurd (omega arith)
at_below (x ∷ xs) zero lt = (x, refl)
at_below (x ∷ xs) (suc i) lt = at_below xs i (omega arith)

pub slice_get-mapped : {X Y : Type 0} (f : X → Y) (xs : List X) (i : ℕ) (x : X) → slice_get xs i ≡ Some x → slice_get (map f xs) i ≡ Some (f x)
slice_get-mapped f [] i x is = absurd (none-some x is)
slice_get-mapped f (y ∷ ys) zero x is = ap (λ z. Some (f z)) (same_Some y x is)
slice_get-mapped f (y ∷ ys) (suc i) x is = slice_get-mapped f ys i x is

pub slice_get-before : {X : Type 0} (xs ys : List X) (i : ℕ) → i < length xs → slice_get (xs ++ ys) i ≡ slice_get xs i
slice_get-before [] ys i lt = absurd (omega arith)
slice_get-before (x ∷ xs) ys zero lt = refl
slice_get-before (x ∷ xs) ys (suc i) lt = slice_get-before xs ys i (omega arith)

pub any-map : {X Y : Type 0} (p : Y → Bool) (f : X → Y) (xs : List X) → list_any p (map f xs) ≡ list_any (λ x. p (f x)) xs
any-map p f [] = refl
any-map p f (x ∷ xs) = ap (λ b. p (f x) || b) (any-map p f xs)

pub count_by-filter : {X : Type 0} (p : X → Bool) (xs : List X) → count_by p xs ≡ length (filter p xs)
count_by-filter p [] = refl
count_by-filter p (x ∷ xs) =
    let c = sum_by-cons (λ y. cond (p y) 1 0) x xs in
    let ih = count_by-filter p xs in
    elim (cases_Bool (p x)) [
      | inl passes ↦ rw passes (omega (arith, rw passes at c))
      | inr not_passing ↦ rw not_passing (omega (arith, rw not_passing at c))
    ]

pub list_all-weaker : {X : Type 0} (p q : X → Bool) → ((x : X) → p x ≡ true → q x ≡ true) → (xs : List X) → list_all p xs ≡ true → list_all q xs ≡ true
list_all-weaker p q weaker [] all = refl
list_all-weaker p q weaker (x ∷ xs) all =
    let both = and_parts (p x) (list_all p xs) all in
    and_from (q x) (list_all q xs) (weaker x both.0) (list_all-weaker p q weaker xs both.1)

pub fewer_before : {X : Type 0} (p : X → Bool) (xs : List X) (i : ℕ) (d : X) → i < length xs → p (get_or xs i d) ≡ true → length (filter p (take i xs)) < length (filter p xs)
fewer_before p [] i d lt e = absurd (omega arith)
fewer_before p (x ∷ xs) zero d lt e = rw e (omega arith)
fewer_before p (x ∷ xs) (suc i) d lt e =
    let ih = fewer_before p xs i d (omega arith) e in
    elim (cases_Bool (p x)) [
      | inl passes ↦ rw passes (omega arith)
      | inr fails ↦ rw fails ih
    ]

pub map-nil : {X Y : Type 0} (f : X → Y) (xs : List X) → map f xs ≡ [] → xs ≡ []
map-nil f [] e = refl
map-nil f (x ∷ xs) e = cc

pub left-nil : {X : Type 0} (xs ys : List X) → xs ++ ys ≡ [] → xs ≡ []
left-nil [] ys e = refl
left-nil (x ∷ xs) ys e = cc

pub right-nil : {X : Type 0} (xs ys : List X) → xs ++ ys ≡ [] → ys ≡ []
right-nil [] ys e = e
right-nil (x ∷ xs) ys e = cc

pub map-same_tests : (f g : ℕ → Bool) → ((k : ℕ) → f k ≡ g k) → (ks : List ℕ) → map f ks ≡ map g ks
map-same_tests f g same [] = refl
map-same_tests f g same (k ∷ ks) = rw (same k, map-same_tests f g same ks) refl

pub position_is : {X : Type 0} (p : X → Bool) (xs : List X) (i : ℕ) (d : X) → i < length xs → ((k : ℕ) → k < i → p (get_or xs k d) ≡ false) → p (get_or xs i d) ≡ true → position p xs ≡ Some i
position_is p xs i d inside before here =
    let place = position_or_len_is p xs i d (omega arith) before (λ less. here) in
    let lt = lt-ltb i (length xs) inside in
    rw (place, lt) refl

pub position_none : {X : Type 0} (p : X → Bool) (xs : List X) (d : X) → ((k : ℕ) → k < length xs → p (get_or xs k d) ≡ false) → position p xs ≡ None
position_none p xs d fails =
    let place = position_or_len_is p xs (length xs) d (omega arith) fails (λ less. absurd (omega arith)) in
    let ge = le-ltb (length xs) (length xs) (omega arith) in
    rw (place, ge) refl

pub take-map_more : {X Y : Type 0} (f : X → Y) (xs : List X) (i : ℕ) (d : X) → i < length xs → take (i + 1) (map f xs) ≡ take i (map f xs) ++ f (get_or xs i d) ∷ []
take-map_more f xs i d inside =
    let within : i < length (map f xs) = omega (arith, length-map xs f) in
    take_more (map f xs) i (f d) within
    ∙ ap (λ y. take i (map f xs) ++ y ∷ []) (get_or-map f xs i d (f d) inside)

pub drop-map_more : {X Y : Type 0} (f : X → Y) (xs : List X) (i : ℕ) (d : X) → i < length xs → drop i (map f xs) ≡ f (get_or xs i d) ∷ drop (i + 1) (map f xs)
drop-map_more f xs i d inside =
    let within : i < length (map f xs) = omega (arith, length-map xs f) in
    drop_more (map f xs) i (f d) within
    ∙ ap (λ y. y ∷ drop (i + 1) (map f xs)) (get_or-map f xs i d (f d) inside)

pub list_any-map : {X Y : Type 0} (p : Y → Bool) (f : X → Y) (xs : List X) → list_any (λ x. p (f x)) xs ≡ list_any p (map f xs)
list_any-map p f xs = sym (any-map p f xs)
