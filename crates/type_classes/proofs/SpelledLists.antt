-- A spelled list tells its items, and where it ends.
use Rattle.std.proofs.Common.{◌≡◌, ◌+◌, ◌*◌, ◌/◌, ◌%◌, ◌<◌, ℕ, suc, List, [], ◌∷◌, ◌++◌, length, map, refl, sym, ◌∙◌, ap, arith, append_assoc}
use Rattle.std.specs.Prelude.{flat_map}
use Rattle.std.proofs.lemmas.Nat.{div-mul-add, mod-mul-add}
use Rattle.type_classes.specs.Shapes.{spelled_list}

-- A spelling with anything after it tells what a function gives of what is spelled, and what comes after.
abbrev pub Tells : {X Y : Type 0} → (X → List ℕ) → (X → Y) → Type 0
Tells {X} {Y} f h = (a b : X) (s t : List ℕ) → f a ++ s ≡ f b ++ t → (h a ≡ h b) × (s ≡ t)

items_tell : {X Y : Type 0} (f : X → List ℕ) (h : X → Y) → Tells f h → (xs ys : List X) (s t : List ℕ) → length xs ≡ length ys → flat_map f xs ++ s ≡ flat_map f ys ++ t → (map h xs ≡ map h ys) × (s ≡ t)
items_tell f h tells [] [] s t len e = (refl, e)
items_tell f h tells [] (y ∷ ys) s t len e = absurd (let u : 0 ≡ suc (length ys) = len in omega arith)
items_tell f h tells (x ∷ xs) [] s t len e = absurd (let u : suc (length xs) ≡ 0 = len in omega arith)
items_tell f h tells (x ∷ xs) (y ∷ ys) s t len e =
    let both : f x ++ (flat_map f xs ++ s) ≡ f y ++ (flat_map f ys ++ t) = sym (append_assoc (f x) (flat_map f xs) s) ∙ e ∙ append_assoc (f y) (flat_map f ys) t in
    let (here, rest) = tells x y (flat_map f xs ++ s) (flat_map f ys ++ t) both in
    let lens : length xs ≡ length ys = let u : suc (length xs) ≡ suc (length ys) = len in omega arith in
    let (later, after) = items_tell f h tells xs ys s t lens rest in
    (rw (here, later) refl, after)

pub list_tells : {X Y : Type 0} (f : X → List ℕ) (h : X → Y) → Tells f h → Tells (spelled_list f) (map h)
unfolding spelled_list
list_tells f h tells xs ys s t e =
    let len : length xs ≡ length ys = cc in
    let rest : flat_map f xs ++ s ≡ flat_map f ys ++ t = cc in
    items_tell f h tells xs ys s t len rest

pub same_map : {X : Type 0} (xs : List X) → map (λ x. x) xs ≡ xs
same_map [] = refl
same_map (x ∷ xs) = ap (λ ys. x ∷ ys) (same_map xs)

-- A spelling and letters, with anything after either, tell what a function gives of what is spelled, and what comes after.
abbrev pub TellBoth : {X Y : Type 0} → (X → List ℕ) → (X → List ℕ) → (X → Y) → Type 0
TellBoth {X} {Y} f g h = (a b : X) (s t u v : List ℕ) → f a ++ s ≡ f b ++ t → g a ++ u ≡ g b ++ v → (h a ≡ h b) × (s ≡ t) × (u ≡ v)

-- a name of known length
pub name_tells : (m n u v : List ℕ) → length m ≡ length n → m ++ u ≡ n ++ v → (m ≡ n) × (u ≡ v)
name_tells [] [] u v len e = (refl, e)
name_tells [] (y ∷ n) u v len e = absurd (let l : 0 ≡ suc (length n) = len in omega arith)
name_tells (x ∷ m) [] u v len e = absurd (let l : suc (length m) ≡ 0 = len in omega arith)
name_tells (x ∷ m) (y ∷ n) u v len e =
    let here : x ≡ y = cc in
    let more : m ++ u ≡ n ++ v = cc in
    let lens : length m ≡ length n = let l : suc (length m) ≡ suc (length n) = len in omega arith in
    let (later, after) = name_tells m n u v lens more in
    (rw (here, later) refl, after)

items_both : {X Y : Type 0} (f g : X → List ℕ) (h : X → Y) → TellBoth f g h → (xs ys : List X) (s t u v : List ℕ) → length xs ≡ length ys → flat_map f xs ++ s ≡ flat_map f ys ++ t → flat_map g xs ++ u ≡ flat_map g ys ++ v
    → (map h xs ≡ map h ys) × (s ≡ t) × (u ≡ v)
items_both f g h tell [] [] s t u v len e l = (refl, e, l)
items_both f g h tell [] (y ∷ ys) s t u v len e l = absurd (let n : 0 ≡ suc (length ys) = len in omega arith)
items_both f g h tell (x ∷ xs) [] s t u v len e l = absurd (let n : suc (length xs) ≡ 0 = len in omega arith)
items_both f g h tell (x ∷ xs) (y ∷ ys) s t u v len e l =
    let numbers : f x ++ (flat_map f xs ++ s) ≡ f y ++ (flat_map f ys ++ t) = sym (append_assoc (f x) (flat_map f xs) s) ∙ e ∙ append_assoc (f y) (flat_map f ys) t in
    let letters : g x ++ (flat_map g xs ++ u) ≡ g y ++ (flat_map g ys ++ v) = sym (append_assoc (g x) (flat_map g xs) u) ∙ l ∙ append_assoc (g y) (flat_map g ys) v in
    let (here, rest, more) = tell x y (flat_map f xs ++ s) (flat_map f ys ++ t) (flat_map g xs ++ u) (flat_map g ys ++ v) numbers letters in
    let lens : length xs ≡ length ys = let n : suc (length xs) ≡ suc (length ys) = len in omega arith in
    let (later, after, last) = items_both f g h tell xs ys s t u v lens rest more in
    (rw (here, later) refl, after, last)

pub list_both : {X Y : Type 0} (f g : X → List ℕ) (h : X → Y) → TellBoth f g h → TellBoth (spelled_list f) (flat_map g) (map h)
unfolding spelled_list
list_both f g h tell xs ys s t u v e l =
    let len : length xs ≡ length ys = cc in
    let rest : flat_map f xs ++ s ≡ flat_map f ys ++ t = cc in
    items_both f g h tell xs ys s t u v len rest l

-- a number tells its last digit and what is before it
pub digits_tell : (base p q m n : ℕ) → m < base → n < base → p * base + m ≡ q * base + n → (p ≡ q) × (m ≡ n)
digits_tell base p q m n small_m small_n e = (
  sym (div-mul-add p base m small_m) ∙ ap (λ (x : ℕ). x / base) e ∙ div-mul-add q base n small_n,
  sym (mod-mul-add p base m small_m) ∙ ap (λ (x : ℕ). x % base) e ∙ mod-mul-add q base n small_n,
)
