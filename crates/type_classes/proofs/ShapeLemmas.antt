-- Lists as they are spelled, and that a spelling tells what it spells.
use Rattle.std.proofs.Common.{◌≡◌, ◌+◌, ◌<◌, ◌≤◌, ℕ, List, [], ◌∷◌, ◌++◌, length, map, take, get_or, sym, ◌∙◌, ap, append_assoc}
use Rattle.std.specs.Prelude.{flat_map}
use Rattle.std.proofs.lemmas.List.{take_more, take_all, length-map, get_or-map, get_or_default, flat_map_more}
use Rattle.type_classes.specs.Shapes.{spelled_list}

-- ---- one item after the other

pub list_start : {X : Type 0} (f : X → List ℕ) (base next : List ℕ) (n m : ℕ) (xs : List X) → m ≡ n → next ≡ base ++ m ∷ [] → next ≡ base ++ n ∷ flat_map f (take 0 xs)
list_start f base next n m xs same push = push ∙ ap (λ (k : ℕ). base ++ k ∷ []) same

pub list_more : {X : Type 0} (f : X → List ℕ) (base cur next : List ℕ) (n i : ℕ) (xs : List X) (x : X) → i < length xs → get_or xs i x ≡ x → cur ≡ base ++ n ∷ flat_map f (take i xs) → next ≡ cur ++ f x → next ≡ base ++ n ∷ flat_map f (take (i + 1) xs)
list_more f base cur next n i xs x inside at so_far push =
    let e : take (i + 1) xs ≡ take i xs ++ x ∷ [] = take_more xs i x inside ∙ ap (λ y. take i xs ++ y ∷ []) at in
    push ∙ ap (λ (ns : List ℕ). ns ++ f x) so_far ∙ append_assoc base (n ∷ flat_map f (take i xs)) (f x)
    ∙ ap (λ (ns : List ℕ). base ++ ns) (flat_map_more f (n ∷ []) (take i xs) x)
    ∙ ap (λ ys. base ++ n ∷ flat_map f ys) (sym e)

pub list_all : {X : Type 0} (f : X → List ℕ) (base cur : List ℕ) (n i : ℕ) (xs : List X) → length xs ≤ i → n ≡ length xs → cur ≡ base ++ n ∷ flat_map f (take i xs) → cur ≡ base ++ spelled_list f xs
unfolding spelled_list
list_all f base cur n i xs past is so_far = so_far ∙ ap (λ (k : ℕ). base ++ k ∷ flat_map f (take i xs)) is ∙ ap (λ ys. base ++ length xs ∷ flat_map f ys) (take_all i xs past)

-- with an item that is read with a default
pub list_more_at : {X : Type 0} (f : X → List ℕ) (base cur next : List ℕ) (n i : ℕ) (xs : List X) (d : X) → i < length xs → cur ≡ base ++ n ∷ flat_map f (take i xs) → next ≡ cur ++ f (get_or xs i d) → next ≡ base ++ n ∷ flat_map f (take (i + 1) xs)
list_more_at f base cur next n i xs d inside so_far push = list_more f base cur next n i xs (get_or xs i d) inside (get_or_default xs i (get_or xs i d) d inside) so_far push

-- with items that are seen through a function
pub list_more_map : {X Y : Type 0} (g : X → Y) (f : Y → List ℕ) (base cur next : List ℕ) (n i : ℕ) (xs : List X) (x : X) → i < length xs → x ≡ get_or xs i x → cur ≡ base ++ n ∷ flat_map f (take i (map g xs)) → next ≡ cur ++ f (g x) → next ≡ base ++ n ∷ flat_map f (take (i + 1) (map g xs))
list_more_map g f base cur next n i xs x inside read so_far push =
    list_more f base cur next n i (map g xs) (g x) (rw (length-map xs g) inside) (get_or-map g xs i x (g x) inside ∙ ap g (sym read)) so_far push

pub list_all_map : {X Y : Type 0} (g : X → Y) (f : Y → List ℕ) (base cur : List ℕ) (i : ℕ) (xs : List X) → length xs ≤ i → cur ≡ base ++ length xs ∷ flat_map f (take i (map g xs)) → cur ≡ base ++ spelled_list f (map g xs)
list_all_map g f base cur i xs past so_far = list_all f base cur (length xs) i (map g xs) (rw (length-map xs g) past) (sym (length-map xs g)) so_far

pub list_more_map_at : {X Y : Type 0} (g : X → Y) (f : Y → List ℕ) (base cur next : List ℕ) (n i : ℕ) (xs : List X) (d : X) → i < length xs → cur ≡ base ++ n ∷ flat_map f (take i (map g xs)) → next ≡ cur ++ f (g (get_or xs i d)) → next ≡ base ++ n ∷ flat_map f (take (i + 1) (map g xs))
list_more_map_at g f base cur next n i xs d inside so_far push = list_more_map g f base cur next n i xs (get_or xs i d) inside (get_or_default xs i d (get_or xs i d) inside) so_far push

-- ---- letters of items, one item after the other

pub letters_more : {X Y : Type 0} (g : X → Y) (f : Y → List ℕ) (base cur next : List ℕ) (i : ℕ) (xs : List X) (x : X) → i < length xs → x ≡ get_or xs i x → cur ≡ base ++ flat_map f (take i (map g xs)) → next ≡ cur ++ f (g x) → next ≡ base ++ flat_map f (take (i + 1) (map g xs))
letters_more g f base cur next i xs x inside read so_far push =
    let inside' : i < length (map g xs) = rw (length-map xs g) inside in
    let at : get_or (map g xs) i (g x) ≡ g x = get_or-map g xs i x (g x) inside ∙ ap g (sym read) in
    let e : take (i + 1) (map g xs) ≡ take i (map g xs) ++ g x ∷ [] = take_more (map g xs) i (g x) inside' ∙ ap (λ y. take i (map g xs) ++ y ∷ []) at in
    push ∙ ap (λ (ns : List ℕ). ns ++ f (g x)) so_far ∙ flat_map_more f base (take i (map g xs)) (g x) ∙ ap (λ ys. base ++ flat_map f ys) (sym e)

-- with an item that is read with a default
pub letters_more_at : {X Y : Type 0} (g : X → Y) (f : Y → List ℕ) (base cur next : List ℕ) (i : ℕ) (xs : List X) (d : X) → i < length xs → cur ≡ base ++ flat_map f (take i (map g xs)) → next ≡ cur ++ f (g (get_or xs i d)) → next ≡ base ++ flat_map f (take (i + 1) (map g xs))
letters_more_at g f base cur next i xs d inside so_far push = letters_more g f base cur next i xs (get_or xs i d) inside (get_or_default xs i d (get_or xs i d) inside) so_far push

pub letters_all : {X Y : Type 0} (g : X → Y) (f : Y → List ℕ) (base cur : List ℕ) (i : ℕ) (xs : List X) → length xs ≤ i → cur ≡ base ++ flat_map f (take i (map g xs)) → cur ≡ base ++ flat_map f (map g xs)
letters_all g f base cur i xs past so_far = so_far ∙ ap (λ ys. base ++ flat_map f ys) (take_all i (map g xs) (rw (length-map xs g) past))
