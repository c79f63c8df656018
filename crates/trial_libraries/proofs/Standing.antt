-- References lead to the entries that are meant: where entries stand in a unit.
use Rattle.std.proofs.Common.{◌≡◌, ℕ, zero, suc, ◌+◌, ◌*◌, ◌<◌, List, [], ◌∷◌, ◌++◌, length, length-append, append_assoc, append-nil, add-zero, refl, sym, ap, ◌∙◌, subst, arith}
use Rattle.std.specs.List.{flat_map, range_with_len}
use Rattle.trial_libraries.specs.Bytes.{number_bytes}
use Rattle.trial_libraries.specs.Units.{HasAt, entries, function, functions_of, int, int_place, pointer, pointer_place, root, structure, structure_place, unit, unit_of}
use Rattle.trial_libraries.proofs.Lengths.{length-two_bytes, length-four_bytes}
use Rattle.trial_libraries.proofs.UnitLengths.{length-pointer, length-structure, length-root}

here : (entry : List ℕ) → HasAt entry 0 entry
here entry = record { before = []; behind = []; is = sym (append-nil entry); at = refl }

-- bytes behind it
before_more : {xs entry : List ℕ} {p : ℕ} (ys : List ℕ) → HasAt xs p entry → HasAt (xs ++ ys) p entry
before_more {xs} {entry} {p} ys h = record {
  before = h.before;
  behind = h.behind ++ ys;
  is = ap (λ (zs : List ℕ). zs ++ ys) h.is ∙ append_assoc (h.before ++ entry) h.behind ys;
  at = h.at;
}

-- bytes before it
behind_more : {ys entry : List ℕ} {p : ℕ} (xs : List ℕ) (q : ℕ) → HasAt ys p entry → length xs + p ≡ q → HasAt (xs ++ ys) q entry
behind_more {ys} {entry} {p} xs q h sum = record {
  before = xs ++ h.before;
  behind = h.behind;
  is = ap (λ (zs : List ℕ). xs ++ zs) h.is ∙ sym (append_assoc xs (h.before ++ entry) h.behind) ∙ ap (λ (zs : List ℕ). zs ++ h.behind) (sym (append_assoc xs h.before entry));
  at = omega (arith, length-append xs h.before, h.at);
}

length-flat_map-range : (f : ℕ → List ℕ) (c a n : ℕ) → ((i : ℕ) → length (f i) ≡ c) → length (flat_map f (range_with_len a n)) ≡ c * n
length-flat_map-range f c a zero h = omega arith
length-flat_map-range f c a (suc n) h =
    let rest = length-flat_map-range f c (a + 1) n h in
    omega (arith, length-append (f a) (flat_map f (range_with_len (a + 1) n)), h a)

-- among pieces of one length
among : (f : ℕ → List ℕ) (c a n j : ℕ) → ((i : ℕ) → length (f i) ≡ c) → j < n → HasAt (flat_map f (range_with_len a n)) (c * j) (f (a + j))
among f c a zero j h lt = absurd (omega arith)
among f c a (suc n) zero h lt =
    let P : ℕ → Type 0 = λ k. HasAt (flat_map f (range_with_len a (suc n))) k (f (a + 0)) in
    let none : 0 ≡ c * 0 = omega arith in
    let Q : ℕ → Type 0 = λ k. HasAt (flat_map f (range_with_len a (suc n))) 0 (f k) in
    subst P none (subst Q (sym (add-zero a)) (before_more (flat_map f (range_with_len (a + 1) n)) (here (f a))))
among f c a (suc n) (suc j) h lt =
    let rest = among f c (a + 1) n j h (omega arith) in
    let at : a + 1 + j ≡ a + suc j = omega arith in
    let Q : ℕ → Type 0 = λ k. HasAt (flat_map f (range_with_len a (suc n))) (c * suc j) (f k) in
    subst Q at (behind_more (f a) (c * suc j) rest (omega (arith, h a)))

-- the fields of a unit's header
head : List ℕ → List ℕ
head body = number_bytes 4 (8 + length body) ++ number_bytes 2 5 ++ 1 ∷ 8 ∷ [] ++ number_bytes 4 0

length-head : (body : List ℕ) → length (head body) ≡ 12
unfolding head
length-head body =
    let number = number_bytes 4 (8 + length body) in
    let version = number ++ number_bytes 2 5 in
    omega (arith, length-append (version ++ 1 ∷ 8 ∷ []) (number_bytes 4 0), length-append version (1 ∷ 8 ∷ []), length-append number (number_bytes 2 5), length-four_bytes (8 + length body), length-two_bytes 5, length-four_bytes 0)

-- in a unit behind its header
in_unit : (n k u p q : ℕ) (entry : List ℕ) → HasAt (entries n k u) p entry → 12 + p ≡ q → HasAt (unit n k u) q entry
unfolding unit_of head
in_unit n k u p q entry h sum = behind_more (head (entries n k u)) q h (omega (arith, length-head (entries n k u)))

first : List ℕ
first = root ++ int

length-first : length first ≡ 10
unfolding first
length-first = omega (arith, length-append root int, length-root)

pub int_stands : (n k u : ℕ) → HasAt (unit n k u) int_place int
unfolding entries
int_stands n k u =
    let pointers = flat_map (pointer k) (range_with_len 0 k) in
    let structures = flat_map (structure k) (range_with_len 0 k) in
    let functions = flat_map function (functions_of n u) in
    in_unit n k u 3 int_place int (before_more (0 ∷ []) (before_more functions (before_more structures (before_more pointers (behind_more root 3 (here int) (omega (arith, length-root))))))) refl

pub pointer_stands : (n k u j : ℕ) → j < k → HasAt (unit n k u) (pointer_place j) (pointer k j)
unfolding entries first
pointer_stands n k u j lt =
    let structures = flat_map (structure k) (range_with_len 0 k) in
    let functions = flat_map function (functions_of n u) in
    let found = among (pointer k) 6 0 k j (length-pointer k) lt in
    let at : 0 + j ≡ j = omega arith in
    let P : ℕ → Type 0 = λ i. HasAt (unit n k u) (pointer_place j) (pointer k i) in
    subst P at (in_unit n k u (10 + 6 * j) (pointer_place j) (pointer k (0 + j)) (before_more (0 ∷ []) (before_more functions (before_more structures (behind_more first (10 + 6 * j) found (omega (arith, length-first)))))) (omega arith))

pub structure_stands : (n k u j : ℕ) → j < k → HasAt (unit n k u) (structure_place k j) (structure k j)
unfolding entries first
structure_stands n k u j lt =
    let pointers = flat_map (pointer k) (range_with_len 0 k) in
    let functions = flat_map function (functions_of n u) in
    let found = among (structure k) 27 0 k j (length-structure k) lt in
    let at : 0 + j ≡ j = omega arith in
    let P : ℕ → Type 0 = λ i. HasAt (unit n k u) (structure_place k j) (structure k i) in
    let long = length-flat_map-range (pointer k) 6 0 k (length-pointer k) in
    subst P at (in_unit n k u (10 + 6 * k + 27 * j) (structure_place k j) (structure k (0 + j)) (before_more (0 ∷ []) (before_more functions (behind_more (first ++ pointers) (10 + 6 * k + 27 * j) found (omega (arith, length-append first pointers, length-first, long))))) (omega arith))
