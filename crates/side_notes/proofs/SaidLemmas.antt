-- Notes that say the same as none before them, one note after another.
use Rattle.std.proofs.Common.{◌≡◌, ◌<◌, ◌+◌, ◌∙◌, ℕ, Bool, true, false, cond, not, ◌&&◌, ◌||◌, if◌then◌else◌, List, [], ◌∷◌, ◌++◌, length, take, Some, refl, sym, ap, subst, arith, inl, inr}
use Rattle.std.specs.Prelude.{filter, slice_get, Vec}
use Rattle.std.specs.Cmp.{both_tied}
use Rattle.std.specs.Cmp.Lexicographic.{slice_cmp}
use Rattle.std.specs.List.{flat_map, list_any, range_with_len}
use Rattle.std.specs.Ordering.{is_eq, nat_cmp}
use Rattle.std.specs.Str.{bytes_eq}
use Rattle.std.specs.declared.alloc.Global.{Global}
use Rattle.std.proofs.lemmas.Bool.{cases_Bool, cases_lt}
use Rattle.std.proofs.lemmas.List.{append-nil, append_assoc, length_push, take_all, take-append-le}
use Rattle.std.proofs.lemmas.List.Elements.{filter-append}
use Rattle.std.proofs.lemmas.List.Folds.{list_any-append}
use Rattle.std.proofs.lemmas.Grind.{flat_map-append}
use Rattle.std.proofs.lemmas.Map.Text.{is_eq-slice_cmp}
use Rattle.std.proofs.lemmas.Option.{slice_get_within}
use Rattle.std.proofs.lemmas.Slice.Eq.{bytes_eq-Decides}
use Rattle.abi_base.proofs.lemmas.Lists.{slice_get_last, slice_get-before}
use Rattle.abi_base.proofs.lemmas.Ranges.{below_more}
use Rattle.new_needs.proofs.lemmas.Ranges.{flat_map-same}
use Rattle.abi_base.proofs.lemmas.Bools.{not_is_true, not_is_false, and_is_true, or_false, and_left_true}
use Rattle.type_notes.specs.declared.note.Note.{Note}
use Rattle.side_notes.specs.SaidOnce.{AreSaid, NameSet, has_names, has_said, is_said, kept_at, kept_if_new, names_cmp, names_none, names_types, said_once, say_same}
use Rattle.pair_rules.proofs.lemmas.Truths.{cond_or}

-- ---- one note more

kept-front : (xs : List Note) (x : Note) (n : ℕ) → n < length xs → kept_at (xs ++ x ∷ []) n ≡ kept_at xs n
kept-front xs x n lt = ap (λ before. kept_if_new before (slice_get (xs ++ x ∷ []) n)) (take-append-le n xs (x ∷ []) (omega arith)) ∙ ap (kept_if_new (take n xs)) (slice_get-before xs (x ∷ []) n lt)

kept-last : (xs : List Note) (x : Note) → kept_at (xs ++ x ∷ []) (length xs) ≡ kept_if_new xs (Some x)
kept-last xs x =
    ap (λ before. kept_if_new before (slice_get (xs ++ x ∷ []) (length xs))) (take-append-le (length xs) xs (x ∷ []) (omega arith) ∙ take_all (length xs) xs (omega arith))
    ∙ ap (kept_if_new xs) (slice_get_last xs x)

pub said_push : (xs : List Note) (x : Note) → said_once (xs ++ x ∷ []) ≡ said_once xs ++ kept_if_new xs (Some x)
unfolding said_once
said_push xs x =
    ap (λ n. flat_map (kept_at (xs ++ x ∷ [])) (range_with_len 0 n)) (length_push xs x) ∙ ap (flat_map (kept_at (xs ++ x ∷ []))) (below_more (length xs))
    ∙ flat_map-append (kept_at (xs ++ x ∷ [])) (range_with_len 0 (length xs)) (length xs ∷ [])
    ∙ ap (λ (ns : List Note). ns ++ flat_map (kept_at (xs ++ x ∷ [])) (length xs ∷ [])) (flat_map-same (kept_at (xs ++ x ∷ [])) (kept_at xs) 0 (length xs) (λ k lt. kept-front xs x k (omega (arith, lt))))
    ∙ ap (λ (ns : List Note). said_once xs ++ ns) (append-nil (kept_at (xs ++ x ∷ []) (length xs)) ∙ kept-last xs x)

-- ---- the names so far

any_and : (b : Bool) (p : Note → Bool) (xs : List Note) → list_any (λ m. b && p m) xs ≡ (b && list_any p xs)
any_and true p xs = refl
any_and false p [] = refl
any_and false p (x ∷ xs) = any_and false p xs

said_by_names : (xs : List Note) (x : Note) → is_said xs x ≡ (names_types x && list_any (has_names x.was x.is) xs)
said_by_names xs x = any_and (names_types x) (has_names x.was x.is) xs

any_one : (p : Note → Bool) (x : Note) → list_any p (x ∷ []) ≡ p x
any_one p x = elim (cases_Bool (p x)) [ inl passes ↦ rw passes refl | inr fails ↦ rw fails refl ]

names_more : (xs : List Note) (x : Note) (was is : List ℕ) → list_any (has_names was is) (xs ++ x ∷ []) ≡ (list_any (has_names was is) xs || has_names was is x)
names_more xs x was is = list_any-append (has_names was is) xs (x ∷ []) ∙ ap (λ (b : Bool). list_any (has_names was is) xs || b) (any_one (has_names was is) x)

-- a note that names no types
pub new_free : (xs : List Note) (x : Note) → names_types x ≡ false → true ≡ not (is_said xs x)
new_free xs x none = sym (ap not (said_by_names xs x ∙ ap (λ (b : Bool). b && list_any (has_names x.was x.is) xs) none))

pub said_free : (set : NameSet) (xs : List Note) (x : Note) → names_types x ≡ false → AreSaid xs set → AreSaid (xs ++ x ∷ []) set
said_free set xs x none so_far was is =
    so_far was is ∙ sym (or_false (list_any (has_names was.items is.items) xs))
    ∙ sym (names_more xs x was.items is.items ∙ ap (λ (b : Bool). list_any (has_names was.items is.items) xs || (b && (bytes_eq x.was was.items && bytes_eq x.is is.items))) none)

-- a note that names its types
pub new_named : (set : NameSet) (xs : List Note) (x : Note) (was is : Vec ℕ Global) (new : Bool) → names_types x ≡ true → was.items ≡ x.was → is.items ≡ x.is
    → new ≡ not (has_said set was.items is.items) → AreSaid xs set → new ≡ not (is_said xs x)
new_named set xs x was is new named was_is is_is added so_far =
    added
    ∙ ap not (so_far was is ∙ ap (λ (w : List ℕ). list_any (has_names w is.items) xs) was_is ∙ ap (λ (i : List ℕ). list_any (has_names x.was i) xs) is_is
    ∙ sym (said_by_names xs x ∙ ap (λ (b : Bool). b && list_any (has_names x.was x.is) xs) named))

-- two names compare equal exactly to equal ones
equal_names : (was is w i : List ℕ) → is_eq (names_cmp was is w i) ≡ (bytes_eq was w && bytes_eq is i)
equal_names was is w i = sym (both_tied (bytes_eq was w) (bytes_eq is i) (slice_cmp nat_cmp was w) (slice_cmp nat_cmp is i) (sym (is_eq-slice_cmp was w)) (sym (is_eq-slice_cmp is i)))

pub said_named : (old new : NameSet) (xs : List Note) (x : Note) (was is : List ℕ) → names_types x ≡ true → was ≡ x.was → is ≡ x.is
    → ((w i : Vec ℕ Global) → has_said new w.items i.items ≡ cond (is_eq (names_cmp was is w.items i.items)) true (has_said old w.items i.items))
    → AreSaid xs old → AreSaid (xs ++ x ∷ []) new
said_named old new xs x was is named was_is is_is updates so_far w i =
    updates w i ∙ ap (λ (b : Bool). cond b true (has_said old w.items i.items)) (equal_names was is w.items i.items)
    ∙ ap (cond (bytes_eq was w.items && bytes_eq is i.items) true) (so_far w i)
    ∙ cond_or (bytes_eq was w.items && bytes_eq is i.items) (list_any (has_names w.items i.items) xs)
    ∙ ap (λ (l : List ℕ). list_any (has_names w.items i.items) xs || (bytes_eq l w.items && bytes_eq is i.items)) was_is
    ∙ ap (λ (l : List ℕ). list_any (has_names w.items i.items) xs || (bytes_eq x.was w.items && bytes_eq l i.items)) is_is
    ∙ sym (names_more xs x w.items i.items ∙ ap (λ (b : Bool). list_any (has_names w.items i.items) xs || (b && (bytes_eq x.was w.items && bytes_eq x.is i.items))) named)

-- ---- what is kept

pub said_start : (set : NameSet) → set.keys ≡ [] → AreSaid [] set
said_start set none was is = ap (list_any (λ (k : Vec ℕ Global × Vec ℕ Global). is_eq (names_cmp was.items is.items k.0.items k.1.items))) none

pub kept_start : said_once [] ≡ []
unfolding said_once
kept_start = refl

pub kept_new : (xs : List Note) (x : Note) (kept after : List Note) (new : Bool) → kept ≡ said_once xs → new ≡ not (is_said xs x) → new ≡ true → after ≡ kept ++ x ∷ []
    → after ≡ said_once (xs ++ x ∷ [])
kept_new xs x kept after new are is there grown =
    let unsaid : is_said xs x ≡ false = not_is_true (is_said xs x) (sym is ∙ there) in
    let here : kept_if_new xs (Some x) ≡ x ∷ [] = ap (λ (b : Bool). if b then [] else x ∷ []) unsaid in
    grown ∙ ap (λ (ns : List Note). ns ++ x ∷ []) are ∙ ap (λ (ns : List Note). said_once xs ++ ns) (sym here) ∙ sym (said_push xs x)

pub kept_old : (xs : List Note) (x : Note) (kept : List Note) (new : Bool) → kept ≡ said_once xs → new ≡ not (is_said xs x) → new ≡ false → kept ≡ said_once (xs ++ x ∷ [])
kept_old xs x kept new are is gone =
    let said : is_said xs x ≡ true = not_is_false (is_said xs x) (sym is ∙ gone) in
    let here : kept_if_new xs (Some x) ≡ [] = ap (λ (b : Bool). if b then [] else x ∷ []) said in
    are ∙ sym (said_push xs x ∙ ap (λ (ns : List Note). said_once xs ++ ns) here ∙ append-nil (said_once xs))

-- ---- what holds of the whole

one_after_another : (P : List Note → Type 0) → ((xs : List Note) (x : Note) → P xs → P (xs ++ x ∷ [])) → (ys xs : List Note) → P xs → P (xs ++ ys)
one_after_another P step [] xs so_far = subst P (sym (append-nil xs)) so_far
one_after_another P step (y ∷ ys) xs so_far = subst P (append_assoc xs (y ∷ []) ys) (one_after_another P step ys (xs ++ y ∷ []) (step xs y so_far))

-- the list with one more note
kept_push : (xs : List Note) (x : Note) → is_said xs x ≡ false → said_once (xs ++ x ∷ []) ≡ said_once xs ++ x ∷ []
kept_push xs x unsaid = sym (kept_new xs x (said_once xs) (said_once xs ++ x ∷ []) true refl (sym (ap not unsaid)) refl refl)

left_push : (xs : List Note) (x : Note) → is_said xs x ≡ true → said_once (xs ++ x ∷ []) ≡ said_once xs
left_push xs x said = sym (kept_old xs x (said_once xs) false refl (sym (ap not said)) refl)

is_said_push : (xs : List Note) (y x : Note) → is_said (xs ++ y ∷ []) x ≡ (is_said xs x || say_same x y)
is_said_push xs y x = list_any-append (say_same x) xs (y ∷ []) ∙ ap (λ (b : Bool). is_said xs x || b) (any_one (say_same x) y)

or_known : (a b : Bool) → (b ≡ true → a ≡ true) → a ≡ (a || b)
or_known true b implied = refl
or_known false true implied = implied refl
or_known false false implied = refl

-- notes that say the same are said by the same notes
same_said : (xs : List Note) (x y : Note) → say_same x y ≡ true → is_said xs y ≡ true → is_said xs x ≡ true
same_said xs x y same said =
    let x_names = and_is_true (names_types x) (has_names x.was x.is y) same in
    let y_names = and_is_true (names_types y) (bytes_eq y.was x.was && bytes_eq y.is x.is) x_names.1 in
    let names = and_is_true (bytes_eq y.was x.was) (bytes_eq y.is x.is) y_names.1 in
    let was : y.was ≡ x.was = (bytes_eq-Decides y.was x.was).0 names.0 in
    let is : y.is ≡ x.is = (bytes_eq-Decides y.is x.is).0 names.1 in
    said_by_names xs x ∙ ap (λ (b : Bool). b && list_any (has_names x.was x.is) xs) (x_names.0 ∙ sym y_names.0)
    ∙ ap (λ (w : List ℕ). names_types y && list_any (has_names w x.is) xs) (sym was) ∙ ap (λ (i : List ℕ). names_types y && list_any (has_names y.was i) xs) (sym is)
    ∙ sym (said_by_names xs y) ∙ said

pub said_by_kept : (x : Note) (notes : List Note) → is_said (said_once notes) x ≡ is_said notes x
said_by_kept x notes = one_after_another (λ (xs : List Note). is_said (said_once xs) x ≡ is_said xs x) step notes [] (ap (λ (ns : List Note). is_said ns x) kept_start)
  where
    step : (xs : List Note) (y : Note) → is_said (said_once xs) x ≡ is_said xs x → is_said (said_once (xs ++ y ∷ [])) x ≡ is_said (xs ++ y ∷ []) x
    step xs y so_far = elim (cases_Bool (is_said xs y)) [
      | inl said ↦ ap (λ (ns : List Note). is_said ns x) (left_push xs y said) ∙ so_far ∙ or_known (is_said xs x) (say_same x y) (λ same. same_said xs x y same said) ∙ sym (is_said_push xs y x)
      | inr unsaid ↦ ap (λ (ns : List Note). is_said ns x) (kept_push xs y unsaid) ∙ is_said_push (said_once xs) y x ∙ ap (λ (b : Bool). b || say_same x y) so_far ∙ sym (is_said_push xs y x)
    ]

names_if_said : (xs : List Note) (y : Note) → is_said xs y ≡ true → names_types y ≡ true
names_if_said xs y said = and_left_true (names_types y) (list_any (has_names y.was y.is) xs) (sym (said_by_names xs y) ∙ said)

pub others_kept : (notes : List Note) → filter names_none (said_once notes) ≡ filter names_none notes
others_kept notes = one_after_another (λ (xs : List Note). filter names_none (said_once xs) ≡ filter names_none xs) step notes [] (ap (filter names_none) kept_start)
  where
    step : (xs : List Note) (y : Note) → filter names_none (said_once xs) ≡ filter names_none xs → filter names_none (said_once (xs ++ y ∷ [])) ≡ filter names_none (xs ++ y ∷ [])
    step xs y so_far = elim (cases_Bool (is_said xs y)) [
      | inl said ↦
          let none : filter names_none (y ∷ []) ≡ [] = let named = names_if_said xs y said in rw named refl in
          ap (filter names_none) (left_push xs y said) ∙ so_far ∙ sym (filter-append names_none xs (y ∷ []) ∙ ap (λ (ns : List Note). filter names_none xs ++ ns) none ∙ append-nil (filter names_none xs))
      | inr unsaid ↦
          ap (filter names_none) (kept_push xs y unsaid) ∙ filter-append names_none (said_once xs) (y ∷ []) ∙ ap (λ (ns : List Note). ns ++ filter names_none (y ∷ [])) so_far ∙ sym (filter-append names_none xs (y ∷ []))
    ]

AreOnce : List Note → Type 0
AreOnce ks = (n : ℕ) (a : Note) → slice_get ks n ≡ Some a → is_said (take n ks) a ≡ false

once_push : (ks : List Note) (x : Note) → is_said ks x ≡ false → AreOnce ks → AreOnce (ks ++ x ∷ [])
unfolding AreOnce
once_push ks x unsaid once n a at = elim (cases_lt n (length ks)) [
  | inl front ↦ ap (λ (ns : List Note). is_said ns a) (take-append-le n ks (x ∷ []) (omega (arith, front))) ∙ once n a (sym (slice_get-before ks (x ∷ []) n front) ∙ at)
  | inr back ↦
      let last : n ≡ length ks = let inside = slice_get_within (ks ++ x ∷ []) n a at in omega (arith, back, inside, length_push ks x) in
      let same : x ≡ a = let here = sym (slice_get_last ks x) ∙ ap (slice_get (ks ++ x ∷ [])) (sym last) ∙ at in cc in
      let all : take n (ks ++ x ∷ []) ≡ ks = ap (λ m. take m (ks ++ x ∷ [])) last ∙ take-append-le (length ks) ks (x ∷ []) (omega arith) ∙ take_all (length ks) ks (omega arith) in
      ap (λ (ns : List Note). is_said ns a) all ∙ ap (is_said ks) (sym same) ∙ unsaid
]

pub kept_once : (notes : List Note) (n : ℕ) (a : Note) → slice_get (said_once notes) n ≡ Some a → is_said (take n (said_once notes)) a ≡ false
unfolding AreOnce
kept_once notes = one_after_another (λ (xs : List Note). AreOnce (said_once xs)) step notes [] (subst AreOnce (sym kept_start) (λ n a at. absurd cc))
  where
    step : (xs : List Note) (y : Note) → AreOnce (said_once xs) → AreOnce (said_once (xs ++ y ∷ []))
    step xs y once = elim (cases_Bool (is_said xs y)) [
      | inl said ↦ subst AreOnce (sym (left_push xs y said)) once
      | inr unsaid ↦ subst AreOnce (sym (kept_push xs y unsaid)) (once_push (said_once xs) y (said_by_kept y xs ∙ unsaid) once)
    ]
