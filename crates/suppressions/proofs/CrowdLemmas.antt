-- Handles that stand together in their order, and sections that are found by one handle.
use Rattle.std.proofs.Common.{◌≡◌, ◌<◌, ◌≤◌, ℕ, suc, ◌+◌, ◌-◌, Bool, true, false, cond, List, [], ◌∷◌, length, take, drop, get_or, map, Option, ◌*◌, refl, sym, ◌∙◌, ap, subst, inl, inr, arith}
use Rattle.std.specs.Prelude.{◌==◌, not, count_by, sum_by}
use Rattle.std.specs.List.{filter, list_any, range_with_len}
use Rattle.std.specs.Ordering.{is_eq, is_lt, is_gt}
use Rattle.std.specs.declared.cmp.Ordering.{Ordering}
use Rattle.std.specs.declared.cmp.Ordering.TheVariants.{Less, Equal, Greater}
use Rattle.std.proofs.lemmas.Bool.{cases_Bool, eq-eqb}
use Rattle.std.proofs.lemmas.List.{get_or-drop, get_or-take, length-take-le, length-drop}
use Rattle.std.proofs.lemmas.List.FromFn.{fill_by_all}
use Rattle.std.proofs.lemmas.List.Sorted.{sorted_far, sum_by-IsPermutation}
use Rattle.std.proofs.lemmas.List.Sums.{sum_by-take-le, sum_by-take-drop, sum_by-cons}
use Rattle.std.proofs.lemmas.Slice.Eq.{bytes_eq-Decides}
use Rattle.abi_base.specs.declared.fault.NoMemory.{NoMemory}
use Rattle.abi_base.specs.declared.fault.NoMemory.TheVariants.{Allocation, Past}
use Rattle.abi_base.specs.declared.limit.Limit.{Limit}
use Rattle.abi_base.specs.declared.limit.Limit.TheVariants.{BlockSections, PatternLetters, Patterns, Soname}
use Rattle.abi_base.specs.Budgets.{allowed}
use Rattle.abi_base.specs.Outcome.{OnLimit}
use Rattle.abi_base.proofs.lemmas.Outcomes.{on_limit_weaker}
use Rattle.abi_base.proofs.lemmas.Orders.{le_from_not_gt, equal_between}
use Rattle.abi_types.specs.Libraries.{PlainLibrary}
use Rattle.suppression_text.specs.Rules.{PlainRules, PlainSection}
use Rattle.suppressions.specs.Handles.{PlainHandle, handle_cmp, handle_at, handle_of, handles_of, place_cmp, IsHandleOrder}
use Rattle.suppressions.specs.Limits.{handles_allowed, is_handle, handle_count, is_found_by, IsCrowded, IsCrowdedBy, MarksPass, PassesCompiled, PassesHandles}
use Rattle.suppressions.specs.Names.{asks_names, chosen, some_ask}
use Rattle.suppressions.specs.Weights.{letters_allowed, letters_of, text_length, weight_allowed, weight_of}
use Rattle.suppressions.proofs.HandleLemmas.{one_handle, place_weak, rise}

-- ---- counting

sum_by_map : {X A : Type 0} (view : X → A) (cost : A → ℕ) (items : List X) → sum_by cost (map view items) ≡ sum_by (λ x. cost (view x)) items
sum_by_map view cost [] = refl
sum_by_map view cost (x ∷ xs) =
    sum_by-cons cost (view x) (map view xs) ∙ ap (λ (n : ℕ). cost (view x) + n) (sum_by_map view cost xs) ∙ sym (sum_by-cons (λ y. cost (view y)) x xs)

-- where all items pass a test, they are counted
all_count : {X : Type 0} (p : X → Bool) (xs : List X) (d : X) → ((i : ℕ) → i < length xs → p (get_or xs i d) ≡ true) → count_by p xs ≡ length xs
all_count p [] d all = refl
all_count p (x ∷ xs) d all =
    let here : p x ≡ true = all 0 (omega arith) in
    let rest : count_by p xs ≡ length xs = all_count p xs d (λ i lt. all (suc i) (omega (arith, lt))) in
    let one : ◌≡◌ {A = ℕ} (cond (p x) 1 0) 1 = ap (λ (b : Bool). cond b 1 0) here in
    omega (arith, sum_by-cons (λ y. cond (p y) 1 0) x xs, rest, one)

-- a part counts at most the whole
pub part_count : {X : Type 0} (p : X → Bool) (xs : List X) (start many : ℕ) → count_by p (take many (drop start xs)) ≤ count_by p xs
part_count p xs start many =
    omega (arith, sum_by-take-le (λ x. cond (p x) 1 0) (drop start xs) many, sum_by-take-drop (λ x. cond (p x) 1 0) xs start)

-- ---- handles in their order

same_handle : (x y : PlainHandle) → x ≡ y → is_handle x y ≡ true
same_handle x y e = subst (λ (h : PlainHandle). is_handle x h ≡ true) e (rw (number x.0, (bytes_eq-Decides x.1 x.1).1 refl) refl)
  where
    number : (n : ℕ) → (n == n) ≡ true
    number n = eq-eqb n n refl

module _ (handles : List PlainHandle) (places : List ℕ) (order : IsHandleOrder places handles) (most at d : ℕ) (from : most ≤ at) (inside : at < length places) where
  abbrev low : ℕ
  low = get_or places (at - most) d

  abbrev high : ℕ
  high = get_or places at d

  abbrev top : PlainHandle
  top = handle_at handles high

  abbrev part : List ℕ
  part = take (most + 1) (drop (at - most) places)

  part_len : length part ≡ most + 1
  part_len = length-take-le (most + 1) (drop (at - most) places) (omega (arith, length-drop (at - most) places, from, inside))

  -- the handles between two equal ones are equal to them
  between : place_cmp handles low high ≡ Equal → (i : ℕ) → i < most + 1 → handle_at handles (get_or places (at - most + i) d) ≡ top
  between same i lt =
      let mid = handle_at handles (get_or places (at - most + i) d) in
      let is_low : handle_at handles low ≡ top = one_handle (handle_at handles low) top same in
      let below : is_lt (handle_cmp mid (handle_at handles low)) ≡ false =
      sorted_far (λ (x y : ℕ). is_lt (place_cmp handles x y)) (place_weak handles) places order.rises (at - most) (at - most + i) d (omega arith) (omega (arith, from, inside, lt)) in
      let not_less : is_lt (handle_cmp mid top) ≡ false = ap (λ (h : PlainHandle). is_lt (handle_cmp mid h)) (sym is_low) ∙ below in
      let not_above : is_gt (handle_cmp mid top) ≡ false = rise handles places top order (at - most + i) at d (omega (arith, from, lt)) inside in
      one_handle mid top (equal_between (handle_cmp mid top) not_less (le_from_not_gt (handle_cmp mid top) not_above))

  counted : place_cmp handles low high ≡ Equal → count_by (λ k. is_handle top (handle_at handles k)) part ≡ most + 1
  counted same =
      all_count (λ k. is_handle top (handle_at handles k)) part d
      (λ i lt.
      let here : get_or part i d ≡ get_or places (at - most + i) d = get_or-take (most + 1) (drop (at - most) places) i d (omega (arith, lt, part_len)) ∙ get_or-drop (at - most) places i d in
      same_handle top (handle_at handles (get_or part i d)) (sym (ap (handle_at handles) here ∙ between same i (omega (arith, lt, part_len)))))
      ∙ part_len

  -- by positions, in order or not, as many handles are found
  by_places : handle_count top handles ≡ count_by (λ k. is_handle top (handle_at handles k)) places
  by_places =
      ap (λ (hs : List PlainHandle). handle_count top hs) (fill_by_all (handle_at handles) handles (length handles) (0, []) refl (λ k lt. refl))
      ∙ sum_by_map (handle_at handles) (λ h. cond (is_handle top h) 1 0) (range_with_len 0 (length handles))
      ∙ sym (sum_by-IsPermutation (λ k. cond (is_handle top (handle_at handles k)) 1 0) (range_with_len 0 (length handles)) places order.all)

  crowded : place_cmp handles low high ≡ Equal → IsCrowdedBy most handles
  crowded same = (top, omega (arith, by_places, counted same, part_count (λ k. is_handle top (handle_at handles k)) places (at - most) (most + 1)))

equal_is : (o : Ordering) → is_eq o ≡ true → o ≡ Equal
equal_is Less e = cc
equal_is Equal e = refl
equal_is Greater e = cc

pub crowded_at : (handles : List PlainHandle) (places : List ℕ) → IsHandleOrder places handles → (most at d : ℕ) → most ≤ at → at < length places → (o : Ordering) (is : Bool)
    → o ≡ place_cmp handles (get_or places (at - most) d) (get_or places at d) → is ≡ is_eq o → is ≡ true → IsCrowdedBy most handles
crowded_at handles places order most at d from inside o is compared equal holds = crowded handles places order most at d from inside (sym compared ∙ equal_is o (sym equal ∙ holds))

-- ---- sections

found_here : (handle : PlainHandle) (s : PlainSection) (sections : List PlainSection) (asks : Bool) → asks_names s ≡ asks → handle_count handle (handles_of (filter asks_names sections)) ≡ count_by (is_found_by handle) sections
    → handle_count handle (handles_of (filter asks_names (s ∷ sections))) ≡ count_by (is_found_by handle) (s ∷ sections)
found_here handle s sections true is rest =
    let found : is_found_by handle s ≡ is_handle handle (handle_of s) = rw is refl in
    let kept : filter asks_names (s ∷ sections) ≡ s ∷ filter asks_names sections = rw is refl in
    ap (λ (l : List PlainSection). handle_count handle (handles_of l)) kept
    ∙ sum_by-cons (λ (h : PlainHandle). cond (is_handle handle h) 1 0) (handle_of s) (handles_of (filter asks_names sections))
    ∙ ap (λ (n : ℕ). cond (is_handle handle (handle_of s)) 1 0 + n) rest
    ∙ ap (λ (b : Bool). cond b 1 0 + count_by (is_found_by handle) sections) (sym found)
    ∙ sym (sum_by-cons (λ (t : PlainSection). cond (is_found_by handle t) 1 0) s sections)
found_here handle s sections false is rest =
    let found : is_found_by handle s ≡ false = rw is refl in
    let kept : filter asks_names (s ∷ sections) ≡ filter asks_names sections = rw is refl in
    let none : count_by (is_found_by handle) sections ≡ 0 + count_by (is_found_by handle) sections = omega arith in
    ap (λ (l : List PlainSection). handle_count handle (handles_of l)) kept
    ∙ rest
    ∙ none
    ∙ ap (λ (b : Bool). cond b 1 0 + count_by (is_found_by handle) sections) (sym found)
    ∙ sym (sum_by-cons (λ (t : PlainSection). cond (is_found_by handle t) 1 0) s sections)

found_chosen : (handle : PlainHandle) (sections : List PlainSection) → handle_count handle (handles_of (filter asks_names sections)) ≡ count_by (is_found_by handle) sections
found_chosen handle [] = refl
found_chosen handle (s ∷ sections) = found_here handle s sections (asks_names s) refl (found_chosen handle sections)

none_asks : (sections : List PlainSection) → list_any asks_names (filter (λ s. not (asks_names s)) sections) ≡ false
none_asks [] = refl
none_asks (s ∷ sections) = elim (cases_Bool (asks_names s)) [
  | inl asks ↦ rw asks (none_asks sections)
  | inr other ↦ rw other (rw other (none_asks sections))
]

-- where chosen sections are too many for one handle, so are those that test names
chosen_crowded : (asking : Bool) (sections : List PlainSection) → some_ask (chosen asking sections) ≡ true → IsCrowded (handles_of (chosen asking sections)) → (handle : PlainHandle) × (handles_allowed < count_by (is_found_by handle) sections)
unfolding chosen
chosen_crowded true sections asks crowd = (crowd.0, omega (arith, crowd.1, found_chosen crowd.0 sections))
chosen_crowded false sections asks crowd =
    let both : true ≡ false = sym asks ∙ none_asks sections in
    cc

-- out of memory passes no limit
pub memory_passes : (e : NoMemory) (P : Limit → Type 0) → e ≡ Allocation → OnLimit e P
memory_passes e P is = rw is tt

-- a block of sections that passes the limit is of sections that pass it
pub front_passes : (e : NoMemory) (sections : List PlainSection) (end : ℕ) → OnLimit e (PassesHandles (take end sections)) → OnLimit e (PassesHandles sections)
front_passes e sections end h =
    on_limit_weaker e (PassesHandles (take end sections)) (PassesHandles sections)
    (λ l p. (p.0, (p.1.0, omega (arith, p.1.1, sum_by-take-le (λ s. cond (is_found_by p.1.0 s) 1 0) sections end)))) h

pub part_passes : (e : NoMemory) (sections : List PlainSection) (start many : ℕ) → OnLimit e (PassesHandles (take many (drop start sections))) → OnLimit e (PassesHandles sections)
part_passes e sections start many h =
    on_limit_weaker e (PassesHandles (take many (drop start sections))) (PassesHandles sections)
    (λ l p. (p.0, (p.1.0, omega (arith, p.1.1, part_count (is_found_by p.1.0) sections start many)))) h

-- the same of chosen sections
pub chosen_pass : (e : NoMemory) (asking : Bool) (sections compiled : List PlainSection) → compiled ≡ chosen asking sections → OnLimit e (PassesCompiled compiled) → OnLimit e (PassesHandles sections)
chosen_pass e asking sections compiled is h =
    on_limit_weaker e (PassesCompiled compiled) (PassesHandles sections)
    (λ l p. (p.0, chosen_crowded asking sections (ap some_ask (sym is) ∙ p.1.0) (subst (λ (c : List PlainSection). IsCrowded (handles_of c)) is p.1.1))) h

-- ---- the marks of a library

pub soname_passes : (rules : PlainRules) (old : PlainLibrary) (e : NoMemory) (soname : Option (List ℕ)) → soname ≡ old.soname → e ≡ Past Soname → allowed Soname 0 < text_length soname → OnLimit e (MarksPass rules old)
soname_passes rules old e soname same is above = rw is (subst (λ (o : Option (List ℕ)). allowed Soname 0 < text_length o) same above)

pub weight_passes : (rules : PlainRules) (old : PlainLibrary) (e : NoMemory) (sections : List PlainSection) → sections ≡ rules.sections → e ≡ Past Patterns → weight_allowed < weight_of sections → OnLimit e (MarksPass rules old)
weight_passes rules old e sections same is above = rw is (subst (λ (ss : List PlainSection). weight_allowed < weight_of ss) same above)

pub letters_pass : (rules : PlainRules) (old : PlainLibrary) (e : NoMemory) (sections : List PlainSection) → sections ≡ rules.sections → e ≡ Past PatternLetters
    → letters_allowed old < letters_of old * weight_of sections → OnLimit e (MarksPass rules old)
letters_pass rules old e sections same is above = rw is (subst (λ (ss : List PlainSection). letters_allowed old < letters_of old * weight_of ss) same above)

pub handles_pass : (rules : PlainRules) (old : PlainLibrary) (e : NoMemory) (sections : List PlainSection) → sections ≡ rules.sections → OnLimit e (PassesHandles sections) → OnLimit e (MarksPass rules old)
handles_pass rules old e sections same h =
    on_limit_weaker e (PassesHandles sections) (MarksPass rules old)
    (λ l p. subst (MarksPass rules old) (sym p.0) (subst (λ (ss : List PlainSection). PassesHandles ss BlockSections) same (refl, p.1))) h
