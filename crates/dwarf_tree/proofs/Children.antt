-- The children of an entry, one after the other.
use Rattle.std.proofs.Common.{◌≡◌, ◌≢◌, ◌∙◌, ℕ, zero, suc, ◌+◌, ◌<◌, ◌≤◌, Bool, true, false, List, length, get_or, Option, Some, None, refl, sym, ap, arith, inl, inr}
use Rattle.std.specs.Prelude.{◌==◌, find, filter, All, Contains, slice_get}
use Rattle.std.specs.List.{range_with_len, position_or_len}
use Rattle.std.specs.Option.{ForSome}
use Rattle.std.proofs.lemmas.Bool.{cases_Bool, cases_lt, eq-eqb, eqb-true, lt-ltb, ltb-true, ne_eqb}
use Rattle.std.proofs.lemmas.List.Elements.{All-filter, All-contains, filter_passes}
use Rattle.std.proofs.lemmas.List.Folds.{find_at}
use Rattle.std.proofs.lemmas.List.Sums.{passes_at_first}
use Rattle.std.proofs.lemmas.Option.{same_Some, slice_get_within, get_or_from_slice_get}
use Rattle.std.proofs.lemmas.List.FromFn.{length-range_with_len, get_or-range_with_len}
use Rattle.dwarf_tree.specs.Trees.{PlainTree, depth_at, count_below, children_of, next_child_of, is_after}
use Rattle.dwarf_tree.specs.Keeping.{IsChild, LooksFrom, end_below}
use Rattle.dwarf_tree.proofs.Below.{below_is}

-- ---- the first number that passes two tests

found : (p q : ℕ → Bool) (a n r : ℕ) → a ≤ r → r < a + n → p r ≡ true → q r ≡ true → ((i : ℕ) → a ≤ i → i < r → p i ≡ true → q i ≡ false)
    → find q (filter p (range_with_len a n)) ≡ Some r
found p q a zero r from below pr qr before = absurd (omega arith)
found p q a (suc n) r from below pr qr before =
    elim (cases_lt a r) [
      | inl lt ↦
          let later = found p q (a + 1) n r (omega arith) (omega arith) pr qr (λ i le less passes. before i (omega arith) less passes) in
          elim (cases_Bool (p a)) [
            | inl passes ↦ let fails = before a (omega arith) lt passes in rw (passes, fails) later
            | inr fails ↦ rw fails later
          ]
      | inr ge ↦
          let same : a ≡ r = omega arith in
          let pa : p a ≡ true = ap p same ∙ pr in
          let qa : q a ≡ true = ap q same ∙ qr in
          rw (pa, qa) (ap (λ (i : ℕ). Some i) same)
    ]

none_found : (p q : ℕ → Bool) (a n : ℕ) → ((i : ℕ) → a ≤ i → i < a + n → p i ≡ true → q i ≡ false) → find q (filter p (range_with_len a n)) ≡ None
none_found p q a zero fails = refl
none_found p q a (suc n) fails =
    let later = none_found p q (a + 1) n (λ i from below passes. fails i (omega arith) (omega arith) passes) in
    elim (cases_Bool (p a)) [
      | inl passes ↦ let other = fails a (omega arith) (omega arith) passes in rw (passes, other) later
      | inr other ↦ rw other later
    ]

in_range : (a n : ℕ) → All (λ (i : ℕ). (a ≤ i) × (i < a + n)) (range_with_len a n)
in_range a n k d inside =
    let below : k < n = omega (arith, length-range_with_len a n) in
    let here : get_or (range_with_len a n) k d ≡ a + k = get_or-range_with_len a n k d below in
    rw here (omega arith, omega arith)

-- what is found is in the list, and passes
found_there : (q : ℕ → Bool) (xs : List ℕ) (x : ℕ) → find q xs ≡ Some x → Contains xs x × (q x ≡ true)
found_there q xs x is =
    let place = position_or_len q xs in
    let there : slice_get xs place ≡ Some x = sym (find_at q xs) ∙ is in
    let inside = slice_get_within xs place x there in
    let same : get_or xs place x ≡ x = get_or_from_slice_get xs place x x there in
    ((place, inside, same), rw same at (passes_at_first q xs x inside))

-- a number that passes is kept
pub filtered_there : (p : ℕ → Bool) (a n i : ℕ) → a ≤ i → i < a + n → p i ≡ true → Contains (filter p (range_with_len a n)) i
filtered_there p a n i from below passes =
    (found_there (λ k. k == i) (filter p (range_with_len a n)) i (found p (λ k. k == i) a n i from below passes (eq-eqb i i refl) (λ k on before kept. ne_eqb k i (λ same. absurd (omega arith))))).0

-- ---- children

abbrev is_child_deep : PlainTree → ℕ → ℕ → Bool
is_child_deep t e i = depth_at t i == depth_at t e + 1

pub child_is : (t : PlainTree) (e child : ℕ) → Contains (children_of t e) child → IsChild t e child
unfolding children_of
child_is t e child has =
    let range = range_with_len (e + 1) (count_below t e) in
    let all : All (λ (i : ℕ). IsChild t e i) (filter (is_child_deep t e) range) = λ k d below.
    let placed = All-filter (is_child_deep t e) (λ (i : ℕ). (e + 1 ≤ i) × (i < e + 1 + count_below t e)) range (in_range (e + 1) (count_below t e)) k d below in
    let deep = filter_passes (is_child_deep t e) range k d below in
    record {
      after = omega (arith, placed.0);
      before = placed.1;
      deep = eqb-true (depth_at t (get_or (filter (is_child_deep t e) range) k d)) (depth_at t e + 1) deep;
    } in
    All-contains (λ (i : ℕ). IsChild t e i) (filter (is_child_deep t e) range) child all has

pub child_inside : (t : PlainTree) (e : ℕ) → e < length t.entries → (child : ℕ) → Contains (children_of t e) child → child < length t.entries
child_inside t e inside child has = let is = child_is t e child has in omega (arith, is.before, (below_is t e inside).inside)

-- ---- the next child, by the end of the entries below an entry

is_early : (after : Option ℕ) (i : ℕ) → (is_after after i ≡ true → ⊥) → is_after after i ≡ false
is_early after i not = elim (cases_Bool (is_after after i)) [ inl late ↦ absurd (not late) | inr early ↦ early ]

module _ (t : PlainTree) (e : ℕ) (inside : e < length t.entries) where
  -- no entry below an entry that is deeper than another one is a child of that one
  none_between : (place i : ℕ) → e < place → place < end_below t e → IsChild t e i → place < i → end_below t place ≤ i
  none_between place i behind before is after =
      elim (cases_lt i (end_below t place)) [
        | inl below ↦
            let here = (below_is t e inside).deeper place behind before in
            let deeper = (below_is t place (omega (arith, before, (below_is t e inside).inside))).deeper i after below in
            absurd (omega (arith, here, deeper, is.deep))
        | inr le ↦ le
      ]

  pub looks_at_first : LooksFrom t e None (e + 1)
  looks_at_first = record { behind = omega arith; later = λ more. refl; passed = λ i is after. omega (arith, is.after) }

  pub looks_at_first_after : (place : ℕ) → place ≤ e → LooksFrom t e (Some place) (e + 1)
  looks_at_first_after place before = record { behind = omega arith; later = λ more. lt-ltb place (e + 1) (omega arith); passed = λ i is after. omega (arith, is.after) }

  pub looks_behind : (place : ℕ) → e < place → place < end_below t e → LooksFrom t e (Some place) (end_below t place)
  looks_behind place behind before = record {
    behind = omega (arith, behind);
    later = λ more. lt-ltb place (end_below t place) (omega arith);
    passed = λ i is after. none_between place i behind before is (ltb-true place i after);
  }

  pub looks_past : (place : ℕ) → end_below t e ≤ place → LooksFrom t e (Some place) (end_below t e)
  looks_past place past = record {
    behind = omega arith;
    later = λ more. absurd (omega (arith, more));
    passed = λ i is after. absurd (omega (arith, is.before, past, ltb-true place i after));
  }

  -- an entry that is no child is skipped, with the entries below it
  pub looks_on : (after : Option ℕ) (next : ℕ) → LooksFrom t e after next → next < end_below t e → depth_at t next ≢ depth_at t e + 1 → LooksFrom t e after (end_below t next)
  looks_on after next from before other = record {
    behind = omega (arith, from.behind);
    later = λ more. after_more after next (end_below t next) (omega arith) (from.later before);
    passed = λ i is late.
        let le = from.passed i is late in
        let apart : next ≢ i = λ same. other (ap (λ (n : ℕ). depth_at t n) same ∙ is.deep) in
        none_between next i from.behind before is (omega (arith, le, apart));
  }
    where
      after_more : (after : Option ℕ) (a b : ℕ) → a ≤ b → is_after after a ≡ true → is_after after b ≡ true
      after_more None a b le is = refl
      after_more (Some place) a b le is = lt-ltb place b (omega (arith, le, ltb-true place a is))

  deep_is_child : (i : ℕ) → e + 1 ≤ i → i < end_below t e → is_child_deep t e i ≡ true → IsChild t e i
  deep_is_child i on below passes = record { after = omega arith; before = below; deep = eqb-true (depth_at t i) (depth_at t e + 1) passes }

  -- an entry one deeper than the parent is the next child
  pub next_some : (after : Option ℕ) (next : ℕ) → LooksFrom t e after next → next < end_below t e → depth_at t next ≡ depth_at t e + 1 → Some next ≡ next_child_of t e after
  unfolding children_of
  next_some after next from before deep =
      sym (found (is_child_deep t e) (is_after after) (e + 1) (count_below t e) next (omega (arith, from.behind)) before (eq-eqb (depth_at t next) (depth_at t e + 1) deep) (from.later before)
      (λ i on less passes. is_early after i (λ late. omega (arith, less, from.passed i (deep_is_child i on (omega (arith, less, before)) passes) late))))

  -- there is none at the end of the entries below the parent
  pub next_none : (after : Option ℕ) (next : ℕ) → LooksFrom t e after next → end_below t e ≤ next → None ≡ next_child_of t e after
  unfolding children_of
  next_none after next from none =
      sym (none_found (is_child_deep t e) (is_after after) (e + 1) (count_below t e)
      (λ i on below passes. is_early after i (λ late. omega (arith, none, below, from.passed i (deep_is_child i on below passes) late))))

-- what is found is a child, after the position
pub next_is_child : (t : PlainTree) (e : ℕ) (after : Option ℕ) (next : ℕ) → Some next ≡ next_child_of t e after → Contains (children_of t e) next
next_is_child t e after next is = (found_there (is_after after) (children_of t e) next (sym is)).0

pub next_is_later : (t : PlainTree) (e : ℕ) (after : Option ℕ) (next : ℕ) → Some next ≡ next_child_of t e after → ForSome after (λ place. place < next)
next_is_later t e None next is place same = absurd cc
next_is_later t e (Some before) next is place same =
    let later = ltb-true before next (found_there (is_after (Some before)) (children_of t e) next (sym is)).1 in
    omega (arith, later, same_Some before place same)
