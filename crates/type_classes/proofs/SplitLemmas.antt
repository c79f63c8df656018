-- Classes after one run of pairs of a key, and after all.
use Rattle.std.proofs.Common.{◌≡◌, ◌+◌, ◌-◌, ◌<◌, ◌≤◌, ℕ, zero, suc, eqb, Bool, true, false, ◌||◌, ◌&&◌, inl, inr, List, length, take, refl, sym, ◌∙◌, ap, arith, subst}
use Rattle.std.specs.List.Sorted.{IsNonDecreasingBy}
use Rattle.std.proofs.lemmas.Bool.{cases_eq, cases_lt}
use Rattle.std.proofs.lemmas.Bool.Decides.{nat_tests}
use Rattle.std.proofs.lemmas.List.{take_all}
use Rattle.std.proofs.lemmas.List.Folds.{list_any_more}
use Rattle.type_classes.specs.declared.blocks.Blocks.{Blocks}
use Rattle.type_classes.specs.Blocks.{class_in, is_marked, AreBlocks, ListsMarks, HasNoMarks, KeepsTogether}
use Rattle.type_classes.specs.Splits.{key_of, key_at, number_at, stands_beside, IsMarkedRun, IsSplitBy}

-- ---- who stands beside a key

pub beside_more : (pairs : List (ℕ × ℕ)) (i key x : ℕ) → i < length pairs → stands_beside (take (i + 1) pairs) key x ≡ (stands_beside (take i pairs) key x || (eqb (key_at pairs i) key && eqb (number_at pairs i) x))
unfolding stands_beside
beside_more pairs i key x inside = list_any_more (λ (pair : ℕ × ℕ). eqb pair.0 key && eqb pair.1 x) pairs i (0, 0) inside

pub beside_none : (key x : ℕ) (pairs : List (ℕ × ℕ)) → stands_beside (take 0 pairs) key x ≡ false
unfolding stands_beside
beside_none key x pairs = refl

no_key : (m n key number x : ℕ) (b : Bool) → (m ≡ key → ⊥) → (b || (eqb m key && eqb number x)) ≡ b
no_key m n key number x true ne = refl
no_key m n key number x false ne = grind (arith, nat_tests)

-- pairs of other keys change nothing
pub beside_skipped : (pairs : List (ℕ × ℕ)) (from more key x : ℕ) → from + more ≤ length pairs → ((i : ℕ) → from ≤ i → i < from + more → key_at pairs i ≡ key → ⊥) → stands_beside (take (from + more) pairs) key x ≡ stands_beside (take from pairs) key x
beside_skipped pairs from zero key x inside others = let e : from + 0 ≡ from = omega arith in ap (λ (n : ℕ). stands_beside (take n pairs) key x) e
beside_skipped pairs from (suc more) key x inside others =
    let e : from + suc more ≡ (from + more) + 1 = omega arith in
    ap (λ (n : ℕ). stands_beside (take n pairs) key x) e
    ∙ beside_more pairs (from + more) key x (omega arith)
    ∙ no_key (key_at pairs (from + more)) 0 key (number_at pairs (from + more)) x (stands_beside (take (from + more) pairs) key x) (others (from + more) (omega arith) (omega arith))
    ∙ beside_skipped pairs from more key x (omega arith) (λ i low high. others i low (omega arith))

-- up to a position
beside_until : (pairs : List (ℕ × ℕ)) (from next key x : ℕ) → from ≤ next → next ≤ length pairs → ((i : ℕ) → from ≤ i → i < next → key_at pairs i ≡ key → ⊥) → stands_beside (take next pairs) key x ≡ stands_beside (take from pairs) key x
beside_until pairs from next key x le inside others =
    let e : next ≡ from + (next - from) = omega arith in
    ap (λ (n : ℕ). stands_beside (take n pairs) key x) e ∙ beside_skipped pairs from (next - from) key x (omega arith) (λ i low high. others i low (omega arith))

-- keys of pairs before a position are lower than those from there on
pub AreParted : List (ℕ × ℕ) → ℕ → Type 0
AreParted pairs i = (j l : ℕ) → j < i → i ≤ l → l < length pairs → key_at pairs j < key_at pairs l

pub parted_start : (pairs : List (ℕ × ℕ)) → AreParted pairs 0
unfolding AreParted
parted_start pairs j l below ge inside = absurd (omega arith)

pub fresh_key : (pairs : List (ℕ × ℕ)) (from : ℕ) → AreParted pairs from → from < length pairs → (x : ℕ) → stands_beside (take from pairs) (key_at pairs from) x ≡ false
unfolding AreParted
fresh_key pairs from parted inside x =
    beside_until pairs 0 from (key_at pairs from) x (omega arith) (omega arith) (λ i low high e. let u = parted i from high (omega arith) inside in omega arith)
    ∙ beside_none (key_at pairs from) x pairs

pub parted_next : (old new : Blocks) (pairs : List (ℕ × ℕ)) (from next : ℕ) → IsNonDecreasingBy key_of pairs → AreParted pairs from → IsMarkedRun old new pairs from next → AreParted pairs next
unfolding AreParted
parted_next old new pairs from next rising parted marked j l below ge inside =
    let step : key_at pairs next ≤ key_at pairs l = rising next l (0, 0) ge inside in
    let ends = marked.ends (omega arith) in
    let more = marked.more in
    let up : key_at pairs from ≤ key_at pairs next = rising from next (0, 0) (omega arith) (omega arith) in
    elim (cases_lt j from) [
      | inl lt ↦ let u = parted j from lt (omega arith) (omega arith) in omega arith
      | inr from_on ↦ let u = marked.run j from_on below in omega arith
    ]

-- ---- one mark more in a run

pub marked_more : (pairs : List (ℕ × ℕ)) (i key x number : ℕ) (before after : Bool) → i < length pairs → key_at pairs i ≡ key → number_at pairs i ≡ number → before ≡ stands_beside (take i pairs) key x → after ≡ (before || eqb x number) → after ≡ stands_beside (take (i + 1) pairs) key x
marked_more pairs i key x number before after inside of_key is so_far now =
    let test : eqb x number ≡ (eqb (key_at pairs i) key && eqb (number_at pairs i) x) = grind (arith, nat_tests) in
    now ∙ ap (λ (b : Bool). b || eqb x number) so_far ∙ ap (λ (b : Bool). stands_beside (take i pairs) key x || b) test ∙ sym (beside_more pairs i key x inside)

-- ---- one run

pub IsSplitBy-start : (b : Blocks) (pairs : List (ℕ × ℕ)) → AreBlocks b → ListsMarks b → HasNoMarks b → IsSplitBy b b (take 0 pairs)
IsSplitBy-start b pairs blocks listed unmarked = record {
  blocks = blocks;
  listed = listed;
  unmarked = unmarked;
  len = refl;
  count = omega arith;
  classes = λ x y x_in y_in. (λ e. (e, λ key. beside_none key x pairs ∙ sym (beside_none key y pairs)), λ both. both.0);
  origin = λ c. c;
  origins = λ x x_in. refl;
  own_origins = λ c c_in. refl;
}

-- a number stands beside another key as before the run
beside_other : (old new : Blocks) (pairs : List (ℕ × ℕ)) (from next key x : ℕ) → IsMarkedRun old new pairs from next → (key ≡ key_at pairs from → ⊥) → stands_beside (take next pairs) key x ≡ stands_beside (take from pairs) key x
beside_other old new pairs from next key x marked ne =
    beside_until pairs from next key x (let u = marked.more in omega arith) marked.inside (λ i low high e. ne (sym e ∙ marked.run i low high))

pub IsSplitBy-more : (start before marked after : Blocks) (pairs : List (ℕ × ℕ)) (from next : ℕ) → AreParted pairs from → from < length pairs → IsSplitBy start before (take from pairs) → IsMarkedRun before marked pairs from next
    → AreBlocks after → ListsMarks after → HasNoMarks after → KeepsTogether marked after → IsSplitBy start after (take next pairs)
IsSplitBy-more start before marked after pairs from next parted inside so_far run blocks listed unmarked keeps =
    let l1 = so_far.len in
    let l2 = run.len in
    let l3 = keeps.len in
    let key : ℕ = key_at pairs from in
    let fresh = fresh_key pairs from parted inside in
    record {
      blocks = blocks;
      listed = listed;
      unmarked = unmarked;
      len = omega arith;
      count = let a = so_far.count in let b = run.count in let c = keeps.count in omega arith;
      classes = λ x y x_in y_in.
          let (together, apart) = keeps.together x y (omega arith) (omega arith) in
          let (classes, back) = so_far.classes x y x_in y_in in
          let none : is_marked after x ≡ is_marked after y = unmarked x (omega arith) ∙ sym (unmarked y (omega arith)) in
          let mark_x = run.marks x (omega arith) in
          let mark_y = run.marks y (omega arith) in (
            λ e.
                let both = together (e, none) in
                let old_ones = classes (sym (run.classes x) ∙ both.0 ∙ run.classes y) in (
                  old_ones.0,
                  λ k. elim (cases_eq k key) [
                    | inl is ↦ ap (λ (q : ℕ). stands_beside (take next pairs) q x) is ∙ sym mark_x ∙ both.1 ∙ mark_y ∙ ap (λ (q : ℕ). stands_beside (take next pairs) q y) (sym is)
                    | inr ne ↦ beside_other before marked pairs from next k x run ne ∙ old_ones.1 k ∙ sym (beside_other before marked pairs from next k y run ne)
                  ],
                ),
            λ (same, keys).
                let marks : is_marked marked x ≡ is_marked marked y = mark_x ∙ keys key ∙ sym mark_y in
                let older : class_in before x ≡ class_in before y = back (
                  same,
                  λ k. elim (cases_eq k key) [
                    | inl is ↦ ap (λ (q : ℕ). stands_beside (take from pairs) q x) is ∙ fresh x ∙ sym (fresh y) ∙ ap (λ (q : ℕ). stands_beside (take from pairs) q y) (sym is)
                    | inr ne ↦ sym (beside_other before marked pairs from next k x run ne) ∙ keys k ∙ beside_other before marked pairs from next k y run ne
                  ],
                ) in
                (apart (run.classes x ∙ older ∙ sym (run.classes y), marks)).0,
          );
      origin = λ c. so_far.origin (keeps.origin c);
      origins = λ x x_in. ap so_far.origin (keeps.origins x (omega arith) ∙ run.classes x) ∙ so_far.origins x x_in;
      own_origins = λ c c_in.
          let a = so_far.count in
          let b = run.count in
          ap so_far.origin (keeps.own_origins c (omega arith)) ∙ so_far.own_origins c c_in;
    }

pub IsSplitBy-all : (start b : Blocks) (pairs : List (ℕ × ℕ)) (i : ℕ) → length pairs ≤ i → IsSplitBy start b (take i pairs) → IsSplitBy start b pairs
IsSplitBy-all start b pairs i past is =
    let P : List (ℕ × ℕ) → Type 0 = λ ps. IsSplitBy start b ps in
    subst P (take_all i pairs past) is
