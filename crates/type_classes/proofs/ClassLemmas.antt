-- The nodes that stand for classes.
use Rattle.std.proofs.Common.{◌≡◌, ◌+◌, ◌<◌, ℕ, zero, suc, List, length, get_or, ◌++◌, [], ◌∷◌, add-one, sym, ◌∙◌, ap, arith, inl, inr}
use Rattle.std.specs.List.{range_with_len}
use Rattle.std.proofs.lemmas.Bool.{cases_lt}
use Rattle.std.proofs.lemmas.List.{get_or_past, get_or_read}
use Rattle.std.proofs.lemmas.List.FromFn.{length-range_with_len, get_or-range_with_len}
use Rattle.abi_base.proofs.lemmas.Ranges.{range_suc}
use Rattle.abi_types.specs.Types.{PlainNode}
use Rattle.abi_types.specs.Graphs.{node_at}
use Rattle.abi_types.specs.ClassLooks.{look_of}
use Rattle.type_classes.specs.Classes.{PlainClasses, rep_in, rep_of, AreSound}

-- what is read at the number of a node stands for its class
pub rep_read : (reps : List ℕ) (i r : ℕ) → i < length reps → r ≡ get_or reps i r → r ≡ rep_in reps i
unfolding rep_in
rep_read reps i r inside at = get_or_read reps i r inside at i

-- the number that is read in classes is that of a class, and inside
pub rep_of-read : (s t : PlainClasses) → t ≡ s → AreSound t → (i k r : ℕ) → k ≡ i → i < length s.nodes → r ≡ get_or t.reps k r → r ≡ rep_of s i
rep_of-read s t same sound i k r here inside at =
    let nodes : length t.nodes ≡ length s.nodes = ap (λ (c : PlainClasses). length c.nodes) same in
    let below : k < length t.reps = omega (arith, sound.each) in
    rep_read t.reps k r below at ∙ ap (rep_in t.reps) here ∙ ap (λ (c : PlainClasses). rep_of c i) same

pub rep_of-inside : (s t : PlainClasses) → t ≡ s → AreSound t → (i r : ℕ) → i < length s.nodes → r ≡ rep_of s i → r < length s.nodes
rep_of-inside s t same sound i r inside at =
    let nodes : length t.nodes ≡ length s.nodes = ap (λ (c : PlainClasses). length c.nodes) same in
    let reps : rep_of t i ≡ rep_of s i = ap (λ (c : PlainClasses). rep_of c i) same in
    let below : rep_of t i < length t.nodes = sound.inside i (omega arith) in
    omega arith

-- ---- each node alone

-- one number more
pub range_pushed : (n : ℕ) (xs ys : List ℕ) → xs ≡ range_with_len 0 n → ys ≡ xs ++ n ∷ [] → ys ≡ range_with_len 0 (n + 1)
range_pushed n xs ys before pushed =
    let e : 0 + n ≡ n = omega arith in
    pushed ∙ ap (λ (zs : List ℕ). zs ++ n ∷ []) before ∙ ap (λ (k : ℕ). range_with_len 0 n ++ k ∷ []) (sym e) ∙ sym (range_suc 0 n) ∙ ap (range_with_len 0) (sym (add-one n))

pub alone : (n i : ℕ) → rep_in (range_with_len 0 n) i ≡ i
unfolding rep_in
alone n i =
    elim (cases_lt i n) [
      | inl inside ↦ let at : get_or (range_with_len 0 n) i i ≡ 0 + i = get_or-range_with_len 0 n i i inside in omega arith
      | inr past ↦ get_or_past (range_with_len 0 n) i i (rw (length-range_with_len 0 n) past)
    ]

pub each_alone : (n : ℕ) (reps : List ℕ) → reps ≡ range_with_len 0 n → (i : ℕ) → rep_in reps i ≡ i
each_alone n reps numbers i = ap (λ (xs : List ℕ). rep_in xs i) numbers ∙ alone n i

pub AreSound-alone : (nodes : List PlainNode) (c : PlainClasses) → c.nodes ≡ nodes → c.reps ≡ range_with_len 0 (length nodes) → AreSound c
AreSound-alone nodes c of_nodes numbers =
    let own = each_alone (length nodes) c.reps numbers in
    record {
      each = ap length numbers ∙ length-range_with_len 0 (length nodes) ∙ sym (ap length of_nodes);
      inside = λ i below. rw (own i) below;
      own = λ i. own (rep_of c i);
      least = λ i. let e = ap (λ (k : ℕ). (node_at c.nodes k).entry) (own i) in omega arith;
      stable = λ i j i_in j_in e. let same : i ≡ j = sym (own i) ∙ e ∙ own j in ap (λ (k : ℕ). look_of (rep_of c) (node_at c.nodes k)) same;
    }
