-- Where the entries below an entry end.
use Rattle.std.proofs.Common.{◌≡◌, ◌∙◌, ℕ, ◌+◌, ◌-◌, ◌<◌, ◌≤◌, Bool, true, false, nat_lt, List, length, drop, get_or, refl, sym, ap, subst, arith, inl, inr, length-drop}
use Rattle.std.specs.List.{prefix_len}
use Rattle.std.proofs.lemmas.Bool.{ltb-true, ltb-false, lt-ltb, le-ltb, cases_lt}
use Rattle.std.proofs.lemmas.List.{get_or-drop}
use Rattle.std.proofs.lemmas.List.Folds.{length-prefix_len}
use Rattle.std.proofs.lemmas.List.Sums.{prefix_len-le-length, prefix_len_is, prefix_len_passes, prefix_len_stops}
use Rattle.dwarf_tree.specs.Trees.{TreeEntry, PlainTree, no_entry, entry_at, depth_at, count_below}
use Rattle.dwarf_tree.specs.Keeping.{end_below}

-- the entries after one and before a position are deeper than it
pub record AreBelow (t : PlainTree) (e end : ℕ) : Type 0 where
  pub after : e < end
  pub inside : end ≤ length t.entries
  pub deeper : (i : ℕ) → e < i → i < end → depth_at t e < depth_at t i

-- and the one there, if there is one, is no deeper
abbrev pub Stops : PlainTree → ℕ → ℕ → Type 0
Stops t e end = end < length t.entries → depth_at t end ≤ depth_at t e

module _ (t : PlainTree) (e : ℕ) where
  abbrev is_deeper : TreeEntry → Bool
  is_deeper x = nat_lt (depth_at t e) x.depth

  abbrev rest : List TreeEntry
  rest = drop (e + 1) t.entries

  count_is : count_below t e ≡ prefix_len is_deeper rest
  unfolding count_below
  count_is = length-prefix_len is_deeper rest

  rest_at : (i k : ℕ) → i ≡ e + 1 + k → get_or rest k no_entry ≡ entry_at t i
  rest_at i k same = get_or-drop (e + 1) t.entries k no_entry ∙ ap (λ (n : ℕ). entry_at t n) (sym same)

  pub below_is : e < length t.entries → AreBelow t e (end_below t e)
  below_is inside = record {
    after = omega arith;
    inside = omega (arith, count_is, prefix_len-le-length is_deeper rest, length-drop (e + 1) t.entries);
    deeper = λ i after before.
        let same : i ≡ e + 1 + (i - (e + 1)) = omega arith in
        let passes = prefix_len_passes is_deeper rest (i - (e + 1)) no_entry (omega (arith, count_is, before)) in
        ltb-true (depth_at t e) (depth_at t i) (subst (λ (x : TreeEntry). is_deeper x ≡ true) (rest_at i (i - (e + 1)) same) passes);
  }

  pub below_stops : e < length t.entries → Stops t e (end_below t e)
  below_stops inside before =
      let stops = prefix_len_stops is_deeper rest no_entry (omega (arith, count_is, length-drop (e + 1) t.entries, before)) in
      let same : end_below t e ≡ e + 1 + prefix_len is_deeper rest = omega (arith, count_is) in
      ltb-false (depth_at t e) (depth_at t (end_below t e)) (subst (λ (x : TreeEntry). is_deeper x ≡ false) (rest_at (end_below t e) (prefix_len is_deeper rest) same) stops)

  -- no other position has this property
  pub below_ends : (end : ℕ) → AreBelow t e end → Stops t e end → end ≡ end_below t e
  below_ends end below stops =
      let count : prefix_len is_deeper rest ≡ end - (e + 1) =
      prefix_len_is is_deeper rest (end - (e + 1)) no_entry (omega (arith, below.after, below.inside, length-drop (e + 1) t.entries))
      (λ k before.
      let there : get_or rest k no_entry ≡ entry_at t (e + 1 + k) = rest_at (e + 1 + k) k refl in
      rw there (lt-ltb (depth_at t e) (depth_at t (e + 1 + k)) (below.deeper (e + 1 + k) (omega arith) (omega (arith, before, below.after)))))
      (λ more.
      let same : end ≡ e + 1 + (end - (e + 1)) = omega (arith, below.after) in
      let there : get_or rest (end - (e + 1)) no_entry ≡ entry_at t end = rest_at end (end - (e + 1)) same in
      rw there (le-ltb (depth_at t e) (depth_at t end) (stops (omega (arith, more, length-drop (e + 1) t.entries, below.after))))) in
      omega (arith, count, count_is, below.after)

  -- the entries below an entry begin right after it
  pub below_start : e < length t.entries → AreBelow t e (e + 1)
  below_start inside = record { after = omega arith; inside = omega arith; deeper = λ i after before. absurd (omega arith) }

  -- an entry below it, and those below that one
  pub below_more : (end next : ℕ) → AreBelow t e end → end < length t.entries → depth_at t e < depth_at t end → AreBelow t end next → AreBelow t e next
  below_more end next below inside here others = record {
    after = omega (arith, below.after, others.after);
    inside = others.inside;
    deeper = λ i after before.
        elim (cases_lt i end) [
          | inl lt ↦ below.deeper i after lt
          | inr le ↦ elim (cases_lt end i) [
            | inl gt ↦ omega (arith, here, others.deeper i gt before)
            | inr same ↦ let is : i ≡ end = omega arith in rw is here
          ]
        ];
  }
