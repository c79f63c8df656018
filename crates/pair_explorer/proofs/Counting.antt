-- How many of the first visits are compared.
use Rattle.std.proofs.Common.{◌≡◌, ◌≤◌, ℕ, zero, suc, ◌+◌, Bool, true, false, cond, List, length, take, count_by, slice_get, get_or, Option, Some, None, refl, sym, ◌∙◌, ap, inl, inr, arith, add-one}
use Rattle.std.proofs.lemmas.Bool.{cases_Bool}
use Rattle.std.proofs.lemmas.List.{length-take-le, take_all, take_more_same}
use Rattle.std.proofs.lemmas.List.Sums.{count_by-le-length, count_by_more_no, count_by_more_yes}
use Rattle.std.proofs.lemmas.Option.{slice_get_within, get_or_from_slice_get}
use Rattle.abi_base.proofs.lemmas.Lists.{at_below}
use Rattle.abi_types.specs.Graphs.{view_at}
use Rattle.pair_rules.specs.Steps.{is_marked}
use Rattle.pair_explorer.specs.declared.visits.Visit.{Visit}
use Rattle.pair_explorer.specs.Scopes.{Scope}
use Rattle.pair_explorer.specs.Visits.{seen}
use Rattle.pair_explorer.specs.Adding.{added_some, entered, next_visit, expanded}
use Rattle.pair_explorer.specs.Explorations.{is_compared, compared_count}
use Rattle.pair_explorer.proofs.Growth.{Extends, Extends-refl, Extends-trans, Extends-added}

-- ---- visits that grow begin as before

added_some-grows : (vs : List Visit) (o : Option Visit) → Extends vs (added_some vs o)
added_some-grows vs None = Extends-refl vs
added_some-grows vs (Some v) = Extends-added vs v

pub entered-grows : (f : ℕ → Option Visit) (n : ℕ) (vs : List Visit) → Extends vs (entered f n vs)
unfolding entered
entered-grows f zero vs = Extends-refl vs
entered-grows f (suc n) vs = Extends-trans (entered-grows f n vs) (added_some-grows (entered f n vs) (f n))

pub expanded-grows : (s : Scope) (vs : List Visit) (m : ℕ) (v : Visit) → Extends vs (expanded s vs m v)
unfolding expanded
expanded-grows s vs m v =
    elim (cases_Bool (is_marked s.task v.old v.way)) [
      | inl marked ↦ rw marked (Extends-refl vs)
      | inr unmarked ↦ rw unmarked (entered-grows (next_visit s m (seen v)) (length (view_at s.task.old v.old).parts) vs)
    ]

pub take-Extends : (vs ws : List Visit) (m : ℕ) → Extends vs ws → m ≤ length vs → take m vs ≡ take m ws
take-Extends vs ws zero grows le = refl
take-Extends vs ws (suc m) grows le =
    let v = at_below vs m (omega arith) in
    let there = grows.kept m v.0 v.1 in
    let same : get_or vs m v.0 ≡ get_or ws m v.0 = get_or_from_slice_get vs m v.0 v.0 v.1 ∙ sym (get_or_from_slice_get ws m v.0 v.0 there) in
    let more : take (m + 1) vs ≡ take (m + 1) ws = take_more_same vs ws m v.0 (omega arith) (slice_get_within ws m v.0 there) (take-Extends vs ws m grows (omega arith)) same in
    rw (add-one m) at more

-- ---- counts

counted-more : (p : Visit → Bool) (vs : List Visit) (m : ℕ) (v : Visit) → slice_get vs m ≡ Some v → count_by p (take (m + 1) vs) ≡ count_by p (take m vs) + cond (p v) 1 0
counted-more p vs m v at =
    let inside = slice_get_within vs m v at in
    let is = get_or_from_slice_get vs m v v at in
    elim (cases_Bool (p v)) [
      | inl passes ↦ rw passes (count_by_more_yes p vs m v inside (ap p is ∙ passes))
      | inr not_passing ↦ let same = count_by_more_no p vs m v inside (ap p is ∙ not_passing) in rw not_passing (omega (arith, same))
    ]

-- one visit on
pub counted-on : (s : Scope) (vs : List Visit) (m first steps more : ℕ) (v : Visit) → slice_get vs m ≡ Some v → steps ≡ first + count_by (is_compared s.task) (take m vs) → more ≡ steps + cond (is_compared s.task v) 1 0
    → more ≡ first + count_by (is_compared s.task) (take (m + 1) (expanded s vs m v))
counted-on s vs m first steps more v at so_far one =
    let inside = slice_get_within vs m v at in
    let grown = take-Extends vs (expanded s vs m v) (m + 1) (expanded-grows s vs m v) (omega arith) in
    omega (arith, so_far, one, counted-more (is_compared s.task) vs m v at, ap (count_by (is_compared s.task)) grown)

one_at_most : (b : Bool) → cond b 1 0 ≤ 1
one_at_most true = omega arith
one_at_most false = omega arith

counted-le : (p : Visit → Bool) (vs : List Visit) (m : ℕ) → m ≤ length vs → count_by p (take m vs) ≤ m
counted-le p vs m le = omega (arith, count_by-le-length p (take m vs), length-take-le m vs le)

-- no more steps than visits so far, and one more
pub counted-next-le : (s : Scope) (vs : List Visit) (m first steps more : ℕ) (v : Visit) → slice_get vs m ≡ Some v → steps ≡ first + count_by (is_compared s.task) (take m vs) → more ≡ steps + cond (is_compared s.task v) 1 0 → more ≤ first + length vs
counted-next-le s vs m first steps more v at so_far one =
    let inside = slice_get_within vs m v at in
    omega (arith, so_far, one, one_at_most (is_compared s.task v), counted-le (is_compared s.task) vs m (omega arith))

-- at the end all are counted
pub counted-all : (s : Scope) (vs : List Visit) (m first steps : ℕ) → length vs ≤ m → steps ≡ first + count_by (is_compared s.task) (take m vs) → steps ≡ first + compared_count s.task vs
counted-all s vs m first steps past so_far = so_far ∙ ap (λ xs. first + count_by (is_compared s.task) xs) (take_all m vs past)

pub counted-all-le : (s : Scope) (vs : List Visit) (m first steps : ℕ) → length vs ≤ m → steps ≡ first + count_by (is_compared s.task) (take m vs) → steps ≤ first + length vs
counted-all-le s vs m first steps past so_far = omega (arith, counted-all s vs m first steps past so_far, count_by-le-length (is_compared s.task) vs)
