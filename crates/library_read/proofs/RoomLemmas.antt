-- What the parts of types count, and the letters of their names.
use Rattle.std.proofs.Common.{◌≡◌, ◌<◌, ◌≤◌, ◌+◌, ℕ, List, [], ◌∷◌, length, map, take, get_or, refl, sym, ap, ◌∙◌, arith}
use Rattle.std.specs.Prelude.{sum_by}
use Rattle.std.proofs.lemmas.List.Sums.{sum_by-cons, sum_by_more, sum_by_more_le}
use Rattle.abi_base.specs.Budgets.{BudgetState, allowed}
use Rattle.abi_base.specs.declared.limit.Limit.{Limit}
use Rattle.abi_base.proofs.lemmas.Budgets.{SpentOn}
use Rattle.type_graph.specs.Spending.{PassesBy, Takes}

pub sum-map : {X Y : Type 0} (f : Y → ℕ) (g : X → Y) (xs : List X) → sum_by f (map g xs) ≡ sum_by (λ x. f (g x)) xs
sum-map f g [] = refl
sum-map f g (x ∷ xs) = omega (arith, sum_by-cons f (g x) (map g xs), sum_by-cons (λ y. f (g y)) x xs, sum-map f g xs)

pub spent-one : {A : Type 0} (limit : Limit) (units : ℕ) (cost : A → ℕ) (items : List A) (k n : ℕ) (d : A) (b c : BudgetState) → SpentOn limit units cost (take k items) b → k < length items → Takes b c n → n ≡ cost (get_or items k d) → SpentOn limit units cost (take (k + 1) items) c
spent-one limit units cost items k n d b c so_far lt one same =
    let more = sum_by_more cost items k d lt in
    record { limit_is = one.limit_is ∙ so_far.limit_is; most = one.most ∙ so_far.most; taken = omega (arith, one.taken, so_far.taken, more, same); within = one.within }

pub one-passes : {A : Type 0} (limit : Limit) (units : ℕ) (cost : A → ℕ) (items : List A) (k n : ℕ) (d : A) (b : BudgetState) (l : Limit) → SpentOn limit units cost (take k items) b → k < length items → PassesBy b n l → n ≤ cost (get_or items k d) → (l ≡ limit) × (allowed limit units < sum_by cost items)
one-passes limit units cost items k n d b l so_far lt passes same =
    let more = sum_by_more_le cost items k d lt in
    (passes.0 ∙ so_far.limit_is, omega (arith, passes.1, so_far.most, so_far.taken, more, same))
