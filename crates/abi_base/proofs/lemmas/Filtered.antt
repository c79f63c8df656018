-- Keeping what the items of a list give within a budget, item by item.
use Rattle.std.proofs.Common.{◌≡◌, ℕ, ◌+◌, ◌≤◌, List, take, drop, Option, sym, ◌∙◌, ap, arith}
use Rattle.std.specs.List.{sum_by, filter_map}
use Rattle.std.proofs.lemmas.List.{take-append-drop}
use Rattle.std.proofs.lemmas.List.Elements.{filter_map-append}
use Rattle.std.proofs.lemmas.List.Sums.{sum_by-append}
use Rattle.abi_base.specs.declared.limit.Limit.{Limit}
use Rattle.abi_base.specs.Budgets.{BudgetState, fresh, with_taken, allowed}

-- The budget is that of a limit for this many units, and so much was taken of it.
pub record SpentOn (limit : Limit) (units total : ℕ) (budget : BudgetState) : Type 0 where
  pub limit_is : budget.limit ≡ limit
  pub most : budget.most ≡ allowed limit units
  pub taken : budget.taken ≡ total
  pub within : budget.taken ≤ budget.most

pub spent_nothing : (limit : Limit) (units : ℕ) (budget : BudgetState) → budget ≡ fresh limit units → SpentOn limit units 0 budget
spent_nothing limit units budget is = record {
  limit_is = ap (λ (b : BudgetState). b.limit) is;
  most = ap (λ (b : BudgetState). b.most) is;
  taken = ap (λ (b : BudgetState). b.taken) is;
  within = omega (arith, ap (λ (b : BudgetState). b.taken) is);
}

pub spent_again : (limit : Limit) (units total n more : ℕ) (budget next : BudgetState) → SpentOn limit units total budget → budget.taken + n ≤ budget.most
    → next ≡ with_taken budget n → more ≡ total + n → SpentOn limit units more next
spent_again limit units total n more budget next so_far fits took sum = record {
  limit_is = ap (λ (b : BudgetState). b.limit) took ∙ so_far.limit_is;
  most = ap (λ (b : BudgetState). b.most) took ∙ so_far.most;
  taken = omega (arith, ap (λ (b : BudgetState). b.taken) took, so_far.taken, sum);
  within = omega (arith, ap (λ (b : BudgetState). b.taken) took, ap (λ (b : BudgetState). b.most) took, fits);
}

-- what the first items of a list give counts at most what all give
pub filtered_front : {X Y : Type 0} (cost : Y → ℕ) (of : X → Option Y) (xs : List X) (i : ℕ) → sum_by cost (filter_map of (take i xs)) ≤ sum_by cost (filter_map of xs)
filtered_front {X} {Y} cost of xs i =
    let split : sum_by cost (filter_map of xs) ≡ sum_by cost (filter_map of (take i xs)) + sum_by cost (filter_map of (drop i xs)) =
    ap (λ (l : List X). sum_by cost (filter_map of l)) (sym (take-append-drop i xs))
    ∙ ap (sum_by cost) (filter_map-append of (take i xs) (drop i xs))
    ∙ sum_by-append cost (filter_map of (take i xs)) (filter_map of (drop i xs)) in
    omega (arith, split)
