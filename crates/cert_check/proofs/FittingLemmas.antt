-- What the pair lines so far count.
use Rattle.std.proofs.Common.{◌≡◌, ◌<◌, ◌≤◌, ℕ, ◌+◌, List, take, length, get_or, ap, ◌∙◌, arith}
use Rattle.std.specs.List.{sum_by}
use Rattle.std.proofs.lemmas.List.Sums.{sum_by_more, sum_by_more_le}
use Rattle.std.proofs.lemmas.List.{take_all}
use Rattle.abi_base.specs.Budgets.{BudgetState, allowed, with_taken}
use Rattle.abi_base.specs.declared.limit.Limit.{Limit}
use Rattle.abi_base.proofs.lemmas.Budgets.{SpentOn}
use Rattle.cert_text.specs.Certs.{PairLine}

pub lines_more : (limit : Limit) (units : ℕ) (cost : PairLine → ℕ) (lines : List PairLine) (k n : ℕ) (line : PairLine) (budget next : BudgetState) → SpentOn limit units cost (take k lines) budget → k < length lines
    → cost (get_or lines k line) ≡ n → budget.taken + n ≤ budget.most → next ≡ with_taken budget n → SpentOn limit units cost (take (k + 1) lines) next
lines_more limit units cost lines k n line budget next so_far lt costs fits took = record {
  limit_is = ap (λ (b : BudgetState). b.limit) took ∙ so_far.limit_is;
  most = ap (λ (b : BudgetState). b.most) took ∙ so_far.most;
  taken = omega (arith, ap (λ (b : BudgetState). b.taken) took, so_far.taken, sum_by_more cost lines k line lt, costs);
  within = omega (arith, ap (λ (b : BudgetState). b.taken) took, ap (λ (b : BudgetState). b.most) took, fits);
}

pub lines_past : (limit : Limit) (units : ℕ) (cost : PairLine → ℕ) (lines : List PairLine) (k n : ℕ) (line : PairLine) (budget : BudgetState) → SpentOn limit units cost (take k lines) budget → k < length lines
    → cost (get_or lines k line) ≡ n → budget.most < budget.taken + n → allowed limit units < sum_by cost lines
lines_past limit units cost lines k n line budget so_far lt costs above =
    omega (arith, above, so_far.most, so_far.taken, sum_by_more_le cost lines k line lt, costs)

pub lines_whole : (limit : Limit) (units : ℕ) (cost : PairLine → ℕ) (lines : List PairLine) (k : ℕ) (budget : BudgetState) → SpentOn limit units cost (take k lines) budget → length lines ≤ k
    → sum_by cost lines ≤ allowed limit units
lines_whole limit units cost lines k budget so_far past =
    let whole : sum_by cost (take k lines) ≡ sum_by cost lines = ap (sum_by cost) (take_all k lines past) in
    omega (arith, so_far.within, so_far.most, so_far.taken, whole)
