-- Reading places one after another within a budget.
use Rattle.std.proofs.Common.{◌≡◌, ℕ, zero, suc, ◌+◌, ◌<◌, ◌≤◌, List, [], ◌∷◌, ◌++◌, map, Option, None, refl, ◌∙◌, ap, arith}
use Rattle.std.specs.List.{range_with_len, sum_by}
use Rattle.std.proofs.lemmas.List.{map-append}
use Rattle.std.proofs.lemmas.List.Sums.{sum_by-append, sum_by-cons, sum_by_push}
use Rattle.abi_base.specs.declared.fault.Fault.{Fault}
use Rattle.abi_base.specs.declared.limit.Limit.{Limit}
use Rattle.abi_base.specs.Budgets.{BudgetState, fresh, with_taken, allowed, counted, Passes}
use Rattle.abi_base.specs.Outcome.{first}
use Rattle.abi_base.proofs.lemmas.Outcomes.{first-append}
use Rattle.abi_base.proofs.lemmas.Ranges.{below_more}

-- The places below a number have no fault, and what they count was taken of the budget.
pub record SpentBefore (limit : Limit) (units : ℕ) (fault : ℕ → Option Fault) (cost : ℕ → ℕ) (number : ℕ) (budget : BudgetState) : Type 0 where
  pub limit_is : budget.limit ≡ limit
  pub most : budget.most ≡ allowed limit units
  pub taken : budget.taken ≡ counted cost number
  pub within : budget.taken ≤ budget.most
  pub clean : first (map fault (range_with_len 0 number)) ≡ None

counted_more : (cost : ℕ → ℕ) (number : ℕ) → counted cost (number + 1) ≡ counted cost number + cost number
counted_more cost number = ap (sum_by cost) (below_more number) ∙ sum_by_push cost (range_with_len 0 number) number

clean_more : (fault : ℕ → Option Fault) (number : ℕ) → first (map fault (range_with_len 0 number)) ≡ None → fault number ≡ None → first (map fault (range_with_len 0 (number + 1))) ≡ None
clean_more fault number clean none =
    ap (λ (l : List ℕ). first (map fault l)) (below_more number)
    ∙ ap first (map-append fault (range_with_len 0 number) (number ∷ []))
    ∙ first-append (map fault (range_with_len 0 number)) (map fault (number ∷ []))
    ∙ rw (clean, none) refl

pub spent_none : (limit : Limit) (units : ℕ) (fault : ℕ → Option Fault) (cost : ℕ → ℕ) (budget : BudgetState) → budget ≡ fresh limit units → SpentBefore limit units fault cost 0 budget
spent_none limit units fault cost budget is = record {
  limit_is = ap (λ (b : BudgetState). b.limit) is;
  most = ap (λ (b : BudgetState). b.most) is;
  taken = ap (λ (b : BudgetState). b.taken) is;
  within = omega (arith, ap (λ (b : BudgetState). b.taken) is);
  clean = refl;
}

pub spent_more : (limit : Limit) (units : ℕ) (fault : ℕ → Option Fault) (cost : ℕ → ℕ) (number n : ℕ) (budget more : BudgetState) → SpentBefore limit units fault cost number budget
    → fault number ≡ None → cost number ≡ n → budget.taken + n ≤ budget.most → more ≡ with_taken budget n → SpentBefore limit units fault cost (number + 1) more
spent_more limit units fault cost number n budget more so_far none costs fits took = record {
  limit_is = ap (λ (b : BudgetState). b.limit) took ∙ so_far.limit_is;
  most = ap (λ (b : BudgetState). b.most) took ∙ so_far.most;
  taken = omega (arith, ap (λ (b : BudgetState). b.taken) took, so_far.taken, counted_more cost number, costs);
  within = omega (arith, ap (λ (b : BudgetState). b.taken) took, ap (λ (b : BudgetState). b.most) took, fits);
  clean = clean_more fault number so_far.clean none;
}

pub spent_past : (limit : Limit) (units : ℕ) (fault : ℕ → Option Fault) (cost : ℕ → ℕ) (number n count : ℕ) (budget : BudgetState) → SpentBefore limit units fault cost number budget
    → number < count → cost number ≡ n → budget.most < budget.taken + n → Passes (allowed limit units) fault cost count
spent_past limit units fault cost number n count budget so_far lt costs above = record {
  place = number;
  below = lt;
  reached = so_far.clean;
  above = omega (arith, above, so_far.most, so_far.taken, counted_more cost number, costs);
}

pub spent_whole : (limit : Limit) (units : ℕ) (fault : ℕ → Option Fault) (cost : ℕ → ℕ) (number count : ℕ) (budget : BudgetState) → SpentBefore limit units fault cost number budget
    → number ≡ count → counted cost count ≤ allowed limit units
spent_whole limit units fault cost number count budget so_far whole = let e : counted cost number ≡ counted cost count = ap (counted cost) whole in
    omega (arith, so_far.within, so_far.most, so_far.taken, e)

-- ---- more places count more

counted_front : (cost : ℕ → ℕ) (a k n : ℕ) → k ≤ n → sum_by cost (range_with_len a k) ≤ sum_by cost (range_with_len a n)
counted_front cost a zero n le = omega arith
counted_front cost a (suc k) zero le = absurd (omega arith)
counted_front cost a (suc k) (suc n) le =
    omega (arith, sum_by-cons cost a (range_with_len (a + 1) k), sum_by-cons cost a (range_with_len (a + 1) n), counted_front cost (a + 1) k n (omega arith))

-- What passes before a fault passes with all places.
pub passes_all : (most : ℕ) (fault : ℕ → Option Fault) (cost : ℕ → ℕ) (count : ℕ) → Passes most fault cost count → most < counted cost count
passes_all most fault cost count passes =
    omega (arith, passes.above, counted_front cost 0 (passes.place + 1) count (omega (arith, passes.below)))

-- ---- items of a list, one after another

-- What the items so far count was taken of the budget.
pub record SpentOn {A : Type 0} (limit : Limit) (units : ℕ) (cost : A → ℕ) (items : List A) (budget : BudgetState) : Type 0 where
  pub limit_is : budget.limit ≡ limit
  pub most : budget.most ≡ allowed limit units
  pub taken : budget.taken ≡ sum_by cost items
  pub within : budget.taken ≤ budget.most

pub on_none : {A : Type 0} (limit : Limit) (units : ℕ) (cost : A → ℕ) (budget : BudgetState) → budget ≡ fresh limit units → SpentOn limit units cost [] budget
on_none limit units cost budget is = record {
  limit_is = ap (λ (b : BudgetState). b.limit) is;
  most = ap (λ (b : BudgetState). b.most) is;
  taken = ap (λ (b : BudgetState). b.taken) is;
  within = omega (arith, ap (λ (b : BudgetState). b.taken) is);
}

pub on_more : {A : Type 0} (limit : Limit) (units : ℕ) (cost : A → ℕ) (items : List A) (item : A) (n : ℕ) (budget next : BudgetState) → SpentOn limit units cost items budget
    → cost item ≡ n → budget.taken + n ≤ budget.most → next ≡ with_taken budget n → SpentOn limit units cost (items ++ item ∷ []) next
on_more limit units cost items item n budget next so_far costs fits took = record {
  limit_is = ap (λ (b : BudgetState). b.limit) took ∙ so_far.limit_is;
  most = ap (λ (b : BudgetState). b.most) took ∙ so_far.most;
  taken = omega (arith, ap (λ (b : BudgetState). b.taken) took, so_far.taken, sum_by_push cost items item, costs);
  within = omega (arith, ap (λ (b : BudgetState). b.taken) took, ap (λ (b : BudgetState). b.most) took, fits);
}

-- Where an item does not fit, the items up to it, and those behind it, count more than is allowed.
pub on_past : {A : Type 0} (limit : Limit) (units : ℕ) (cost : A → ℕ) (items : List A) (item : A) (rest : List A) (n : ℕ) (budget : BudgetState) → SpentOn limit units cost items budget
    → cost item ≡ n → budget.most < budget.taken + n → allowed limit units < sum_by cost (items ++ item ∷ rest)
on_past limit units cost items item rest n budget so_far costs above =
    omega (arith, above, so_far.most, so_far.taken, sum_by-append cost items (item ∷ rest), sum_by-cons cost item rest, costs)

pub on_whole : {A : Type 0} (limit : Limit) (units : ℕ) (cost : A → ℕ) (items : List A) (budget : BudgetState) → SpentOn limit units cost items budget
    → sum_by cost items ≤ allowed limit units
on_whole limit units cost items budget so_far = omega (arith, so_far.within, so_far.most, so_far.taken)
