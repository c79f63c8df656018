-- What is taken of a budget, one after another.
use Rattle.std.proofs.Common.{◌≡◌, ◌<◌, ◌≤◌, ◌+◌, ℕ, List, [], ◌∷◌, ◌++◌, length, take, get_or, slice_get, Some, refl, sym, ◌∙◌, ap, arith, inl, inr}
use Rattle.std.specs.Prelude.{sum_by, Result, Ok, Err, IfErr}
use Rattle.std.proofs.lemmas.List.{take_all}
use Rattle.std.proofs.lemmas.List.Sums.{sum_by_more, sum_by_more_le, sum_by_push}
use Rattle.std.proofs.lemmas.Option.{slice_get_within, get_or_from_slice_get}
use Rattle.abi_base.specs.declared.fault.NoMemory.{NoMemory}
use Rattle.abi_base.specs.declared.limit.Limit.{Limit}
use Rattle.abi_base.specs.Outcome.{OnLimit}
use Rattle.abi_base.proofs.lemmas.Outcomes.{on_limit_weaker}
use Rattle.abi_base.specs.Budgets.{BudgetState, fresh, with_taken, allowed}
use Rattle.abi_base.proofs.lemmas.Budgets.{SpentOn, on_none}
use Rattle.type_graph.specs.Spending.{Takes, PassesBy, PassesEither}

pub takes-none : (b : BudgetState) → b.taken ≤ b.most → Takes b b 0
takes-none b sound = record { limit_is = refl; most = refl; taken = omega arith; within = sound }

pub takes-it : (b c : BudgetState) (n m : ℕ) → c ≡ with_taken b n → b.taken + n ≤ b.most → n ≡ m → Takes b c m
takes-it b c n m is fits same =
    let left = ap (λ (x : BudgetState). x.taken) is in
    let most = ap (λ (x : BudgetState). x.most) is in
    record { limit_is = ap (λ (x : BudgetState). x.limit) is; most = most; taken = omega (arith, left, same); within = omega (arith, left, most, fits) }

pub takes-both : (a b c : BudgetState) (m n k : ℕ) → Takes a b m → Takes b c n → m + n ≡ k → Takes a c k
takes-both a b c m n k one two sum = record { limit_is = two.limit_is ∙ one.limit_is; most = two.most ∙ one.most; taken = omega (arith, one.taken, two.taken, sum); within = two.within }

pub takes-as : (a b : BudgetState) (m n : ℕ) → Takes a b m → m ≡ n → Takes a b n
takes-as a b m n one same = record { limit_is = one.limit_is; most = one.most; taken = omega (arith, one.taken, same); within = one.within }

pub passes-after : (a b : BudgetState) (m n k : ℕ) (l : Limit) → Takes a b m → PassesBy b n l → m + n ≤ k → PassesBy a k l
passes-after a b m n k l one passes fits = (passes.0 ∙ one.limit_is, omega (arith, one.most, one.taken, passes.1, fits))

pub passes-by-more : (b : BudgetState) (n m : ℕ) (l : Limit) → PassesBy b n l → n ≤ m → PassesBy b m l
passes-by-more b n m l passes fits = (passes.0, omega (arith, passes.1, fits))

pub passes-it : (b : BudgetState) (n m : ℕ) → b.most < b.taken + n → n ≤ m → PassesBy b m b.limit
passes-it b n m above fits = (refl, omega (arith, above, fits))

pub past-weaker : {A : Type 0} (r : Result A NoMemory) (P Q : Limit → Type 0) → ((l : Limit) → P l → Q l) → IfErr r (λ e. OnLimit e P) → IfErr r (λ e. OnLimit e Q)
past-weaker (Ok x) P Q weaker h = h
past-weaker (Err e) P Q weaker h = on_limit_weaker e P Q weaker h

-- ---- a budget of which nothing was taken

pub sound-fresh : (limit : Limit) (units : ℕ) (b : BudgetState) → b ≡ fresh limit units → b.taken ≤ b.most
sound-fresh limit units b is = omega (arith, ap (λ (x : BudgetState). x.taken) is)

pub within-fresh : (limit : Limit) (units : ℕ) (b c : BudgetState) (n : ℕ) → b ≡ fresh limit units → Takes b c n → n ≤ allowed limit units
within-fresh limit units b c n is took = omega (arith, ap (λ (x : BudgetState). x.taken) is, ap (λ (x : BudgetState). x.most) is, took.taken, took.most, took.within)

pub passes-fresh : (limit : Limit) (units : ℕ) (b : BudgetState) (n : ℕ) (l : Limit) → b ≡ fresh limit units → PassesBy b n l → (l ≡ limit) × (allowed limit units < n)
passes-fresh limit units b n l is passes = (passes.0 ∙ ap (λ (x : BudgetState). x.limit) is, omega (arith, ap (λ (x : BudgetState). x.taken) is, ap (λ (x : BudgetState). x.most) is, passes.1))

-- ---- items of a list

pub takes-next : {A : Type 0} (cost : A → ℕ) (items : List A) (k : ℕ) (item : A) (n base : ℕ) (a b c : BudgetState) → Takes a b (base + sum_by cost (take k items)) → slice_get items k ≡ Some item → Takes b c n → n ≡ cost item → Takes a c (base + sum_by cost (take (k + 1) items))
takes-next cost items k item n base a b c so_far at one same =
    let more = sum_by_more cost items k item (slice_get_within items k item at) in
    let is = ap cost (get_or_from_slice_get items k item item at) in
    takes-both a b c (base + sum_by cost (take k items)) n (base + sum_by cost (take (k + 1) items)) so_far one (omega (arith, more, is, same))

pub passes-next : {A : Type 0} (cost : A → ℕ) (items : List A) (k : ℕ) (item : A) (n base : ℕ) (a b : BudgetState) (l : Limit) → Takes a b (base + sum_by cost (take k items)) → slice_get items k ≡ Some item → PassesBy b n l → n ≡ cost item → PassesBy a (base + sum_by cost items) l
passes-next cost items k item n base a b l so_far at passes same =
    let more = sum_by_more_le cost items k item (slice_get_within items k item at) in
    let is = ap cost (get_or_from_slice_get items k item item at) in
    passes-after a b (base + sum_by cost (take k items)) n (base + sum_by cost items) l so_far passes (omega (arith, more, is, same))

pub takes-all : {A : Type 0} (cost : A → ℕ) (items : List A) (k base : ℕ) (a b : BudgetState) → Takes a b (base + sum_by cost (take k items)) → length items ≤ k → Takes a b (base + sum_by cost items)
takes-all cost items k base a b so_far past = takes-as a b (base + sum_by cost (take k items)) (base + sum_by cost items) so_far (ap (λ (xs : List _). base + sum_by cost xs) (take_all k items past))

-- the same where the item is read at its place
pub takes-at : {A : Type 0} (cost : A → ℕ) (items : List A) (k : ℕ) (d : A) (n base : ℕ) (a b c : BudgetState) → Takes a b (base + sum_by cost (take k items)) → k < length items → Takes b c n → n ≡ cost (get_or items k d) → Takes a c (base + sum_by cost (take (k + 1) items))
takes-at cost items k d n base a b c so_far lt one same =
    takes-both a b c (base + sum_by cost (take k items)) n (base + sum_by cost (take (k + 1) items)) so_far one (omega (arith, sum_by_more cost items k d lt, same))

pub passes-at : {A : Type 0} (cost : A → ℕ) (items : List A) (k : ℕ) (d : A) (n base : ℕ) (a b : BudgetState) (l : Limit) → Takes a b (base + sum_by cost (take k items)) → k < length items → PassesBy b n l → n ≡ cost (get_or items k d) → PassesBy a (base + sum_by cost items) l
passes-at cost items k d n base a b l so_far lt passes same =
    passes-after a b (base + sum_by cost (take k items)) n (base + sum_by cost items) l so_far passes (omega (arith, sum_by_more_le cost items k d lt, same))

-- ---- the items of a list whose budget is new

pub spent-start : {A : Type 0} (limit : Limit) (units : ℕ) (cost : A → ℕ) (items : List A) (b : BudgetState) → b ≡ fresh limit units → SpentOn limit units cost (take 0 items) b
spent-start limit units cost [] b is = on_none limit units cost b is
spent-start limit units cost (x ∷ xs) b is = on_none limit units cost b is

pub spent-push : {A : Type 0} (limit : Limit) (units : ℕ) (cost : A → ℕ) (before after : List A) (item : A) (n : ℕ) (b c : BudgetState) → SpentOn limit units cost before b → after ≡ before ++ item ∷ [] → Takes b c n → n ≡ cost item → SpentOn limit units cost after c
spent-push limit units cost before after item n b c so_far grown one same =
    let sums = ap (sum_by cost) grown ∙ sum_by_push cost before item in
    record { limit_is = one.limit_is ∙ so_far.limit_is; most = one.most ∙ so_far.most; taken = omega (arith, one.taken, so_far.taken, sums, same); within = one.within }

pub spent-next : {A : Type 0} (limit : Limit) (units : ℕ) (cost : A → ℕ) (items : List A) (k : ℕ) (item : A) (n : ℕ) (b c : BudgetState) → SpentOn limit units cost (take k items) b → slice_get items k ≡ Some item → Takes b c n → n ≡ cost item → SpentOn limit units cost (take (k + 1) items) c
spent-next limit units cost items k item n b c so_far at one same =
    let more = sum_by_more cost items k item (slice_get_within items k item at) in
    let is = ap cost (get_or_from_slice_get items k item item at) in
    record { limit_is = one.limit_is ∙ so_far.limit_is; most = one.most ∙ so_far.most; taken = omega (arith, one.taken, so_far.taken, more, is, same); within = one.within }

pub spent-passes : {A : Type 0} (limit : Limit) (units : ℕ) (cost : A → ℕ) (items : List A) (k : ℕ) (item : A) (n : ℕ) (b : BudgetState) (l : Limit) → SpentOn limit units cost (take k items) b → slice_get items k ≡ Some item → PassesBy b n l → n ≡ cost item → (l ≡ limit) × (allowed limit units < sum_by cost items)
spent-passes limit units cost items k item n b l so_far at passes same =
    let more = sum_by_more_le cost items k item (slice_get_within items k item at) in
    let is = ap cost (get_or_from_slice_get items k item item at) in
    (passes.0 ∙ so_far.limit_is, omega (arith, passes.1, so_far.most, so_far.taken, more, is, same))

pub spent-all : {A : Type 0} (limit : Limit) (units : ℕ) (cost : A → ℕ) (items : List A) (k : ℕ) (b : BudgetState) → SpentOn limit units cost (take k items) b → length items ≤ k → sum_by cost items ≤ allowed limit units
spent-all limit units cost items k b so_far past =
    let whole = ap (sum_by cost) (take_all k items past) in
    omega (arith, so_far.within, so_far.most, so_far.taken, whole)
