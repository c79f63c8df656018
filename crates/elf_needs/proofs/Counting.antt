-- What the auxiliary entries of a need count, one after another.
use Rattle.std.proofs.Common.{◌≡◌, ℕ, zero, suc, ◌+◌, ◌<◌, ◌≤◌, List, map, refl, sym, ◌∙◌, ap, add-zero, length, arith, Some}
use Rattle.std.specs.List.{range_with_len, sum_by}
use Rattle.std.proofs.lemmas.List.Sums.{sum_by-cons, sum_by_push}
use Rattle.std.proofs.lemmas.List.FromFn.{map-range_with_len_more}
use Rattle.abi_base.specs.Budgets.{BudgetState, with_taken}
use Rattle.elf_needs.specs.declared.records.Auxiliary.{Auxiliary}
use Rattle.elf_needs.specs.GnuNeeds.{vernaux_size, verneed_size}
use Rattle.elf_needs.specs.Needs.{Entry, entry_of, entry_cost, entries_cost, entry_count, first_entries, file_at, need_cost}
use Rattle.elf_needs.specs.Plain.{plain_entry}

-- What the first n auxiliary entries of a need count was taken of a budget.
pub record SpentEntries (table strings : List ℕ) (k n : ℕ) (initial now : BudgetState) : Type 0 where
  pub taken : now ≡ with_taken initial (entries_cost table strings k n)
  pub within : initial.taken + entries_cost table strings k n ≤ initial.most

-- a budget of which so much was taken
abbrev budget_at : BudgetState → ℕ → BudgetState
budget_at b n = record { limit = b.limit; most = b.most; taken = n }

with_nothing : (b : BudgetState) → b ≡ with_taken b 0
with_nothing b = ap (budget_at b) (sym (add-zero b.taken))

-- taking twice takes the sum
pub with_both : (b : BudgetState) (m n total : ℕ) → total ≡ m + n → with_taken (with_taken b m) n ≡ with_taken b total
with_both b m n total is =
    let sums : b.taken + m + n ≡ b.taken + total = omega arith in
    ap (budget_at b) sums

entries_more : (table strings : List ℕ) (k n : ℕ) → entries_cost table strings k (n + 1) ≡ entries_cost table strings k n + entry_cost (entry_of table strings k n)
entries_more table strings k n =
    ap (sum_by entry_cost) (map-range_with_len_more (entry_of table strings k) 0 n n (omega arith))
    ∙ sum_by_push entry_cost (first_entries table strings k n) (entry_of table strings k n)

pub spent_none : (table strings : List ℕ) (k : ℕ) (initial : BudgetState) → initial.taken ≤ initial.most → SpentEntries table strings k 0 initial initial
spent_none table strings k initial sound = record { taken = with_nothing initial; within = omega (arith, sound) }

pub spent_more : (table strings : List ℕ) (k n : ℕ) (initial now next : BudgetState) (auxiliary : Auxiliary) → SpentEntries table strings k n initial now
    → plain_entry auxiliary ≡ entry_of table strings k n → now.taken + (vernaux_size + length auxiliary.need.version.now) ≤ now.most
    → next ≡ with_taken now (vernaux_size + length auxiliary.need.version.now) → SpentEntries table strings k (n + 1) initial next
spent_more table strings k n initial now next auxiliary so_far read fits took =
    let total : entries_cost table strings k (n + 1) ≡ entries_cost table strings k n + (vernaux_size + length auxiliary.need.version.now) =
    entries_more table strings k n ∙ ap (λ (e : Entry). entries_cost table strings k n + entry_cost e) (sym read) in
    record {
      taken =
          took ∙ ap (λ (b : BudgetState). with_taken b (vernaux_size + length auxiliary.need.version.now)) so_far.taken
          ∙ with_both initial (entries_cost table strings k n) (vernaux_size + length auxiliary.need.version.now) (entries_cost table strings k (n + 1)) total;
      within = omega (arith, total, fits, ap (λ (b : BudgetState). b.taken) so_far.taken, ap (λ (b : BudgetState). b.most) so_far.taken);
    }

front : (cost : Entry → ℕ) (entry : ℕ → Entry) (a n m : ℕ) → n ≤ m → sum_by cost (map entry (range_with_len a n)) ≤ sum_by cost (map entry (range_with_len a m))
front cost entry a zero m le = omega arith
front cost entry a (suc n) zero le = absurd (omega arith)
front cost entry a (suc n) (suc m) le =
    omega (arith, sum_by-cons cost (entry a) (map entry (range_with_len (a + 1) n)), sum_by-cons cost (entry a) (map entry (range_with_len (a + 1) m)), front cost entry (a + 1) n m (omega arith))

-- Where an entry passes the limit, all entries of the need do.
pub spent_past : (table strings : List ℕ) (k n : ℕ) (initial now : BudgetState) (auxiliary : Auxiliary) → SpentEntries table strings k n initial now
    → plain_entry auxiliary ≡ entry_of table strings k n → n < entry_count table k → now.most < now.taken + (vernaux_size + length auxiliary.need.version.now)
    → initial.most < initial.taken + entries_cost table strings k (entry_count table k)
spent_past table strings k n initial now auxiliary so_far read lt above =
    let total : entries_cost table strings k (n + 1) ≡ entries_cost table strings k n + (vernaux_size + length auxiliary.need.version.now) =
    entries_more table strings k n ∙ ap (λ (e : Entry). entries_cost table strings k n + entry_cost e) (sym read) in
    omega (
      arith,
      total,
      above,
      ap (λ (b : BudgetState). b.taken) so_far.taken,
      ap (λ (b : BudgetState). b.most) so_far.taken,
      front entry_cost (entry_of table strings k) 0 (n + 1) (entry_count table k) (omega (arith, lt)),
    )

-- what a need counts, by the name of its file
pub need_cost_is : (table strings : List ℕ) (k : ℕ) (file : List ℕ) → file_at table strings k ≡ Some file
    → need_cost table strings k ≡ verneed_size + length file + entries_cost table strings k (entry_count table k)
need_cost_is table strings k file is = rw is refl

-- ---- a need and its entries

module _ (table strings : List ℕ) (k : ℕ) (file : List ℕ) (b next : BudgetState) (is : file_at table strings k ≡ Some file) where
  -- a need alone that passes the limit passes it with its entries
  pub need_above : b.most < b.taken + (verneed_size + length file) → b.most < b.taken + need_cost table strings k
  need_above above = omega (arith, above, need_cost_is table strings k file is)

  pub sound_after : next ≡ with_taken b (verneed_size + length file) → b.taken + (verneed_size + length file) ≤ b.most → next.taken ≤ next.most
  sound_after took fits = omega (arith, fits, ap (λ (s : BudgetState). s.taken) took, ap (λ (s : BudgetState). s.most) took)

  pub need_past : next ≡ with_taken b (verneed_size + length file) → next.most < next.taken + entries_cost table strings k (entry_count table k) → b.most < b.taken + need_cost table strings k
  need_past took above =
      omega (arith, above, need_cost_is table strings k file is, ap (λ (s : BudgetState). s.taken) took, ap (λ (s : BudgetState). s.most) took)

  pub need_within : next ≡ with_taken b (verneed_size + length file) → next.taken + entries_cost table strings k (entry_count table k) ≤ next.most → b.taken + need_cost table strings k ≤ b.most
  need_within took fits =
      omega (arith, fits, need_cost_is table strings k file is, ap (λ (s : BudgetState). s.taken) took, ap (λ (s : BudgetState). s.most) took)

  pub need_taken : (last : BudgetState) → next ≡ with_taken b (verneed_size + length file) → last ≡ with_taken next (entries_cost table strings k (entry_count table k))
      → last ≡ with_taken b (need_cost table strings k)
  need_taken last took so =
      so ∙ ap (λ (s : BudgetState). with_taken s (entries_cost table strings k (entry_count table k))) took
      ∙ with_both b (verneed_size + length file) (entries_cost table strings k (entry_count table k)) (need_cost table strings k) (need_cost_is table strings k file is)
