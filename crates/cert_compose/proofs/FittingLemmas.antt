-- What the lines so far take of the room.
use Rattle.std.proofs.Common.{◌≡◌, ◌<◌, ◌≤◌, ◌==◌, ℕ, ◌+◌, true, false, cond, List, take, length, get_or, refl, ap, ◌∙◌, arith, inl, inr}
use Rattle.std.specs.List.{sum_by}
use Rattle.std.proofs.lemmas.Bool.{eq-eqb}
use Rattle.std.proofs.lemmas.List.Sums.{sum_by_more, sum_by_more_le, sum_by-take-le}
use Rattle.abi_base.specs.Budgets.{BudgetState, with_taken}
use Rattle.abi_base.specs.Outcome.{OnLimit}
use Rattle.abi_base.specs.declared.fault.NoMemory.{NoMemory}
use Rattle.abi_base.specs.declared.limit.Limit.{Limit}
use Rattle.abi_base.proofs.lemmas.Outcomes.{on_limit_weaker}
use Rattle.cert_compose.specs.Chains.{PlainChain}
use Rattle.cert_compose.specs.Limits.{JoinsPass, all_looks, all_parts}
use Rattle.cert_compose.specs.Spending.{IsShortOf, RoomPasses, TakesAtMost, TakesUpTo, room_of}
use Rattle.cert_compose.specs.declared.fitting.Room.{Room}

-- ---- one budget

up_to_itself : (budget : BudgetState) (n : ℕ) → TakesUpTo budget budget n
up_to_itself budget n = record { limit_is = refl; most = refl; taken = omega arith }

up_to_both : (before mid after : BudgetState) (m n both : ℕ) → m + n ≤ both → TakesUpTo before mid m → TakesUpTo mid after n → TakesUpTo before after both
up_to_both before mid after m n both le one other = record {
  limit_is = other.limit_is ∙ one.limit_is;
  most = other.most ∙ one.most;
  taken = omega (arith, le, one.taken, other.taken);
}

short_after : (before mid : BudgetState) (m n both : ℕ) (l : Limit) → m + n ≤ both → TakesUpTo before mid m → IsShortOf mid n l → IsShortOf before both l
short_after before mid m n both l le one short = (short.0 ∙ one.limit_is, omega (arith, le, one.taken, one.most, short.1))

-- ---- the room

pub takes_nothing : (room : Room) (looks parts : ℕ) → TakesAtMost room room looks parts
takes_nothing room looks parts = record { looks_up_to = up_to_itself room.looks looks; parts_up_to = up_to_itself room.parts parts }

-- one step after another
pub takes_both : (before mid after : Room) (m n looks p q parts : ℕ) → m + n ≤ looks → p + q ≤ parts → TakesAtMost before mid m p → TakesAtMost mid after n q → TakesAtMost before after looks parts
takes_both before mid after m n looks p q parts le lep one other = record {
  looks_up_to = up_to_both before.looks mid.looks after.looks m n looks le one.looks_up_to other.looks_up_to;
  parts_up_to = up_to_both before.parts mid.parts after.parts p q parts lep one.parts_up_to other.parts_up_to;
}

-- the second of two steps passes
passes_after : (before mid : Room) (m n looks p q parts : ℕ) (l : Limit) → m + n ≤ looks → p + q ≤ parts → TakesAtMost before mid m p → RoomPasses mid n q l → RoomPasses before looks parts l
passes_after before mid m n looks p q parts l le lep one (inl short) = inl (short_after before.looks mid.looks m n looks l le one.looks_up_to short)
passes_after before mid m n looks p q parts l le lep one (inr short) = inr (short_after before.parts mid.parts p q parts l lep one.parts_up_to short)

pub step_passes : (before mid : Room) (m n looks p q parts : ℕ) (e : NoMemory) → m + n ≤ looks → p + q ≤ parts → TakesAtMost before mid m p → OnLimit e (RoomPasses mid n q)
    → OnLimit e (RoomPasses before looks parts)
step_passes before mid m n looks p q parts e le lep one passes =
    on_limit_weaker e (RoomPasses mid n q) (RoomPasses before looks parts) (λ l h. passes_after before mid m n looks p q parts l le lep one h) passes

-- ---- item by item

module _ {X : Type 0} (looks parts : X → ℕ) (xs : List X) (k : ℕ) where
  pub items_more : (before mid after : Room) (d : X) (n q : ℕ) → k < length xs → looks (get_or xs k d) ≡ n → parts (get_or xs k d) ≡ q
      → TakesAtMost before mid (sum_by looks (take k xs)) (sum_by parts (take k xs)) → TakesAtMost mid after n q
      → TakesAtMost before after (sum_by looks (take (k + 1) xs)) (sum_by parts (take (k + 1) xs))
  items_more before mid after d n q lt look part so_far step =
      takes_both before mid after (sum_by looks (take k xs)) n (sum_by looks (take (k + 1) xs)) (sum_by parts (take k xs)) q (sum_by parts (take (k + 1) xs))
      (omega (arith, sum_by_more looks xs k d lt, look)) (omega (arith, sum_by_more parts xs k d lt, part)) so_far step

  pub items_pass : (before mid : Room) (d : X) (n q : ℕ) (e : NoMemory) → k < length xs → looks (get_or xs k d) ≡ n → parts (get_or xs k d) ≡ q
      → TakesAtMost before mid (sum_by looks (take k xs)) (sum_by parts (take k xs)) → OnLimit e (RoomPasses mid n q) → OnLimit e (RoomPasses before (sum_by looks xs) (sum_by parts xs))
  items_pass before mid d n q e lt look part so_far passes =
      step_passes before mid (sum_by looks (take k xs)) n (sum_by looks xs) (sum_by parts (take k xs)) q (sum_by parts xs) e
      (omega (arith, sum_by_more_le looks xs k d lt, look)) (omega (arith, sum_by_more_le parts xs k d lt, part)) so_far passes

  pub items_all : (before after : Room) → TakesAtMost before after (sum_by looks (take k xs)) (sum_by parts (take k xs)) → TakesAtMost before after (sum_by looks xs) (sum_by parts xs)
  items_all before after so_far =
      takes_both before after after (sum_by looks (take k xs)) 0 (sum_by looks xs) (sum_by parts (take k xs)) 0 (sum_by parts xs)
      (omega (arith, sum_by-take-le looks xs k)) (omega (arith, sum_by-take-le parts xs k)) so_far (takes_nothing after 0 0)

-- ---- what an item counts that is looked at

pub counts_where : (a b n : ℕ) → a ≡ b → cond (a == b) n 0 ≡ n
counts_where a b n same = ap (λ t. cond t n 0) (eq-eqb a b same)

-- ---- all lines

room_joins : (ch : PlainChain) (middles : List (ℕ × ℕ)) (l : Limit) → RoomPasses (room_of ch) (all_looks ch middles) (all_parts ch middles) l → JoinsPass ch middles l
room_joins ch middles l (inl short) = inl (short.0, omega (arith, short.1))
room_joins ch middles l (inr short) = inr (short.0, omega (arith, short.1))

pub joins_pass : (ch : PlainChain) (middles : List (ℕ × ℕ)) (e : NoMemory) → OnLimit e (RoomPasses (room_of ch) (all_looks ch middles) (all_parts ch middles)) → OnLimit e (JoinsPass ch middles)
joins_pass ch middles e passes = on_limit_weaker e (RoomPasses (room_of ch) (all_looks ch middles) (all_parts ch middles)) (JoinsPass ch middles) (λ l h. room_joins ch middles l h) passes
