-- What the budgets of an exploration tell of its visits.
use Rattle.std.proofs.Common.{◌≡◌, ◌<◌, ◌≤◌, ℕ, zero, suc, ◌+◌, ◌-◌, List, [], ◌∷◌, ◌++◌, map, take, drop, length, slice_get, Option, Some, None, refl, sym, ◌∙◌, ap, subst, inl, inr, arith}
use Rattle.std.specs.List.{sum_by}
use Rattle.std.proofs.lemmas.Bool.{cases_lt}
use Rattle.std.proofs.lemmas.List.{length-map, map-append, take-append-drop, take_all, take_more}
use Rattle.std.proofs.lemmas.List.Sums.{sum_by-append, sum_by_push}
use Rattle.std.proofs.lemmas.Option.{slice_get_within, get_or_from_slice_get}
use Rattle.abi_base.specs.Budgets.{BudgetState, allowed, fresh}
use Rattle.abi_base.specs.declared.fault.NoMemory.{NoMemory}
use Rattle.abi_base.specs.declared.fault.NoMemory.TheVariants.{Past}
use Rattle.abi_base.specs.declared.limit.Limit.{Limit}
use Rattle.abi_base.specs.declared.limit.Limit.TheVariants.{Pairs, PairParts, Breaks}
use Rattle.abi_base.specs.Outcome.{OnLimit}
use Rattle.abi_base.proofs.lemmas.Budgets.{SpentOn, on_none}
use Rattle.abi_base.proofs.lemmas.Lists.{at_below, map_source}
use Rattle.pair_rules.specs.Steps.{Triple}
use Rattle.pair_rules.specs.Weights.{weight_units}
use Rattle.pair_explorer.specs.declared.visits.Visit.{Visit}
use Rattle.pair_explorer.specs.Adding.{added, added_some, entered, expanded}
use Rattle.pair_explorer.specs.Limits.{AreReached, AreWithin, CountMore, ExplorationPasses, break_count_at, breaks_allowed, pairs_allowed, parts_allowed, types_of, weight_at, HasManyTypes}
use Rattle.pair_explorer.specs.Scopes.{Scope, LeadsByRep}
use Rattle.pair_explorer.specs.Spending.{AddPasses, ExpansionPasses, IsCounted, Takes, VisitsPass, HasWideNumber}
use Rattle.pair_explorer.specs.Visits.{seen}
use Rattle.pair_explorer.proofs.Counting.{take-Extends, expanded-grows}
use Rattle.pair_explorer.proofs.Entered.{entered_some}
use Rattle.pair_explorer.proofs.Growth.{Extends, Extends-refl, Extends-trans, Extends-added}
use Rattle.pair_explorer.proofs.Loop.{along_below, leads_along}
use Rattle.pair_explorer.proofs.Visited.{IsVisited}

-- ---- the cause at a failed step

pub past_is : (cause : NoMemory) (l : Limit) (P : Limit → Type 0) → cause ≡ Past l → P l → OnLimit cause P
past_is cause l P is holds = rw is holds

-- ---- visits that grow

pub length-Extends : (vs ws : List Visit) → Extends vs ws → length vs ≤ length ws
length-Extends vs ws grows =
    elim (cases_lt (length ws) (length vs)) [
      | inl shorter ↦
          let v = at_below vs (length ws) shorter in
          absurd (omega (arith, slice_get_within ws (length ws) v.0 (grows.kept (length ws) v.0 v.1)))
      | inr within ↦ within
    ]

added_some-more : (f : ℕ → Option Visit) (n : ℕ) (vs : List Visit) → Extends (entered f n vs) (entered f (suc n) vs)
unfolding entered
added_some-more f n vs = go (f n) where
  go : (o : Option Visit) → Extends (entered f n vs) (added_some (entered f n vs) o)
  go None = Extends-refl (entered f n vs)
  go (Some v) = Extends-added (entered f n vs) v

pub entered-more : (f : ℕ → Option Visit) (m n : ℕ) (vs : List Visit) → m ≤ n → Extends (entered f m vs) (entered f n vs)
entered-more f m zero vs le = let e : m ≡ 0 = omega arith in rw e (Extends-refl (entered f 0 vs))
entered-more f m (suc n) vs le =
    elim (cases_lt n m) [
      | inl above ↦ let e : m ≡ suc n = omega arith in rw e (Extends-refl (entered f (suc n) vs))
      | inr within ↦ Extends-trans (entered-more f m n vs within) (added_some-more f n vs)
    ]

-- ---- one visit more

pub counted_none : (s : Scope) (visits : List Visit) (pairs : BudgetState) → visits ≡ [] → pairs ≡ fresh Pairs (types_of s) → IsCounted s visits pairs
counted_none s visits pairs none is = record {
  limit_is = ap (λ (b : BudgetState). b.limit) is;
  most = ap (λ (b : BudgetState). b.most) is;
  taken = ap (λ (b : BudgetState). b.taken) is ∙ ap length (sym none);
  within = omega (arith, ap (λ (b : BudgetState). b.taken) is);
}

pub counted_more : (s : Scope) (visits more : List Visit) (v : Visit) (pairs next : BudgetState) → IsCounted s visits pairs → more ≡ added visits v → Takes pairs next (length (added visits v) - length visits) → IsCounted s more next
counted_more s visits more v pairs next counted is takes =
    let grows = length-Extends visits (added visits v) (Extends-added visits v) in
    record {
      limit_is = takes.limit_is ∙ counted.limit_is;
      most = takes.most ∙ counted.most;
      taken = omega (arith, takes.taken, counted.taken, grows, ap length is);
      within = takes.within;
    }

wide_many : (s : Scope) (v : Visit) → v.old < length s.task.old → v.new < length s.task.new → HasWideNumber v → HasManyTypes s
wide_many s v old new (inl wide) = inl (omega arith)
wide_many s v old new (inr wide) = inr (omega arith)

pub visits_past : (s : Scope) (f : ℕ → Option Visit) (k n : ℕ) (base visits : List Visit) (v : Visit) (pairs : BudgetState) (l : Limit) → k < n → visits ≡ entered f k base → f k ≡ Some v → IsCounted s visits pairs
    → v.old < length s.task.old → v.new < length s.task.new → AddPasses pairs visits v l → VisitsPass s (entered f n base) l
visits_past s f k n base visits v pairs l lt so_far at counted old new (is, inl more) =
    let one : added visits v ≡ entered f (k + 1) base = added_is in
    (is, inl (omega (arith, more, counted.most, ap length one, length-Extends (entered f (k + 1) base) (entered f n base) (entered-more f (k + 1) n base (omega arith)))))
  where
    added_is : added visits v ≡ entered f (k + 1) base
    added_is = entered_some f k base visits (added visits v) v at so_far refl
visits_past s f k n base visits v pairs l lt so_far at counted old new (is, inr wide) = (is, inr (wide_many s v old new wide))

-- ---- the visits are reachable triples

pub visited_reached : (s : Scope) (vs : List Visit) → IsVisited s vs → AreReached s (map seen vs)
visited_reached s vs was = record {
  reached = λ n x at.
      let v = map_source seen vs n x at in
      let path = along_below s vs was (suc n) n v.item (omega arith) v.at in
      (path.0, subst (LeadsByRep s path.0) v.is (leads_along s vs was path.0 n v.item v.at path.1));
  once = λ m n x at_m at_n.
      let u = map_source seen vs m x at_m in
      let v = map_source seen vs n x at_n in
      was.once m n u.item v.item u.at v.at (u.is ∙ sym v.is);
}

pub count_more : (s : Scope) (vs : List Visit) (count : List Triple → ℕ) (most : ℕ) → IsVisited s vs → most < count (map seen vs) → CountMore s count most
count_more s vs count most was more = record { triples = map seen vs; are = visited_reached s vs was; more = more }

pub visits_pass : (s : Scope) (vs : List Visit) (l : Limit) → IsVisited s vs → VisitsPass s vs l → ExplorationPasses s l
visits_pass s vs l was (is, inl more) = rw is (inl (count_more s vs length (pairs_allowed s) was (rw (length-map vs seen) more)))
visits_pass s vs l was (is, inr many) = rw is (inr many)

-- ---- work

-- what the first visits count
pub spent_more : (limit : Limit) (units : ℕ) (cost : Triple → ℕ) (vs ws : List Visit) (m : ℕ) (v : Visit) (before after : BudgetState) → slice_get vs m ≡ Some v → Extends vs ws
    → SpentOn limit units cost (map seen (take m vs)) before → Takes before after (cost (seen v)) → SpentOn limit units cost (map seen (take (m + 1) ws)) after
spent_more limit units cost vs ws m v before after at grows so_far takes =
    let inside = slice_get_within vs m v at in
    let more : take (m + 1) ws ≡ take m vs ++ v ∷ [] =
    sym (take-Extends vs ws (m + 1) grows (omega arith)) ∙ take_more vs m v inside ∙ ap (λ u. take m vs ++ u ∷ []) (get_or_from_slice_get vs m v v at) in
    let sums : sum_by cost (map seen (take (m + 1) ws)) ≡ sum_by cost (map seen (take m vs)) + cost (seen v) =
    ap (λ us. sum_by cost (map seen us)) more ∙ ap (sum_by cost) (map-append seen (take m vs) (v ∷ [])) ∙ sum_by_push cost (map seen (take m vs)) (seen v) in
    record {
      limit_is = takes.limit_is ∙ so_far.limit_is;
      most = takes.most ∙ so_far.most;
      taken = omega (arith, takes.taken, so_far.taken, sums);
      within = takes.within;
    }

pub spent_past : (limit : Limit) (units : ℕ) (cost : Triple → ℕ) (vs : List Visit) (m : ℕ) (v : Visit) (before : BudgetState) → slice_get vs m ≡ Some v
    → SpentOn limit units cost (map seen (take m vs)) before → before.most < before.taken + cost (seen v) → allowed limit units < sum_by cost (map seen vs)
spent_past limit units cost vs m v before at so_far above =
    let inside = slice_get_within vs m v at in
    let more : take (m + 1) vs ≡ take m vs ++ v ∷ [] = take_more vs m v inside ∙ ap (λ u. take m vs ++ u ∷ []) (get_or_from_slice_get vs m v v at) in
    let sums : sum_by cost (map seen (take (m + 1) vs)) ≡ sum_by cost (map seen (take m vs)) + cost (seen v) =
    ap (λ us. sum_by cost (map seen us)) more ∙ ap (sum_by cost) (map-append seen (take m vs) (v ∷ [])) ∙ sum_by_push cost (map seen (take m vs)) (seen v) in
    let whole : sum_by cost (map seen vs) ≡ sum_by cost (map seen (take (m + 1) vs)) + sum_by cost (map seen (drop (m + 1) vs)) =
    ap (λ us. sum_by cost (map seen us)) (sym (take-append-drop (m + 1) vs))
    ∙ ap (sum_by cost) (map-append seen (take (m + 1) vs) (drop (m + 1) vs))
    ∙ sum_by-append cost (map seen (take (m + 1) vs)) (map seen (drop (m + 1) vs)) in
    omega (arith, above, so_far.most, so_far.taken, sums, whole)

pub spent_all : (limit : Limit) (units : ℕ) (cost : Triple → ℕ) (vs : List Visit) (m : ℕ) (budget : BudgetState) → length vs ≤ m → SpentOn limit units cost (map seen (take m vs)) budget → sum_by cost (map seen vs) ≤ allowed limit units
spent_all limit units cost vs m budget past so_far =
    let whole : sum_by cost (map seen (take m vs)) ≡ sum_by cost (map seen vs) = ap (λ us. sum_by cost (map seen us)) (take_all m vs past) in
    omega (arith, so_far.within, so_far.most, so_far.taken, whole)

-- what was taken before number m
pub record IsSpent (s : Scope) (vs : List Visit) (m : ℕ) (pair_budget part_budget break_budget : BudgetState) : Type 0 where
  pub pairs : IsCounted s vs pair_budget
  pub parts : SpentOn PairParts (weight_units s.task.old s.task.new) (weight_at s.task) (map seen (take m vs)) part_budget
  pub breaks : SpentOn Breaks (types_of s) (break_count_at s.task) (map seen (take m vs)) break_budget

pub expansion_passes : (s : Scope) (vs ws : List Visit) (m : ℕ) (v : Visit) (pairs parts broken : BudgetState) (l : Limit) → slice_get vs m ≡ Some v → ws ≡ expanded s vs m v → IsVisited s vs → IsVisited s ws → IsSpent s vs m pairs parts broken
    → ExpansionPasses s vs m v parts broken l → ExplorationPasses s l
expansion_passes s vs ws m v pairs parts broken l at grown was visited spent (inl visits) = visits_pass s ws l visited (rw grown visits)
expansion_passes s vs ws m v pairs parts broken l at grown was visited spent (inr (inl (is, above))) =
    rw is (count_more s vs (sum_by (weight_at s.task)) (parts_allowed s) was (spent_past PairParts (weight_units s.task.old s.task.new) (weight_at s.task) vs m v parts at spent.parts above))
expansion_passes s vs ws m v pairs parts broken l at grown was visited spent (inr (inr (is, above))) =
    rw is (count_more s vs (sum_by (break_count_at s.task)) (breaks_allowed s) was (spent_past Breaks (types_of s) (break_count_at s.task) vs m v broken at spent.breaks above))

pub all_within : (s : Scope) (vs : List Visit) (m : ℕ) (pairs parts broken : BudgetState) → length vs ≤ m → IsSpent s vs m pairs parts broken → AreWithin s (map seen vs)
all_within s vs m pairs parts broken past spent = record {
  pairs = rw (length-map vs seen) (omega (arith, spent.pairs.within, spent.pairs.most, spent.pairs.taken));
  parts = spent_all PairParts (weight_units s.task.old s.task.new) (weight_at s.task) vs m parts past spent.parts;
  breaks = spent_all Breaks (types_of s) (break_count_at s.task) vs m broken past spent.breaks;
}

pub spent_none : (s : Scope) (vs : List Visit) (pairs parts broken : BudgetState) → IsCounted s vs pairs → parts ≡ fresh PairParts (weight_units s.task.old s.task.new) → broken ≡ fresh Breaks (types_of s) → IsSpent s vs 0 pairs parts broken
spent_none s vs pairs parts broken counted is_parts is_broken = record {
  pairs = counted;
  parts = on_none PairParts (weight_units s.task.old s.task.new) (weight_at s.task) parts is_parts;
  breaks = on_none Breaks (types_of s) (break_count_at s.task) broken is_broken;
}

pub spent_on : (s : Scope) (vs : List Visit) (m : ℕ) (v : Visit) (pairs parts broken next_pairs next_parts next_broken : BudgetState) → slice_get vs m ≡ Some v → IsSpent s vs m pairs parts broken
    → IsCounted s (expanded s vs m v) next_pairs → Takes parts next_parts (weight_at s.task (seen v)) → Takes broken next_broken (break_count_at s.task (seen v)) → IsSpent s (expanded s vs m v) (m + 1) next_pairs next_parts next_broken
spent_on s vs m v pairs parts broken next_pairs next_parts next_broken at spent counted took_parts took_breaks =
    let grows = expanded-grows s vs m v in
    record {
      pairs = counted;
      parts = spent_more PairParts (weight_units s.task.old s.task.new) (weight_at s.task) vs (expanded s vs m v) m v parts next_parts at grows spent.parts took_parts;
      breaks = spent_more Breaks (types_of s) (break_count_at s.task) vs (expanded s vs m v) m v broken next_broken at grows spent.breaks took_breaks;
    }
