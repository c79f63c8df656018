-- What readers of units and of entries take of their budgets: invariants of loops over `next_unit` and `next_outline`.
use Rattle.std.proofs.Common.{◌≡◌, ◌∙◌, ℕ, ◌+◌, ◌-◌, ◌<◌, ◌≤◌, List, [], ◌∷◌, length, Option, Some, None, Ok, refl, sym, ap, subst, arith}
use Rattle.std.specs.Prelude.{All, Contains, MatchOption}
use Rattle.std.specs.List.{sum_by}
use Rattle.std.proofs.lemmas.List.Elements.{All-nil, All-cons}
use Rattle.std.proofs.lemmas.List.Sums.{sum_by-cons}
use Rattle.abi_base.specs.declared.fault.Fault.{Fault}
use Rattle.abi_base.specs.declared.fault.Refusal.{Refusal}
use Rattle.abi_base.specs.declared.limit.Limit.{Limit}
use Rattle.abi_base.specs.declared.limit.Limit.TheVariants.{Abbreviations, Attributes}
use Rattle.abi_base.specs.Budgets.{BudgetState, fresh, with_taken}
use Rattle.abi_base.specs.Outcome.{OnPast}
use Rattle.abi_base.specs.Runs.{NextIs, Run, ended, put_front}
use Rattle.abi_base.proofs.lemmas.Contained.{at_front, in_rest}
use Rattle.abi_base.proofs.lemmas.Outcomes.{on_past_weaker}
use Rattle.dwarf_units.specs.declared.entry.Entry.{Entry}
use Rattle.dwarf_units.specs.declared.unit.Unit.{Unit}
use Rattle.dwarf_units.specs.KeptTables.{NextIsBy}
use Rattle.dwarf_units.specs.Limits.{HaveFewAttributes, PassesLeft, TakesAtMost, TakesNext, UnitsPass, attribute_cost, attributes_allowed, attributes_count, table_cost, tables_allowed, tables_count}
use Rattle.dwarf_units.specs.Plain.{plain_unit}
use Rattle.dwarf_units.specs.Sequence.{units_of}
use Rattle.dwarf_units.specs.Units.{PlainUnit, entries_of}

abbrev EntryRun : Type 0
EntryRun = Run Entry (Option Fault)

abbrev UnitRun : Type 0
UnitRun = Run PlainUnit (Option Fault)

sum_front : {X : Type 0} (cost : X → ℕ) (left next : Run X (Option Fault)) (x : X) → left ≡ put_front x next → sum_by cost left.items ≡ cost x + sum_by cost next.items
sum_front {X = X} cost left next x front = ap (λ (r : Run X (Option Fault)). sum_by cost r.items) front ∙ sum_by-cons cost x next.items

-- ---- the attributes of a unit

pub record AttributesTaken (u : PlainUnit) (left : EntryRun) (budget : BudgetState) : Type 0 where
  pub limit_is : budget.limit ≡ Attributes
  pub most : budget.most ≡ attributes_allowed u
  pub taken : budget.taken + sum_by attribute_cost left.items ≡ attributes_count u
  pub within : budget.taken ≤ budget.most

pub attributes_start : (u : PlainUnit) (left : EntryRun) (budget : BudgetState) → left ≡ entries_of u → budget ≡ fresh Attributes (u.end - u.offset) → AttributesTaken u left budget
attributes_start u left budget whole is =
    let none : budget.taken ≡ 0 = ap (λ (b : BudgetState). b.taken) is in record {
      limit_is = ap (λ (b : BudgetState). b.limit) is;
      most = ap (λ (b : BudgetState). b.most) is;
      taken = let all : sum_by attribute_cost left.items ≡ attributes_count u = ap (λ (r : EntryRun). sum_by attribute_cost r.items) whole in omega (arith, none, all);
      within = omega (arith, none);
    }

-- what the reader of the next entry takes
pub taken_next : {X : Type 0} (cost : X → ℕ) (old new : BudgetState) (o : Option X) (x : X) → TakesNext cost old (Ok o) new → o ≡ Some x → (new ≡ with_taken old (cost x)) × (old.taken + cost x ≤ old.most)
taken_next cost old new o x given same = let here = rw same at given in here

pub attributes_more : (u : PlainUnit) (left next : EntryRun) (budget more : BudgetState) (e : Entry) → AttributesTaken u left budget → left ≡ put_front e next
    → (more ≡ with_taken budget (attribute_cost e)) × (budget.taken + attribute_cost e ≤ budget.most) → AttributesTaken u next more
attributes_more u left next budget more e so_far front took =
    let taken : more.taken ≡ budget.taken + attribute_cost e = ap (λ (b : BudgetState). b.taken) took.0 in
    let most : more.most ≡ budget.most = ap (λ (b : BudgetState). b.most) took.0 in
    let sum = sum_front attribute_cost left next e front in
    record {
      limit_is = ap (λ (b : BudgetState). b.limit) took.0 ∙ so_far.limit_is;
      most = most ∙ so_far.most;
      taken = omega (arith, taken, sum, so_far.taken);
      within = omega (arith, taken, most, took.1);
    }

pub attributes_past : (u : PlainUnit) (left : EntryRun) (budget : BudgetState) (e : Refusal) → AttributesTaken u left budget → OnPast e (PassesLeft attribute_cost left budget)
    → OnPast e (λ (l : Limit). (l ≡ Attributes) × (attributes_allowed u < attributes_count u))
attributes_past u left budget e so_far h =
    on_past_weaker e (PassesLeft attribute_cost left budget) (λ (l : Limit). (l ≡ Attributes) × (attributes_allowed u < attributes_count u))
    (λ l p. (p.0 ∙ so_far.limit_is, omega (arith, p.1, so_far.most, so_far.taken))) h

pub attributes_end : (u : PlainUnit) (left : EntryRun) (budget : BudgetState) (o : Option Fault) → AttributesTaken u left budget → left ≡ ended o → attributes_count u ≤ attributes_allowed u
attributes_end u left budget o so_far is =
    let none : sum_by attribute_cost left.items ≡ 0 = ap (λ (r : EntryRun). sum_by attribute_cost r.items) is in
    omega (arith, none, so_far.most, so_far.taken, so_far.within)

-- ---- the tables of a section, and the attributes of each unit

pub record UnitsTaken (info abbrevs : List ℕ) (left : UnitRun) (budget : BudgetState) : Type 0 where
  pub limit_is : budget.limit ≡ Abbreviations
  pub most : budget.most ≡ tables_allowed abbrevs
  pub taken : budget.taken + sum_by table_cost left.items ≤ tables_count info abbrevs
  pub inside : (u : PlainUnit) → Contains left.items u → Contains (units_of info abbrevs).items u
  pub few : All (λ (u : PlainUnit). attributes_count u ≤ attributes_allowed u) left.items → HaveFewAttributes info abbrevs

module _ (info abbrevs : List ℕ) (left : UnitRun) where
  pub units_start : (budget : BudgetState) → left ≡ units_of info abbrevs → budget ≡ fresh Abbreviations (length abbrevs) → UnitsTaken info abbrevs left budget
  units_start budget whole is = record {
    limit_is = ap (λ (b : BudgetState). b.limit) is;
    most = ap (λ (b : BudgetState). b.most) is;
    taken = let none : budget.taken ≡ 0 = ap (λ (b : BudgetState). b.taken) is in
        let all : sum_by table_cost left.items ≡ tables_count info abbrevs = ap (λ (r : UnitRun). sum_by table_cost r.items) whole in omega (arith, none, all);
    inside = λ u there. subst (λ (r : UnitRun). Contains r.items u) whole there;
    few = λ all. subst (λ (r : UnitRun). All (λ (u : PlainUnit). attributes_count u ≤ attributes_allowed u) r.items) whole all;
  }

  module _ (next : UnitRun) (budget : BudgetState) where
    pub units_more : (more : BudgetState) (u : PlainUnit) → UnitsTaken info abbrevs left budget → left ≡ put_front u next → TakesAtMost budget more (table_cost u)
        → attributes_count u ≤ attributes_allowed u → UnitsTaken info abbrevs next more
    units_more more u so_far front took fits = record {
      limit_is = took.limit ∙ so_far.limit_is;
      most = took.most ∙ so_far.most;
      taken = omega (arith, took.taken, sum_front table_cost left next u front, so_far.taken);
      inside = λ v there. so_far.inside v (subst (λ (r : UnitRun). Contains r.items v) (sym front) (in_rest u next.items v there));
      few = λ all. so_far.few (subst (λ (r : UnitRun). All (λ (v : PlainUnit). attributes_count v ≤ attributes_allowed v) r.items) (sym front)
          (All-cons (λ (v : PlainUnit). attributes_count v ≤ attributes_allowed v) u next.items fits all));
    }

    pub entries_past : (u : PlainUnit) (e : Refusal) → UnitsTaken info abbrevs left budget → left ≡ put_front u next
        → OnPast e (λ (l : Limit). (l ≡ Attributes) × (attributes_allowed u < attributes_count u)) → OnPast e (UnitsPass info abbrevs)
    entries_past u e so_far front h =
        on_past_weaker e (λ (l : Limit). (l ≡ Attributes) × (attributes_allowed u < attributes_count u)) (UnitsPass info abbrevs)
        (λ l p. subst (UnitsPass info abbrevs) (sym p.0) (u, so_far.inside u (subst (λ (r : UnitRun). Contains r.items u) (sym front) (at_front u next.items)), p.1)) h

  pub units_past : (budget : BudgetState) (e : Refusal) → UnitsTaken info abbrevs left budget → OnPast e (PassesLeft table_cost left budget) → OnPast e (UnitsPass info abbrevs)
  units_past budget e so_far h =
      on_past_weaker e (PassesLeft table_cost left budget) (UnitsPass info abbrevs)
      (λ l p. let above : tables_allowed abbrevs < tables_count info abbrevs = omega (arith, p.1, so_far.most, so_far.taken) in
      subst (UnitsPass info abbrevs) (sym (p.0 ∙ so_far.limit_is)) above) h

  pub units_end : (budget : BudgetState) (o : Option Fault) → UnitsTaken info abbrevs left budget → left ≡ ended o → HaveFewAttributes info abbrevs
  units_end budget o so_far is =
      so_far.few (subst (λ (r : UnitRun). All (λ (u : PlainUnit). attributes_count u ≤ attributes_allowed u) r.items) (sym is) (All-nil (λ (u : PlainUnit). attributes_count u ≤ attributes_allowed u)))

-- the end of entries or of units
pub none_left : {X : Type 0} (left next : Run X (Option Fault)) (o : Option X) → NextIs left (Ok o) next → o ≡ None → left ≡ ended None
none_left left next o given same = let here = rw same at given in here.0

pub no_unit_left : (left next : UnitRun) (o : Option Unit) → NextIsBy plain_unit left (Ok o) next → o ≡ None → left ≡ ended None
no_unit_left left next o given same = let here = rw same at given in here.0

-- what the reader of the next unit takes
pub unit_taken : (old new : BudgetState) (o : Option Unit) (u : Unit) → MatchOption o (new ≡ old) (λ u. TakesAtMost old new (table_cost (plain_unit u))) → o ≡ Some u → TakesAtMost old new (table_cost (plain_unit u))
unit_taken old new o u given same = let here = rw same at given in here
