-- What was read and what remains, as an invariant of two loops: over the entries of a unit, and over the units of a section.
use Rattle.std.proofs.Common.{◌≡◌, ◌∙◌, ℕ, suc, ◌+◌, ◌<◌, ◌≤◌, ◌^◌, List, [], ◌∷◌, ◌++◌, length, map, Option, Some, None, Result, Ok, Err, zero, refl, sym, ap, arith, append_assoc, length-append}
use Rattle.std.specs.Prelude.{flat_map}
use Rattle.std.specs.List.{enumerate_from}
use Rattle.std.proofs.lemmas.List.{append-nil, length-map, length_push}
use Rattle.abi_base.specs.declared.fault.Fault.{Fault}
use Rattle.abi_base.specs.declared.fault.Refusal.{Refusal}
use Rattle.abi_base.specs.declared.fault.Refusal.TheVariants as refusal
use Rattle.abi_base.specs.Outcome.{Refuses, first}
use Rattle.abi_base.specs.Runs.{Run, ended, put_front, run, continue}
use Rattle.dwarf_units.specs.declared.entry.Entry.{Entry}
use Rattle.dwarf_units.specs.declared.unit.Unit.{Unit}
use Rattle.dwarf_units.specs.KeptTables.{NextIsBy}
use Rattle.dwarf_units.specs.Plain.{plain_unit}
use Rattle.dwarf_units.specs.Units.{PlainUnit, entries_of}
use Rattle.dwarf_units.specs.Sequence.{entries_fault, unit_step, units_from, units_of}
use Rattle.dwarf_tree.specs.declared.head.Head.{Head}
use Rattle.dwarf_tree.specs.Trees.{TreeEntry, PlainTree, placed, placed_entries, head_of, tree_of}
use Rattle.dwarf_tree.specs.Keeping.{with_unit}

abbrev EntryRun : Type 0
EntryRun = Run Entry (Option Fault)

abbrev pub tree : List Head → List TreeEntry → PlainTree
tree units entries = record { units = units; entries = entries }

-- ---- the entries of a unit

-- the appended entries and the remaining ones are those of the unit; and the end is the same
pub record AreRead (start now : PlainTree) (k : ℕ) (left whole : EntryRun) : Type 0 where
  pub units : now.units ≡ start.units
  pub entries : now.entries ++ map (placed k) left.items ≡ start.entries ++ map (placed k) whole.items
  pub end : left.end ≡ whole.end

pub read_start : (start : PlainTree) (k : ℕ) (left : EntryRun) (u : PlainUnit) → left ≡ entries_of u → AreRead start start k left (entries_of u)
read_start start k left u same = rw same (record { units = refl; entries = refl; end = refl })

pub read_more : (start now grown : PlainTree) (k : ℕ) (e : Entry) (left next whole : EntryRun) → left ≡ put_front e next → grown ≡ tree now.units (now.entries ++ placed k e ∷ [])
    → AreRead start now k left whole → AreRead start grown k next whole
read_more start now grown k e left next whole front more so_far = record {
  units = ap (λ (t : PlainTree). t.units) more ∙ so_far.units;
  entries = ap (λ (t : PlainTree). t.entries ++ map (placed k) next.items) more
      ∙ append_assoc now.entries (placed k e ∷ []) (map (placed k) next.items)
      ∙ ap (λ (r : EntryRun). now.entries ++ map (placed k) r.items) (sym front)
      ∙ so_far.entries;
  end = ap (λ (r : EntryRun). r.end) (sym front) ∙ so_far.end;
}

same_tree : (units units' : List Head) (entries entries' : List TreeEntry) → units ≡ units' → entries ≡ entries' → tree units entries ≡ tree units' entries'
same_tree units units' entries entries' a b = ap (λ (l : List Head). tree l entries) a ∙ ap (λ (l : List TreeEntry). tree units' l) b

pub read_ends : (start now : PlainTree) (k : ℕ) (e : Option Fault) (left whole : EntryRun) → left ≡ ended e → AreRead start now k left whole → whole.end ≡ e
read_ends start now k e left whole is so_far = sym so_far.end ∙ ap (λ (r : EntryRun). r.end) is

pub read_done : (start now : PlainTree) (k : ℕ) (e : Option Fault) (left whole : EntryRun) → left ≡ ended e → AreRead start now k left whole
    → now ≡ tree start.units (start.entries ++ map (placed k) whole.items)
read_done start now k e left whole is so_far =
    same_tree now.units start.units now.entries (start.entries ++ map (placed k) whole.items) so_far.units
    (sym (append-nil now.entries) ∙ ap (λ (r : EntryRun). now.entries ++ map (placed k) r.items) (sym is) ∙ so_far.entries)

-- ---- the units of a section

abbrev UnitRun : Type 0
UnitRun = Run PlainUnit (Option Fault)

-- the entries of units, of which the first has a number
abbrev pub entries_in : ℕ → List PlainUnit → List TreeEntry
entries_in number units = flat_map placed_entries (enumerate_from number units)

abbrev faults_of : UnitRun → Option Fault
faults_of r = first (map (λ u. (entries_of u).end) r.items ++ r.end ∷ [])

-- what was read and the remaining units are those of the section; and the first fault is the same
pub record AreGrown (now : PlainTree) (left whole : UnitRun) : Type 0 where
  pub units : now.units ++ map head_of left.items ≡ map head_of whole.items
  pub entries : now.entries ++ entries_in (length now.units) left.items ≡ entries_in 0 whole.items
  pub fault : faults_of left ≡ faults_of whole

pub grown_start : (left whole : UnitRun) → left ≡ whole → AreGrown (tree [] []) left whole
grown_start left whole same = rw same (record { units = refl; entries = refl; fault = refl })

pub grown_more : (now grown : PlainTree) (u : PlainUnit) (left next whole : UnitRun) → left ≡ put_front u next → grown ≡ with_unit now u → (entries_of u).end ≡ None
    → AreGrown now left whole → AreGrown grown next whole
grown_more now grown u left next whole front more none so_far = record {
  units = ap (λ (t : PlainTree). t.units ++ map head_of next.items) more
      ∙ append_assoc now.units (head_of u ∷ []) (map head_of next.items)
      ∙ ap (λ (r : UnitRun). now.units ++ map head_of r.items) (sym front)
      ∙ so_far.units;
  entries = ap (λ (t : PlainTree). t.entries ++ entries_in (length t.units) next.items) more
      ∙ ap (λ (n : ℕ). (now.entries ++ placed_entries (length now.units, u)) ++ entries_in n next.items) (length_push now.units (head_of u))
      ∙ append_assoc now.entries (placed_entries (length now.units, u)) (entries_in (length now.units + 1) next.items)
      ∙ ap (λ (r : UnitRun). now.entries ++ entries_in (length now.units) r.items) (sym front)
      ∙ so_far.entries;
  fault = ap (λ (o : Option Fault). first (o ∷ (map (λ u. (entries_of u).end) next.items ++ next.end ∷ []))) (sym none)
      ∙ ap faults_of (sym front)
      ∙ so_far.fault;
}

-- there are few units
few_in_run : {S X E : Type 0} (step : S → Result (X × S) E) (late : E) (n : ℕ) (s : S) → length (run step late n s).items ≤ n
unfolding run
few_in_run step late zero s = omega arith
few_in_run {S = S} {X = X} {E = E} step late (suc n) s = cases (step s) (λ next. few_in_run step late n next)
  where
    cases : (r : Result (X × S) E) → ((next : S) → length (run step late n next).items ≤ n) → length (continue r (run step late n)).items ≤ suc n
    cases (Ok (x, next)) others = omega (arith, others next)
    cases (Err e) others = omega arith

few_units : (info abbrevs : List ℕ) → length (units_of info abbrevs).items ≤ suc (length info)
unfolding units_from
few_units info abbrevs = few_in_run (unit_step info abbrevs) None (suc (length info)) 0

-- ---- of the section

module _ (info abbrevs : List ℕ) (now : PlainTree) (left : UnitRun) (so_far : AreGrown now left (units_of info abbrevs)) where
  section_ends : (e : Option Fault) → left ≡ ended e → entries_fault info abbrevs ≡ first (e ∷ [])
  unfolding entries_fault
  section_ends e is = sym so_far.fault ∙ ap faults_of is

  pub section_done : left ≡ ended None → entries_fault info abbrevs ≡ None
  section_done is = section_ends None is

  pub section_read : left ≡ ended None → now ≡ tree_of info abbrevs
  unfolding tree_of
  section_read is =
      same_tree now.units (map head_of (units_of info abbrevs).items) now.entries (entries_in 0 (units_of info abbrevs).items)
      (sym (append-nil now.units) ∙ ap (λ (r : UnitRun). now.units ++ map head_of r.items) (sym is) ∙ so_far.units)
      (sym (append-nil now.entries) ∙ ap (λ (r : UnitRun). now.entries ++ entries_in (length now.units) r.items) (sym is) ∙ so_far.entries)

  -- one more unit has a number that fits
  pub number_fits : length now.units ≤ suc (length info)
  number_fits =
      let units : length now.units + length (map head_of left.items) ≡ length (units_of info abbrevs).items =
      sym (length-append now.units (map head_of left.items)) ∙ ap (λ (l : List Head). length l) so_far.units ∙ length-map (units_of info abbrevs).items head_of in
      omega (arith, units, few_units info abbrevs)

  -- what a refusal of the next unit leaves
  pub refused_unit : (r : Refusal) (next : UnitRun) → NextIsBy plain_unit left (Err r) next → Refuses r (entries_fault info abbrevs)
  refused_unit (refusal.Fault f) next is = section_ends (Some f) is.0
  refused_unit (refusal.NoMemory cause) next is = tt

  -- what a refusal of its entries leaves
  pub refused_entries : (r : Refusal) (o : Option Unit) (u : Unit) (next : UnitRun) → NextIsBy plain_unit left (Ok o) next → o ≡ Some u
      → Refuses r (entries_of (plain_unit u)).end → Refuses r (entries_fault info abbrevs)
  unfolding entries_fault
  refused_entries (refusal.Fault f) o u next given same is =
      let front : left ≡ put_front (plain_unit u) next = let here = rw same at given in here in
      sym so_far.fault ∙ ap faults_of front ∙ ap (λ (o : Option Fault). first (o ∷ (map (λ u. (entries_of u).end) next.items ++ next.end ∷ []))) is
  refused_entries (refusal.NoMemory cause) o u next given same is = tt

-- the entries that were read and those of the next unit are some of all
pub entries_fit : (info abbrevs : List ℕ) (now : PlainTree) (left next : UnitRun) (u : PlainUnit) → left ≡ put_front u next → AreGrown now left (units_of info abbrevs)
    → length (tree_of info abbrevs).entries ≤ length info → length info < 2 ^ 32 → length now.entries + length (entries_of u).items < 2 ^ 32
unfolding tree_of
entries_fit info abbrevs now left next u front so_far few small =
    let n = length now.units in
    let others = entries_in (n + 1) next.items in
    let all : now.entries ++ (placed_entries (n, u) ++ others) ≡ entries_in 0 (units_of info abbrevs).items =
    ap (λ (r : UnitRun). now.entries ++ entries_in n r.items) (sym front) ∙ so_far.entries in
    let count : length now.entries + (length (placed_entries (n, u)) + length others) ≡ length (entries_in 0 (units_of info abbrevs).items) =
    ap (λ (m : ℕ). length now.entries + m) (sym (length-append (placed_entries (n, u)) others))
    ∙ sym (length-append now.entries (placed_entries (n, u) ++ others))
    ∙ ap (λ (l : List TreeEntry). length l) all in
    omega (arith, count, few, small, length-map (entries_of u).items (placed n))
