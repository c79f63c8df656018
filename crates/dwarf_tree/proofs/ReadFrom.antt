-- What was read from the bytes of a section, as an invariant of two loops.
use Rattle.std.proofs.Common.{◌≡◌, ◌∙◌, ℕ, ◌+◌, ◌<◌, ◌≤◌, ◌^◌, List, [], ◌∷◌, ◌++◌, length, Option, Some, None, Ok, refl, sym, ap, subst, arith, length-append}
use Rattle.std.specs.Prelude.{All, map}
use Rattle.std.proofs.lemmas.List.{length-map}
use Rattle.std.proofs.lemmas.List.Elements.{All-head, All-tail}
use Rattle.abi_base.specs.declared.fault.Fault.{Fault}
use Rattle.abi_base.specs.Runs.{Run, ended, put_front, NextIs}
use Rattle.dwarf_units.specs.declared.entry.Entry.{Entry}
use Rattle.dwarf_units.specs.declared.unit.Unit.{Unit}
use Rattle.dwarf_units.specs.KeptTables.{NextIsBy}
use Rattle.dwarf_units.specs.Plain.{plain_unit}
use Rattle.dwarf_units.specs.Sequence.{units_of}
use Rattle.dwarf_units.specs.ValuePlaces.{IsTold}
use Rattle.dwarf_units.specs.Units.{PlainUnit, entries_of}
use Rattle.dwarf_tree.specs.declared.head.Head.{Head}
use Rattle.dwarf_tree.specs.Keeping.{PartialTree, now_with, with_unit, decoder, kept_of, names_in, pair_names}
use Rattle.dwarf_tree.specs.Trees.{PlainTree, TreeEntry, placed, placed_entries, head_of, head_at, tree_of}
use Rattle.dwarf_tree.proofs.Growth.{AreRead, AreGrown, read_start, read_more, read_ends, read_done, grown_start, grown_more, entries_fit, tree}
use Rattle.dwarf_tree.proofs.KeptLemmas.{told_names, told_values}

abbrev EntryRun : Type 0
EntryRun = Run Entry (Option Fault)

abbrev UnitRun : Type 0
UnitRun = Run PlainUnit (Option Fault)

abbrev pub unit_entries_told : List ℕ → PlainUnit → Type 0
unit_entries_told abbrevs u = All (IsTold abbrevs u) (entries_of u).items

pub entry_front : (left next : EntryRun) (o : Option Entry) (e : Entry) → NextIs left (Ok o) next → o ≡ Some e → left ≡ put_front e next
entry_front left next o e given same = let here = rw same at given in here

pub unit_front : (left next : UnitRun) (o : Option Unit) (u : Unit) → NextIsBy plain_unit left (Ok o) next → o ≡ Some u → left ≡ put_front (plain_unit u) next
unit_front left next o u given same = let here = rw same at given in here

-- ---- the entries of a unit

pub record IsReading (start now : PartialTree) (k : ℕ) (u : PlainUnit) (left : EntryRun) : Type 0 where
  pub info_is : now.info ≡ start.info
  pub abbrevs_is : now.abbrevs ≡ start.abbrevs
  pub read : AreRead start.tree now.tree k left (entries_of u)
  pub told : All (IsTold start.abbrevs u) left.items

pub reading_start : (start : PartialTree) (k : ℕ) (left : EntryRun) (u : PlainUnit) → left ≡ entries_of u → unit_entries_told start.abbrevs u → IsReading start start k u left
reading_start start k left u same told = record {
  info_is = refl;
  abbrevs_is = refl;
  read = read_start start.tree k left u same;
  told = subst (λ (r : EntryRun). All (IsTold start.abbrevs u) r.items) (sym same) told;
}

module _ (start now : PartialTree) (k : ℕ) (u : PlainUnit) (left next : EntryRun) (e : Entry) (front : left ≡ put_front e next) (so_far : IsReading start now k u left) where
  told_front : All (IsTold start.abbrevs u) (e ∷ next.items)
  told_front = subst (λ (r : EntryRun). All (IsTold start.abbrevs u) r.items) front so_far.told

  told_here : IsTold start.abbrevs u e
  told_here = All-head (IsTold start.abbrevs u) e next.items told_front

  pub reading_offset : u.end ≤ 2 ^ 32 → e.offset < 2 ^ 32
  reading_offset le = omega (arith, told_here.before)

  pub reading_specs : length start.abbrevs < 2 ^ 32 → e.specs_from < 2 ^ 32
  reading_specs small = omega (arith, told_here.inside)

  pub reading_inside : k < length start.tree.units → k < length now.tree.units
  reading_inside inside = subst (λ (l : List Head). k < length l) (sym so_far.read.units) inside

  pub reading_values : u.info ≡ start.info → head_at start.tree k ≡ head_of u → decoder now.info now.abbrevs now.tree.units (kept_of 0 k e) ≡ e.attributes
  reading_values same head =
      ap (λ (i : List ℕ). decoder i now.abbrevs now.tree.units (kept_of 0 k e)) so_far.info_is
      ∙ ap (λ (a : List ℕ). decoder start.info a now.tree.units (kept_of 0 k e)) so_far.abbrevs_is
      ∙ ap (λ (l : List Head). decoder start.info start.abbrevs l (kept_of 0 k e)) so_far.read.units
      ∙ told_values start.info start.abbrevs start.tree.units k u e same head told_here

  pub reading_names : pair_names now.abbrevs e.specs_from ≡ names_in e.attributes
  reading_names = ap (λ (a : List ℕ). pair_names a e.specs_from) so_far.abbrevs_is ∙ told_names start.abbrevs u e told_here

  pub reading_few : length start.tree.entries + length (entries_of u).items < 2 ^ 32 → length now.tree.entries + 1 < 2 ^ 32
  reading_few few =
      let same : length now.tree.entries + length (map (placed k) left.items) ≡ length start.tree.entries + length (map (placed k) (entries_of u).items) =
      sym (length-append now.tree.entries (map (placed k) left.items))
      ∙ ap (λ (l : List TreeEntry). length l) so_far.read.entries
      ∙ length-append start.tree.entries (map (placed k) (entries_of u).items) in
      let more : length left.items ≡ length next.items + 1 = ap (λ (r : EntryRun). length r.items) front ∙ omega arith in
      omega (arith, few, same, more, length-map left.items (placed k), length-map (entries_of u).items (placed k))

  pub reading_more : (grown : PartialTree) → grown ≡ now_with now now.tree.units (now.tree.entries ++ placed k e ∷ []) → IsReading start grown k u next
  reading_more grown more = record {
    info_is = ap (λ (g : PartialTree). g.info) more ∙ so_far.info_is;
    abbrevs_is = ap (λ (g : PartialTree). g.abbrevs) more ∙ so_far.abbrevs_is;
    read = read_more start.tree now.tree grown.tree k e left next (entries_of u) front (ap (λ (g : PartialTree). g.tree) more) so_far.read;
    told = All-tail (IsTold start.abbrevs u) e next.items told_front;
  }

pub reading_ends : (start now : PartialTree) (k : ℕ) (u : PlainUnit) (left : EntryRun) (e : Option Fault) → left ≡ ended e → IsReading start now k u left → (entries_of u).end ≡ e
reading_ends start now k u left e is so_far = read_ends start.tree now.tree k e left (entries_of u) is so_far.read

same_growing : (start now : PartialTree) (t : PlainTree) → now.info ≡ start.info → now.abbrevs ≡ start.abbrevs → now.tree ≡ t → now ≡ now_with start t.units t.entries
same_growing start now t a b c =
    ap (λ (i : List ℕ). let g : PartialTree = record { info = i; abbrevs = now.abbrevs; tree = now.tree } in g) a
    ∙ ap (λ (i : List ℕ). let g : PartialTree = record { info = start.info; abbrevs = i; tree = now.tree } in g) b
    ∙ ap (λ (x : PlainTree). let g : PartialTree = record { info = start.info; abbrevs = start.abbrevs; tree = x } in g) c

pub reading_done : (start now : PartialTree) (k : ℕ) (u : PlainUnit) (left : EntryRun) (e : Option Fault) → left ≡ ended e → IsReading start now k u left
    → now ≡ now_with start start.tree.units (start.tree.entries ++ placed_entries (k, u))
reading_done start now k u left e is so_far =
    same_growing start now (tree start.tree.units (start.tree.entries ++ placed_entries (k, u))) so_far.info_is so_far.abbrevs_is
    (read_done start.tree now.tree k e left (entries_of u) is so_far.read)

-- ---- the units of a section

pub record IsGrowing (info abbrevs : List ℕ) (now : PartialTree) (left : UnitRun) : Type 0 where
  pub info_is : now.info ≡ info
  pub abbrevs_is : now.abbrevs ≡ abbrevs
  pub grown : AreGrown now.tree left (units_of info abbrevs)
  pub infos : All (λ (u : PlainUnit). u.info ≡ info) left.items
  pub told : All (unit_entries_told abbrevs) left.items

pub growing_start : (info abbrevs : List ℕ) (now : PartialTree) (left : UnitRun) → All (λ (u : PlainUnit). u.info ≡ info) (units_of info abbrevs).items → All (unit_entries_told abbrevs) (units_of info abbrevs).items → now ≡ record { info = info; abbrevs = abbrevs; tree = record { units = []; entries = [] } } → left ≡ units_of info abbrevs
    → IsGrowing info abbrevs now left
growing_start info abbrevs now left infos told new same = record {
  info_is = ap (λ (g : PartialTree). g.info) new;
  abbrevs_is = ap (λ (g : PartialTree). g.abbrevs) new;
  grown = subst (λ (t : PlainTree). AreGrown t left (units_of info abbrevs)) (sym (ap (λ (g : PartialTree). g.tree) new)) (grown_start left (units_of info abbrevs) same);
  infos = subst (λ (r : UnitRun). All (λ (u : PlainUnit). u.info ≡ info) r.items) (sym same) infos;
  told = subst (λ (r : UnitRun). All (unit_entries_told abbrevs) r.items) (sym same) told;
}

module _ (info abbrevs : List ℕ) (now : PartialTree) (left next : UnitRun) (u : PlainUnit) (front : left ≡ put_front u next) (so_far : IsGrowing info abbrevs now left) where
  infos_front : All (λ (u : PlainUnit). u.info ≡ info) (u ∷ next.items)
  infos_front = subst (λ (r : UnitRun). All (λ (u : PlainUnit). u.info ≡ info) r.items) front so_far.infos

  tolds_front : All (unit_entries_told abbrevs) (u ∷ next.items)
  tolds_front = subst (λ (r : UnitRun). All (unit_entries_told abbrevs) r.items) front so_far.told

  pub growing_same : u.info ≡ now.info
  growing_same = All-head (λ (u : PlainUnit). u.info ≡ info) u next.items infos_front ∙ sym so_far.info_is

  pub growing_told : unit_entries_told now.abbrevs u
  growing_told = subst (λ (a : List ℕ). unit_entries_told a u) (sym so_far.abbrevs_is) (All-head (unit_entries_told abbrevs) u next.items tolds_front)

  pub growing_few : length (tree_of info abbrevs).entries ≤ length info → length info < 2 ^ 32 → length now.tree.entries + length (entries_of u).items < 2 ^ 32
  growing_few few small = entries_fit info abbrevs now.tree left next u front so_far.grown few small

  pub growing_more : (grown : PartialTree) → grown ≡ now_with now (with_unit now.tree u).units (with_unit now.tree u).entries → (entries_of u).end ≡ None → IsGrowing info abbrevs grown next
  growing_more grown more none = record {
    info_is = ap (λ (g : PartialTree). g.info) more ∙ so_far.info_is;
    abbrevs_is = ap (λ (g : PartialTree). g.abbrevs) more ∙ so_far.abbrevs_is;
    grown = grown_more now.tree grown.tree u left next (units_of info abbrevs) front (ap (λ (g : PartialTree). g.tree) more) none so_far.grown;
    infos = All-tail (λ (u : PlainUnit). u.info ≡ info) u next.items infos_front;
    told = All-tail (unit_entries_told abbrevs) u next.items tolds_front;
  }
