-- Lines of entries, as two loops add them: over the entries of a unit, and over the units of a section.
use Rattle.std.proofs.Common.{◌≡◌, ℕ, ◌∷◌, [], ◌++◌, List, Option, None, Some, Ok, Err, map, flat_map, refl, sym, ◌∙◌, ap, append_assoc}
use Rattle.std.proofs.lemmas.Grind.{flat_map-append}
use Rattle.std.proofs.lemmas.List.{append-nil}
use Rattle.abi_base.specs.declared.fault.Fault.{Fault}
use Rattle.abi_base.specs.declared.fault.Refusal.{Refusal}
use Rattle.abi_base.specs.declared.fault.Refusal.TheVariants as refusal
use Rattle.abi_base.specs.Outcome.{Refuses, first}
use Rattle.abi_base.specs.Runs.{Run, ended, put_front}
use Rattle.dwarf_units.specs.declared.entry.Entry.{Entry}
use Rattle.dwarf_units.specs.KeptTables.{NextIsBy}
use Rattle.dwarf_units.specs.Plain.{plain_unit}
use Rattle.dwarf_units.specs.declared.unit.Unit.{Unit}
use Rattle.dwarf_units.specs.Sequence.{all_entries, entries_fault, units_of}
use Rattle.dwarf_units.specs.Units.{PlainUnit, entries_of}
use Rattle.listings.specs.entries.EntryLines.{entry_line}

abbrev lines_of : List Entry → List ℕ
lines_of entries = flat_map entry_line entries

-- what was written, and the lines of the entries that are left, are the lines of them all; and the end is the same
pub record IsListing (before text : List ℕ) (left whole : Run Entry (Option Fault)) : Type 0 where
  pub lines : text ++ lines_of left.items ≡ before ++ lines_of whole.items
  pub end : left.end ≡ whole.end

pub listing_start : (before : List ℕ) (left whole : Run Entry (Option Fault)) → left ≡ whole → IsListing before before left whole
listing_start before left whole same = rw same (record { lines = refl; end = refl })

pub listing_more : (before text next_text : List ℕ) (e : Entry) (left next whole : Run Entry (Option Fault)) → left ≡ put_front e next → next_text ≡ text ++ entry_line e
    → IsListing before text left whole → IsListing before next_text next whole
listing_more before text next_text e left next whole front grown so_far = record {
  lines = ap (λ (t : List ℕ). t ++ lines_of next.items) grown
      ∙ append_assoc text (entry_line e) (lines_of next.items)
      ∙ ap (λ (r : Run Entry (Option Fault)). text ++ lines_of r.items) (sym front)
      ∙ so_far.lines;
  end = ap (λ (r : Run Entry (Option Fault)). r.end) (sym front) ∙ so_far.end;
}

pub listing_done : (before text : List ℕ) (e : Option Fault) (left whole : Run Entry (Option Fault)) → left ≡ ended e → IsListing before text left whole
    → (whole.end ≡ e) × (text ≡ before ++ lines_of whole.items)
listing_done before text e left whole is so_far = (
  sym so_far.end ∙ ap (λ (r : Run Entry (Option Fault)). r.end) is,
  sym (append-nil text) ∙ ap (λ (r : Run Entry (Option Fault)). text ++ lines_of r.items) (sym is) ∙ so_far.lines,
)

-- ---- over units

abbrev entries_in : List PlainUnit → List Entry
entries_in units = flat_map (λ u. (entries_of u).items) units

abbrev faults_of : Run PlainUnit (Option Fault) → Option Fault
faults_of r = first (map (λ u. (entries_of u).end) r.items ++ r.end ∷ [])

pub record AreListing (text : List ℕ) (left whole : Run PlainUnit (Option Fault)) : Type 0 where
  pub lines : text ++ lines_of (entries_in left.items) ≡ lines_of (entries_in whole.items)
  pub fault : faults_of left ≡ faults_of whole

pub units_start : (left whole : Run PlainUnit (Option Fault)) → left ≡ whole → AreListing [] left whole
units_start left whole same = rw same (record { lines = refl; fault = refl })

pub units_more : (text next_text : List ℕ) (u : PlainUnit) (left next whole : Run PlainUnit (Option Fault)) → left ≡ put_front u next → (entries_of u).end ≡ None
    → next_text ≡ text ++ lines_of (entries_of u).items → AreListing text left whole → AreListing next_text next whole
units_more text next_text u left next whole front none grown so_far = record {
  lines = ap (λ (t : List ℕ). t ++ lines_of (entries_in next.items)) grown
      ∙ append_assoc text (lines_of (entries_of u).items) (lines_of (entries_in next.items))
      ∙ ap (λ (l : List ℕ). text ++ l) (sym (flat_map-append entry_line (entries_of u).items (entries_in next.items)))
      ∙ ap (λ (r : Run PlainUnit (Option Fault)). text ++ lines_of (entries_in r.items)) (sym front)
      ∙ so_far.lines;
  fault = ap (λ (o : Option Fault). first (o ∷ (map (λ u. (entries_of u).end) next.items ++ next.end ∷ []))) (sym none)
      ∙ ap faults_of (sym front)
      ∙ so_far.fault;
}

-- a fault of the entries of a unit, or of the units, is that of the section
pub units_fault : (text : List ℕ) (u : PlainUnit) (f : Fault) (left next whole : Run PlainUnit (Option Fault)) → left ≡ put_front u next → (entries_of u).end ≡ Some f
    → AreListing text left whole → faults_of whole ≡ Some f
units_fault text u f left next whole front is so_far =
    sym so_far.fault ∙ ap faults_of front ∙ ap (λ (o : Option Fault). first (o ∷ (map (λ u. (entries_of u).end) next.items ++ next.end ∷ []))) is

pub units_done : (text : List ℕ) (e : Option Fault) (left whole : Run PlainUnit (Option Fault)) → left ≡ ended e → AreListing text left whole
    → (faults_of whole ≡ first (e ∷ [])) × (text ≡ lines_of (entries_in whole.items))
units_done text e left whole is so_far = (
  sym so_far.fault ∙ ap faults_of is,
  sym (append-nil text) ∙ ap (λ (r : Run PlainUnit (Option Fault)). text ++ lines_of (entries_in r.items)) (sym is) ∙ so_far.lines,
)

-- ---- of the section

module _ (info abbrevs text : List ℕ) (left : Run PlainUnit (Option Fault)) (so_far : AreListing text left (units_of info abbrevs)) where
  section_ends : (e : Option Fault) → left ≡ ended e → entries_fault info abbrevs ≡ first (e ∷ [])
  unfolding entries_fault
  section_ends e is = (units_done text e left (units_of info abbrevs) is so_far).0

  pub section_done : left ≡ ended None → entries_fault info abbrevs ≡ None
  section_done is = section_ends None is

  pub section_lines : left ≡ ended None → text ≡ flat_map entry_line (all_entries info abbrevs)
  unfolding all_entries
  section_lines is = (units_done text None left (units_of info abbrevs) is so_far).1

  -- what a refusal of the next unit leaves
  pub refused_unit : (r : Refusal) (next : Run PlainUnit (Option Fault)) → NextIsBy plain_unit left (Err r) next → Refuses r (entries_fault info abbrevs)
  refused_unit (refusal.Fault f) next is = section_ends (Some f) is.0
  refused_unit (refusal.NoMemory cause) next is = tt

  -- what a refusal of its entries leaves
  pub refused_entries : (r : Refusal) (o : Option Unit) (u : Unit) (next : Run PlainUnit (Option Fault)) → NextIsBy plain_unit left (Ok o) next → o ≡ Some u
      → Refuses r (entries_of (plain_unit u)).end → Refuses r (entries_fault info abbrevs)
  unfolding entries_fault
  refused_entries (refusal.Fault f) o u next given same is =
      let front : left ≡ put_front (plain_unit u) next = let here = rw same at given in here in
      units_fault text (plain_unit u) f left next (units_of info abbrevs) front is so_far
  refused_entries (refusal.NoMemory cause) o u next given same is = tt
