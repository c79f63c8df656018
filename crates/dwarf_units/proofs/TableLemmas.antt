-- The tables that are kept, as one more is.
use Rattle.std.proofs.Common.{◌≡◌, ℕ, cond, List, [], Option, Some, sym, subst, inl, inr}
use Rattle.std.specs.Prelude.{nat_eq, IfSome}
use Rattle.std.specs.HashMap.{HashMap, get}
use Rattle.std.specs.declared.rc.Rc.{Rc}
use Rattle.std.proofs.lemmas.Bool.{cases_Bool, eqb-true}
use Rattle.dwarf_forms.specs.declared.abbreviations.abbrev.Abbrev.{Abbrev}
use Rattle.dwarf_units.specs.KeptTables.{IsTable, AreTables}

pub kept_none : {Z S : Type 0} (abbrevs : List ℕ) (kept : HashMap ℕ (Rc (List Abbrev) Z) S) → kept.entries ≡ [] → AreTables abbrevs kept
kept_none abbrevs kept empty = record { each = λ at. rw empty tt }

pub kept_more : {Z S : Type 0} (abbrevs : List ℕ) (old new : HashMap ℕ (Rc (List Abbrev) Z) S) (at : ℕ) (table : Rc (List Abbrev) Z) → AreTables abbrevs old → IsTable abbrevs at table.value
    → ((q : ℕ) → get nat_eq new q ≡ cond (nat_eq at q) (Some table) (get nat_eq old q)) → AreTables abbrevs new
kept_more {Z = Z} abbrevs old new at table so_far is adds = record { each = λ q. subst (λ (o : Option (Rc (List Abbrev) Z)). IfSome o (λ t. IsTable abbrevs q t.value)) (sym (adds q)) (under q) }
  where
    under : (q : ℕ) → IfSome (cond (nat_eq at q) (Some table) (get nat_eq old q)) (λ t. IsTable abbrevs q t.value)
    under q = elim (cases_Bool (nat_eq at q)) [
      | inl here ↦ rw here (subst (λ (place : ℕ). IsTable abbrevs place table.value) (eqb-true at q here) is)
      | inr apart ↦ rw apart (so_far.each q)
    ]
