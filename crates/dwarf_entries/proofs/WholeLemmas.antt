-- What holds of the entries of debug information that was read.
use Rattle.std.proofs.Common.{◌≡◌, ℕ, ◌<◌, Bool, List, [], ◌∷◌, length, Option, Some, None, refl, sym, subst}
use Rattle.std.specs.Prelude.{◌↔◌, All, Contains, filter}
use Rattle.std.proofs.lemmas.List.Elements.{All-filter, Contains-get_or}
use Rattle.abi_base.specs.declared.fault.Fault.{Fault}
use Rattle.abi_base.specs.Outcome.{first}
use Rattle.abi_base.proofs.lemmas.Outcomes.{none_at}
use Rattle.dwarf_units.specs.Sequence.{entries_fault}
use Rattle.dwarf_tree.specs.Parents.{StandsBelow}
use Rattle.dwarf_tree.specs.Trees.{PlainTree, children_of}
use Rattle.dwarf_entries.specs.Debug.{PlainDwarf, dwarf_of}
use Rattle.dwarf_entries.specs.Pass.{dwarf_fault, entry_fault, own_fault}

none_second : (o p : Option Fault) → first (o ∷ p ∷ []) ≡ None → p ≡ None
none_second None None h = refl
none_second None (Some f) h = absurd cc
none_second (Some f) p h = absurd cc

pub each_faultless : (d : PlainDwarf) (e : ℕ) → dwarf_fault d.sections ≡ None → d ≡ dwarf_of d.sections → e < length d.tree.entries → entry_fault d e ≡ None
unfolding dwarf_fault own_fault
each_faultless d e faultless read inside =
    let own : own_fault (dwarf_of d.sections) ≡ None = none_second (entries_fault d.sections.info d.sections.abbrev_) (own_fault (dwarf_of d.sections)) faultless in
    let here : own_fault d ≡ None = subst (λ (x : PlainDwarf). own_fault x ≡ None) (sym read) own in
    none_at (entry_fault d) (length d.tree.entries) e here inside

-- what the tree ensures of children
abbrev pub StandOneDeeper : Type 0
StandOneDeeper = (t : PlainTree) (e i : ℕ) → e < length t.entries → Contains (children_of t e) i ↔ StandsBelow t e i

pub children_inside : (t : PlainTree) (e : ℕ) (p : ℕ → Bool) (list : List ℕ) → StandOneDeeper → e < length t.entries → list ≡ filter p (children_of t e)
    → All (λ (child : ℕ). child < length t.entries) list
children_inside t e p list deeper inside is =
    subst (All (λ (child : ℕ). child < length t.entries)) (sym is)
    (All-filter p (λ (child : ℕ). child < length t.entries) (children_of t e) (λ k d below. ((deeper t e _ inside).0 (Contains-get_or (children_of t e) k d below)).inside))
