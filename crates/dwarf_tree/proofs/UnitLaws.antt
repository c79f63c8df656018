-- What the laws of units, tokens and trees of `dwarf_units` say, by name.
use Rattle.std.specs.Prelude.{◌≡◌, ◌↔◌, ℕ, List, Option, None, Ok}
use Rattle.abi_base.specs.Runs.{Chain, given}
use Rattle.dwarf_units.specs.declared.entry.Entry.{Entry}
use Rattle.dwarf_units.specs.Grammar.{HasType, IsTree, TokenStands, faultless}
use Rattle.dwarf_units.specs.Sequence.{UnitStands, unit_step, units_of}
use Rattle.dwarf_units.specs.Units.{PlainUnit, State, entries_of, root_of, token_at, tokens_from}

pub record UnitLaws : Type 0 where
  pub tree : (u : PlainUnit) (entries : List Entry) → (entries_of u ≡ faultless entries) ↔ (IsTree u entries × HasType u entries)
  pub units : (info abbrevs : List ℕ) → Chain (unit_step info abbrevs) 0 (units_of info abbrevs).items (units_of info abbrevs).end
  pub unit : (info abbrevs : List ℕ) (at : ℕ) (u : PlainUnit) (next : ℕ) → unit_step info abbrevs at ≡ Ok (u, next) → UnitStands info at u next
  pub tokens : (u : PlainUnit) (s : State) → Chain (token_at u) s (tokens_from u s).items (tokens_from u s).end
  pub token : (u : PlainUnit) (s : State) (x : Option Entry) (next : State) → token_at u s ≡ Ok (x, next) → TokenStands u s x next
  pub entries : (u : PlainUnit) → (entries_of u).items ≡ (given (tokens_from u (root_of u, None))).items
