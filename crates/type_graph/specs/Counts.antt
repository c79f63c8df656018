-- How many flat members, parameters and enumerators a library has in all, and how many letters their names have.
use Rattle.std.specs.Prelude.{◌+◌, ℕ, zero, suc, List, length, sum_by, Option, Some, None}
use Rattle.std.specs.Option.{option_map_or}
use Rattle.dwarf_entries.specs.Chains.{name_of}
use Rattle.dwarf_entries.specs.Debug.{PlainDwarf}
use Rattle.abi_types.specs.Types.{PlainLabel, PlainNode}
use Rattle.type_reach.specs.declared.role.Role.{Role}
use Rattle.type_reach.specs.declared.role.Role.TheVariants as role
use Rattle.type_reach.specs.References.{Type_, role_of, type_of, parts_of, members_of}
use Rattle.type_reach.specs.Facts.{facts_of}
use Rattle.type_reach.specs.Summaries.{summary_of}
use Rattle.type_reach.specs.Flat.{Flat, text_or_empty, core_of, flat_of}
use Rattle.type_reach.specs.Views.{enumerators_of}
use Rattle.type_graph.specs.Placed.{replacing}

abbrev pub params_for : Role → PlainDwarf → ℕ → ℕ
params_for role.Function d c = length (parts_of d.tree c)
params_for _ d c = 0

-- the parameters of a core, where it is a function
abbrev pub params_of : PlainDwarf → Type_ → ℕ
params_of d None = 0
params_of d (Some c) = params_for (role_of d.tree c) d c

abbrev pub parts_for : Role → PlainDwarf → ℕ → ℕ
parts_for role.Aggregate d e = length (flat_of d (Some e))
parts_for role.Function d e = params_of d (Some e)
parts_for role.Wrapper d e = params_of d (core_of d (Some e))
parts_for _ d e = 0

-- How many flat members or parameters an entry has. A type that stands for a structure shares its members; one that stands for a
-- function has places of its own for the parameters.
abbrev pub parts_held : PlainDwarf → ℕ → ℕ
parts_held d e = parts_for (role_of d.tree e) d e

-- those of all entries that were found
abbrev pub parts_in_all : PlainDwarf → List ℕ → ℕ
parts_in_all d found = sum_by (parts_held d) found

-- ---- members that are read

-- the structure or union whose members replace a member with this name
abbrev pub replaced_by : PlainDwarf → ℕ → Option (List ℕ) → Type_
replaced_by d m (Some name) = None
replaced_by d m None = replacing (summary_of (facts_of d (type_of d.tree m)))

-- the members of a structure or a union, and those of each structure and union that replaces one of them, down to a depth
unfoldable pub members_down : PlainDwarf → ℕ → ℕ → ℕ
members_down d zero c = 0
members_down d (suc n) c = length (members_of d.tree c) + sum_by (λ m. option_map_or (members_down d n) (replaced_by d m (name_of d m)) 0) (members_of d.tree c)

-- How many members of a structure or a union are read: its own, nameless ones too, and those of each structure and union that replaces
-- one of them. Ranks fall from each to the next, so none lies deeper than this.
abbrev pub members_read : PlainDwarf → ℕ → ℕ
members_read d c = members_down d (suc (facts_of d (Some c)).rank) c

abbrev pub members_for : Role → PlainDwarf → ℕ → ℕ
members_for role.Aggregate d e = members_read d e
members_for role.Function d e = params_of d (Some e)
members_for role.Wrapper d e = params_of d (core_of d (Some e))
members_for _ d e = 0

-- how many members or parameters of an entry are read
abbrev pub members_held : PlainDwarf → ℕ → ℕ
members_held d e = members_for (role_of d.tree e) d e

-- those of all entries that were found
abbrev pub members_in_all : PlainDwarf → List ℕ → ℕ
members_in_all d found = sum_by (members_held d) found

-- ---- letters of members

-- the letters of the names of flat members
abbrev pub member_letters : List Flat → ℕ
member_letters = sum_by (λ (m : Flat). length m.name)

abbrev pub member_letters_for : Role → PlainDwarf → ℕ → ℕ
member_letters_for role.Aggregate d e = member_letters (flat_of d (Some e))
member_letters_for _ d e = 0

-- the letters of the names of an entry's flat members
abbrev pub member_letters_held : PlainDwarf → ℕ → ℕ
member_letters_held d e = member_letters_for (role_of d.tree e) d e

-- those of all entries that were found
abbrev pub member_letters_in_all : PlainDwarf → List ℕ → ℕ
member_letters_in_all d found = sum_by (member_letters_held d) found

-- ---- enumerators and their letters

abbrev pub enumerators_for : Role → PlainDwarf → ℕ → ℕ
enumerators_for role.Enumeration d e = length (enumerators_of d.tree e)
enumerators_for _ d e = 0

-- how many enumerators an entry has
abbrev pub enumerators_held : PlainDwarf → ℕ → ℕ
enumerators_held d e = enumerators_for (role_of d.tree e) d e

-- those of all entries that were found
abbrev pub enumerators_in_all : PlainDwarf → List ℕ → ℕ
enumerators_in_all d found = sum_by (enumerators_held d) found

-- the letters of the name of an entry; none where it has no name
abbrev pub letters_of : PlainDwarf → ℕ → ℕ
letters_of d e = length (text_or_empty (name_of d e))

abbrev pub enumerator_letters_for : Role → PlainDwarf → ℕ → ℕ
enumerator_letters_for role.Enumeration d e = sum_by (letters_of d) (enumerators_of d.tree e)
enumerator_letters_for _ d e = 0

-- the letters of the names of an entry's enumerators
abbrev pub enumerator_letters_held : PlainDwarf → ℕ → ℕ
enumerator_letters_held d e = enumerator_letters_for (role_of d.tree e) d e

-- those of all entries that were found
abbrev pub enumerator_letters_in_all : PlainDwarf → List ℕ → ℕ
enumerator_letters_in_all d found = sum_by (enumerator_letters_held d) found

-- ---- letters of the names of types

-- the letters of names of a type
abbrev pub label_letters : List PlainLabel → ℕ
label_letters = sum_by (λ (l : PlainLabel). length l.name)

-- the letters of the tag of a node and of the names of its type
abbrev pub type_letters : PlainNode → ℕ
type_letters n = length n.view.tag + label_letters n.labels

-- how many names a type has
abbrev pub names_held : PlainNode → ℕ
names_held n = length n.labels
