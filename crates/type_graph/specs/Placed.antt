-- Members of the code, without where their names lie in memory.
use Rattle.std.specs.Prelude.{if◌then◌else◌, List, map, None}
use Rattle.type_reach.specs.declared.summaries.Summary.{Summary}
use Rattle.type_reach.specs.References.{Type_}
use Rattle.type_reach.specs.Flat.{Flat}
use Rattle.type_graph.specs.declared.flatten.Placed.{Placed}

abbrev pub plain_member : Placed → Flat
plain_member p = record { name = p.name.now; bit = p.bit; width = p.width; to = p.to }

abbrev pub plain_members : List Placed → List Flat
plain_members = map plain_member

-- the structure or union whose members replace a nameless member, by the summary of its type
abbrev pub replacing : Summary → Type_
replacing x = if x.aggregate then x.core else None
