-- Definitions are entries.
use Rattle.std.proofs.Common.{◌<◌, ℕ, List, length, sym, subst}
use Rattle.std.specs.List.{All}
use Rattle.type_notes.proofs.DefinitionLemmas.{named_inside}
use Rattle.type_notes.proofs.definitions.definitions_like.Goals as goal

pub returns-clause-inside : goal.returns-clause-inside
returns-clause-inside c =
    subst (λ (xs : List ℕ). All (λ e. e < length c.args.dwarf.now.tree.entries) xs) (sym c.definitions_named.ensures)
    (named_inside c.children_stand_one_deeper.ensures c.args.dwarf.now c.tag.result _)
