-- A definition is an entry.
use Rattle.std.proofs.Common.{◌<◌, ℕ, length, sym, subst, Option}
use Rattle.std.specs.Option.{IfSome}
use Rattle.type_notes.proofs.DefinitionLemmas.{first_inside}
use Rattle.type_notes.proofs.definitions.defined_by.Goals as goal

pub returns-clause-inside : goal.returns-clause-inside
returns-clause-inside c =
    subst (λ (o : Option ℕ). IfSome o (λ e. e < length c.args.dwarf.now.tree.entries)) (sym c.first_in.ensures)
    (first_inside c.args.dwarf.now.tree c.definitions_like.result.now c.definitions_like.ensures.inside)
