-- One part more.
use Rattle.std.proofs.Common.{ℕ, List, ◌++◌, ap, ◌∙◌}
use Rattle.abi_types.specs.Parts.{plain_part}
use Rattle.type_classes.specs.Shapes.{letters_of_part}
use Rattle.type_classes.proofs.ShapeLemmas.{letters_more, letters_all}
use Rattle.type_classes.proofs.spelling.push_part_letters.Goals as goal

pub parts-preserved : goal.parts-preserved
parts-preserved g c =
    letters_more (plain_part g.Ix.Index.number_of) letters_of_part c.args.into.now.items c.parts.into.items c.extend_from_slice.new.self.items c.parts.i c.args.parts.now c.index-parts-i.result c.parts-test.true c.index-parts-i.is c.parts.invariant
    (c.in_ok-extend_from_slice.ensures.items ∙ ap (λ (xs : List ℕ). c.parts.into.items ++ xs) c.letters_of_part-letters.ensures)

pub returns-clause-appended : goal.returns-clause-appended
returns-clause-appended g c = letters_all (plain_part g.Ix.Index.number_of) letters_of_part c.args.into.now.items c.parts.into.items c.parts.i c.args.parts.now c.parts-test.false c.parts.invariant
