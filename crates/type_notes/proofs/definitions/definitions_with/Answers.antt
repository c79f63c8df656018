-- Unit by unit.
use Rattle.std.proofs.Common.{◌≡◌, ◌++◌, ◌∙◌, ℕ, List, length, ap, arith}
use Rattle.std.specs.Prelude.{filter}
use Rattle.type_notes.specs.DefinedElsewhere.{definitions_of, defines, numbers_under, tops_below}
use Rattle.type_notes.proofs.DefinitionLemmas.{tops_more}
use Rattle.type_notes.proofs.definitions.definitions_with.Goals as goal

pub loop-root-preserved : goal.loop-root-preserved
loop-root-preserved c = λ q.
    tops_more (defines c.args.dwarf.now q) c.args.dwarf.now.tree c.args.tag c.loop-root.root _ _ (c.loop-root.invariant q)
    (c.in_ok-keep_definitions.ensures q ∙ ap (λ (xs : List ℕ). numbers_under c.loop-root.numbers q ++ filter (defines c.args.dwarf.now q) xs) (c.as_slice.ensures.value ∙ rw c.new-entry.ensures at c.in_ok-tops.ensures.entries))

pub returns : goal.returns
unfolding definitions_of
returns c = λ q.
    let e : c.loop-root.root ≡ length c.args.dwarf.now.tree.entries = omega arith in
    c.loop-root.invariant q ∙ ap (λ (n : ℕ). filter (defines c.args.dwarf.now q) (tops_below c.args.dwarf.now.tree c.args.tag n)) e
