-- Place by place.
use Rattle.std.proofs.Common.{◌<◌, ◌∙◌, ℕ, length, sym, subst}
use Rattle.std.specs.Prelude.{max}
use Rattle.type_notes.specs.DefinedElsewhere.{part_change}
use Rattle.type_notes.proofs.DefinitionLemmas.{changes_found, changes_passed}
use Rattle.type_notes.proofs.elsewhere.first_part_change.Goals as goal

pub loop-place-preserved : goal.loop-place-preserved
loop-place-preserved c =
    let most : ℕ = max (length c.args.old.now) (length c.args.new.now) in
    let lt : c.loop-place.place < most = subst (λ (n : ℕ). c.loop-place.place < n) c.max-place-end.ensures c.loop-place-test.true in
    sym (changes_passed (part_change c.args.pair.now.old_dwarf.now c.args.pair.now.new_dwarf.now c.args.old.now c.args.new.now) c.loop-place.place most _ lt c.in_ok-found.ensures (sym c.is_some.ensures ∙ c.if-is_some.false))
    ∙ c.loop-place.invariant

pub returns-then-is_some : goal.returns-then-is_some
returns-then-is_some c =
    let most : ℕ = max (length c.args.old.now) (length c.args.new.now) in
    let lt : c.loop-place.place < most = subst (λ (n : ℕ). c.loop-place.place < n) c.max-place-end.ensures c.loop-place-test.true in
    changes_found (part_change c.args.pair.now.old_dwarf.now c.args.pair.now.new_dwarf.now c.args.old.now c.args.new.now) c.loop-place.place most c.in_ok-found.found lt c.in_ok-found.ensures (sym c.is_some.ensures ∙ c.if-is_some.true)
    ∙ c.loop-place.invariant
