use Rattle.std.proofs.Common.{◌<◌, ◌-◌, subst, sym, arith}
use Rattle.std.proofs.lemmas.Bool.{ltb-true}
use Rattle.dwarf_tree.specs.declared.entry_records.EntryRecord.{EntryRecord}
use Rattle.dwarf_tree.proofs.SearchLemmas.{before_through}
use Rattle.dwarf_tree.proofs.searches.are_before.Goals as goal

pub returns-in-Some : goal.returns-in-Some
returns-in-Some c = λ less k d before.
    let begins : c.in-Some.stored.now.offset < c.args.offset = omega (arith, c.from.ensures, ltb-true c.from.result c.args.offset less) in
    before_through c.args.entries.now c.args.offset c.requires (c.args.place - 1) c.in-Some.stored.now
    (ltb-true (c.args.place - 1) _ (sym c.in-Some.ensures.lookup.0))
    (subst (λ (x : EntryRecord). x.offset < c.args.offset) c.in-Some.ensures.lookup.1 begins) k d (omega (arith, before))
