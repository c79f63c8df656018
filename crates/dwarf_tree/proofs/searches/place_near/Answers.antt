use Rattle.std.proofs.Common.{◌<◌, ◌≤◌, length, sym, ◌∙◌, subst, ap, arith}
use Rattle.std.proofs.lemmas.Bool.{ltb-true, ltb-false}
use Rattle.dwarf_tree.specs.declared.entry_records.EntryRecord.{EntryRecord}
use Rattle.dwarf_tree.proofs.SearchLemmas.{offset_is, offset_missed, behind_from}
use Rattle.dwarf_tree.proofs.searches.place_near.Goals as goal

pub returns-in_default : goal.returns-in_default
returns-in_default c =
    let past : length c.args.entries.now ≤ c.near.place = ltb-false c.near.place (length c.args.entries.now) (sym c.in_default.ensures.lookup.0) in
    sym (offset_missed c.args.entries.now c.args.offset c.requires c.near.place (length c.args.entries.now)
    (record { before = c.near.invariant; behind = λ k d from inside. absurd (omega (arith, past, from, inside)) }) past)

pub returns-then-begins-offset : goal.returns-then-begins-offset
returns-then-begins-offset c =
    let inside : c.near.place < length c.args.entries.now = ltb-true c.near.place (length c.args.entries.now) (sym c.in-Some.ensures.lookup.0) in
    sym (offset_is c.args.entries.now c.args.offset c.requires c.near.place c.in-Some.stored.now inside
    (ap (λ (x : EntryRecord). x.offset) (sym c.in-Some.ensures.lookup.1) ∙ sym c.from-begins.ensures ∙ c.if-begins-offset.true))

pub returns-then-begins-offset-2 : goal.returns-then-begins-offset-2
returns-then-begins-offset-2 c =
    let inside : c.near.place < length c.args.entries.now = ltb-true c.near.place (length c.args.entries.now) (sym c.in-Some.ensures.lookup.0) in
    let behind : c.args.offset < c.in-Some.stored.now.offset = omega (arith, c.from-begins.ensures, c.if-begins-offset-2.true) in
    sym (offset_missed c.args.entries.now c.args.offset c.requires c.near.place c.near.place
    (record {
      before = c.near.invariant;
      behind = behind_from c.args.entries.now c.args.offset c.requires c.near.place c.in-Some.stored.now inside
          (subst (λ (x : EntryRecord). c.args.offset < x.offset) c.in-Some.ensures.lookup.1 behind);
    }) (omega arith))
