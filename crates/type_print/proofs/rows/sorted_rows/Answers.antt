use Rattle.std.proofs.Common.{◌++◌, List, map, ◌∙◌, ap}
use Rattle.type_print.specs.declared.row.LayoutRow.{LayoutRow}
use Rattle.type_print.specs.Members.{row_of}
use Rattle.type_print.specs.Rows.{Fits}
use Rattle.type_print.proofs.JoinLemmas.{fits_when_none, clash_when_some, sorted_names, fitting_rows_are, clashing_rows_are}
use Rattle.type_print.proofs.rows.sorted_rows.Goals as goal

pub fitting_rows-requires : goal.fitting_rows-requires
fitting_rows-requires c = record {
  order = c.requires.order;
  fits = fits_when_none c.requires.named.0 c.args.sorted.now c.args.bits c.in_ok-overlaps.overlaps.items c.in_ok-outsides.outsides.items c.as_slice.result.now c.as_slice-2.result.now c.are_none.result
      c.as_slice.ensures.value c.as_slice-2.ensures.value c.are_none.ensures c.if-are_none.true (c.in_ok-overlaps.ensures.exact c.requires.named.0 c.requires.named.1) (c.in_ok-outsides.ensures.exact c.requires.named.0 c.requires.named.1);
}

pub returns-then-are_none-clause-rows : goal.returns-then-are_none-clause-rows
returns-then-are_none-clause-rows c = λ members numbered moved.
    let names = sorted_names members c.args.sorted.now c.args.bits numbered moved in
    let fits : Fits c.args.sorted.now c.args.bits =
    fits_when_none members c.args.sorted.now c.args.bits c.in_ok-overlaps.overlaps.items c.in_ok-outsides.outsides.items c.as_slice.result.now c.as_slice-2.result.now c.are_none.result c.as_slice.ensures.value
    c.as_slice-2.ensures.value c.are_none.ensures c.if-are_none.true (c.in_ok-overlaps.ensures.exact members names) (c.in_ok-outsides.ensures.exact members names) in
    fitting_rows_are members c.args.sorted.now c.args.bits numbered moved fits c.in_ok-rows.rows.items (c.in_ok-rows.ensures.exact members)

pub returns-clause-rows : goal.returns-clause-rows
returns-clause-rows c = λ members numbered moved.
    let sorted = c.args.sorted.now in
    let names = sorted_names members sorted c.args.bits numbered moved in
    let over = c.in_ok-overlaps.ensures.exact members names in
    let out = c.in_ok-outsides.ensures.exact members names in
    let clash = clash_when_some members sorted c.args.bits numbered moved c.requires.order c.in_ok-overlaps.overlaps.items c.in_ok-outsides.outsides.items over out c.as_slice.result.now c.as_slice-2.result.now c.are_none.result
    c.as_slice.ensures.value c.as_slice-2.ensures.value c.are_none.ensures c.if-are_none.false in
    clashing_rows_are members sorted c.args.bits numbered moved c.requires.order c.in_ok-overlaps.overlaps.items c.in_ok-outsides.outsides.items over out clash c.in_ok-rows-2.rows.items
    (c.in_ok-rows-2.ensures.joined ∙ ap (λ (l : List LayoutRow). (map row_of sorted ++ l) ++ c.as_slice-4.result.now) c.as_slice-3.ensures.value
    ∙ ap (λ (l : List LayoutRow). (map row_of sorted ++ c.in_ok-overlaps.overlaps.items) ++ l) c.as_slice-4.ensures.value)
