use Rattle.std.proofs.Common.{List, sym, subst}
use Rattle.std.specs.List.Sorted.{IsPermutation}
use Rattle.type_print.specs.declared.extent.Extent.{Extent}
use Rattle.type_print.specs.Members.{AreInOrder, AreNamed}
use Rattle.type_print.proofs.OrderLemmas.{in_order}
use Rattle.type_print.proofs.JoinLemmas.{sorted_names}
use Rattle.type_print.proofs.rows.rows_of.Goals as goal

pub sorted_rows-requires : goal.sorted_rows-requires
sorted_rows-requires c =
    let P : List Extent → Type 0 = λ es. AreInOrder es in
    let Q : List Extent → Type 0 = λ es. AreNamed es in
    record {
      order = subst P (sym c.as_slice.ensures.value) (in_order c.args.members.items c.sort.new.members.items c.requires c.sort.ensures.moved c.sort.ensures.sorted);
      named = subst Q (sym c.as_slice.ensures.value) (c.args.members.items, sorted_names c.args.members.items c.sort.new.members.items c.args.bits c.requires c.sort.ensures.moved);
    }

pub returns-clause-rows : goal.returns-clause-rows
returns-clause-rows c = c.in_ok-rows.ensures.rows c.args.members.items c.requires (subst (IsPermutation c.args.members.items) (sym c.as_slice.ensures.value) c.sort.ensures.moved)
