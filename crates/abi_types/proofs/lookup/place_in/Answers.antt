use Rattle.std.proofs.Common.{rules}
use Rattle.std.proofs.lemmas.Fn.{always_returns_same}
use Rattle.abi_types.specs.Parts.{plain_part}
use Rattle.abi_types.proofs.LookupLemmas.{order_by, found_from_search, none_from_search}
use Rattle.abi_types.proofs.lookup.place_in.Goals as goal

pub returns-in-Ok : goal.returns-in-Ok
returns-in-Ok g c =
    let s = c.sort_of-sort.result in
    let n = c.name_of-name.result.now in
    let holds = c.in-Ok.ensures.position (order_by s n c.args.k) (always_returns_same _ _ _ (λ a r f q. search rules)) in
    found_from_search c.args.lookup.now.places.items c.deref.result.now (plain_part g.Jx.Index.number_of c.args.part.now) c.args.k s n c.deref.ensures.value c.sort_of-sort.ensures c.name_of-name.ensures c.in-Ok.i c.index.result.now c.in-Ok.ensures.bound c.index.ensures holds

pub returns-in-Err : goal.returns-in-Err
returns-in-Err g c =
    let s = c.sort_of-sort.result in
    let n = c.name_of-name.result.now in
    let splits = c.in-Err.ensures.position (order_by s n c.args.k) (always_returns_same _ _ _ (λ a r f q. search rules)) in
    none_from_search c.args.lookup.now.places.items c.deref.result.now (plain_part g.Jx.Index.number_of c.args.part.now) c.args.k s n c.deref.ensures.value c.sort_of-sort.ensures c.name_of-name.ensures c.in-Err.field-0 c.requires splits
