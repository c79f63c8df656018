use Rattle.std.proofs.Common.{◌≡◌, ◌<◌, ◌+◌, ◌-◌, ◌∙◌, get_or, length, sym, ap, arith}
use Rattle.type_reach.specs.References.{type_of, own_types, types_of, parts_of}
use Rattle.type_reach.proofs.LeadLemmas.{types-count, type-of-part}
use Rattle.type_reach.proofs.type_references.part_type.Goals as goal

pub overflow_sub-own : goal.overflow_sub-own
overflow_sub-own c = omega (arith, ap length c.requires.types, ap length c.requires.parts, types-count c.args.dwarf.now.tree c.args.e)

pub bounds-types-own : goal.bounds-types-own
bounds-types-own c = omega (arith, ap length c.requires.types, ap length c.requires.parts, types-count c.args.dwarf.now.tree c.args.e, c.requires.inside)

pub returns : goal.returns
returns c =
    let t = c.args.dwarf.now.tree in
    let e = c.args.e in
    let o = c.index-types-own.result in
    let at = length c.args.types.now - length c.args.parts.now + c.args.k in
    let is : at ≡ length (own_types t e) + c.args.k = omega (arith, ap length c.requires.types, ap length c.requires.parts, types-count t e) in
    let lt : c.args.k < length (parts_of t e) = omega (arith, ap length c.requires.parts, c.requires.inside) in
    c.index-types-own.is
    ∙ ap (λ xs. get_or xs at o) c.requires.types
    ∙ ap (λ n. get_or (types_of t e) n o) is
    ∙ type-of-part t e c.args.k o lt
    ∙ ap (λ xs. type_of t (get_or xs c.args.k 0)) (sym c.requires.parts)
