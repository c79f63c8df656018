use Rattle.std.proofs.Common.{◌<◌, ◌∙◌, get_or, length, sym, ap, arith}
use Rattle.type_reach.specs.References.{type_of, members_of}
use Rattle.type_reach.proofs.LeadLemmas.{member-inside, type-of-member}
use Rattle.type_reach.proofs.type_references.member_type.Goals as goal

pub bounds-types-k : goal.bounds-types-k
bounds-types-k c =
    let t = c.args.dwarf.now.tree in
    let lt : c.args.k < length (members_of t c.args.e) = omega (arith, ap length c.requires.members, c.requires.inside) in
    omega (arith, ap length c.requires.types, member-inside t c.args.e c.args.k lt)

pub returns : goal.returns
returns c =
    let t = c.args.dwarf.now.tree in
    let lt : c.args.k < length (members_of t c.args.e) = omega (arith, ap length c.requires.members, c.requires.inside) in
    c.index-types-k.is
    ∙ ap (λ xs. get_or xs c.args.k c.index-types-k.result) c.requires.types
    ∙ type-of-member t c.args.e c.args.k c.index-types-k.result lt
    ∙ ap (λ xs. type_of t (get_or xs c.args.k 0)) (sym c.requires.members)
