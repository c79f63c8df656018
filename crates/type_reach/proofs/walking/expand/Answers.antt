use Rattle.std.proofs.Common.{◌∙◌, sym, ap, subst, map}
use Rattle.type_reach.specs.References.{type_of, own_types}
use Rattle.type_reach.specs.Reached.{with_types}
use Rattle.type_reach.specs.Origins.{ArePassed}
use Rattle.type_reach.proofs.GrowLemmas.{with_types-both}
use Rattle.type_reach.proofs.OriginLemmas.{again-adds-none, ArePassed-grown, ArePassed-more}
use Rattle.type_reach.proofs.walking.expand.Goals as goal

pub returns-then-is_some-clause-entries : goal.returns-then-is_some-clause-entries
returns-then-is_some-clause-entries c =
    let t = c.args.dwarf.now.tree in
    let e = c.args.e in
    let own = with_types c.args.met.now.entries (own_types t e) in
    let passed = ArePassed-grown t c.args.origins.now c.args.met.now.entries (own_types t e) c.requires.passed in
    c.in_ok-add_own.ensures.entries
    ∙ sym (again-adds-none t c.args.origins.now own c.other_body-origin.result e c.first_with.result c.first_with.ensures (sym c.is_some.ensures ∙ c.if-is_some.true) c.other_body-origin.ensures.role c.other_body-origin.ensures.body passed)
    ∙ with_types-both t e c.args.met.now.entries

pub returns-then-is_some-clause-passed : goal.returns-then-is_some-clause-passed
returns-then-is_some-clause-passed c =
    let t = c.args.dwarf.now.tree in
    subst (ArePassed t c.args.origins.now) (sym c.in_ok-add_own.ensures.entries) (ArePassed-grown t c.args.origins.now c.args.met.now.entries (own_types t c.args.e) c.requires.passed)

pub returns-clause-entries : goal.returns-clause-entries
returns-clause-entries c =
    let t = c.args.dwarf.now.tree in
    let own = with_types c.args.met.now.entries (own_types t c.args.e) in
    c.in_ok-add_types.ensures.entries
    ∙ ap (λ xs. with_types xs (map (type_of t) c.as_slice.result.now)) c.in_ok-add_own.ensures.entries
    ∙ ap (λ parts. with_types own (map (type_of t) parts)) (c.as_slice.ensures.value ∙ c.in_ok-parts.ensures.parts)
    ∙ with_types-both t c.args.e c.args.met.now.entries

pub returns-clause-passed : goal.returns-clause-passed
returns-clause-passed c =
    let t = c.args.dwarf.now.tree in
    let e = c.args.e in
    let own = with_types c.args.met.now.entries (own_types t e) in
    let grown =
    c.in_ok-add_types.ensures.entries
    ∙ ap (λ xs. with_types xs (map (type_of t) c.as_slice.result.now)) c.in_ok-add_own.ensures.entries
    ∙ ap (λ parts. with_types own (map (type_of t) parts)) (c.as_slice.ensures.value ∙ c.in_ok-parts.ensures.parts)
    in
    let passed = ArePassed-grown t c.args.origins.now c.args.met.now.entries (own_types t e) c.requires.passed in
    subst (ArePassed t c.keep.new.self) (sym grown) (ArePassed-more t c.args.origins.now c.keep.new.self own c.other_body-origin.result e c.index.result c.in_ok-keep.ensures.numbers c.other_body-origin.ensures.role c.other_body-origin.ensures.body passed)
