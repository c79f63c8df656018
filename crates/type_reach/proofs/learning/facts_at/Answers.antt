use Rattle.std.proofs.Common.{◌≡◌, ◌∙◌, sym, ap, subst, Some}
use Rattle.std.specs.Prelude.{Contains, IfSome, IfNone, slice_get}
use Rattle.std.proofs.lemmas.Option.{get_or_from_slice_get}
use Rattle.type_reach.specs.Facts.{facts_of}
use Rattle.type_reach.proofs.FactLemmas.{facts_of-void}
use Rattle.type_reach.proofs.learning.facts_at.Goals as goal

pub returns-in-None : goal.returns-in-None
returns-in-None c = sym (ap (facts_of c.args.dwarf.now) c.in-None.is ∙ facts_of-void c.args.dwarf.now)

pub returns : goal.returns
returns c =
    let d = c.args.dwarf.now in
    let e = c.in-Some.e in
    let at = subst (λ o. IfSome o (λ i. slice_get c.args.found.now i ≡ Some e)) c.in-Some-number.is c.number.ensures.at in
    c.index-facts-number.is ∙ get_or_from_slice_get c.args.facts.now c.in-Some-number.number (facts_of d (Some e)) c.index-facts-number.result (c.requires.facts.each c.in-Some-number.number e at) ∙ ap (facts_of d) (sym c.in-Some.is)

pub unreachable-requires : goal.unreachable-requires
unreachable-requires c =
    let found = c.args.found.now in
    let none = subst (λ o. IfNone o (Contains found c.in-Some.e → ⊥)) c.in-None-number.is c.number.ensures.none in
    none (subst (λ o. IfSome o (λ e. Contains found e)) c.in-Some.is c.requires.there)
