use Rattle.std.proofs.Common.{◌≡◌, ap, sym, subst, ◌∙◌, Some}
use Rattle.std.specs.Prelude.{IfSome}
use Rattle.type_reach.specs.declared.summaries.Summary.{Summary}
use Rattle.type_reach.specs.Flat.{core_of}
use Rattle.type_reach.specs.PeeledCores.{StandsForNone, IsFound}
use Rattle.type_graph.proofs.ViewLemmas.{found-shallow}
use Rattle.type_graph.proofs.LimitLemmas.{fits_from}
use Rattle.type_graph.proofs.views.view.Goals as goal

pub view_of_peeled-requires-clause-there : goal.view_of_peeled-requires-clause-there
view_of_peeled-requires-clause-there g c =
    let d = c.args.types.now.dwarf.now in
    let found = c.args.types.now.found.now in
    let laws = c.laws_of_types.ensures d in
    let is : core_of d c.args.ty ≡ Some c.in-Some.c = ap (λ (x : Summary). x.core) (sym c.requires.own) ∙ c.in-Some.is in
    subst (IsFound found) is (laws.found found c.args.ty c.requires.closed (found-shallow d laws found c.requires.closed c.requires.summaries.shallow c.args.ty c.requires.there) c.requires.there)

pub view_of_peeled-requires-clause-last : goal.view_of_peeled-requires-clause-last
view_of_peeled-requires-clause-last g c =
    let d = c.args.types.now.dwarf.now in
    let found = c.args.types.now.found.now in
    let laws = c.laws_of_types.ensures d in
    let is : core_of d c.args.ty ≡ Some c.in-Some.c = ap (λ (x : Summary). x.core) (sym c.requires.own) ∙ c.in-Some.is in
    subst (λ o. IfSome o (StandsForNone d)) is (laws.cores c.args.ty (found-shallow d laws found c.requires.closed c.requires.summaries.shallow c.args.ty c.requires.there)).last

pub view_of_peeled-requires-clause-near : goal.view_of_peeled-requires-clause-near
view_of_peeled-requires-clause-near g c =
    let d = c.args.types.now.dwarf.now in
    let found = c.args.types.now.found.now in
    let laws = c.laws_of_types.ensures d in
    let is : core_of d c.args.ty ≡ Some c.in-Some.c = ap (λ (x : Summary). x.core) (sym c.requires.own) ∙ c.in-Some.is in
    let there = subst (IsFound found) is (laws.found found c.args.ty c.requires.closed (found-shallow d laws found c.requires.closed c.requires.summaries.shallow c.args.ty c.requires.there) c.requires.there) in
    (fits_from d c.in-Some.c (c.requires.fits c.in-Some.c there)).near
