use Rattle.std.proofs.Common.{◌∙◌, subst, Some, ℕ}
use Rattle.std.specs.Prelude.{Contains, IfSome, IfNone}
use Rattle.type_reach.specs.ByValue.{IsTooDeep}
use Rattle.type_reach.specs.Facts.{IsFirstTooDeep}
use Rattle.type_reach.proofs.FirstLemmas.{depth-some, depth-none}
use Rattle.type_reach.proofs.learning.learn_all.Goals as goal

pub offset-requires : goal.offset-requires
offset-requires c =
    let first = subst (λ o. IfSome o (λ e. IsFirstTooDeep c.args.dwarf.now.tree c.args.found.now e)) c.in-Some.is c.in_ok-e.ensures.first in
    c.requires.closed.inside c.in-Some.e first.there

pub returns-in-Some-clause-judged : goal.returns-in-Some-clause-judged
returns-in-Some-clause-judged c = λ roots inside walk.
    let t = c.args.dwarf.now.tree in
    let found = c.args.found.now in
    let first = subst (λ o. IfSome o (λ e. IsFirstTooDeep t found e)) c.in-Some.is c.in_ok-e.ensures.first in
    depth-some t roots found c.in-Some.e c.get.result inside walk (c.requires.closed.inside c.in-Some.e first.there) first (c.get.ensures ∙ c.offset.ensures)

pub returns-clause-judged : goal.returns-clause-judged
returns-clause-judged c = λ roots inside walk.
    let t = c.args.dwarf.now.tree in
    let found = c.args.found.now in
    let none = subst (λ o. IfNone o ((e : ℕ) → Contains found e → IsTooDeep t (Some e) → ⊥)) c.in-None.is c.in_ok-e.ensures.none in
    depth-none t roots found inside walk none
