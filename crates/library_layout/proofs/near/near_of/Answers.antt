use Rattle.std.proofs.Common.{◌≡◌, map, ◌∙◌, ap, sym, subst}
use Rattle.std.specs.List.{Contains}
use Rattle.abi_types.specs.Types.{PlainView}
use Rattle.library_layout.proofs.NearLemmas.{among, not_tagged, tag_is}
use Rattle.library_layout.proofs.near.near_of.Goals.{then-not-is_tagged-via-then-not-is_tagged, then-not-is_tagged-via-else-not-is_tagged+then-is_among}
use Rattle.library_layout.proofs.near.near_of.Goals as goal

pub returns-then-not-is_tagged-clause-passed : goal.returns-then-not-is_tagged-clause-passed
returns-then-not-is_tagged-clause-passed g c other layout named out = elim c.then-not-is_tagged.branch [
  | then-not-is_tagged-via-then-not-is_tagged w ↦ not_tagged c.args.view.now other (sym c.is_tagged.ensures ∙ w.if-not-is_tagged.true) layout named
  | then-not-is_tagged-via-else-not-is_tagged+then-is_among w ↦
      let tag : c.view.inside.tag.now ≡ c.args.view.now.tag = ap (λ (v : PlainView). v.tag) c.view.view_is in
      out (subst (Contains (map (λ t. t.now) c.args.tags.now)) (tag ∙ tag_is c.args.view.now other layout) (among (λ t. t.now) c.view.inside.tag.now c.args.tags.now (sym w.is_among.ensures ∙ w.if-is_among.true)))
]
