-- Breaks do not see which nodes parts name.
use Rattle.std.proofs.Common.{◌≡◌, ℕ, cond, List, [], ◌∷◌, map, length, filter, refl, ◌∙◌, ap}
use Rattle.std.specs.Prelude.{flat_map}
use Rattle.std.specs.List.{range_with_len}
use Rattle.std.proofs.lemmas.List.Elements.{filter_agree}
use Rattle.abi_types.specs.declared.rule.Rule.{Rule}
use Rattle.abi_types.specs.Types.{PlainView}
use Rattle.abi_types.specs.ClassLooks.{view_seen}
use Rattle.pair_rules.specs.TypeRules.{breaks_whole, breaks_part, speaks_of_parts, rules_asked, broken_at, broken, breaks}
use Rattle.pair_rules.proofs.Unseen.{length-seen}
use Rattle.pair_rules.proofs.EachRule.{breaks_whole-seen, breaks_part-seen}

broken-seen : (f g : ℕ → ℕ) (v w : PlainView) (r : Rule) → broken (view_seen f v) (view_seen g w) r ≡ broken v w r
unfolding broken
broken-seen f g v w r =
    ap (λ n. cond (speaks_of_parts r) (map (broken_at r) (filter (breaks_part r (view_seen f v) (view_seen g w)) (range_with_len 0 n))) (cond (breaks_whole r (view_seen f v) (view_seen g w)) (broken_at r 0 ∷ []) [])) (length-seen f v)
    ∙ ap (λ ks. cond (speaks_of_parts r) (map (broken_at r) ks) (cond (breaks_whole r (view_seen f v) (view_seen g w)) (broken_at r 0 ∷ []) []))
    (filter_agree (breaks_part r (view_seen f v) (view_seen g w)) (breaks_part r v w) (breaks_part-seen f g r v w) (range_with_len 0 (length v.parts)))
    ∙ ap (λ b. cond (speaks_of_parts r) (map (broken_at r) (filter (breaks_part r v w) (range_with_len 0 (length v.parts)))) (cond b (broken_at r 0 ∷ []) [])) (breaks_whole-seen f g r v w)

all_broken-seen : (f g : ℕ → ℕ) (v w : PlainView) (rs : List Rule) → flat_map (broken (view_seen f v) (view_seen g w)) rs ≡ flat_map (broken v w) rs
all_broken-seen f g v w [] = refl
all_broken-seen f g v w (r ∷ rs) = rw (broken-seen f g v w r, all_broken-seen f g v w rs) refl

rules_asked-seen : (f g : ℕ → ℕ) (v w : PlainView) → rules_asked (view_seen f v) (view_seen g w) ≡ rules_asked v w
unfolding view_seen
rules_asked-seen f g v w = refl

pub breaks-seen : (f g : ℕ → ℕ) (v w : PlainView) → breaks (view_seen f v) (view_seen g w) ≡ breaks v w
unfolding breaks
breaks-seen f g v w =
    ap (flat_map (broken (view_seen f v) (view_seen g w))) (rules_asked-seen f g v w)
    ∙ all_broken-seen f g v w (rules_asked v w)
