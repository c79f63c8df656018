-- Fewer parts stand before a position than there are parts.
use Rattle.std.proofs.Common.{◌≡◌, ℕ, List, ◌<◌, take, length, arith, ap, subst, sym}
use Rattle.std.proofs.lemmas.List.{length-take-le}
use Rattle.std.proofs.lemmas.List.Sums.{count_by-le-length}
use Rattle.abi_types.specs.Types.{PlainPart, PlainView}
use Rattle.abi_types.specs.Parts.{like, like_before}
use Rattle.pair_rules.proofs.matching.number_of.Goals as goal

fewer : (parts : List PlainPart) (part : PlainPart) (i : ℕ) → i < length parts → like_before parts part i < length parts
unfolding like_before
fewer parts part i inside = omega (arith, inside, count_by-le-length (like part) (take i parts), length-take-le i parts (omega arith))

at_view : (outer inner : List PlainPart) (part : PlainPart) (i n : ℕ) → outer ≡ inner → i < length outer → n ≡ like_before inner part i → n < length outer
at_view outer inner part i n same inside is = omega (arith, fewer inner part i (subst (λ (l : List PlainPart). i < length l) same inside), is, ap length same)

pub returns-clause-few : goal.returns-clause-few
returns-clause-few g c = at_view _ _ _ _ _ (sym (ap (λ (v : PlainView). v.parts) c.view.view_is)) c.requires c.like_before.ensures
