-- Laws of what one part says.
use Rattle.std.proofs.Common.{◌≡◌, true, refl, ℕ, Some, ◌<◌, length, inl, inr, zero, suc, List, [], ◌∷◌, map, get_or, ◌-◌, ◌∙◌, ap}
use Rattle.abi_types.specs.Types.{PlainPart, Member, Enumerator, Target, Element, Outcome, Param, PlainView}
use Rattle.abi_types.specs.Parts.{like}
use Rattle.abi_types.specs.Graphs.{to_of, part_at, no_part}
use Rattle.std.proofs.lemmas.Bool.{cases_lt}
use Rattle.std.proofs.lemmas.Option.{none-some}
use Rattle.std.proofs.lemmas.List.{get_or_past}
use Rattle.std.specs.Option.{option_map}
use Rattle.abi_types.specs.ClassLooks.{part_seen, view_seen}
use Rattle.abi_types.specs.declared.kind.Way.{Way}
use Rattle.pair_rules.specs.Ways.{after}
use Rattle.abi_base.proofs.lemmas.Orders.{bytes_eq-refl}

-- each part is like itself
pub like-same : (p : PlainPart) → like p p ≡ true
like-same (Member name bit width to) = bytes_eq-refl name
like-same (Enumerator name value) = bytes_eq-refl name
like-same (Target to) = refl
like-same (Element to) = refl
like-same (Outcome to) = refl
like-same (Param to) = refl

-- where a part is like one that names a node, it names one too
pub to_of-like : (p q : PlainPart) (to : ℕ) → like p q ≡ true → to_of p ≡ Some to → (there : ℕ) × (to_of q ≡ Some there)
to_of-like (Member m b c at) (Member n d e there) to alike named = (there, refl)
to_of-like (Enumerator m b) q to alike named = absurd cc
to_of-like (Target at) (Target there) to alike named = (there, refl)
to_of-like (Element at) (Element there) to alike named = (there, refl)
to_of-like (Outcome at) (Outcome there) to alike named = (there, refl)
to_of-like (Param at) (Param there) to alike named = (there, refl)
to_of-like p q to alike named = absurd cc

-- a part that names a node is there
pub part-inside : (v : PlainView) (i to : ℕ) → to_of (part_at v i) ≡ Some to → i < length v.parts
part-inside v i to named =
    elim (cases_lt i (length v.parts)) [
      | inl inside ↦ inside
      | inr past ↦ absurd (none-some to (rw (get_or_past v.parts i no_part past) at named))
    ]

pub to_of-seen : (f : ℕ → ℕ) (p : PlainPart) → to_of (part_seen f p) ≡ option_map f (to_of p)
to_of-seen f (Member _ _ _ _) = refl
to_of-seen f (Enumerator _ _) = refl
to_of-seen f (Target _) = refl
to_of-seen f (Element _) = refl
to_of-seen f (Outcome _) = refl
to_of-seen f (Param _) = refl

pub get_or-seen : (f : ℕ → ℕ) (ps : List PlainPart) (k : ℕ) → get_or (map (part_seen f) ps) k no_part ≡ part_seen f (get_or ps k no_part)
get_or-seen f [] k = refl
get_or-seen f (p ∷ ps) zero = refl
get_or-seen f (p ∷ ps) (suc k) = get_or-seen f ps k

pub after-seen : (f : ℕ → ℕ) (way : Way) (p : PlainPart) → after way (part_seen f p) ≡ after way p
after-seen f way (Member _ _ _ _) = refl
after-seen f way (Enumerator _ _) = refl
after-seen f way (Target _) = refl
after-seen f way (Element _) = refl
after-seen f way (Outcome _) = refl
after-seen f way (Param _) = refl

pub part_at-seen : (f : ℕ → ℕ) (v : PlainView) (k : ℕ) → part_at (view_seen f v) k ≡ part_seen f (part_at v k)
unfolding view_seen
part_at-seen f v k = get_or-seen f v.parts k

pub named-seen : (f : ℕ → ℕ) (v : PlainView) (i : ℕ) → to_of (part_at (view_seen f v) i) ≡ option_map f (to_of (part_at v i))
named-seen f v i = ap to_of (part_at-seen f v i) ∙ to_of-seen f (part_at v i)
