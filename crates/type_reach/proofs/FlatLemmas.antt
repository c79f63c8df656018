-- Flat members of what is no entry that stands for its type.
use Rattle.std.proofs.Common.{◌≡◌, ◌+◌, ℕ, zero, suc, List, [], ◌∷◌, ◌++◌, map, Option, Some, None, refl, sym, ◌∙◌, ap, subst, arith, ◌⊎◌, inl, inr}
use Rattle.std.proofs.lemmas.Bool.{cases_Bool}
use Rattle.std.specs.Prelude.{Contains, zip, flat_map, ◌||◌}
use Rattle.std.specs.List.{list_any}
use Rattle.std.proofs.lemmas.List.{append-nil}
use Rattle.abi_base.proofs.lemmas.Contained.{in_front, in_none}
use Rattle.abi_types.specs.Types.{PlainLabel}
use Rattle.abi_base.specs.Limits.{depth_limit}
use Rattle.dwarf_tree.specs.Trees.{PlainTree}
use Rattle.dwarf_entries.specs.Addresses.{is_declared_only}
use Rattle.dwarf_entries.specs.Chains.{name_of}
use Rattle.dwarf_entries.specs.Debug.{PlainDwarf}
use Rattle.type_reach.specs.declared.facts.Facts.{Facts}
use Rattle.type_reach.specs.declared.role.Role.{Role}
use Rattle.type_reach.specs.declared.role.Role.TheVariants as role
use Rattle.type_reach.specs.References.{Type_, role_of, type_of, parts_of, members_for, members_of, steps_of}
use Rattle.type_reach.specs.ByValue.{steps_from, StepsOn, IsTooDeep, IsClosed}
use Rattle.type_reach.specs.Facts.{members_with, member_beyond, own_span, span_for, span_out_of_range, beyond_for, facts_of}
use Rattle.type_reach.specs.Flat.{Flat, own_label, passed_labels, labels_of, moved, declared_bit, given_by, given, flat_for, flat_of, member_gives}
use Rattle.type_reach.specs.PeeledCores.{StandsForNone, IsFound, IsLower}
use Rattle.type_reach.proofs.ByValueLemmas.{StepsOn-none, StepsOn-more}
use Rattle.type_reach.proofs.lemmas.Mapped.{from_map, from_flat_map, Contains-map}
use Rattle.type_reach.proofs.FactLemmas.{rank-falls, shallow-step}
use Rattle.type_reach.proofs.StepLemmas.{passed-steps, aggregate-steps, members-beside}
use Rattle.type_reach.proofs.CoreLemmas.{flat_of-is, labels_of-is, void_shallow, passed-flat, passed-step, step_found}

-- ---- the roles of cores

pub record IsLast (k : Role) : Type 0 where
  pub flat : (d : PlainDwarf) (e : ℕ) (flats : List (List Flat)) → flat_for k d e flats ≡ flat_map (given d) (zip (members_of d.tree e) flats)
  pub span : (d : PlainDwarf) (e : ℕ) (facts : List Facts) → span_for k d e facts ≡ own_span d e facts
  pub beyond : (d : PlainDwarf) (e : ℕ) (facts : List Facts) → beyond_for k d e facts ≡ (list_any (member_beyond d) (members_with d.tree e facts) || span_out_of_range (own_span d e facts))

pub passed_or_last : (k : Role) → (k ≡ role.Wrapper) ⊎ IsLast k
passed_or_last role.Wrapper = inl refl
passed_or_last role.Aggregate = inr (record { flat = λ d e x. refl; span = λ d e x. refl; beyond = λ d e x. refl })
passed_or_last role.Function = inr (record { flat = λ d e x. refl; span = λ d e x. refl; beyond = λ d e x. refl })
passed_or_last role.Part = inr (record { flat = λ d e x. refl; span = λ d e x. refl; beyond = λ d e x. refl })
passed_or_last role.Pointer = inr (record { flat = λ d e x. refl; span = λ d e x. refl; beyond = λ d e x. refl })
passed_or_last role.Array = inr (record { flat = λ d e x. refl; span = λ d e x. refl; beyond = λ d e x. refl })
passed_or_last role.Enumeration = inr (record { flat = λ d e x. refl; span = λ d e x. refl; beyond = λ d e x. refl })
passed_or_last role.Base = inr (record { flat = λ d e x. refl; span = λ d e x. refl; beyond = λ d e x. refl })
passed_or_last role.Unknown = inr (record { flat = λ d e x. refl; span = λ d e x. refl; beyond = λ d e x. refl })

-- ---- members, one after the other

flat_map-map : {X Y Z : Type 0} (g : Y → List Z) (f : X → Y) (xs : List X) → flat_map g (map f xs) ≡ flat_map (λ x. g (f x)) xs
flat_map-map g f [] = refl
flat_map-map g f (x ∷ xs) = ap (λ ys. g (f x) ++ ys) (flat_map-map g f xs)

pub members-flat : (d : PlainDwarf) (e : ℕ) → (IsTooDeep d.tree (Some e) → ⊥) → IsLast (role_of d.tree e) → flat_of d (Some e) ≡ flat_map (member_gives d) (members_of d.tree e)
members-flat d e shallow last =
    flat_of-is d (Some e) shallow
    ∙ last.flat d e (map (flat_of d) (steps_of d.tree e))
    ∙ ap (flat_map (given d)) (members-beside (flat_of d) d.tree e)
    ∙ flat_map-map (given d) (λ m. (m, flat_of d (type_of d.tree m))) (members_of d.tree e)

pub member-step : (t : PlainTree) (e m : ℕ) → Contains (members_of t e) m → Contains (steps_of t e) (type_of t m)
unfolding members_of
member-step t e m has = go (role_of t e) refl has where
  go : (k : Role) → role_of t e ≡ k → Contains (members_for k t e) m → Contains (steps_of t e) (type_of t m)
  go role.Aggregate is h =
      elim (cases_Bool (is_declared_only t e)) [ inl only ↦ absurd (in_none m (rw only at h)) | inr defined ↦ subst (λ ss. Contains ss (type_of t m)) (sym (aggregate-steps t e is)) (Contains-map (type_of t) (parts_of t e) m (rw defined at h)) ]
  go role.Wrapper is h = absurd (in_none m h)
  go role.Function is h = absurd (in_none m h)
  go role.Part is h = absurd (in_none m h)
  go role.Pointer is h = absurd (in_none m h)
  go role.Array is h = absurd (in_none m h)
  go role.Enumeration is h = absurd (in_none m h)
  go role.Base is h = absurd (in_none m h)
  go role.Unknown is h = absurd (in_none m h)

-- ---- the types of flat members are lower

pub flat-void : (d : PlainDwarf) → flat_of d None ≡ []
flat-void d = flat_of-is d None (void_shallow d.tree)

module _ (d : PlainDwarf) (found : List ℕ) (closed : IsClosed d.tree found) where
  lower-step : (r s : Type_) (m : Flat) → (IsTooDeep d.tree r → ⊥) → Contains (steps_from d.tree r) s → IsLower d found s m → IsLower d found r m
  lower-step r s m shallow has low = record { there = low.there; low = omega (arith, low.low, rank-falls d r s shallow has) }

  given-lower : (e p : ℕ) (inner : List Flat) (m : Flat) (name : Option (List ℕ)) → (IsTooDeep d.tree (Some e) → ⊥) → IsFound found (Some e) → Contains (steps_of d.tree e) (type_of d.tree p)
      → ((n : Flat) → Contains inner n → IsLower d found (type_of d.tree p) n) → Contains (given_by d p name inner) m → IsLower d found (Some e) m
  given-lower e p inner m (Some name) shallow there has below h =
      elim (in_front _ [] m h) [
        | inl same ↦ subst (IsLower d found (Some e)) same (record { there = step_found d.tree found (Some e) (type_of d.tree p) closed there has; low = rank-falls d (Some e) (type_of d.tree p) shallow has })
        | inr none ↦ absurd (in_none m none)
      ]
  given-lower e p inner m None shallow there has below h =
      elim (cases_Bool (facts_of d (type_of d.tree p)).aggregate) [
        | inl yes' ↦ let from = from_map (moved (declared_bit d p)) inner m (rw yes' at h) in
            let low = below from.0 from.1 in
            subst (IsLower d found (Some e)) from.2 (lower-step (Some e) (type_of d.tree p) (moved (declared_bit d p) from.0) shallow has (record { there = low.there; low = low.low }))
        | inr no' ↦ absurd (in_none m (rw no' at h))
      ]

  lower-within : (k : ℕ) (r : Type_) → (StepsOn d.tree k r → ⊥) → (IsTooDeep d.tree r → ⊥) → IsFound found r → (m : Flat) → Contains (flat_of d r) m → IsLower d found r m
  lower-within zero r none shallow there m h = absurd (none (StepsOn-none d.tree r))
  lower-within (suc k) None none shallow there m h = absurd (in_none m (subst (λ ms. Contains ms m) (flat-void d) h))
  lower-within (suc k) (Some e) none shallow there m h =
      let below : (s : Type_) → Contains (steps_of d.tree e) s → (n : Flat) → Contains (flat_of d s) n → IsLower d found s n = λ s has. lower-within k s (λ on. none (StepsOn-more d.tree k (Some e) s has on)) (shallow-step d.tree (Some e) s shallow has) (step_found d.tree found (Some e) s closed there has) in
      elim (passed_or_last (role_of d.tree e)) [
        | inl passed ↦
            let has = passed-step d.tree e passed in
            lower-step (Some e) (type_of d.tree e) m shallow has (below (type_of d.tree e) has m (subst (λ ms. Contains ms m) (passed-flat d e shallow passed) h))
        | inr last ↦
            let from = from_flat_map (member_gives d) (members_of d.tree e) m (subst (λ ms. Contains ms m) (members-flat d e shallow last) h) in
            let has = member-step d.tree e from.0 from.1 in
            given-lower e from.0 (flat_of d (type_of d.tree from.0)) m (name_of d from.0) shallow there has (below (type_of d.tree from.0) has) from.2
      ]

  pub flat-lower : (r : Type_) → (IsTooDeep d.tree r → ⊥) → IsFound found r → (m : Flat) → Contains (flat_of d r) m → IsLower d found r m
  flat-lower r shallow there = lower-within (depth_limit + 1) r shallow shallow there

-- ---- by what stands for none

pub members-of-last : (d : PlainDwarf) (e : ℕ) → (IsTooDeep d.tree (Some e) → ⊥) → StandsForNone d e → flat_of d (Some e) ≡ flat_map (member_gives d) (members_of d.tree e)
members-of-last d e shallow last = elim (passed_or_last (role_of d.tree e)) [ inl passed ↦ absurd (last passed) | inr is ↦ members-flat d e shallow is ]

-- ---- labels

pub labels-void : (d : PlainDwarf) → labels_of d None ≡ []
labels-void d = labels_of-is d None (void_shallow d.tree)

pub labels-passed : (d : PlainDwarf) (e : ℕ) → (IsTooDeep d.tree (Some e) → ⊥) → role_of d.tree e ≡ role.Wrapper → labels_of d (Some e) ≡ own_label d e ++ labels_of d (type_of d.tree e)
labels-passed d e shallow passed =
    labels_of-is d (Some e) shallow
    ∙ ap (λ k. own_label d e ++ passed_labels k (map (labels_of d) (steps_of d.tree e))) passed
    ∙ ap (λ ss. own_label d e ++ passed_labels role.Wrapper (map (labels_of d) ss)) (passed-steps d.tree e passed)

no-labels : (k : Role) (labels : List (List PlainLabel)) → (k ≡ role.Wrapper → ⊥) → passed_labels k labels ≡ []
no-labels role.Wrapper labels last = absurd (last refl)
no-labels role.Aggregate labels last = refl
no-labels role.Function labels last = refl
no-labels role.Part labels last = refl
no-labels role.Pointer labels last = refl
no-labels role.Array labels last = refl
no-labels role.Enumeration labels last = refl
no-labels role.Base labels last = refl
no-labels role.Unknown labels last = refl

pub labels-last : (d : PlainDwarf) (e : ℕ) → (IsTooDeep d.tree (Some e) → ⊥) → StandsForNone d e → labels_of d (Some e) ≡ own_label d e
labels-last d e shallow last =
    labels_of-is d (Some e) shallow
    ∙ ap (λ ls. own_label d e ++ ls) (no-labels (role_of d.tree e) (map (labels_of d) (steps_of d.tree e)) last)
    ∙ append-nil (own_label d e)
