-- The laws about all types of debug information, for crates above. Each of these is a law of its own, too.
use Rattle.std.specs.Prelude.{◌≡◌, ◌<◌, ◌≤◌, ◌*◌, ◌||◌, ℕ, List, [], ◌++◌, map, flat_map, Contains, Some, None}
use Rattle.std.specs.List.{list_any}
use Rattle.abi_base.specs.Limits.{depth_limit}
use Rattle.dwarf_entries.specs.Debug.{PlainDwarf}
use Rattle.abi_types.specs.Limits.{size_limit}
use Rattle.type_reach.specs.declared.role.Role.TheVariants as role
use Rattle.type_reach.specs.References.{Type_, role_of, type_of, members_of, steps_of}
use Rattle.type_reach.specs.ByValue.{steps_from, IsTooDeep, IsClosed}
use Rattle.type_reach.specs.Facts.{void_facts, facts_from, facts_of}
use Rattle.type_reach.specs.Flat.{Flat, core_of, own_label, labels_made, labels_of, flat_made, flat_of, member_gives}
use Rattle.type_reach.specs.PeeledCores.{StandsForNone, IsPeeledCore, IsFound, IsLower}
use Rattle.type_reach.specs.Sizes.{begins_beyond, has_member_beyond}

-- no chain of steps by value exceeds the limit
abbrev pub IsShallow : PlainDwarf → Type_ → Type 0
IsShallow d r = IsTooDeep d.tree r → ⊥

pub record TypeLaws (d : PlainDwarf) : Type 0 where
  pub shallow : (r s : Type_) → IsShallow d r → Contains (steps_from d.tree r) s → IsShallow d s
  pub falls : (r s : Type_) → IsShallow d r → Contains (steps_from d.tree r) s → (facts_of d s).rank < (facts_of d r).rank
  pub ranks : (r : Type_) → IsShallow d r → (facts_of d r).rank ≤ depth_limit
  pub facts : (r : Type_) → IsShallow d r → facts_of d r ≡ facts_from d r (map (facts_of d) (steps_from d.tree r))
  pub labels : (r : Type_) → IsShallow d r → labels_of d r ≡ labels_made d r (map (labels_of d) (steps_from d.tree r))
  pub flats : (r : Type_) → IsShallow d r → flat_of d r ≡ flat_made d r (map (flat_of d) (steps_from d.tree r))
  pub cores : (r : Type_) → IsShallow d r → IsPeeledCore d r (core_of d r)
  pub found : (found : List ℕ) (r : Type_) → IsClosed d.tree found → IsShallow d r → IsFound found r → IsFound found (core_of d r)
  pub lower : (found : List ℕ) → IsClosed d.tree found → (r : Type_) → IsShallow d r → IsFound found r → (m : Flat) → Contains (flat_of d r) m → IsLower d found r m
  pub arrays : (e : ℕ) → IsShallow d (Some e) → role_of d.tree e ≡ role.Array → (facts_of d (Some e)).size ≤ size_limit → (facts_of d (Some e)).size ≡ (facts_of d (Some e)).count * (facts_of d (type_of d.tree e)).size
  pub beyond : (r : Type_) → IsShallow d r → (facts_of d r).beyond ≡ (has_member_beyond d (core_of d r) || list_any begins_beyond (flat_of d r))
  pub facts_void : facts_of d None ≡ void_facts
  pub flats_void : flat_of d None ≡ []
  pub labels_void : labels_of d None ≡ []
  pub labels_passed : (e : ℕ) → IsShallow d (Some e) → role_of d.tree e ≡ role.Wrapper → labels_of d (Some e) ≡ own_label d e ++ labels_of d (type_of d.tree e)
  pub labels_last : (e : ℕ) → IsShallow d (Some e) → StandsForNone d e → labels_of d (Some e) ≡ own_label d e
  pub passed_step : (e : ℕ) → role_of d.tree e ≡ role.Wrapper → Contains (steps_of d.tree e) (type_of d.tree e)
  pub member_step : (e m : ℕ) → Contains (members_of d.tree e) m → Contains (steps_of d.tree e) (type_of d.tree m)
  pub members : (e : ℕ) → IsShallow d (Some e) → StandsForNone d e → flat_of d (Some e) ≡ flat_map (member_gives d) (members_of d.tree e)
  pub step_found : (found : List ℕ) (r s : Type_) → IsClosed d.tree found → IsFound found r → Contains (steps_from d.tree r) s → IsFound found s
  pub void_shallow : IsShallow d None
