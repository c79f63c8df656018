-- What a type shares with its core.
use Rattle.std.specs.Prelude.{◌≡◌, ◌<◌, ◌≤◌, ℕ, List, Contains, IfSome}
use Rattle.dwarf_entries.specs.Debug.{PlainDwarf}
use Rattle.type_reach.specs.declared.facts.Facts.{Facts}
use Rattle.type_reach.specs.declared.role.Role.TheVariants as role
use Rattle.type_reach.specs.References.{Type_, role_of}
use Rattle.type_reach.specs.ByValue.{IsTooDeep}
use Rattle.type_reach.specs.Facts.{facts_of}
use Rattle.type_reach.specs.Flat.{Flat, flat_of}

-- the facts that a type shares with its core
pub record SharePeeledCore (a b : Facts) : Type 0 where
  pub size : a.size ≡ b.size
  pub count : a.count ≡ b.count
  pub rooms : a.rooms ≡ b.rooms
  pub span : a.span ≡ b.span
  pub beyond : a.beyond ≡ b.beyond
  pub core : a.core ≡ b.core
  pub aggregate : a.aggregate ≡ b.aggregate

-- whether the entry stands for no other type
abbrev pub StandsForNone : PlainDwarf → ℕ → Type 0
StandsForNone d e = role_of d.tree e ≡ role.Wrapper → ⊥

-- the properties of a type's core, which is not a typedef, qualifier or variable
pub record IsPeeledCore (d : PlainDwarf) (r c : Type_) : Type 0 where
  pub last : IfSome c (StandsForNone d)
  pub shallow : IsTooDeep d.tree c → ⊥
  pub low : (facts_of d c).rank ≤ (facts_of d r).rank
  pub same : SharePeeledCore (facts_of d r) (facts_of d c)
  pub flat : flat_of d r ≡ flat_of d c

-- a type is void or was found
abbrev pub IsFound : List ℕ → Type_ → Type 0
IsFound found r = IfSome r (λ e. Contains found e)

-- a flat member's type was found, and has a lower rank than the type with the member
pub record IsLower (d : PlainDwarf) (found : List ℕ) (r : Type_) (m : Flat) : Type 0 where
  pub there : IsFound found m.to
  pub low : (facts_of d m.to).rank < (facts_of d r).rank
