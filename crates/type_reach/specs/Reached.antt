-- The entries that roots reach: those to which a chain of references leads.
use Rattle.std.specs.Prelude.{◌<◌, ◌↔◌, ◌++◌, ◌∷◌, [], ℕ, zero, suc, Bool, cond, List, length, fold, nat_eq, All, Contains, Some, None}
use Rattle.std.specs.List.{IsDistinct, list_any}
use Rattle.dwarf_tree.specs.Trees.{PlainTree}
use Rattle.type_reach.specs.References.{Type_, types_of}

-- a chain of this many references leads from a root to an entry
abbrev pub TypeReferences : PlainTree → List ℕ → ℕ → ℕ → Type 0
TypeReferences t roots zero f = Contains roots f
TypeReferences t roots (suc n) f = (e : ℕ) × TypeReferences t roots n e × Contains (types_of t e) (Some f)

-- an entry is reached if a chain of references leads to it
abbrev pub IsReached : PlainTree → List ℕ → ℕ → Type 0
IsReached t roots f = (n : ℕ) × TypeReferences t roots n f

-- ---- found entries

abbrev pub was_found : List ℕ → ℕ → Bool
was_found found e = list_any (nat_eq e) found

-- the entries, with one more at the end if it is new
abbrev pub with_entry : List ℕ → ℕ → List ℕ
with_entry found e = cond (was_found found e) found (found ++ e ∷ [])

-- the entries, with that of a type
abbrev pub with_type : List ℕ → Type_ → List ℕ
with_type found None = found
with_type found (Some e) = with_entry found e

unfoldable pub with_types : List ℕ → List Type_ → List ℕ
with_types found types = fold with_type found types

-- exactly the reached entries, each once
pub record IsWalk (t : PlainTree) (roots found : List ℕ) : Type 0 where
  pub exact : (e : ℕ) → Contains found e ↔ IsReached t roots e
  pub once : IsDistinct nat_eq found
  pub inside : All (λ (e : ℕ). e < length t.entries) found

-- a type is void, which is always reached, or a reached entry
abbrev pub IsMet : PlainTree → List ℕ → Type_ → Type 0
IsMet t roots None = Unit {0}
IsMet t roots (Some e) = IsReached t roots e
