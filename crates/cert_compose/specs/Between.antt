-- What may be lost if the middle library is skipped.
use Rattle.std.specs.Prelude.{◌≡◌, ◌&&◌, not, ℕ, Bool, true, false, [], Some, slice_get}
use Rattle.abi_types.specs.declared.kind.Way.{Way}
use Rattle.abi_types.specs.Exports.{PlainExport}
use Rattle.abi_types.specs.Types.{PlainView}
use Rattle.abi_types.specs.Graphs.{view_at}
use Rattle.pair_rules.specs.TypeRules.{breaks}
use Rattle.elf_bind.specs.Binding.{bind_to}
use Rattle.cert_check.specs.Compatible.{bound, is_typed, KeepsExport}
use Rattle.cert_check.specs.Relation.{relation_of}
use Rattle.cert_compose.specs.Chains.{PlainChain, near, near_case, next_case}

-- `e` binds to `f` in the middle library, and both bind to `g` in the last one
pub record IsLink (ch : PlainChain) (e f g : PlainExport) : Type 0 where
  pub one : bound (near ch) e ≡ Some f
  pub place : ℕ
  pub other : bind_to ch.last.exports f ≡ Some place
  pub straight : bind_to ch.last.exports e ≡ Some place
  pub at : slice_get ch.last.exports place ≡ Some g

-- the export binds in the last library to the same export as through the middle one
pub record BindsThrough (ch : PlainChain) (e : PlainExport) : Type 0 where
  pub between : PlainExport
  pub partner : PlainExport
  pub link : IsLink ch e between partner

abbrev pub KeepsBinding : PlainChain → ℕ → Type 0
KeepsBinding ch k = (e : PlainExport) → slice_get ch.first.exports k ≡ Some e → BindsThrough ch e

-- the export keeps the rules of exports against the one to which it binds in the last library
abbrev pub KeepsRules : PlainChain → ℕ → Type 0
KeepsRules ch k = (e f g : PlainExport) → slice_get ch.first.exports k ≡ Some e → IsLink ch e f g → KeepsExport e g

-- if the export and the one to which it binds in the last library have types, the one between them has a type
abbrev pub KeepsTyped : PlainChain → ℕ → Type 0
KeepsTyped ch k = (e f g : PlainExport) → slice_get ch.first.exports k ≡ Some e → IsLink ch e f g → is_typed e ≡ true → is_typed g ≡ true → is_typed f ≡ true

-- the middle type is only a declaration, and the other two are definitions
abbrev pub hides : PlainView → PlainView → PlainView → Bool
hides v u w = u.declared_only && not v.declared_only && not w.declared_only

-- at one way, the first certificate relates the first and the second node, and the second certificate the second and the third
pub record AreRelated (ch : PlainChain) (e f g : ℕ) (way : Way) : Type 0 where
  pub one : relation_of (near_case ch) (record { old = e; new = f; way = way }) ≡ true
  pub other : relation_of (next_case ch) (record { old = f; new = g; way = way }) ≡ true

-- the middle node does not hide a pair of definitions, and the first and the last node keep the rules of types
pub record KeepsType (ch : PlainChain) (e f g : ℕ) : Type 0 where
  pub shown : hides (view_at ch.first.graph e) (view_at ch.middle.graph f) (view_at ch.last.graph g) ≡ false
  pub keeps : breaks (view_at ch.first.graph e) (view_at ch.last.graph g) ≡ []

abbrev pub KeepsTypes : PlainChain → ℕ → Type 0
KeepsTypes ch e = (f g : ℕ) (way : Way) → AreRelated ch e f g way → KeepsType ch e f g

pub record NothingBetween (ch : PlainChain) : Type 0 where
  pub bindings : (k : ℕ) → KeepsBinding ch k
  pub rules : (k : ℕ) → KeepsRules ch k
  pub typed : (k : ℕ) → KeepsTyped ch k
  pub types : (e : ℕ) → KeepsTypes ch e
