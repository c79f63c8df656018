-- The first loss if the middle library is skipped.
use Rattle.std.specs.Prelude.{◌≡◌, ◌<◌, ℕ, length, slice_get}
use Rattle.abi_types.specs.Graphs.{node_at}
use Rattle.cert_check.specs.Accepted.{symbol_of}
use Rattle.cert_check.specs.Finds.{IsFirst}
use Rattle.cert_check.specs.declared.refused.RefusedKind.{RefusedKind}
use Rattle.cert_check.specs.declared.refused.RefusedKind.TheVariants.{BindingBetween, ExportBetween, TypeBetween, Declaration}
use Rattle.cert_compose.specs.declared.refusal.ComposeRefusal.{ComposeRefusal}
use Rattle.cert_compose.specs.declared.refusal.ComposeRefusal.TheVariants.{Between, NoMemory}
use Rattle.cert_compose.specs.Chains.{PlainChain}
use Rattle.cert_compose.specs.Between.{KeepsBinding, KeepsRules, KeepsTyped, KeepsTypes}

-- the number is the symbol of the first export that does not keep P
pub record IsFirstSymbol (ch : PlainChain) (P : ℕ → Type 0) (at : ℕ) : Type 0 where
  pub place : ℕ
  pub first : IsFirst P (length ch.first.exports) place
  pub symbol : at ≡ symbol_of (slice_get ch.first.exports place)

-- the number is the least entry of a node whose types are not kept
pub record IsLeastUnkept (ch : PlainChain) (at : ℕ) : Type 0 where
  pub node : ℕ
  pub inside : node < length ch.first.graph
  pub fails : KeepsTypes ch node → ⊥
  pub entry : at ≡ (node_at ch.first.graph node).entry
  pub least : (i : ℕ) → i < length ch.first.graph → (node_at ch.first.graph i).entry < at → KeepsTypes ch i

abbrev pub AllKeep : (ℕ → Type 0) → Type 0
AllKeep P = (k : ℕ) → P k

-- this is lost, and all conditions before it hold; a composition is refused for no other reason, except memory
abbrev pub IsLost : PlainChain → RefusedKind → ℕ → Type 0
IsLost ch BindingBetween at = IsFirstSymbol ch (KeepsBinding ch) at
IsLost ch ExportBetween at = AllKeep (KeepsBinding ch) × IsFirstSymbol ch (KeepsRules ch) at
IsLost ch TypeBetween at = AllKeep (KeepsBinding ch) × AllKeep (KeepsRules ch) × IsFirstSymbol ch (KeepsTyped ch) at
IsLost ch Declaration at = AllKeep (KeepsBinding ch) × AllKeep (KeepsRules ch) × AllKeep (KeepsTyped ch) × IsLeastUnkept ch at
IsLost ch kind at = ⊥

abbrev pub IsRefusal : PlainChain → ComposeRefusal → Type 0
IsRefusal ch (Between lost) = IsLost ch lost.kind lost.at
IsRefusal ch (NoMemory cause) = Unit {0}
