-- One thing is the first that is lost.
use Rattle.std.proofs.Common.{◌≡◌, ℕ, length, slice_get, sym, ◌∙◌, ap, inl, inr, arith}
use Rattle.std.proofs.lemmas.Bool.{cases_order}
use Rattle.abi_types.specs.Graphs.{node_at}
use Rattle.cert_check.specs.Accepted.{symbol_of}
use Rattle.cert_check.specs.Finds.{IsFirst}
use Rattle.cert_check.specs.declared.refused.Refused.{Refused}
use Rattle.cert_check.specs.declared.refused.RefusedKind.{RefusedKind}
use Rattle.cert_check.specs.declared.refused.RefusedKind.TheVariants as kind
use Rattle.cert_compose.specs.Chains.{PlainChain}
use Rattle.cert_compose.specs.Between.{KeepsBinding, KeepsRules, KeepsTyped, KeepsTypes, NothingBetween}
use Rattle.cert_compose.specs.Refusals.{AllKeep, IsFirstSymbol, IsLeastUnkept, IsLost}

-- what is lost, case by case
data Lost (ch : PlainChain) : RefusedKind → ℕ → Type 0 where
  Binding : (at : ℕ) → IsFirstSymbol ch (KeepsBinding ch) at → Lost ch kind.BindingBetween at
  Export : (at : ℕ) → AllKeep (KeepsBinding ch) → IsFirstSymbol ch (KeepsRules ch) at → Lost ch kind.ExportBetween at
  Typed : (at : ℕ) → AllKeep (KeepsBinding ch) → AllKeep (KeepsRules ch) → IsFirstSymbol ch (KeepsTyped ch) at → Lost ch kind.TypeBetween at
  Types : (at : ℕ) → AllKeep (KeepsBinding ch) → AllKeep (KeepsRules ch) → AllKeep (KeepsTyped ch) → IsLeastUnkept ch at → Lost ch kind.Declaration at

as_lost : (ch : PlainChain) (k : RefusedKind) (at : ℕ) → IsLost ch k at → Lost ch k at
as_lost ch kind.BindingBetween at is = Binding at is
as_lost ch kind.ExportBetween at is = Export at is.0 is.1
as_lost ch kind.TypeBetween at is = Typed at is.0 is.1 is.2
as_lost ch kind.Declaration at is = Types at is.0 is.1 is.2 is.3
as_lost ch kind.OtherInput at is = absurd is
as_lost ch kind.Soname at is = absurd is
as_lost ch kind.Bindings at is = absurd is
as_lost ch kind.ExportRule at is = absurd is
as_lost ch kind.Alike at is = absurd is
as_lost ch kind.Root at is = absurd is
as_lost ch kind.Rule at is = absurd is
as_lost ch kind.Partner at is = absurd is

-- what fails somewhere is not kept everywhere
not_all : (ch : PlainChain) (P : ℕ → Type 0) (at : ℕ) → AllKeep P → IsFirstSymbol ch P at → ⊥
not_all ch P at all first = first.first.fails (all first.place)

not_all_types : (ch : PlainChain) (at : ℕ) → AllKeep (KeepsTypes ch) → IsLeastUnkept ch at → ⊥
not_all_types ch at all least = least.fails (all least.node)

-- one position is the first
one_first : (P : ℕ → Type 0) (count j k : ℕ) → IsFirst P count j → IsFirst P count k → j ≡ k
one_first P count j k one other = elim (cases_order j k) [
  | inl same ↦ same
  | inr (inl less) ↦ absurd (one.fails (other.before j less))
  | inr (inr above) ↦ absurd (other.fails (one.before k above))
]

one_symbol : (ch : PlainChain) (P : ℕ → Type 0) (at other : ℕ) → IsFirstSymbol ch P at → IsFirstSymbol ch P other → at ≡ other
one_symbol ch P at other here there =
    here.symbol ∙ ap (λ (k : ℕ). symbol_of (slice_get ch.first.exports k)) (one_first P (length ch.first.exports) here.place there.place here.first there.first) ∙ sym there.symbol

one_least : (ch : PlainChain) (at other : ℕ) → IsLeastUnkept ch at → IsLeastUnkept ch other → at ≡ other
one_least ch at other here there =
    let one : at ≡ (node_at ch.first.graph here.node).entry = here.entry in
    let two : other ≡ (node_at ch.first.graph there.node).entry = there.entry in
    elim (cases_order at other) [
      | inl same ↦ same
      | inr (inl less) ↦ absurd (here.fails (there.least here.node here.inside (omega (arith, one, less))))
      | inr (inr above) ↦ absurd (there.fails (here.least there.node there.inside (omega (arith, two, above))))
    ]

abbrev lost_at : RefusedKind → ℕ → Refused
lost_at k at = record { kind = k; at = at }

one_lost : (ch : PlainChain) (k l : RefusedKind) (at other : ℕ) → Lost ch k at → Lost ch l other → lost_at k at ≡ lost_at l other
one_lost ch k l at other (Binding _ a) (Binding _ b) = ap (lost_at kind.BindingBetween) (one_symbol ch (KeepsBinding ch) at other a b)
one_lost ch k l at other (Binding _ a) (Export _ all b) = absurd (not_all ch (KeepsBinding ch) at all a)
one_lost ch k l at other (Binding _ a) (Typed _ all x b) = absurd (not_all ch (KeepsBinding ch) at all a)
one_lost ch k l at other (Binding _ a) (Types _ all x y b) = absurd (not_all ch (KeepsBinding ch) at all a)
one_lost ch k l at other (Export _ all a) (Binding _ b) = absurd (not_all ch (KeepsBinding ch) other all b)
one_lost ch k l at other (Export _ x a) (Export _ y b) = ap (lost_at kind.ExportBetween) (one_symbol ch (KeepsRules ch) at other a b)
one_lost ch k l at other (Export _ x a) (Typed _ y all b) = absurd (not_all ch (KeepsRules ch) at all a)
one_lost ch k l at other (Export _ x a) (Types _ y all z b) = absurd (not_all ch (KeepsRules ch) at all a)
one_lost ch k l at other (Typed _ all x a) (Binding _ b) = absurd (not_all ch (KeepsBinding ch) other all b)
one_lost ch k l at other (Typed _ x all a) (Export _ y b) = absurd (not_all ch (KeepsRules ch) other all b)
one_lost ch k l at other (Typed _ x y a) (Typed _ z w b) = ap (lost_at kind.TypeBetween) (one_symbol ch (KeepsTyped ch) at other a b)
one_lost ch k l at other (Typed _ x y a) (Types _ z w all b) = absurd (not_all ch (KeepsTyped ch) at all a)
one_lost ch k l at other (Types _ all x y a) (Binding _ b) = absurd (not_all ch (KeepsBinding ch) other all b)
one_lost ch k l at other (Types _ x all y a) (Export _ z b) = absurd (not_all ch (KeepsRules ch) other all b)
one_lost ch k l at other (Types _ x y all a) (Typed _ z w b) = absurd (not_all ch (KeepsTyped ch) other all b)
one_lost ch k l at other (Types _ x y z a) (Types _ u v w b) = ap (lost_at kind.Declaration) (one_least ch at other a b)

none_lost : (ch : PlainChain) (k : RefusedKind) (at : ℕ) → NothingBetween ch → Lost ch k at → ⊥
none_lost ch k at nothing (Binding _ a) = not_all ch (KeepsBinding ch) at nothing.bindings a
none_lost ch k at nothing (Export _ x a) = not_all ch (KeepsRules ch) at nothing.rules a
none_lost ch k at nothing (Typed _ x y a) = not_all ch (KeepsTyped ch) at nothing.typed a
none_lost ch k at nothing (Types _ x y z a) = not_all_types ch at nothing.types a

pub lost_is_one : (ch : PlainChain) (lost other : Refused) → IsLost ch lost.kind lost.at → IsLost ch other.kind other.at → lost ≡ other
lost_is_one ch lost other one two = one_lost ch lost.kind other.kind lost.at other.at (as_lost ch lost.kind lost.at one) (as_lost ch other.kind other.at two)

pub nothing_is_lost : (ch : PlainChain) (lost : Refused) → NothingBetween ch → IsLost ch lost.kind lost.at → ⊥
nothing_is_lost ch lost nothing is = none_lost ch lost.kind lost.at nothing (as_lost ch lost.kind lost.at is)
