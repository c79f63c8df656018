-- What the searches say of all positions.
use Rattle.std.proofs.Common.{◌≡◌, ℕ, List, length, slice_get, Some, None, arith}
use Rattle.std.specs.Prelude.{◌↔◌}
use Rattle.std.specs.List.{Contains}
use Rattle.std.proofs.lemmas.Option.{slice_get_within}
use Rattle.cert_check.specs.Accepted.{Case, IsAccepted, symbol_of}
use Rattle.cert_check.specs.Finds.{IsFirst, FindsFirst}
use Rattle.cert_check.specs.ProvedConditions.{KeepsAll}
use Rattle.cert_compose.specs.Chains.{PlainChain, IsChain, near_case, next_case}
use Rattle.cert_compose.specs.Between.{KeepsBinding, KeepsRules, KeepsTyped, KeepsTypes, NothingBetween}
use Rattle.cert_compose.specs.Losses.{FindsLeastEntry}
use Rattle.cert_compose.specs.Middles.{IsMiddle}
use Rattle.cert_compose.specs.Refusals.{IsFirstSymbol, IsLeastUnkept}
use Rattle.cert_compose.proofs.LineLemmas.{LineLaws}
use Rattle.cert_compose.proofs.LossLemmas.{BreaksSee, not_lost, is_lost}
use Rattle.cert_compose.proofs.Accepting.{related_parts}

pub all_bound : (ch : PlainChain) → FindsFirst (KeepsBinding ch) (length ch.first.exports) None → (k : ℕ) → KeepsBinding ch k
all_bound ch found k e at = found k (slice_get_within ch.first.exports k e at) e at

pub all_keep : (ch : PlainChain) → FindsFirst (KeepsRules ch) (length ch.first.exports) None → (k : ℕ) → KeepsRules ch k
all_keep ch found k e f g at link = found k (slice_get_within ch.first.exports k e at) e f g at link

pub all_typed : (ch : PlainChain) → FindsFirst (KeepsTyped ch) (length ch.first.exports) None → (k : ℕ) → KeepsTyped ch k
all_typed ch found k e f g at link one other = found k (slice_get_within ch.first.exports k e at) e f g at link one other

pub first_at : (ch : PlainChain) (P : ℕ → Type 0) (k at : ℕ) → IsFirst P (length ch.first.exports) k → at ≡ symbol_of (slice_get ch.first.exports k) → IsFirstSymbol ch P at
first_at ch P k at first symbol = record { place = k; first = first; symbol = symbol }

module _ (laws : LineLaws) (sees : BreaksSee) (keeps_all : (c : Case) → IsAccepted c ↔ KeepsAll c) (ch : PlainChain) (chain : IsChain ch) (middles : List (ℕ × ℕ)) (exact : (m : ℕ × ℕ) → Contains middles m ↔ IsMiddle ch m) where
  one : KeepsAll (near_case ch)
  one = (keeps_all (near_case ch)).0 chain.one

  other : KeepsAll (next_case ch)
  other = (keeps_all (next_case ch)).0 chain.other

  pub all_types : FindsLeastEntry ch middles None → (e : ℕ) → KeepsTypes ch e
  all_types found e f g way related =
      let inside = (related_parts laws (near_case ch) (record { old = e; new = f; way = way }) related.one).old in
      not_lost laws sees ch chain.first_graph chain.middle_graph chain.last_graph one other middles exact e inside (found e inside) f g way related

  pub least_unkept : (at : ℕ) → FindsLeastEntry ch middles (Some at) → IsLeastUnkept ch at
  least_unkept at found = record {
    node = found.node;
    inside = found.inside;
    fails = is_lost laws sees ch chain.first_graph chain.middle_graph chain.last_graph one other middles exact found.node found.inside found.is_lost;
    entry = found.entry;
    least = λ i inside less. not_lost laws sees ch chain.first_graph chain.middle_graph chain.last_graph one other middles exact i inside (λ lost. omega (arith, less, found.least i inside lost));
  }

  pub nothing : FindsFirst (KeepsBinding ch) (length ch.first.exports) None → FindsFirst (KeepsRules ch) (length ch.first.exports) None → FindsFirst (KeepsTyped ch) (length ch.first.exports) None → FindsLeastEntry ch middles None → NothingBetween ch
  nothing a b d found = record { bindings = all_bound ch a; rules = all_keep ch b; typed = all_typed ch d; types = all_types found }
