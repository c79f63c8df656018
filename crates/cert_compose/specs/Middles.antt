-- The representatives of a middle library's entries, in both certificates.
use Rattle.std.specs.Prelude.{◌≡◌, ◌<◌, ◌==◌, ◌&&◌, ℕ, Bool, List, length}
use Rattle.std.specs.Ordering.{nat_cmp, ordering_then}
use Rattle.std.specs.declared.cmp.Ordering.{Ordering}
use Rattle.abi_types.specs.Types.{PlainNode}
use Rattle.cert_check.specs.Accepted.{class_in}
use Rattle.cert_compose.specs.Chains.{PlainChain}

abbrev pub both_cmp : ℕ × ℕ → ℕ × ℕ → Ordering
both_cmp x y = ordering_then (nat_cmp x.0 y.0) (nat_cmp x.1 y.1)

abbrev pub same_both : ℕ × ℕ → ℕ × ℕ → Bool
same_both x y = x.0 == y.0 && x.1 == y.1

-- the two representatives of a node's entry, by two lists of alike lines
abbrev pub both_at : List PlainNode → List (ℕ × ℕ) → List (ℕ × ℕ) → ℕ → ℕ × ℕ
both_at nodes news olds n = (class_in nodes news n, class_in nodes olds n)

-- some node has these two representatives
abbrev pub IsBoth : List PlainNode → List (ℕ × ℕ) → List (ℕ × ℕ) → ℕ × ℕ → Type 0
IsBoth nodes news olds pair = (n : ℕ) × (n < length nodes) × (both_at nodes news olds n ≡ pair)

-- the two representatives of a node of the middle library: among the new entries of the first certificate, and among the old
-- entries of the second one
abbrev pub middle_at : PlainChain → ℕ → ℕ × ℕ
middle_at ch n = both_at ch.middle.graph ch.one.alike_new ch.other.alike_old n

abbrev pub IsMiddle : PlainChain → ℕ × ℕ → Type 0
IsMiddle ch middle = IsBoth ch.middle.graph ch.one.alike_new ch.other.alike_old middle
