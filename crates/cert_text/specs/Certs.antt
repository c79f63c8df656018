-- Certificates as plain data, and their invariants.
use Rattle.std.specs.Prelude.{◌≡◌, ◌<◌, ◌+◌, ◌*◌, ◌^◌, ℕ, Bool, true, false, List, [], ◌∷◌, length, map}
use Rattle.std.specs.Ordering.{nat_cmp, bool_cmp, ordering_then}
use Rattle.std.specs.List.{All, AllPairs, flat_map}
use Rattle.std.specs.declared.cmp.Ordering.{Ordering}
use Rattle.std.specs.declared.cmp.Ordering.TheVariants.{Less}
use Rattle.hex.specs.Hex.{IsBytes}
use Rattle.abi_types.specs.declared.kind.Way.{Way}
use Rattle.abi_types.specs.declared.kind.Way.TheVariants.{Direct, Pointer}

-- an old entry, a new entry, and the way by which a program reaches them
abbrev pub PairLine : Type 0
PairLine = ℕ × ℕ × Way

pub record PlainCert : Type 0 where
  pub old_digest : List ℕ
  pub new_digest : List ℕ
  pub rules_digest : List ℕ
  pub binds : List (ℕ × ℕ)
  pub alike_old : List (ℕ × ℕ)
  pub alike_new : List (ℕ × ℕ)
  pub pairs : List PairLine

-- ---- order

abbrev pub is_pointer : Way → Bool
is_pointer Direct = false
is_pointer Pointer = true

-- lines that are ordered by their first number
abbrev pub first_cmp : ℕ × ℕ → ℕ × ℕ → Ordering
first_cmp x y = nat_cmp x.0 y.0

-- pair lines: by the old entry, then the new entry, then direct before pointer
abbrev pub pair_cmp : PairLine → PairLine → Ordering
pair_cmp x y = ordering_then (ordering_then (nat_cmp x.0 y.0) (nat_cmp x.1 y.1)) (bool_cmp (is_pointer x.2) (is_pointer y.2))

-- each item is less than all later ones
abbrev pub Ascend : {X : Type 0} → (X → X → Ordering) → List X → Type 0
Ascend {X} cmp xs = AllPairs (λ x y. cmp x y ≡ Less) xs

-- ---- numbers

-- a SHA-256
pub record IsDigest (bytes : List ℕ) : Type 0 where
  pub size : length bytes ≡ 32
  pub are : IsBytes bytes

-- both numbers of a line are below a limit
abbrev pub IsBelow : ℕ → ℕ × ℕ → Type 0
IsBelow limit line = (line.0 < limit) × (line.1 < limit)

-- both entries of a pair line are below a limit
abbrev pub IsPairBelow : ℕ → PairLine → Type 0
IsPairBelow limit line = (line.0 < limit) × (line.1 < limit)

-- ---- the invariants of a certificate

-- the digests are digests, symbols are numbers below 2^32 and entries below 2^64
pub record IsInRange (c : PlainCert) : Type 0 where
  pub old_digest : IsDigest c.old_digest
  pub new_digest : IsDigest c.new_digest
  pub rules_digest : IsDigest c.rules_digest
  pub binds : All (IsBelow (2 ^ 32)) c.binds
  pub alike_old : All (IsBelow (2 ^ 64)) c.alike_old
  pub alike_new : All (IsBelow (2 ^ 64)) c.alike_new
  pub pairs : All (IsPairBelow (2 ^ 64)) c.pairs

-- the number of lines before the last one
abbrev pub line_count : PlainCert → ℕ
line_count c = 4 + length c.binds + length c.alike_old + length c.alike_new + length c.pairs

pub record IsCert (c : PlainCert) : Type 0 where
  pub binds : Ascend first_cmp c.binds
  pub alike_old : Ascend first_cmp c.alike_old
  pub alike_new : Ascend first_cmp c.alike_new
  pub pairs : Ascend pair_cmp c.pairs
  pub numbers : IsInRange c
  -- each line has a number below 2^64
  pub fits : 5 + length c.binds + length c.alike_old + length c.alike_new + length c.pairs < 2 ^ 64

-- ---- version 1

-- a certificate of version 1: its pairs hold for both ways
pub record PlainCert1 : Type 0 where
  pub old_digest : List ℕ
  pub new_digest : List ℕ
  pub rules_digest : List ℕ
  pub binds : List (ℕ × ℕ)
  pub alike_old : List (ℕ × ℕ)
  pub alike_new : List (ℕ × ℕ)
  pub pairs : List (ℕ × ℕ)

-- a pair of version 1 as a pair line by value
abbrev pub as_direct : ℕ × ℕ → PairLine
as_direct pair = record { 0 = pair.0; 1 = pair.1; 2 = Direct }

-- the certificate of version 2 with the same lines, whose pairs are all by value
abbrev pub with_ways : PlainCert1 → PlainCert
with_ways c = record {
  old_digest = c.old_digest;
  new_digest = c.new_digest;
  rules_digest = c.rules_digest;
  binds = c.binds;
  alike_old = c.alike_old;
  alike_new = c.alike_new;
  pairs = map as_direct c.pairs;
}

-- its lists ascend, its numbers are in range, and its lines can still be numbered if each pair line stands twice
pub record IsCert1 (c : PlainCert1) : Type 0 where
  pub is : IsCert (with_ways c)
  pub fits : 5 + length c.binds + length c.alike_old + length c.alike_new + 2 * length c.pairs < 2 ^ 64

-- ---- migration

abbrev pub without_way : PairLine → ℕ × ℕ
without_way line = (line.0, line.1)

-- a pair of version 1, at both ways
abbrev pub both_ways : ℕ × ℕ → List PairLine
both_ways pair = (pair.0, pair.1, Direct) ∷ (pair.0, pair.1, Pointer) ∷ []

-- the certificate of version 2 that means the same: each pair line at both ways
abbrev pub migrated : PlainCert1 → PlainCert
migrated c = record {
  old_digest = c.old_digest;
  new_digest = c.new_digest;
  rules_digest = c.rules_digest;
  binds = c.binds;
  alike_old = c.alike_old;
  alike_new = c.alike_new;
  pairs = flat_map both_ways c.pairs;
}
