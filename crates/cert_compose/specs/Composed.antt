-- The certificate that two certificates compose, as a composition of sets of lines.
use Rattle.std.specs.Prelude.{◌≡◌, ◌<◌, ◌↔◌, ℕ, None, Contains, length}
use Rattle.cert_text.specs.Certs.{PlainCert, PairLine, IsCert}
use Rattle.cert_check.specs.Accepted.{line_of, old_class, new_class}
use Rattle.cert_compose.specs.Chains.{PlainChain, near_case, next_case}

-- some symbol of the middle library links the two
pub record IsThrough (ch : PlainChain) (line : ℕ × ℕ) : Type 0 where
  pub symbol : ℕ
  pub one : Contains ch.one.binds (line.0, symbol)
  pub other : Contains ch.other.binds (symbol, line.1)

-- Neither entry has an alike line, and some node of the middle library links the two: at one way, its representative among the new
-- entries of the first certificate is paired with the first entry, and its representative among the old entries of the second
-- certificate with the second entry.
pub record IsJoined (ch : PlainChain) (line : PairLine) : Type 0 where
  pub old_own : line_of ch.one.alike_old line.0 ≡ None
  pub new_own : line_of ch.other.alike_new line.1 ≡ None
  pub node : ℕ
  pub inside : node < length ch.middle.graph
  pub one : Contains ch.one.pairs (line.0, new_class (near_case ch) node, line.2)
  pub other : Contains ch.other.pairs (old_class (next_case ch) node, line.1, line.2)

pub record IsComposed (ch : PlainChain) (c : PlainCert) : Type 0 where
  pub cert : IsCert c
  pub old_digest : c.old_digest ≡ ch.first.digest
  pub new_digest : c.new_digest ≡ ch.last.digest
  pub rules_digest : c.rules_digest ≡ ch.marks.digest
  pub binds : (line : ℕ × ℕ) → Contains c.binds line ↔ IsThrough ch line
  pub alike_old : c.alike_old ≡ ch.one.alike_old
  pub alike_new : c.alike_new ≡ ch.other.alike_new
  pub pairs : (line : PairLine) → Contains c.pairs line ↔ IsJoined ch line
