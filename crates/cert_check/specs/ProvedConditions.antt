-- What an accepted certificate guarantees, condition by condition.
use Rattle.std.specs.Prelude.{◌≡◌, ◌<◌, ℕ}
use Rattle.abi_types.specs.Limits.{symbol_limit}
use Rattle.cert_check.specs.Accepted.{Case, KeepsBinding, KeepsRules, KeepsAlike, KeepsRoot, KeepsRule, KeepsPartners}

pub record KeepsAll (c : Case) : Type 0 where
  pub old_digest : c.cert.old_digest ≡ c.sides.old.digest
  pub new_digest : c.cert.new_digest ≡ c.sides.new.digest
  pub rules_digest : c.cert.rules_digest ≡ c.sides.marks.digest
  pub sonames : c.sides.old.soname ≡ c.sides.new.soname
  pub bindings : (symbol : ℕ) → symbol < symbol_limit → KeepsBinding c symbol
  pub rules : (k : ℕ) → KeepsRules c k
  pub alike_old : (k : ℕ) → KeepsAlike c.sides.old.graph c.cert.alike_old k
  pub alike_new : (k : ℕ) → KeepsAlike c.sides.new.graph c.cert.alike_new k
  pub roots : (k : ℕ) → KeepsRoot c k
  pub lines : (k : ℕ) → KeepsRule c k
  pub partners : (k : ℕ) → KeepsPartners c k
