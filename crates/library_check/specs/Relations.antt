-- What a certificate shows besides its verdict: a relation between types that proves a yes.
use Rattle.std.specs.Prelude.{ℕ, List, Option, Some, None}
use Rattle.cert_check.specs.Compatible.{Sides, task_of}
use Rattle.cert_check.specs.Relation.{relation_of}
use Rattle.cert_check.specs.declared.refused.Refused.{Refused}
use Rattle.cert_text.specs.Certs.{PlainCert}
use Rattle.cert_text.specs.Grammar.{IsSpelled}
use Rattle.pair_rules.specs.Closed.{HoldsRoots, IsClosed}
use Rattle.library_check.specs.Checks.{sides_of}
use Rattle.library_check.specs.Verifications.{case_for}

-- The text spells a certificate whose pair lines are a relation that is closed under the rules of types and holds the types of all
-- compared exports.
pub record SpellsRelation (s : Sides) (text : List ℕ) : Type 0 where
  pub cert : PlainCert
  pub spelled : IsSpelled text cert
  pub closed : IsClosed (task_of s) (relation_of (case_for s cert))
  pub roots : HoldsRoots (task_of s) (relation_of (case_for s cert))

-- the text shows such a relation for these libraries and this rule file
abbrev pub IsRelationText : List ℕ → List ℕ → List ℕ → List ℕ → Type 0
IsRelationText old new rules text = SpellsRelation (sides_of old new rules) text

-- an accepted certificate shows such a relation
abbrev pub AcceptsSuchRelation : List ℕ → List ℕ → List ℕ → List ℕ → Option Refused → Type 0
AcceptsSuchRelation old new rules certificate None = IsRelationText old new rules certificate
AcceptsSuchRelation old new rules certificate (Some refusal) = Unit {0}
