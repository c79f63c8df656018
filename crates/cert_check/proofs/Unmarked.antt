-- What is accepted with marks that mark nothing is accepted with any others that mark nothing.
use Rattle.std.proofs.Common.{◌≡◌, ◌<◌, ℕ, Some, ◌∙◌}
use Rattle.std.specs.Prelude.{◌↔◌}
use Rattle.abi_types.specs.declared.library.Marks.{Marks}
use Rattle.abi_types.specs.Exports.{PlainExport}
use Rattle.abi_types.specs.Limits.{symbol_limit}
use Rattle.pair_rules.specs.Steps.{Task, Triple, step, IsStep}
use Rattle.cert_text.specs.Certs.{PlainCert}
use Rattle.cert_check.specs.Compatible.{Sides, sides, IsCompared, task_of}
use Rattle.cert_check.specs.Accepted.{Case, KeepsBinding, KeepsRules, KeepsRoot, KeepsRule, KeepsPartners}
use Rattle.cert_check.specs.ProvedConditions.{KeepsAll}
use Rattle.cert_check.specs.Unmarked.{MarkNothing}
use Rattle.cert_check.proofs.lemmas.Unmarked.{unmarked}

module _ (steps : (t : Task) (x y : Triple) (i : ℕ) → (step t x i ≡ Some y) ↔ IsStep t x i y) (s : Sides) (m : Marks) (c : PlainCert) (nothing : MarkNothing s.marks) (nothing' : MarkNothing m) (digest : s.marks.digest ≡ m.digest) (kept : KeepsAll (record { sides = s; cert = c })) where
  abbrev others : Sides
  others = sides s.old s.new m

  abbrev case : Case
  case = record { sides = others; cert = c }

  compared : (k : ℕ) (e : PlainExport) → IsCompared others k e → IsCompared s k e
  compared k e is = record { at = is.at; kept = nothing.exports k }

  binding_kept : (symbol : ℕ) → symbol < symbol_limit → KeepsBinding case symbol
  binding_kept symbol below =
      let here = kept.bindings symbol below in
      record {
        bound = λ k e is same. let b = here.bound k e (compared k e is) same in record { partner = b.partner; binds = b.binds; says = b.says };
        owned = λ j line. let o = here.owned j line in (o.0, o.1, record { at = o.2.at; kept = nothing'.exports o.0 }, o.3);
      }

  rules_kept : (k : ℕ) → KeepsRules case k
  rules_kept k e f is binds = kept.rules k e f (compared k e is) binds

  root_kept : (k : ℕ) → KeepsRoot case k
  root_kept k e f is binds one other = kept.roots k e f (compared k e is) binds one other

  rule_kept : (k : ℕ) → KeepsRule case k
  rule_kept k line at =
      let l = kept.lines k line at in
      record { triple = l.triple; is = record { old = l.is.old; new = l.is.new; way = l.is.way }; keeps = λ free. l.keeps (unmarked s nothing l.triple.old l.triple.way) }

  partners_kept : (k : ℕ) → KeepsPartners case k
  partners_kept k line at x y i of stepped =
      let is = (steps (task_of others) x y i).0 stepped in
      kept.partners k line at x y i (record { old = of.old; new = of.new; way = of.way })
      ((steps (task_of s) x y i).1 (record { unmarked = unmarked s nothing x.old x.way; new_part = is.new_part; partners = is.partners; old = is.old; new = is.new; way = is.way }))

  pub kept_unmarked : KeepsAll case
  kept_unmarked = record {
    old_digest = kept.old_digest;
    new_digest = kept.new_digest;
    rules_digest = kept.rules_digest ∙ digest;
    sonames = kept.sonames;
    bindings = binding_kept;
    rules = rules_kept;
    alike_old = kept.alike_old;
    alike_new = kept.alike_new;
    roots = root_kept;
    lines = rule_kept;
    partners = partners_kept;
  }
