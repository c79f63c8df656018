-- Findings that give one row.
use Rattle.std.proofs.Common.{◌≡◌, ◌==◌, ◌&&◌, true, refl, sym, ◌∙◌, ap}
use Rattle.std.specs.Str.{bytes_eq}
use Rattle.std.proofs.lemmas.Bool.{and_parts, and_from, eqb-true, eq-eqb}
use Rattle.abi_types.specs.Rules.{rule_place}
use Rattle.abi_types.specs.declared.rule.Rule.{Rule}
use Rattle.pair_rules.specs.Steps.{Task}
use Rattle.pair_compare.specs.reports.Findings.{Finding, detail_at}
use Rattle.pair_compare.specs.reports.TypeFindings.{same_row}
use Rattle.abi_base.proofs.lemmas.Orders.{bytes_eq-is_same, bytes_eq-refl}

pub record IsSameRow (t : Task) (f g : Finding) : Type 0 where
  pub rule : f.broken.rule ≡ g.broken.rule
  pub old : f.old ≡ g.old
  pub new : f.new ≡ g.new
  pub detail : detail_at t f.old f.new f.broken ≡ detail_at t g.old g.new g.broken

pub IsSameRow-sym : (t : Task) (f g : Finding) → IsSameRow t f g → IsSameRow t g f
IsSameRow-sym t f g s = record { rule = sym s.rule; old = sym s.old; new = sym s.new; detail = sym s.detail }

pub IsSameRow-trans : (t : Task) (f g h : Finding) → IsSameRow t f g → IsSameRow t g h → IsSameRow t f h
IsSameRow-trans t f g h s r = record { rule = s.rule ∙ r.rule; old = s.old ∙ r.old; new = s.new ∙ r.new; detail = s.detail ∙ r.detail }

pub same_row-parts : ((one other : Rule) → rule_place one ≡ rule_place other → one ≡ other) → (t : Task) (f g : Finding) → same_row t f g ≡ true → IsSameRow t f g
unfolding same_row
same_row-parts places t f g e =
    let a = and_parts (rule_place f.broken.rule == rule_place g.broken.rule && f.old == g.old && f.new == g.new) _ e in
    let b = and_parts (rule_place f.broken.rule == rule_place g.broken.rule && f.old == g.old) (f.new == g.new) a.0 in
    let c = and_parts (rule_place f.broken.rule == rule_place g.broken.rule) (f.old == g.old) b.0 in
    record {
      rule = places f.broken.rule g.broken.rule (eqb-true _ _ c.0);
      old = eqb-true f.old g.old c.1;
      new = eqb-true f.new g.new b.1;
      detail = bytes_eq-is_same _ _ a.1;
    }

module _ (t : Task) where
  pub same_row-from : (f g : Finding) → IsSameRow t f g → same_row t f g ≡ true
  unfolding same_row
  same_row-from f g s =
      and_from _ _ (and_from _ _ (and_from _ _ (eq-eqb _ _ (ap rule_place s.rule)) (eq-eqb f.old g.old s.old)) (eq-eqb f.new g.new s.new))
      (ap (bytes_eq (detail_at t f.old f.new f.broken)) (sym s.detail) ∙ bytes_eq-refl (detail_at t f.old f.new f.broken))

  pub same_row-itself : (f : Finding) → same_row t f f ≡ true
  same_row-itself f = same_row-from f f (record { rule = refl; old = refl; new = refl; detail = refl })

  pub same_row-turned : ((one other : Rule) → rule_place one ≡ rule_place other → one ≡ other) → (f g : Finding) → same_row t f g ≡ true → same_row t g f ≡ true
  same_row-turned places f g e = same_row-from g f (IsSameRow-sym t f g (same_row-parts places t f g e))
