-- Partners are parts that are there, and each of them names a node.
use Rattle.std.proofs.Common.{◌≡◌, ◌<◌, ℕ, length, Option, Some, None, refl, sym, ap, rules, inl, inr}
use Rattle.std.specs.Option.{IsSome}
use Rattle.std.proofs.lemmas.Bool.{cases_Bool}
use Rattle.std.proofs.lemmas.Option.{same_Some, none-some}
use Rattle.abi_types.specs.Types.{PlainView}
use Rattle.abi_types.specs.Graphs.{part_at, to_of}
use Rattle.pair_rules.specs.Matching.{match_of}
use Rattle.pair_rules.specs.TypeRules.{are_compared}
use Rattle.pair_rules.specs.Partners.{pair_of, partner_at, IsPartner}
use Rattle.pair_rules.proofs.Matches.{IsMatch-from_some, some_from_IsMatch}
use Rattle.pair_rules.proofs.lemmas.Parts.{to_of-like, part-inside}

pair_of-parts : (i : ℕ) (o m : Option ℕ) (p : ℕ × ℕ) → pair_of i o m ≡ Some p → (to : ℕ) × (o ≡ Some to) × (m ≡ Some p.1) × (p.0 ≡ i)
pair_of-parts i (Some to) (Some j) p e =
    let same = same_Some (i, j) p e in
    (to, refl, ap (λ q. Some q.1) same, sym (ap (λ q. q.0) same))
pair_of-parts i (Some to) None p e = absurd (none-some p e)
pair_of-parts i None m p e = absurd (none-some p e)

pub IsPartner-from_some : (v w : PlainView) (i : ℕ) (p : ℕ × ℕ) → partner_at v w i ≡ Some p → (p.0 ≡ i) × IsPartner v w i p.1
unfolding partner_at
IsPartner-from_some v w i p e =
    elim (cases_Bool (are_compared v w)) [
      | inl compared ↦
          let parts = pair_of-parts i (to_of (part_at v i)) (match_of v w i) p (rw compared at e) in
          let match = IsMatch-from_some v w i p.1 parts.2 in
          let there = to_of-like (part_at v i) (part_at w p.1) parts.0 match.alike parts.1 in (
            parts.3,
            record {
              compared = compared;
              old_inside = part-inside v i parts.0 parts.1;
              old_named = rw parts.1 search rules;
              matched = match;
              new_named = rw there.1 search rules;
            },
          )
      | inr uncompared ↦ absurd (none-some p (rw uncompared at e))
    ]

pair_of-some : (i j : ℕ) (o : Option ℕ) → IsSome o → pair_of i o (Some j) ≡ Some (i, j)
pair_of-some i j None named = search rules
pair_of-some i j (Some to) named = refl

pub some_from_IsPartner : (v w : PlainView) (i j : ℕ) → IsPartner v w i j → partner_at v w i ≡ Some (i, j)
unfolding partner_at
some_from_IsPartner v w i j is = rw (is.compared, some_from_IsMatch v w i j is.matched) (pair_of-some i j (to_of (part_at v i)) is.old_named)
