-- A certificate of version 1 that is accepted is accepted with each pair line both ways.
use Rattle.std.proofs.Common.{◌≡◌, ℕ, zero, suc, Bool, true, false, List, [], ◌∷◌, slice_get, slice_index_or, Some, refl, sym, ◌∙◌, ap}
use Rattle.std.specs.Prelude.{◌↔◌}
use Rattle.std.specs.List.{Contains, flat_map}
use Rattle.std.proofs.lemmas.Option.{none-some, same_Some}
use Rattle.abi_base.proofs.lemmas.Lists.{contains_at, at_contains}
use Rattle.abi_types.specs.declared.kind.Way.{Way}
use Rattle.abi_types.specs.declared.kind.Way.TheVariants.{Direct, Pointer}
use Rattle.pair_rules.specs.Steps.{Task, Triple, is_marked, step, IsStep}
use Rattle.cert_text.specs.Certs.{PlainCert1, PairLine, both_ways, without_way}
use Rattle.cert_check.specs.Compatible.{Sides, task_of}
use Rattle.cert_check.specs.Accepted.{KeepsBinding, KeepsRoot, KeepsRule, KeepsPartners, is_line}
use Rattle.cert_check.specs.ProvedConditions.{KeepsAll}
use Rattle.cert_check.specs.FirstVersion.{AreOneMark, is_marked_any, case_1, migrated_case, IsAccepted1}
use Rattle.cert_check.proofs.LineLaws.{is_line_there}

-- ---- pairs both ways

-- a pair with a way
abbrev pair_by : ℕ × ℕ → Way → PairLine
pair_by pair way = (pair.0, pair.1, way)

way_from : (pairs : List (ℕ × ℕ)) (k : ℕ) (line : PairLine) → slice_get (flat_map both_ways pairs) k ≡ Some line → (j : ℕ) × (slice_get pairs j ≡ Some (without_way line))
way_from [] k line e = absurd (none-some line e)
way_from (p ∷ ps) zero line e = (0, ap (λ (l : PairLine). Some (without_way l)) (same_Some (pair_by p Direct) line e))
way_from (p ∷ ps) (suc zero) line e = (0, ap (λ (l : PairLine). Some (without_way l)) (same_Some (pair_by p Pointer) line e))
way_from (p ∷ ps) (suc (suc k)) line e = let there = way_from ps k line e in (suc there.0, there.1)

without : (pairs : List (ℕ × ℕ)) (k : ℕ) (line : PairLine) → slice_get (flat_map both_ways pairs) k ≡ Some line → Contains pairs (without_way line)
without pairs k line e = let there = way_from pairs k line e in contains_at pairs there.0 (without_way line) there.1

way_to : (pairs : List (ℕ × ℕ)) (j : ℕ) (pair : ℕ × ℕ) (way : Way) → slice_get pairs j ≡ Some pair → (k : ℕ) × (slice_get (flat_map both_ways pairs) k ≡ Some (pair_by pair way))
way_to [] j pair way e = absurd (none-some pair e)
way_to (p ∷ ps) zero pair Direct e = (0, ap (λ (q : ℕ × ℕ). Some (pair_by q Direct)) (same_Some p pair e))
way_to (p ∷ ps) zero pair Pointer e = (1, ap (λ (q : ℕ × ℕ). Some (pair_by q Pointer)) (same_Some p pair e))
way_to (p ∷ ps) (suc j) pair way e = let there = way_to ps j pair way e in (suc (suc there.0), there.1)

listed_by : (pairs : List (ℕ × ℕ)) (pair : ℕ × ℕ) (way : Way) → Contains pairs pair → is_line (flat_map both_ways pairs) (pair_by pair way) ≡ true
listed_by pairs pair way h =
    let here = at_contains pairs pair h in
    let there = way_to pairs here.0 pair way here.1 in
    (is_line_there (flat_map both_ways pairs) (pair_by pair way)).1 (contains_at (flat_map both_ways pairs) there.0 (pair_by pair way) there.1)

-- ---- conditions

abbrev pub StepsAre : Type 0
StepsAre = (t : Task) (x y : Triple) (i : ℕ) → (step t x i ≡ Some y) ↔ IsStep t x i y

module _ (steps : StepsAre) (s : Sides) (c : PlainCert1) (one : AreOneMark s) (kept : IsAccepted1 s c) where
  any_way : (a : ℕ) (way : Way) → is_marked (task_of s) a way ≡ is_marked_any s a
  any_way a Direct = refl
  any_way a Pointer = ap (λ (flags : List Bool). slice_index_or flags a false) one

  binding_kept : (symbol : ℕ) → KeepsBinding (case_1 s c) symbol → KeepsBinding (migrated_case s c) symbol
  binding_kept symbol binding = record {
    bound = λ k e compared is. let b = binding.bound k e compared is in record { partner = b.partner; binds = b.binds; says = b.says };
    owned = binding.owned;
  }

  root_kept : (k : ℕ) → KeepsRoot (migrated_case s c) k
  root_kept k e f compared binds old_typed new_typed = listed_by c.pairs _ Direct (kept.roots k e f compared binds old_typed new_typed)

  rule_kept : (k : ℕ) → KeepsRule (migrated_case s c) k
  rule_kept k line at =
      let keeps = kept.lines (without_way line) (without c.pairs k line at) in
      record {
        triple = record { old = keeps.old; new = keeps.new; way = line.2 };
        is = record { old = keeps.old_is; new = keeps.new_is; way = refl };
        keeps = λ unmarked. keeps.keeps (sym (any_way keeps.old line.2) ∙ unmarked);
      }

  partners_kept : (k : ℕ) → KeepsPartners (migrated_case s c) k
  partners_kept k line at x y i of stepped =
      let is = (steps (task_of s) x y i).0 stepped in
      listed_by c.pairs _ y.way
      (kept.partners (without_way line) (without c.pairs k line at) x.old x.new i is.new_part y.old y.new of.old of.new (sym (any_way x.old x.way) ∙ is.unmarked) is.partners is.old is.new)

  pub migrated_kept : KeepsAll (migrated_case s c)
  migrated_kept = record {
    old_digest = kept.old_digest;
    new_digest = kept.new_digest;
    rules_digest = kept.rules_digest;
    sonames = kept.sonames;
    bindings = λ symbol below. binding_kept symbol (kept.bindings symbol below);
    rules = kept.rules;
    alike_old = kept.alike_old;
    alike_new = kept.alike_new;
    roots = root_kept;
    lines = rule_kept;
    partners = partners_kept;
  }
