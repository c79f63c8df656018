-- A match for each part, and one part more that breaks the rule or does not.
use Rattle.std.proofs.Common.{◌≡◌, ◌<◌, ℕ, List, Option, None, length, map, sym, ◌∙◌, ap, arith}
use Rattle.std.specs.List.{range_with_len}
use Rattle.std.proofs.lemmas.List.FromFn.{length-map-range_with_len, get_or-map-range_with_len}
use Rattle.pair_rules.specs.Matching.{match_of}
use Rattle.pair_rules.specs.TypeRules.{broken_at, breaks_part}
use Rattle.pair_rules.proofs.Ranges.{filter-more_pushed, filter-more_kept}
use Rattle.pair_rules.proofs.rules.push_parts.Goals as goal
use Rattle.pair_rules.proofs.rules.push_parts.Goals.{then-breaks_part+in_ok-push, else-breaks_part}

count : (f : ℕ → Option ℕ) (n : ℕ) (matches : List (Option ℕ)) → matches ≡ map f (range_with_len 0 n) → length matches ≡ n
count f n matches is = ap length is ∙ length-map-range_with_len f 0 n

pub breaks_part-requires-clause-inside : goal.breaks_part-requires-clause-inside
breaks_part-requires-clause-inside c = omega (arith, count (match_of c.args.old.now c.args.new.now) (length c.args.old.now.parts) c.args.matches.now c.requires)

pub breaks_part-requires-clause-found : goal.breaks_part-requires-clause-found
breaks_part-requires-clause-found c =
    let inside : c.walk.part < length c.args.old.now.parts = omega (arith, count (match_of c.args.old.now c.args.new.now) (length c.args.old.now.parts) c.args.matches.now c.requires) in
    rw c.requires (get_or-map-range_with_len (match_of c.args.old.now c.args.new.now) 0 (length c.args.old.now.parts) c.walk.part c.walk.part None inside (omega arith))

pub walk-preserved : goal.walk-preserved
walk-preserved c =
    elim c.if-breaks_part.branch [
      | then-breaks_part+in_ok-push w ↦ filter-more_pushed (broken_at c.args.rule) (breaks_part c.args.rule c.args.old.now c.args.new.now) c.walk.part c.args.list.now c.walk.list c.if-breaks_part.list c.walk.invariant (sym c.breaks_part.ensures ∙ w.if-breaks_part.true) (w.list-is ∙ w.in_ok-push.ensures.ok)
      | else-breaks_part w ↦ rw w.list-is (filter-more_kept (broken_at c.args.rule) (breaks_part c.args.rule c.args.old.now c.args.new.now) c.walk.part c.args.list.now c.walk.list c.walk.invariant (sym c.breaks_part.ensures ∙ w.if-breaks_part.false))
    ]

pub returns-clause-appended : goal.returns-clause-appended
returns-clause-appended c =
    let all : c.walk.part ≡ length c.args.old.now.parts = omega (arith, count (match_of c.args.old.now c.args.new.now) (length c.args.old.now.parts) c.args.matches.now c.requires) in
    rw (← all) c.walk.invariant
