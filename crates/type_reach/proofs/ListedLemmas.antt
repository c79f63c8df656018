-- The list of the reached entries holds exactly those, each once, and all to which they lead.
use Rattle.std.proofs.Common.{◌<◌, ℕ, zero, suc, List, length, get_or, arith}
use Rattle.std.specs.Prelude.{Contains, nat_eq}
use Rattle.std.specs.List.{range_with_len, IsDistinct}
use Rattle.std.proofs.lemmas.List.Elements.{Contains-get_or}
use Rattle.std.proofs.lemmas.List.Kept.{IsStrictlyIncreasing-filter}
use Rattle.dwarf_tree.specs.Trees.{PlainTree}
use Rattle.type_reach.specs.Reached.{TypeReferences, IsReached, IsWalk}
use Rattle.type_reach.specs.ReachedList.{is_reached, reached_of}
use Rattle.type_reach.specs.ByValue.{IsClosed}
use Rattle.type_reach.proofs.MetLemmas.{range-rises}
use Rattle.type_reach.proofs.OrderLemmas.{filter-there, filter-from}
use Rattle.type_reach.proofs.ReachedLemmas.{is_reached-is, in_range}
use Rattle.type_reach.proofs.SearchLemmas.{once}
use Rattle.type_reach.proofs.WalkLemmas.{lead_inside}

module _ (t : PlainTree) (roots : List ℕ) (inside : (e : ℕ) → Contains roots e → e < length t.entries) where
  led-inside : (n e : ℕ) → TypeReferences t roots n e → e < length t.entries
  led-inside zero e leads = inside e leads
  led-inside (suc n) e leads = lead_inside t leads.0 e leads.2

  listed : (e : ℕ) → IsReached t roots e → Contains (reached_of t roots) e
  unfolding reached_of
  listed e reached = filter-there (is_reached t roots) (range_with_len 0 (length t.entries)) e (in_range 0 (length t.entries) e (omega arith) (omega (arith, led-inside reached.0 e reached.1))) ((is_reached-is t roots inside e).1 reached)

  reached-from : (e : ℕ) → Contains (reached_of t roots) e → IsReached t roots e
  unfolding reached_of
  reached-from e h = (is_reached-is t roots inside e).0 (filter-from (is_reached t roots) (range_with_len 0 (length t.entries)) e h)

  listed-inside : (e : ℕ) → Contains (reached_of t roots) e → e < length t.entries
  listed-inside e h = let r = reached-from e h in led-inside r.0 e r.1

  listed-once : IsDistinct nat_eq (reached_of t roots)
  unfolding reached_of
  listed-once = once (reached_of t roots) (IsStrictlyIncreasing-filter (is_reached t roots) (range_with_len 0 (length t.entries)) (range-rises 0 (length t.entries)))

  -- THE LAW of the list
  pub listed-walk : IsWalk t roots (reached_of t roots)
  listed-walk = record {
    exact = λ e. (reached-from e, listed e);
    once = listed-once;
    inside = λ k d lt. listed-inside (get_or (reached_of t roots) k d) (Contains-get_or (reached_of t roots) k d lt);
  }

  pub listed-closed : IsClosed t (reached_of t roots)
  listed-closed = record {
    leads_on = λ e f there has. let r = reached-from e there in listed f (suc r.0, (e, r.1, has));
    inside = listed-inside;
  }
