use Rattle.std.proofs.Common.{◌≡◌, ℕ, List, length, rules, subst}
use Rattle.std.specs.Prelude.{IsPermutation}
use Rattle.std.specs.List.{range_with_len}
use Rattle.std.specs.Ordering.{is_lt}
use Rattle.std.proofs.lemmas.Fn.{always_returns_same}
use Rattle.std.proofs.lemmas.List.{length-map}
use Rattle.suppressions.specs.Handles.{place_cmp}
use Rattle.suppressions.specs.PlainHandles.{plain_handle, plain_handles}
use Rattle.suppressions.proofs.HandleLemmas.{place_weak}
use Rattle.suppressions.proofs.handle_order.places_of.Goals as goal

pub returns-clause-is : goal.returns-clause-is
returns-clause-is c =
    let handles = plain_handles c.args.handles.now in
    let all : c.in_ok-places.places.items ≡ range_with_len 0 (length handles) = rw (length-map c.args.handles.now plain_handle) (c.in_ok-places.ensures.is) in
    let P : List ℕ → Type 0 = λ places. IsPermutation places c.sort_unstable_by.new.self.items in
    record {
      all = subst P all c.sort_unstable_by.ensures.permutation;
      rises = c.sort_unstable_by.ensures.sorted (λ (x y : ℕ). is_lt (place_cmp handles x y)) (place_weak handles) (always_returns_same _ _ _ (λ a r f q. search rules));
    }
