use Rattle.std.proofs.Common.{◌≡◌, ℕ, List, length, rules, subst}
use Rattle.std.specs.Prelude.{IsPermutation}
use Rattle.std.specs.List.{range_with_len}
use Rattle.std.specs.Ordering.{is_lt}
use Rattle.std.proofs.lemmas.Fn.{always_returns_same}
use Rattle.std.proofs.lemmas.List.{length-map}
use Rattle.abi_types.specs.Plain.{plain_export, plain_exports}
use Rattle.abi_types.specs.Versions.{versioned_place_cmp}
use Rattle.abi_types.proofs.KeyLemmas.{key_weak}
use Rattle.abi_types.proofs.VersionLemmas.{key_at, pair_cmp, pair_total}
use Rattle.abi_types.proofs.versions.version_order_of.Goals as goal

pub returns-clause-order : goal.returns-clause-order
returns-clause-order c =
    let exports = plain_exports c.args.exports.now in
    let all : c.in_ok-places.places.items ≡ range_with_len 0 (length exports) = rw (length-map c.args.exports.now plain_export) (c.in_ok-places.ensures.numbers) in
    let P : List ℕ → Type 0 = λ places. IsPermutation places c.sort_unstable_by.new.self.items in
    record {
      all = subst P all c.sort_unstable_by.ensures.permutation;
      rises = c.sort_unstable_by.ensures.sorted (λ (x y : ℕ). is_lt (versioned_place_cmp exports x y)) (key_weak pair_cmp pair_total (key_at exports)) (always_returns_same _ _ _ (λ a r f q. search rules));
    }
