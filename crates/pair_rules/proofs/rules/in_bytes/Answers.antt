-- Eight bytes and more hold every value.
use Rattle.std.proofs.Common.{ℕ, ◌*◌, ◌^◌, ◌<◌, ◌≤◌, ◌≡◌, sym, arith}
use Rattle.std.proofs.Math.Nat.{pow-le-pow_right, mod-eq_of_lt}
use Rattle.pair_rules.specs.TypeRules.{in_bytes}
use Rattle.pair_rules.proofs.rules.in_bytes.Goals as goal

whole : (size value : ℕ) → value < 2 ^ 64 → 8 ≤ size → value ≡ in_bytes size value
unfolding in_bytes
whole size value small large =
    let room : 2 ^ 64 ≤ 2 ^ (8 * size) = pow-le-pow_right {n = 2} (omega arith) {i = 64} {j = 8 * size} (omega arith) in
    sym (mod-eq_of_lt (omega arith))

pub returns-else-size-lt-VALUE_BYTES : goal.returns-else-size-lt-VALUE_BYTES
returns-else-size-lt-VALUE_BYTES c = whole c.args.size c.args.value (omega arith) (omega arith)
