-- Exports as the code reads them, and what they bind to.
use Rattle.std.proofs.Common.{◌≡◌, ◌<◌, ◌≤◌, ◌+◌, ℕ, zero, suc, true, false, List, [], ◌∷◌, ◌++◌, length, get_or, Option, Some, None, refl, sym, ◌∙◌, ap, slice_get, slice_index_or, arith}
use Rattle.std.specs.Prelude.{option_and_then}
use Rattle.std.specs.List.{filter_map, range_with_len}
use Rattle.std.proofs.lemmas.List.{append-nil, get_or-map}
use Rattle.std.proofs.lemmas.List.Elements.{filter_map-append}
use Rattle.std.proofs.lemmas.Option.{slice_get_within, slice_get-get_or, get_or_from_slice_get}
use Rattle.abi_base.proofs.lemmas.Ranges.{below_more}
use Rattle.abi_types.specs.Exports.{PlainExport}
use Rattle.abi_types.specs.Libraries.{AreNumbered}
use Rattle.abi_types.specs.Limits.{symbol_limit}
use Rattle.elf_bind.specs.Binding.{bind_to, bind_each}
use Rattle.cert_check.specs.Compatible.{Sides, bound, root_from, root_to, typed_root}

-- what the old export at a position binds to
bound_read : (s : Sides) (places : List (Option ℕ)) (k : ℕ) (e : PlainExport) → places ≡ bind_each s.old.exports s.new.exports → slice_get s.old.exports k ≡ Some e → bound s e ≡ option_and_then (slice_get s.new.exports) (slice_index_or places k None)
bound_read s places k e same at =
    let inside : k < length s.old.exports = slice_get_within s.old.exports k e at in
    let there : get_or places k None ≡ bind_to s.new.exports e =
    ap (λ (ps : List (Option ℕ)). get_or ps k None) same ∙ get_or-map (bind_to s.new.exports) s.old.exports k e None inside ∙ ap (bind_to s.new.exports) (get_or_from_slice_get s.old.exports k e e at) in
    ap (option_and_then (slice_get s.new.exports)) (sym there)

-- a position is no greater than the number of the symbol there
position_le : (exports : List PlainExport) (k : ℕ) (e : PlainExport) → AreNumbered exports → slice_get exports k ≡ Some e → k ≤ e.symbol
position_le exports zero e numbered at = omega arith
position_le exports (suc k) e numbered at =
    let inside : suc k < length exports = slice_get_within exports (suc k) e at in
    let before = slice_get-get_or exports k e (omega arith) in
    let le = position_le exports k (get_or exports k e) numbered before in
    let lt = numbered.ascend k (suc k) (get_or exports k e) e (omega arith) before at in
    omega (arith, le, lt)

pub position_below : (exports : List PlainExport) (k : ℕ) (e : PlainExport) → AreNumbered exports → slice_get exports k ≡ Some e → k < symbol_limit
position_below exports k e numbered at = let le = position_le exports k e numbered at in let below = numbered.below k e at in omega (arith, le, below)

-- ---- the typed pair of a position

from_dropped : (s : Sides) (k : ℕ) (o : Option PlainExport) → slice_index_or s.marks.exports k false ≡ true → root_from s k o ≡ None
from_dropped s k None dropped = refl
from_dropped s k (Some e) dropped = rw dropped refl

pub root_dropped : (s : Sides) (k : ℕ) → slice_index_or s.marks.exports k false ≡ true → typed_root s k ≡ None
unfolding typed_root
root_dropped s k dropped = from_dropped s k (slice_get s.old.exports k) dropped

pub root_read : (s : Sides) (places : List (Option ℕ)) (k : ℕ) (e : PlainExport) (o : Option PlainExport) → places ≡ bind_each s.old.exports s.new.exports → slice_get s.old.exports k ≡ Some e
    → slice_index_or s.marks.exports k false ≡ false → option_and_then (slice_get s.new.exports) (slice_index_or places k None) ≡ o → typed_root s k ≡ root_to s k e o
unfolding typed_root
root_read s places k e o same at kept is =
    ap (root_from s k) at ∙ (rw kept (ap (root_to s k e) (bound_read s places k e same at ∙ is)))

-- ---- one more position

given_more : {X : Type 0} (f : ℕ → Option X) (n : ℕ) → filter_map f (range_with_len 0 (n + 1)) ≡ filter_map f (range_with_len 0 n) ++ filter_map f (n ∷ [])
given_more f n = ap (filter_map f) (below_more n) ∙ filter_map-append f (range_with_len 0 n) (n ∷ [])

pub given_some : {X : Type 0} (f : ℕ → Option X) (n : ℕ) (x : X) → f n ≡ Some x → filter_map f (range_with_len 0 (n + 1)) ≡ filter_map f (range_with_len 0 n) ++ x ∷ []
given_some f n x is = given_more f n ∙ (rw is refl)

pub given_none : {X : Type 0} (f : ℕ → Option X) (n : ℕ) → f n ≡ None → filter_map f (range_with_len 0 (n + 1)) ≡ filter_map f (range_with_len 0 n)
given_none f n is = given_more f n ∙ (rw is (append-nil (filter_map f (range_with_len 0 n))))
