-- The fates of exports, one after another, and counts that are there where an input has no fault.
use Rattle.std.proofs.Common.{◌≡◌, ◌+◌, ◌∙◌, ℕ, Bool, List, [], ◌∷◌, ◌++◌, map, Option, Some, None, ap, sym, arith}
use Rattle.std.specs.Prelude.{if◌then◌else◌, is_none}
use Rattle.std.specs.List.{range_with_len}
use Rattle.std.proofs.lemmas.List.FromFn.{map-range_with_len_more}
use Rattle.abi_base.specs.declared.fault.Fault.{Fault}
use Rattle.side_notes.specs.declared.counts.Counts.{Counts}
use Rattle.side_notes.specs.declared.counts.Fate.{Fate}
use Rattle.side_notes.specs.Counts.{fate_at}

-- the fate of one export more
pub fates_more : (dropped : List Bool) (bound : List (Option ℕ)) (k : ℕ) (list more : List Fate) (fate : Fate) → list ≡ map (fate_at dropped bound) (range_with_len 0 k)
    → fate ≡ fate_at dropped bound k → more ≡ list ++ fate ∷ [] → more ≡ map (fate_at dropped bound) (range_with_len 0 (k + 1))
fates_more dropped bound k list more fate are is grown =
    grown ∙ ap (λ (fs : List Fate). fs ++ fate ∷ []) are ∙ ap (λ (f : Fate). map (fate_at dropped bound) (range_with_len 0 k) ++ f ∷ []) is
    ∙ sym (map-range_with_len_more (fate_at dropped bound) 0 k k (omega arith))

pub when_readable : (fault : Option Fault) (counts given : Option Counts) → fault ≡ None → counts ≡ given → counts ≡ (if is_none fault then given else None)
when_readable fault counts given none is = rw none is

pub when_faulty : (fault : Option Fault) (found : Fault) (counts given : Option Counts) → fault ≡ Some found → counts ≡ None → counts ≡ (if is_none fault then given else None)
when_faulty fault found counts given some is = rw some is
