-- The notes on old exports, one position after another.
use Rattle.std.proofs.Common.{◌≡◌, ◌≤◌, ◌+◌, ℕ, Bool, true, false, not, Some, None, slice_get, slice_index_or, List, [], ◌++◌, length, refl, sym, ◌∙◌, ap, arith}
use Rattle.std.specs.Prelude.{flat_map}
use Rattle.std.specs.List.{range_with_len}
use Rattle.std.proofs.lemmas.List.{append-nil, flat_map_more, length-map}
use Rattle.abi_base.proofs.lemmas.Ranges.{below_more}
use Rattle.abi_types.specs.declared.export.Export.{Export}
use Rattle.abi_types.specs.Exports.{PlainExport}
use Rattle.abi_types.specs.Plain.{plain_export, plain_exports}
use Rattle.type_notes.specs.declared.note.Note.{Note}
use Rattle.side_notes.specs.Bound.{bound_in}
use Rattle.side_notes.specs.OldExports.{notes_at, notes_to, notes_upto, old_export_notes}

pub notes_none : (dropped : List Bool) (old new : List PlainExport) (start : List Note) → start ≡ start ++ notes_upto dropped old new 0
unfolding notes_upto
notes_none dropped old new start = sym (append-nil start)

pub notes_more : (dropped : List Bool) (old new : List PlainExport) (start notes more : List Note) (k : ℕ) → notes ≡ start ++ notes_upto dropped old new k → more ≡ notes ++ notes_at dropped old new k → more ≡ start ++ notes_upto dropped old new (k + 1)
unfolding notes_upto
notes_more dropped old new start notes more k are grown =
    grown ∙ ap (λ (ns : List Note). ns ++ notes_at dropped old new k) are ∙ flat_map_more (notes_at dropped old new) start (range_with_len 0 k) k ∙ ap (λ (ks : List ℕ). start ++ flat_map (notes_at dropped old new) ks) (sym (below_more k))

pub notes_all : (dropped : List Bool) (old new : List PlainExport) (start notes : List Note) (exports : List Export) (k : ℕ) → notes ≡ start ++ notes_upto dropped old new k → plain_exports exports ≡ old → k ≤ length exports → length exports ≤ k → notes ≡ start ++ old_export_notes dropped old new
notes_all dropped old new start notes exports k are same low high =
    let many = length-map exports plain_export in
    let all : length (plain_exports exports) ≡ length old = ap length same in
    let count : k ≡ length old = omega (arith, low, high, many, all) in
    are ∙ ap (λ n. start ++ notes_upto dropped old new n) count

-- ---- the notes of one position

pub dropped_at : (dropped : List Bool) (old new : List PlainExport) (k : ℕ) (compared : Bool) → compared ≡ not (slice_index_or dropped k false) → compared ≡ false → notes_at dropped old new k ≡ []
unfolding notes_at
dropped_at dropped old new k compared is fails = go (slice_index_or dropped k false) refl (sym is ∙ fails) where
  go : (b : Bool) → slice_index_or dropped k false ≡ b → not b ≡ false → notes_at dropped old new k ≡ []
  go true here e = rw here refl
  go false here e = cc

pub none_at : (dropped : List Bool) (old new : List PlainExport) (k : ℕ) → slice_get old k ≡ None → notes_at dropped old new k ≡ []
unfolding notes_at
none_at dropped old new k none = go (slice_index_or dropped k false) refl where
  go : (b : Bool) → slice_index_or dropped k false ≡ b → notes_at dropped old new k ≡ []
  go true here = rw here refl
  go false here = rw (here, none) refl

pub compared_at : (dropped : List Bool) (old new : List PlainExport) (k : ℕ) (e : PlainExport) (compared : Bool) → compared ≡ not (slice_index_or dropped k false) → compared ≡ true → slice_get old k ≡ Some e
    → notes_to old new e (bound_in new e) ≡ notes_at dropped old new k
unfolding notes_at
compared_at dropped old new k e compared is holds at = go (slice_index_or dropped k false) refl (sym is ∙ holds) where
  go : (b : Bool) → slice_index_or dropped k false ≡ b → not b ≡ true → notes_to old new e (bound_in new e) ≡ notes_at dropped old new k
  go true here x = cc
  go false here x = rw (here, at) refl
