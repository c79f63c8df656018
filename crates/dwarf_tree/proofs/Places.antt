-- The place of the first item that passes, in a list of views.
use Rattle.std.proofs.Common.{◌≡◌, ◌∙◌, ℕ, ◌+◌, Bool, cond, nat_lt, List, [], ◌∷◌, length, map, Some, None, refl, ap}
use Rattle.std.specs.Prelude.{not, position, ◌==◌}
use Rattle.std.specs.List.{prefix_len, position_or_len}
use Rattle.std.proofs.lemmas.List.{length-map}
use Rattle.dwarf_tree.specs.declared.entry_records.EntryRecord.{EntryRecord}
use Rattle.dwarf_tree.specs.declared.entry_records.AbbreviationLayout.{AbbreviationLayout}
use Rattle.dwarf_tree.specs.declared.head.Head.{Head}
use Rattle.dwarf_tree.specs.Keeping.{Decoder, plain_stored, plain_entries}
use Rattle.dwarf_tree.specs.Trees.{entry_of}

front-map : {X Y : Type 0} (p : Y → Bool) (f : X → Y) (xs : List X) → prefix_len p (map f xs) ≡ prefix_len (λ x. p (f x)) xs
front-map p f [] = refl
front-map p f (x ∷ xs) = ap (λ (n : ℕ). cond (p (f x)) (1 + n) 0) (front-map p f xs)

pub position-map : {X Y : Type 0} (p : Y → Bool) (f : X → Y) (xs : List X) → position p (map f xs) ≡ position (λ x. p (f x)) xs
position-map p f xs =
    let e : position_or_len p (map f xs) ≡ position_or_len (λ x. p (f x)) xs = front-map (λ y. not (p y)) f xs in
    ap (λ (n : ℕ). cond (nat_lt n (length (map f xs))) (Some n) None) e
    ∙ ap (λ (n : ℕ). cond (nat_lt (position_or_len (λ x. p (f x)) xs) n) (Some (position_or_len (λ x. p (f x)) xs)) None) (length-map xs f)

-- an entry is found at its place
pub found_kept : (units : List Head) (shapes : List AbbreviationLayout) (attributes : Decoder) (entries : List EntryRecord) (offset : ℕ)
    → entry_of (record { units = units; entries = plain_entries shapes attributes entries }) offset ≡ position (λ stored. stored.offset == offset) entries
unfolding entry_of
found_kept units shapes attributes entries offset = position-map (λ e. e.offset == offset) (plain_stored shapes attributes) entries
