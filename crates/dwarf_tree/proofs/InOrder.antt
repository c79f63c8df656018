-- Entries in order.
use Rattle.std.proofs.Common.{ℕ, zero, suc, ◌+◌, ◌<◌, ◌≤◌, List, [], ◌∷◌, ◌++◌, length, arith}
use Rattle.std.specs.Prelude.{slice_index_or}
use Rattle.dwarf_tree.specs.Trees.{TreeEntry, no_entry}

-- An entry is at a place or after it and before an end, no deeper than a bound, in a unit whose number is in a range.
pub record IsNext (from end deepest low high : ℕ) (e : TreeEntry) : Type 0 where
  pub on : from ≤ e.offset
  pub before : e.offset < end
  pub deep : e.depth ≤ deepest
  pub unit : low ≤ e.unit
  pub known : e.unit < high

-- Entries with these bounds, each after the one before it, at most one deeper than it, and in the same unit or a later one.
abbrev pub InOrder : ℕ → ℕ → ℕ → ℕ → ℕ → List TreeEntry → Type 0
InOrder from end deepest low high [] = Unit {0}
InOrder from end deepest low high (e ∷ es) = IsNext from end deepest low high e × InOrder (suc e.offset) end (suc e.depth) e.unit high es

-- with wider bounds
pub in_wider : (from end deepest low high from' end' deepest' low' high' : ℕ) (es : List TreeEntry) → from' ≤ from → end ≤ end' → deepest ≤ deepest' → low' ≤ low → high ≤ high'
    → InOrder from end deepest low high es → InOrder from' end' deepest' low' high' es
in_wider from end deepest low high from' end' deepest' low' high' [] a b c d e is = tt
in_wider from end deepest low high from' end' deepest' low' high' (x ∷ xs) a b c d e is =
    let next : IsNext from' end' deepest' low' high' x = record {
      on = omega (arith, is.0.on);
      before = omega (arith, is.0.before);
      deep = omega (arith, is.0.deep);
      unit = omega (arith, is.0.unit);
      known = omega (arith, is.0.known);
    } in
    (next, in_wider (suc x.offset) end (suc x.depth) x.unit high (suc x.offset) end' (suc x.depth) x.unit high' xs (omega arith) b (omega arith) (omega arith) e is.1)

-- the entries of the units up to a place, and then those of the units after it
pub in_order-append : (from mid end deepest low middle high : ℕ) (es others : List TreeEntry) → from ≤ mid → mid ≤ end → low ≤ middle → middle ≤ high
    → InOrder from mid deepest low middle es → InOrder mid end 0 middle high others → InOrder from end deepest low high (es ++ others)
in_order-append from mid end deepest low middle high [] others a b c d is after =
    in_wider mid end 0 middle high from end deepest low high others a (omega arith) (omega arith) c (omega arith) after
in_order-append from mid end deepest low middle high (x ∷ xs) others a b c d is after =
    let next : IsNext from end deepest low high x = record {
      on = is.0.on;
      before = omega (arith, is.0.before);
      deep = is.0.deep;
      unit = is.0.unit;
      known = omega (arith, is.0.known);
    } in
    (next, in_order-append (suc x.offset) mid end (suc x.depth) x.unit middle high xs others (omega (arith, is.0.before)) b (omega (arith, is.0.known)) d is.1 after)

-- ---- what follows for entries by their positions

abbrev at_position : List TreeEntry → ℕ → TreeEntry
at_position es i = slice_index_or es i no_entry

-- each entry is inside the bounds
pub record IsInside (from end low high : ℕ) (e : TreeEntry) : Type 0 where
  pub on : from ≤ e.offset
  pub before : e.offset < end
  pub unit : low ≤ e.unit
  pub known : e.unit < high

pub each_inside : (from end deepest low high : ℕ) (es : List TreeEntry) (i : ℕ) → InOrder from end deepest low high es → i < length es → IsInside from end low high (at_position es i)
each_inside from end deepest low high [] i is inside = absurd (omega arith)
each_inside from end deepest low high (x ∷ xs) zero is inside = record { on = is.0.on; before = is.0.before; unit = is.0.unit; known = is.0.known }
each_inside from end deepest low high (x ∷ xs) (suc i) is inside =
    let later = each_inside (suc x.offset) end (suc x.depth) x.unit high xs i is.1 (omega arith) in
    record {
      on = omega (arith, is.0.on, later.on);
      before = later.before;
      unit = omega (arith, is.0.unit, later.unit);
      known = later.known;
    }

pub offsets_ascend : (from end deepest low high : ℕ) (es : List TreeEntry) (i j : ℕ) → InOrder from end deepest low high es → i < j → j < length es
    → (at_position es i).offset < (at_position es j).offset
offsets_ascend from end deepest low high [] i j is before inside = absurd (omega arith)
offsets_ascend from end deepest low high (x ∷ xs) i zero is before inside = absurd (omega arith)
offsets_ascend from end deepest low high (x ∷ xs) zero (suc j) is before inside =
    let later = each_inside (suc x.offset) end (suc x.depth) x.unit high xs j is.1 (omega arith) in
    omega (arith, later.on)
offsets_ascend from end deepest low high (x ∷ xs) (suc i) (suc j) is before inside =
    offsets_ascend (suc x.offset) end (suc x.depth) x.unit high xs i j is.1 (omega arith) (omega arith)

pub units_rise : (from end deepest low high : ℕ) (es : List TreeEntry) (i j : ℕ) → InOrder from end deepest low high es → i < j → j < length es
    → (at_position es i).unit ≤ (at_position es j).unit
units_rise from end deepest low high [] i j is before inside = absurd (omega arith)
units_rise from end deepest low high (x ∷ xs) i zero is before inside = absurd (omega arith)
units_rise from end deepest low high (x ∷ xs) zero (suc j) is before inside =
    (each_inside (suc x.offset) end (suc x.depth) x.unit high xs j is.1 (omega arith)).unit
units_rise from end deepest low high (x ∷ xs) (suc i) (suc j) is before inside =
    units_rise (suc x.offset) end (suc x.depth) x.unit high xs i j is.1 (omega arith) (omega arith)

pub first_depth : (from end deepest low high : ℕ) (es : List TreeEntry) → InOrder from end deepest low high es → (at_position es 0).depth ≤ deepest
first_depth from end deepest low high [] is = omega arith
first_depth from end deepest low high (x ∷ xs) is = is.0.deep

pub depths_grow : (from end deepest low high : ℕ) (es : List TreeEntry) (i : ℕ) → InOrder from end deepest low high es
    → (at_position es (suc i)).depth ≤ suc (at_position es i).depth
depths_grow from end deepest low high [] i is = omega arith
depths_grow from end deepest low high (x ∷ xs) zero is = first_depth (suc x.offset) end (suc x.depth) x.unit high xs is.1
depths_grow from end deepest low high (x ∷ xs) (suc i) is = depths_grow (suc x.offset) end (suc x.depth) x.unit high xs i is.1

-- there is at most one entry for each place
pub few_entries : (from end deepest low high : ℕ) (es : List TreeEntry) → InOrder from end deepest low high es → from ≤ end → from + length es ≤ end
few_entries from end deepest low high [] is le = omega arith
few_entries from end deepest low high (x ∷ xs) is le =
    let others = few_entries (suc x.offset) end (suc x.depth) x.unit high xs is.1 (omega (arith, is.0.before)) in
    omega (arith, others, is.0.on)
