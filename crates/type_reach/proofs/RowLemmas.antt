-- Rows that stand one after the other.
use Rattle.std.proofs.Common.{◌≡◌, ◌<◌, ◌≤◌, ◌+◌, ◌-◌, ℕ, zero, suc, List, [], ◌∷◌, ◌++◌, length, take, drop, get_or, slice_get, Some, refl, ◌∙◌, ap, arith}
use Rattle.std.specs.Prelude.{slice_range}
use Rattle.std.proofs.lemmas.List.{take-append-le, drop-append-le, take_all, length-drop}
use Rattle.std.proofs.Math.Seq.{drop-append_seam}
use Rattle.type_reach.specs.Rows.{rows_from, EndInOrder}

-- the first row begins before the last one ends
pub first-le : (from : ℕ) (ends : List ℕ) (last : ℕ) → EndInOrder from ends last → from ≤ last
first-le from [] last order = omega (arith, order)
first-le from (end ∷ ends) last order = let rest = first-le end ends last order.1 in omega (arith, order.0, rest)

pub rows-count : {X : Type 0} (items : List X) (from : ℕ) (ends : List ℕ) → length (rows_from items from ends) ≡ length ends
unfolding rows_from
rows-count items from [] = refl
rows-count items from (end ∷ ends) = ap suc (rows-count items end ends)

-- ---- the row of a number

pub row-at : {X : Type 0} (items : List X) (from : ℕ) (ends : List ℕ) (k : ℕ) → k < length ends → slice_get (rows_from items from ends) k ≡ Some (slice_range items (get_or (from ∷ ends) k 0) (get_or ends k 0))
unfolding rows_from
row-at items from [] k lt = absurd (omega arith)
row-at items from (end ∷ ends) zero lt = refl
row-at items from (end ∷ ends) (suc k) lt = row-at items end ends k (omega arith)

pub begins-before : (from : ℕ) (ends : List ℕ) (last k : ℕ) → EndInOrder from ends last → k < length ends → get_or (from ∷ ends) k 0 ≤ get_or ends k 0
begins-before from [] last k order lt = absurd (omega arith)
begins-before from (end ∷ ends) last zero order lt = order.0
begins-before from (end ∷ ends) last (suc k) order lt = begins-before end ends last k order.1 (omega arith)

pub ends-inside : (from : ℕ) (ends : List ℕ) (last k : ℕ) → EndInOrder from ends last → k < length ends → get_or ends k 0 ≤ last
ends-inside from [] last k order lt = absurd (omega arith)
ends-inside from (end ∷ ends) last zero order lt = first-le end ends last order.1
ends-inside from (end ∷ ends) last (suc k) order lt = ends-inside end ends last k order.1 (omega arith)

-- ---- one more row

pub order-push : (from : ℕ) (ends : List ℕ) (last new : ℕ) → EndInOrder from ends last → last ≤ new → EndInOrder from (ends ++ new ∷ []) new
order-push from [] last new order le = (omega (arith, order, le), refl)
order-push from (end ∷ ends) last new order le = (order.0, order-push end ends last new order.1 le)

-- what lies before the end of a list is not changed by what is put behind it
range-before : {X : Type 0} (items row : List X) (from end : ℕ) → from ≤ end → end ≤ length items → slice_range (items ++ row) from end ≡ slice_range items from end
range-before items row from end le inside =
    ap (take (end - from)) (drop-append-le from items row (omega (arith, le, inside)))
    ∙ take-append-le (end - from) (drop from items) row (omega (arith, length-drop from items, le, inside))

range-last : {X : Type 0} (items row : List X) (from new : ℕ) → from ≡ length items → new ≡ length items + length row → slice_range (items ++ row) from new ≡ row
range-last items row from new at long =
    ap (λ n. take (new - n) (drop n (items ++ row))) at
    ∙ ap (take (new - length items)) (drop-append_seam items row)
    ∙ take_all (new - length items) row (omega (arith, long))

pub rows-push : {X : Type 0} (items row : List X) (from : ℕ) (ends : List ℕ) (new : ℕ) → EndInOrder from ends (length items) → new ≡ length items + length row → rows_from (items ++ row) from (ends ++ new ∷ []) ≡ rows_from items from ends ++ row ∷ []
unfolding rows_from
rows-push items row from [] new order long = ap (λ r. r ∷ []) (range-last items row from new order long)
rows-push items row from (end ∷ ends) new order long =
    ap (λ r. r ∷ rows_from (items ++ row) end (ends ++ new ∷ [])) (range-before items row from end order.0 (first-le end ends (length items) order.1))
    ∙ ap (λ rs. slice_range items from end ∷ rs) (rows-push items row end ends new order.1 long)
