-- Marks that spread back along arrows.
use Rattle.std.proofs.Common.{◌≡◌, ◌≢◌, ◌<◌, ◌≤◌, ◌+◌, ◌⊎◌, ⊎_elim, inl, inr, ℕ, suc, Bool, true, false, not, ◌||◌, List, [], ◌∷◌, ◌++◌, Some, length, get_or, set, count_by, cond, refl, sym, ap, ◌∙◌, subst, arith}
use Rattle.std.specs.Prelude.{◌↔◌, Contains, slice_get, slice_index_or, slice_set}
use Rattle.std.proofs.lemmas.List.{get_or-set_same, get_or-set_other, length-set}
use Rattle.std.proofs.lemmas.List.Sums.{sum_by-set}
use Rattle.std.proofs.lemmas.Option.{slice_get_within}
use Rattle.std.proofs.lemmas.Bool.{cases_eq, false≢true}
use Rattle.std.proofs.Math.Bool.{or-false, or-true}
use Rattle.std.proofs.Math.Nat.{suc-mul}
use Rattle.abi_base.proofs.lemmas.Lists.{contains_at, at_contains}
use Rattle.leading_exports.specs.Arrows.{IsMarked, LeadsThrough, LeadsToMark, IsSpread, KeepsMarks, IsClosedAt, AreClosed, TakesPasses}

-- what holds once the arrows from a place on were followed
pub record Passing (arrows : List (ℕ × ℕ)) (before marks : List Bool) (left : ℕ) (is_new : Bool) : Type 0 where
  pub within : left ≤ length arrows
  pub same : length marks ≡ length before
  pub spread : IsSpread arrows before marks
  pub kept : KeepsMarks before marks
  pub closed : is_new ≡ false → (k : ℕ) (arrow : ℕ × ℕ) → left ≤ k → slice_get arrows k ≡ Some arrow → IsClosedAt marks arrow
  pub same_marks : is_new ≡ false → marks ≡ before
  pub fewer : is_new ≡ true → count_by not marks < count_by not before

-- a mark leads to itself
pub itself : (arrows : List (ℕ × ℕ)) (marks : List Bool) (m : ℕ) → IsMarked marks m → LeadsToMark arrows marks m
itself arrows marks m marked = record { through = []; last = m; leads = refl; marked = marked }

-- one more arrow in front
pub in_front : (arrows : List (ℕ × ℕ)) (marks : List Bool) (m n : ℕ) → Contains arrows (m, n) → LeadsToMark arrows marks n → LeadsToMark arrows marks m
in_front arrows marks m n arrow on = record { through = n ∷ on.through; last = on.last; leads = (arrow, on.leads); marked = on.marked }

-- a mark after one more is set
pub marked_after : (marks : List Bool) (a m : ℕ) → IsMarked (slice_set marks a true) m → (m ≡ a) ⊎ IsMarked marks m
marked_after marks a m marked = ⊎_elim (λ e. inl e) (λ ne. inr (sym (get_or-set_other marks a m true false ne) ∙ marked)) (cases_eq m a)

pub still_marked : (marks : List Bool) (a m : ℕ) → a < length marks → IsMarked marks m → IsMarked (slice_set marks a true) m
still_marked marks a m within marked =
    ⊎_elim (λ (e : m ≡ a). let P : ℕ → Type 0 = λ k. IsMarked (slice_set marks a true) k in subst P (sym e) (get_or-set_same marks a true false within))
    (λ (ne : m ≢ a). get_or-set_other marks a m true false ne ∙ marked) (cases_eq m a)

pub count-set : (marks : List Bool) (a : ℕ) → a < length marks → slice_index_or marks a false ≡ false → count_by not (slice_set marks a true) + 1 ≡ count_by not marks
count-set marks a within unmarked =
    let e = sum_by-set (λ (b : Bool). cond (not b) 1 0) marks a true false within in
    let one : ℕ = 1 in
    let f : cond (not (get_or marks a false)) 1 0 ≡ one = ap (λ (b : Bool). cond (not b) 1 0) unmarked in
    omega (arith, e, f)

pub Passing-none : (arrows : List (ℕ × ℕ)) (marks : List Bool) (left : ℕ) → left ≡ length arrows → Passing arrows marks marks left false
Passing-none arrows marks left e = record {
  within = omega arith;
  same = refl;
  spread = λ m marked. itself arrows marks m marked;
  kept = λ m marked. marked;
  closed = λ same k arrow le at. absurd (omega (arith, slice_get_within arrows k arrow at));
  same_marks = λ same. refl;
  fewer = λ new. absurd (false≢true new);
}

-- an arrow that changes nothing
pub Passing-same : (arrows : List (ℕ × ℕ)) (before marks : List Bool) (left : ℕ) (is_new : Bool) (arrow : ℕ × ℕ)
    → slice_get arrows left ≡ Some arrow → IsClosedAt marks arrow → Passing arrows before marks (left + 1) is_new → Passing arrows before marks left is_new
Passing-same arrows before marks left is_new arrow at closed so = record {
  within = omega (arith, so.within);
  same = so.same;
  spread = so.spread;
  kept = so.kept;
  closed = λ same k other le is. ⊎_elim
      (λ (e : k ≡ left). let P : ℕ × ℕ → Type 0 = λ x. IsClosedAt marks x in let Q : ℕ → Type 0 = λ j. slice_get arrows j ≡ Some other in let here : slice_get arrows left ≡ Some other = subst Q e is in let eq : arrow ≡ other = cc in subst P eq closed)
      (λ (ne : k ≢ left). so.closed same k other (omega arith) is)
      (cases_eq k left);
  same_marks = so.same_marks;
  fewer = so.fewer;
}

fewer_more : (is_new : Bool) (before marks : List Bool) (a : ℕ) → a < length marks → slice_index_or marks a false ≡ false
    → (is_new ≡ false → marks ≡ before) → (is_new ≡ true → count_by not marks < count_by not before) → count_by not (slice_set marks a true) < count_by not before
fewer_more true before marks a within unmarked same fewer = let e = count-set marks a within unmarked in let lt = fewer refl in omega (arith, e, lt)
fewer_more false before marks a within unmarked same fewer = let e = count-set marks a within unmarked in let eq : count_by not marks ≡ count_by not before = ap (count_by not) (same refl) in omega (arith, e, eq)

-- an arrow that marks where it comes from
pub Passing-more : (arrows : List (ℕ × ℕ)) (before marks : List Bool) (left : ℕ) (is_new : Bool) (arrow : ℕ × ℕ)
    → slice_get arrows left ≡ Some arrow → arrow.0 < length marks → IsMarked marks arrow.1 → slice_index_or marks arrow.0 false ≡ false
    → Passing arrows before marks (left + 1) is_new → Passing arrows before (slice_set marks arrow.0 true) left true
Passing-more arrows before marks left is_new arrow at within leads unmarked so = record {
  within = omega (arith, so.within);
  same = length-set marks arrow.0 true ∙ so.same;
  spread = λ m marked. ⊎_elim
      (λ (e : m ≡ arrow.0). let P : ℕ → Type 0 = λ k. LeadsToMark arrows before k in subst P (sym e) (in_front arrows before arrow.0 arrow.1 (contains_at arrows left arrow at) (so.spread arrow.1 leads)))
      (λ (old : IsMarked marks m). so.spread m old)
      (marked_after marks arrow.0 m marked);
  kept = λ m marked. still_marked marks arrow.0 m within (so.kept m marked);
  closed = λ same k other le is. absurd (false≢true (sym same));
  same_marks = λ same. absurd (false≢true (sym same));
  fewer = λ new. fewer_more is_new before marks arrow.0 within unmarked so.same_marks so.fewer;
}

-- what one arrow comes to
pub Passing-arrow : (arrows : List (ℕ × ℕ)) (before marks after : List Bool) (left : ℕ) (is_new found : Bool) (arrow : ℕ × ℕ)
    → slice_get arrows left ≡ Some arrow → arrow.0 < length marks
    → (found ≡ false → after ≡ marks) → (found ≡ false → IsClosedAt marks arrow) → (found ≡ true → IsMarked marks arrow.1)
    → (found ≡ true → slice_index_or marks arrow.0 false ≡ false) → (found ≡ true → after ≡ slice_set marks arrow.0 true)
    → Passing arrows before marks (left + 1) is_new → Passing arrows before after left (is_new || found)
Passing-arrow arrows before marks after left is_new false arrow at within kept closed leads unmarked set so =
    let P : List Bool → Type 0 = λ ms. Passing arrows before ms left is_new in
    let Q : Bool → Type 0 = λ b. Passing arrows before after left b in
    subst Q (sym (or-false is_new)) (subst P (sym (kept refl)) (Passing-same arrows before marks left is_new arrow at (closed refl) so))
Passing-arrow arrows before marks after left is_new true arrow at within kept closed leads unmarked set so =
    let P : List Bool → Type 0 = λ ms. Passing arrows before ms left true in
    let Q : Bool → Type 0 = λ b. Passing arrows before after left b in
    subst Q (sym (or-true is_new)) (subst P (sym (set refl)) (Passing-more arrows before marks left is_new arrow at within (leads refl) (unmarked refl) so))

-- what all arrows come to
pub AreClosed-all : (arrows : List (ℕ × ℕ)) (before marks : List Bool) (is_new : Bool) → Passing arrows before marks 0 is_new → is_new ≡ false → AreClosed arrows marks
AreClosed-all arrows before marks is_new so nothing arrow there = let k = at_contains arrows arrow there in so.closed nothing k.0 arrow (omega arith) k.1

-- ---- passes, one after the other

-- one lead after another
pub LeadsThrough-append : (arrows : List (ℕ × ℕ)) (one other : List ℕ) (m n z : ℕ) → LeadsThrough arrows one m n → LeadsThrough arrows other n z → LeadsThrough arrows (one ++ other) m z
LeadsThrough-append arrows [] other m n z e on = let P : ℕ → Type 0 = λ k. LeadsThrough arrows other k z in subst P (sym e) on
LeadsThrough-append arrows (k ∷ one) other m n z (arrow, later) on = (arrow, LeadsThrough-append arrows one other k n z later on)

pub IsSpread-twice : (arrows : List (ℕ × ℕ)) (before between after : List Bool) → IsSpread arrows before between → IsSpread arrows between after → IsSpread arrows before after
IsSpread-twice arrows before between after first then m marked =
    let a = then m marked in
    let b = first a.last a.marked in
    record { through = a.through ++ b.through; last = b.last; leads = LeadsThrough-append arrows a.through b.through m a.last b.last a.leads b.leads; marked = b.marked }

-- what holds after some passes
pub record Passed (arrows : List (ℕ × ℕ)) (before marks : List Bool) : Type 0 where
  pub same : length marks ≡ length before
  pub spread : IsSpread arrows before marks
  pub kept : KeepsMarks before marks

pub Passed-none : (arrows : List (ℕ × ℕ)) (marks : List Bool) → Passed arrows marks marks
Passed-none arrows marks = record { same = refl; spread = λ m marked. itself arrows marks m marked; kept = λ m marked. marked }

pub Passed-more : (arrows : List (ℕ × ℕ)) (before between after : List Bool) → Passed arrows before between → length after ≡ length between → IsSpread arrows between after → KeepsMarks between after → Passed arrows before after
Passed-more arrows before between after so same spread kept = record {
  same = same ∙ so.same;
  spread = IsSpread-twice arrows before between after so.spread spread;
  kept = λ m marked. kept m (so.kept m marked);
}

-- no pass takes nothing, and one more takes one byte's effort for each arrow
pub TakesPasses-none : (arrows left : ℕ) → TakesPasses arrows left left
TakesPasses-none arrows left = record { passes = 0; are = omega arith }

pub TakesPasses-more : (arrows before between after : ℕ) → TakesPasses arrows before between → between ≡ after + arrows → TakesPasses arrows before after
TakesPasses-more arrows before between after so one = record { passes = suc so.passes; are = omega (arith, so.are, one, suc-mul so.passes arrows) }

-- what leads to a mark is marked where each arrow to a mark comes from one
closed_lead : (arrows : List (ℕ × ℕ)) (marks : List Bool) (through : List ℕ) (m z : ℕ) → AreClosed arrows marks → LeadsThrough arrows through m z → IsMarked marks z → IsMarked marks m
closed_lead arrows marks [] m z closed e marked = let P : ℕ → Type 0 = λ k. IsMarked marks k in subst P (sym e) marked
closed_lead arrows marks (n ∷ later) m z closed (arrow, leads) marked = closed (m, n) arrow (closed_lead arrows marks later n z closed leads marked)

pub marked_exactly : (arrows : List (ℕ × ℕ)) (before marks : List Bool) → Passed arrows before marks → AreClosed arrows marks → (m : ℕ) → IsMarked marks m ↔ LeadsToMark arrows before m
marked_exactly arrows before marks so closed m = (so.spread m, λ leads. closed_lead arrows marks leads.through m leads.last closed leads.leads (so.kept leads.last leads.marked))
