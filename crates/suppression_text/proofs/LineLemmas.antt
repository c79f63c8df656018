-- Blanks at the ends of a text, and the first line of a text.
use Rattle.std.proofs.Common.{◌≡◌, ◌<◌, ◌≤◌, ◌+◌, ◌-◌, ◌==◌, ◌&&◌, ℕ, Bool, true, false, cond, List, [], ◌∷◌, ◌++◌, length, take, drop, get_or, Some, None, refl, sym, ◌∙◌, ap, subst, inl, inr, arith}
use Rattle.std.specs.Prelude.{position}
use Rattle.std.specs.List.{position_or_len, slice_split, All}
use Rattle.std.specs.Str.Lines.{lines, lines_of_parts, strip_carriage_return}
use Rattle.std.proofs.lemmas.Bool.{cases_lt, lt-ltb, ne_eqb}
use Rattle.std.proofs.lemmas.List.{take-append-drop, drop_more, take_more, drop_all, get_or_default, get_or-take, length-take-le, length-append}
use Rattle.std.proofs.lemmas.List.Sums.{fails_before_first}
use Rattle.std.proofs.lemmas.List.Quantifiers.{position-Some}
use Rattle.std.proofs.lemmas.List.Splits.{slice_split_at, slice_split_none, length-slice_split}
use Rattle.std.proofs.lemmas.Option.{none-some}
use Rattle.suppression_text.specs.Lines.{is_blank, is_feed, without_front, without_end}

-- ---- blanks at the front

front_of : (b : ℕ) (text : List ℕ) → is_blank b ≡ true → without_front (b ∷ text) ≡ without_front text
unfolding without_front
front_of b text blank = rw blank refl

front_stops : (b : ℕ) (text : List ℕ) → is_blank b ≡ false → without_front (b ∷ text) ≡ b ∷ text
unfolding without_front
front_stops b text other = rw other refl

pub front_over : (text : List ℕ) (at : ℕ) → at < length text → is_blank (get_or text at 0) ≡ true → without_front (drop (at + 1) text) ≡ without_front (drop at text)
front_over text at lt blank = sym (ap without_front (drop_more text at 0 lt) ∙ front_of (get_or text at 0) (drop (at + 1) text) blank)

pub front_here : (text : List ℕ) (at : ℕ) → at < length text → is_blank (get_or text at 0) ≡ false → drop at text ≡ without_front (drop at text)
front_here text at lt other =
    drop_more text at 0 lt ∙ sym (ap without_front (drop_more text at 0 lt) ∙ front_stops (get_or text at 0) (drop (at + 1) text) other)

front_nil : (text : List ℕ) → length text ≡ 0 → text ≡ without_front text
unfolding without_front
front_nil [] none = refl
front_nil (b ∷ text) none = absurd (omega (arith, none))

pub front_past : (text : List ℕ) (at : ℕ) → length text ≤ at → drop at text ≡ without_front (drop at text)
front_past text at past = rw (drop_all at text past) (front_nil [] refl)

-- ---- blanks at the end

end_blank : (text : List ℕ) (b : ℕ) → is_blank b ≡ true → without_end (text ++ b ∷ []) ≡ without_end text
unfolding without_end
end_blank [] b blank = rw blank refl
end_blank (c ∷ text) b blank = rw (end_blank text b blank) refl

not_nil : (text : List ℕ) (b : ℕ) → (length (text ++ b ∷ []) == 0) ≡ false
not_nil text b = ne_eqb (length (text ++ b ∷ [])) 0 (λ e. omega (arith, e, length-append text (b ∷ [])))

and_false : (a b : Bool) → b ≡ false → (a && b) ≡ false
and_false true b is = is
and_false false b is = refl

end_other : (text : List ℕ) (b : ℕ) → is_blank b ≡ false → without_end (text ++ b ∷ []) ≡ text ++ b ∷ []
unfolding without_end
end_other [] b other = rw other refl
end_other (c ∷ text) b other = rw (end_other text b other, and_false (is_blank c) (length (text ++ b ∷ []) == 0) (not_nil text b)) refl

last_one : (text : List ℕ) (end : ℕ) → 0 < end → end ≤ length text → take end text ≡ take (end - 1) text ++ get_or text (end - 1) 0 ∷ []
last_one text end some le =
    let e : (end - 1) + 1 ≡ end = omega arith in
    ap (λ (n : ℕ). take n text) (sym e) ∙ take_more text (end - 1) 0 (omega (arith, some, le))

pub end_over : (text : List ℕ) (end : ℕ) → 0 < end → end ≤ length text → is_blank (get_or text (end - 1) 0) ≡ true → without_end (take (end - 1) text) ≡ without_end (take end text)
end_over text end some le blank = sym (ap without_end (last_one text end some le) ∙ end_blank (take (end - 1) text) (get_or text (end - 1) 0) blank)

pub end_here : (text : List ℕ) (end : ℕ) → 0 < end → end ≤ length text → is_blank (get_or text (end - 1) 0) ≡ false → take end text ≡ without_end (take end text)
end_here text end some le other = last_one text end some le ∙ sym (ap without_end (last_one text end some le) ∙ end_other (take (end - 1) text) (get_or text (end - 1) 0) other)

pub end_nil : without_end [] ≡ []
unfolding without_end
end_nil = refl

-- ---- lines

no_feed_before : (text : List ℕ) (found : ℕ) → position is_feed text ≡ Some found → All (λ b. is_feed b ≡ false) (take found text)
no_feed_before text found is k d lt =
    let first = position-Some is_feed text found 0 is in
    let size : length (take found text) ≡ found = length-take-le found text (omega (arith, first.0)) in
    let below : k < found = subst (λ (n : ℕ). k < n) size lt in
    ap is_feed (get_or_default (take found text) k d 0 lt ∙ get_or-take found text k 0 below) ∙ first.2 k below

no_feed : (text : List ℕ) → position is_feed text ≡ None → All (λ b. is_feed b ≡ false) text
no_feed text is k d lt = elim (cases_lt (position_or_len is_feed text) (length text)) [
  | inl inside ↦ absurd (none-some (position_or_len is_feed text) (sym is ∙ ap (λ (b : Bool). cond b (Some (position_or_len is_feed text)) None) (lt-ltb (position_or_len is_feed text) (length text) inside)))
  | inr past ↦ fails_before_first is_feed text k d (omega (arith, lt, past))
]

first_part : (text : List ℕ) (at : ℕ) → position is_feed text ≡ Some at → slice_split is_feed text ≡ take at text ∷ slice_split is_feed (drop (at + 1) text)
first_part text at is =
    let first = position-Some is_feed text at 0 is in
    let split : text ≡ take at text ++ get_or text at 0 ∷ drop (at + 1) text = sym (take-append-drop at text) ∙ ap (λ (xs : List ℕ). take at text ++ xs) (drop_more text at 0 first.0) in
    ap (slice_split is_feed) split ∙ slice_split_at is_feed (take at text) (get_or text at 0) (drop (at + 1) text) (no_feed_before text at is) first.1

more_parts : (line : List ℕ) (parts : List (List ℕ)) → 0 < length parts → lines_of_parts (line ∷ parts) ≡ strip_carriage_return line ∷ lines_of_parts parts
more_parts line [] some = absurd (omega (arith, some))
more_parts line (part ∷ parts) some = refl

pub lines-fed : (text : List ℕ) (at : ℕ) → position is_feed text ≡ Some at → lines text ≡ strip_carriage_return (take at text) ∷ lines (drop (at + 1) text)
lines-fed text at is =
    ap lines_of_parts (first_part text at is)
    ∙ more_parts (take at text) (slice_split is_feed (drop (at + 1) text)) (omega (arith, length-slice_split is_feed (drop (at + 1) text)))

pub lines-last : (text : List ℕ) → position is_feed text ≡ None → (length text == 0) ≡ false → lines text ≡ text ∷ []
lines-last text is some = ap lines_of_parts (slice_split_none is_feed text (no_feed text is)) ∙ rw some refl
