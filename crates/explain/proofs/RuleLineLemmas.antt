-- One step through the bytes of a line of a rule file.
use Rattle.std.proofs.Common.{◌≡◌, ◌≤◌, ◌<◌, ◌+◌, ℕ, true, false, List, [], ◌∷◌, length, drop, get_or, refl, sym, ◌∙◌, ap}
use Rattle.std.specs.Prelude.{◌==◌}
use Rattle.std.proofs.lemmas.List.{drop_more, drop_all}
use Rattle.explain.specs.RuleLines.{begins_comment, begins_property, has_mark_behind, has_mark_in_value, is_blank, is_plain}

-- ---- a blank before a mark

mark_later : (before b : ℕ) (rest : List ℕ) → begins_comment before b ≡ false → has_mark_behind before (b ∷ rest) ≡ has_mark_behind b rest
unfolding has_mark_behind
mark_later before b rest off = rw off refl

mark_now : (before b : ℕ) (rest : List ℕ) → begins_comment before b ≡ true → has_mark_behind before (b ∷ rest) ≡ true
unfolding has_mark_behind
mark_now before b rest on = rw on refl

no_mark : (before : ℕ) → false ≡ has_mark_behind before []
unfolding has_mark_behind
no_mark before = refl

pub mark_over : (before : ℕ) (xs : List ℕ) (i : ℕ) → i < length xs → begins_comment before (get_or xs i 0) ≡ false →
    has_mark_behind (get_or xs i 0) (drop (i + 1) xs) ≡ has_mark_behind before (drop i xs)
mark_over before xs i lt off = sym (ap (has_mark_behind before) (drop_more xs i 0 lt) ∙ mark_later before (get_or xs i 0) (drop (i + 1) xs) off)

pub mark_here : (before : ℕ) (xs : List ℕ) (i : ℕ) → i < length xs → begins_comment before (get_or xs i 0) ≡ true → true ≡ has_mark_behind before (drop i xs)
mark_here before xs i lt on = sym (ap (has_mark_behind before) (drop_more xs i 0 lt) ∙ mark_now before (get_or xs i 0) (drop (i + 1) xs) on)

pub mark_past : (before : ℕ) (xs : List ℕ) (i : ℕ) → length xs ≤ i → false ≡ has_mark_behind before (drop i xs)
mark_past before xs i past = rw (drop_all i xs past) (no_mark before)

-- ---- the first `=`

value_later : (b : ℕ) (rest : List ℕ) → (b == 61) ≡ false → has_mark_in_value (b ∷ rest) ≡ has_mark_in_value rest
unfolding has_mark_in_value
value_later b rest off = rw off refl

value_now : (b : ℕ) (rest : List ℕ) → (b == 61) ≡ true → has_mark_in_value (b ∷ rest) ≡ has_mark_behind b rest
unfolding has_mark_in_value
value_now b rest on = rw on refl

no_value : false ≡ has_mark_in_value []
unfolding has_mark_in_value
no_value = refl

pub value_over : (xs : List ℕ) (i : ℕ) → i < length xs → (get_or xs i 0 == 61) ≡ false → has_mark_in_value (drop (i + 1) xs) ≡ has_mark_in_value (drop i xs)
value_over xs i lt off = sym (ap has_mark_in_value (drop_more xs i 0 lt) ∙ value_later (get_or xs i 0) (drop (i + 1) xs) off)

pub value_here : (xs : List ℕ) (i : ℕ) → i < length xs → (get_or xs i 0 == 61) ≡ true →
    has_mark_behind (get_or xs i 0) (drop (i + 1) xs) ≡ has_mark_in_value (drop i xs)
value_here xs i lt on = sym (ap has_mark_in_value (drop_more xs i 0 lt) ∙ value_now (get_or xs i 0) (drop (i + 1) xs) on)

pub value_past : (xs : List ℕ) (i : ℕ) → length xs ≤ i → false ≡ has_mark_in_value (drop i xs)
value_past xs i past = rw (drop_all i xs past) no_value

-- ---- the first byte that is no blank

property_later : (b : ℕ) (rest : List ℕ) → is_blank b ≡ true → begins_property (b ∷ rest) ≡ begins_property rest
unfolding begins_property
property_later b rest blank = rw blank refl

property_now : (b : ℕ) (rest : List ℕ) → is_blank b ≡ false → begins_property (b ∷ rest) ≡ is_plain b
unfolding begins_property
property_now b rest other = rw other refl

no_property : false ≡ begins_property []
unfolding begins_property
no_property = refl

pub property_over : (xs : List ℕ) (i : ℕ) → i < length xs → is_blank (get_or xs i 0) ≡ true → begins_property (drop (i + 1) xs) ≡ begins_property (drop i xs)
property_over xs i lt blank = sym (ap begins_property (drop_more xs i 0 lt) ∙ property_later (get_or xs i 0) (drop (i + 1) xs) blank)

pub property_here : (xs : List ℕ) (i : ℕ) → i < length xs → is_blank (get_or xs i 0) ≡ false → is_plain (get_or xs i 0) ≡ begins_property (drop i xs)
property_here xs i lt other = sym (ap begins_property (drop_more xs i 0 lt) ∙ property_now (get_or xs i 0) (drop (i + 1) xs) other)

pub property_past : (xs : List ℕ) (i : ℕ) → length xs ≤ i → false ≡ begins_property (drop i xs)
property_past xs i past = rw (drop_all i xs past) no_property
