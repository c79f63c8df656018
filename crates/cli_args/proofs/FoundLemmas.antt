-- Words that are found, without where they lie.
use Rattle.std.proofs.Common.{◌≡◌, ◌≤◌, ◌<◌, ◌+◌, ◌∙◌, ℕ, Bool, cond, true, false, List, [], ◌∷◌, length, drop, get_or, Option, Some, None, Bor, ap, refl, sym}
use Rattle.std.specs.Prelude.{find}
use Rattle.std.proofs.lemmas.List.{drop_more, drop_all}
use Rattle.cli_args.specs.Commands.{plain_word}
use Rattle.cli_args.specs.Words.{texts}
use Rattle.cli_args.specs.WrongWords.{is_without_value, without_value}

either_word : (b : Bool) (x : Bor (List ℕ)) (next : Option (Bor (List ℕ))) (other : Option (List ℕ)) → plain_word next ≡ other →
    plain_word (cond b (Some x) next) ≡ cond b (Some x.now) other
either_word true x next other e = refl
either_word false x next other e = e

over : (p : List ℕ → Bool) (xs : List (Bor (List ℕ))) → plain_word (find (λ (w : Bor (List ℕ)). p w.now) xs) ≡ find p (texts xs)
over p [] = refl
over p (x ∷ xs) = either_word (p x.now) x (find (λ (w : Bor (List ℕ)). p w.now) xs) (find p (texts xs)) (over p xs)

pub find_texts : (p : List ℕ → Bool) (xs : List (Bor (List ℕ))) (o : Option (Bor (List ℕ))) → o ≡ find (λ (w : Bor (List ℕ)). p w.now) xs → plain_word o ≡ find p (texts xs)
find_texts p xs o e = ap plain_word e ∙ over p xs

-- ---- options without a value

none_left : without_value [] ≡ None
unfolding without_value
none_left = refl

found_here : (word : List ℕ) (rest : List (List ℕ)) → is_without_value word rest ≡ true → without_value (word ∷ rest) ≡ Some word
unfolding without_value
found_here word rest is = rw is refl

found_later : (word : List ℕ) (rest : List (List ℕ)) → is_without_value word rest ≡ false → without_value (word ∷ rest) ≡ without_value rest
unfolding without_value
found_later word rest is = rw is refl

-- the word at a place, and those behind it
pub word_here : (xs : List (Bor (List ℕ))) (i : ℕ) (d : Bor (List ℕ)) → i < length xs → is_without_value (get_or xs i d).now (texts (drop (i + 1) xs)) ≡ true →
    Some (get_or xs i d).now ≡ without_value (texts (drop i xs))
word_here xs i d lt is =
    sym (ap (λ (ws : List (Bor (List ℕ))). without_value (texts ws)) (drop_more xs i d lt) ∙ found_here (get_or xs i d).now (texts (drop (i + 1) xs)) is)

pub word_later : (xs : List (Bor (List ℕ))) (i : ℕ) (d : Bor (List ℕ)) → i < length xs → is_without_value (get_or xs i d).now (texts (drop (i + 1) xs)) ≡ false →
    without_value (texts (drop (i + 1) xs)) ≡ without_value (texts (drop i xs))
word_later xs i d lt is =
    sym (ap (λ (ws : List (Bor (List ℕ))). without_value (texts ws)) (drop_more xs i d lt) ∙ found_later (get_or xs i d).now (texts (drop (i + 1) xs)) is)

pub words_past : (xs : List (Bor (List ℕ))) (i : ℕ) → length xs ≤ i → None ≡ without_value (texts (drop i xs))
words_past xs i past = rw (drop_all i xs past) (sym none_left)
