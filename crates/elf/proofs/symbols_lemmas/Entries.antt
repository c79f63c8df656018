-- A search among the entries before the first one that ends a table.
use Rattle.std.proofs.Common.{◌≡◌, ℕ, ◌+◌, ◌<◌, ◌≤◌, Bool, true, false, Option, Some, None, refl}
use Rattle.std.specs.Prelude.{find, take_while}
use Rattle.std.proofs.lemmas.List.Sums.{take_while-cons}
use Rattle.abi_base.proofs.lemmas.Places.{places, places_more, places_none}

-- the first entry with p from i on, before the first one without q
abbrev pub find_before_end : (ℕ → Bool) → (ℕ → Bool) → ℕ → ℕ → Option ℕ
find_before_end p q i n = find p (take_while q (places i n))

pub ends_here : (p q : ℕ → Bool) (i n : ℕ) → i < n → q i ≡ false → find_before_end p q i n ≡ None
ends_here p q i n lt ends = rw (places_more i n lt, take_while-cons, ends) refl

pub found_here : (p q : ℕ → Bool) (i n : ℕ) → i < n → q i ≡ true → p i ≡ true → find_before_end p q i n ≡ Some i
found_here p q i n lt goes passes = rw (places_more i n lt, take_while-cons, goes) (rw passes refl)

pub not_here : (p q : ℕ → Bool) (i n : ℕ) → i < n → q i ≡ true → p i ≡ false → find_before_end p q i n ≡ find_before_end p q (i + 1) n
not_here p q i n lt goes fails = rw (places_more i n lt, take_while-cons, goes) (rw fails refl)

pub none_left : (p q : ℕ → Bool) (i n : ℕ) → n ≤ i → find_before_end p q i n ≡ None
none_left p q i n le = rw (places_none i n le) refl
