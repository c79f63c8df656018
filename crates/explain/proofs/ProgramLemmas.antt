-- Program headers and entries of a dynamic table, as a loop goes through them.
use Rattle.std.proofs.Common.{◌≡◌, ℕ, ◌+◌, ◌<◌, ◌≤◌, Bool, true, false, cond, List, [], Option, Some, None, refl}
use Rattle.std.specs.Prelude.{find, take_while}
use Rattle.std.specs.List.{cons_option, filter_map}
use Rattle.std.proofs.lemmas.List.Sums.{take_while-cons}
use Rattle.abi_base.proofs.lemmas.Places.{places, places_more, places_none}
use Rattle.elf.specs.symbols.Dynamic.{is_used}
use Rattle.explain.specs.Programs.{has_flags}

-- ---- headers

-- the first that passes among those given at the places from i on
abbrev pub first_given : (ℕ → Option (List ℕ)) → (List ℕ → Bool) → ℕ → ℕ → Option (List ℕ)
first_given g p i n = find p (filter_map g (places i n))

among : (p : List ℕ → Bool) (o : Option (List ℕ)) (rest : List (List ℕ)) (h : List ℕ) → find p (cons_option o []) ≡ Some h → find p (cons_option o rest) ≡ Some h
among p None rest h is = let wrong : None ≡ Some h = is in cc
among p (Some x) rest h is = cases (p x) is
  where
    cases : (b : Bool) → cond b (Some x) None ≡ Some h → cond b (Some x) (find p rest) ≡ Some h
    cases true is = is
    cases false is = let wrong : None ≡ Some h = is in cc

passed : (p : List ℕ → Bool) (o : Option (List ℕ)) (rest : List (List ℕ)) → find p (cons_option o []) ≡ None → find p (cons_option o rest) ≡ find p rest
passed p None rest is = refl
passed p (Some x) rest is = cases (p x) is
  where
    cases : (b : Bool) → cond b (Some x) None ≡ None → cond b (Some x) (find p rest) ≡ find p rest
    cases true is = let wrong : Some x ≡ None = is in cc
    cases false is = refl

pub given_here : (g : ℕ → Option (List ℕ)) (p : List ℕ → Bool) (i n : ℕ) (h : List ℕ) → i < n → find p (cons_option (g i) []) ≡ Some h → first_given g p i n ≡ Some h
given_here g p i n h lt is = rw (places_more i n lt) (among p (g i) (filter_map g (places (i + 1) n)) h is)

pub given_later : (g : ℕ → Option (List ℕ)) (p : List ℕ → Bool) (i n : ℕ) → i < n → find p (cons_option (g i) []) ≡ None → first_given g p i n ≡ first_given g p (i + 1) n
given_later g p i n lt fails = rw (places_more i n lt) (passed p (g i) (filter_map g (places (i + 1) n)) fails)

pub none_given : (g : ℕ → Option (List ℕ)) (p : List ℕ → Bool) (i n : ℕ) → n ≤ i → first_given g p i n ≡ None
none_given g p i n le = rw (places_none i n le) refl

-- ---- entries

-- the first entry with flags from i on, before the end of a table
abbrev pub flags_from : List ℕ → ℕ → ℕ → Option ℕ
flags_from table i n = find (has_flags table) (take_while (is_used table) (places i n))

pub no_flags_here : (table : List ℕ) (i n : ℕ) → i < n → is_used table i ≡ true → has_flags table i ≡ false → flags_from table i n ≡ flags_from table (i + 1) n
no_flags_here table i n lt goes fails = rw (places_more i n lt, take_while-cons, goes) (rw fails refl)
