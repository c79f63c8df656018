-- A set of the names of types, as a search tree: no choice of names makes a look-up long.
use Rattle.std.specs.Prelude.{◌≡◌, ℕ, Bool, true, List}
use Rattle.std.specs.Borrow.{Bor}
use Rattle.std.specs.BTreeSet.{BTreeSet, contains_by}
use Rattle.std.specs.List.{list_any}
use Rattle.abi_types.specs.Types.{PlainLabel}
use Rattle.suppressions.specs.Known.{kind_number, name_cmp}

-- a set of the kinds and the names of labels
abbrev pub Seen : Type 0
Seen = BTreeSet (ℕ × Bor (List ℕ))

abbrev pub is_seen : Seen → PlainLabel → Bool
is_seen seen l = contains_by (λ k. name_cmp (kind_number l.kind) l.name k.0 k.1.now) seen

-- for each name in the set, a test that passes the name passes one of these names
abbrev pub AreSeen : Seen → List PlainLabel → Type 0
AreSeen seen names = (l : PlainLabel) → is_seen seen l ≡ true → (test : PlainLabel → Bool) → test l ≡ true → list_any test names ≡ true

-- a test passes one of the first names exactly if it passes one of the second ones
abbrev pub AreAlike : List PlainLabel → List PlainLabel → Type 0
AreAlike names labels = (test : PlainLabel → Bool) → list_any test names ≡ list_any test labels
