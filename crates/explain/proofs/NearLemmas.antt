-- The nearest name of those before a place.
use Rattle.std.proofs.Common.{◌≡◌, ◌<◌, ◌≤◌, ◌+◌, ℕ, List, [], Option, Some, None, length, refl, sym, ◌∙◌, ap, subst, arith, ◌⊎◌, inl, inr}
use Rattle.std.specs.Prelude.{slice_get}
use Rattle.std.proofs.Math.Nat.{eq-or-lt_of_le}
use Rattle.std.proofs.lemmas.Option.{slice_get_within, slice_get-get_or}
use Rattle.explain.specs.NearCommands.{command_names, edits, IsOffered}

-- of the names before a place, the first of the nearest ones, if at most two edits make it of the word
pub record Best (word : List ℕ) (names : List (List ℕ)) (before least : ℕ) (name : List ℕ) : Type 0 where
  pub place : ℕ
  pub inside : place < before
  pub named : slice_get names place ≡ Some name
  pub itself : least ≡ edits word name
  pub near : least ≤ 2
  pub first : (k : ℕ) (other : List ℕ) → k < place → slice_get names k ≡ Some other → least < edits word other

abbrev pub BestSoFar : (word : List ℕ) (names : List (List ℕ)) (before least : ℕ) → Option (List ℕ) → Type 0
BestSoFar word names before least None = least ≡ 3
BestSoFar word names before least (Some name) = Best word names before least name

pub record SoFar (word : List ℕ) (names : List (List ℕ)) (before least : ℕ) (found : Option (List ℕ)) : Type 0 where
  pub short : length word ≤ 16
  pub bound : (k : ℕ) (other : List ℕ) → k < before → slice_get names k ≡ Some other → least ≤ edits word other
  pub best : BestSoFar word names before least found

pub none_yet : (word : List ℕ) (names : List (List ℕ)) → length word ≤ 16 → SoFar word names 0 3 None
none_yet word names short = record { short = short; bound = λ k other below at. absurd (omega arith); best = refl }

small : (word : List ℕ) (names : List (List ℕ)) (before least : ℕ) (found : Option (List ℕ)) → SoFar word names before least found → least ≤ 3
small word names before least None so = let is = so.best in omega arith
small word names before least (Some name) so = let near = so.best.near in omega arith

same_name : (names : List (List ℕ)) (k : ℕ) (name other : List ℕ) → slice_get names k ≡ Some name → slice_get names k ≡ Some other → name ≡ other
same_name names k name other at also = cc

last : (k before : ℕ) → k < before + 1 → (k ≡ before) ⊎ (k < before)
last k before below = let at_most : k ≤ before = omega arith in eq-or-lt_of_le at_most

bound_here : (word : List ℕ) (names : List (List ℕ)) (before least limit : ℕ) (name : List ℕ) → slice_get names before ≡ Some name → limit ≤ edits word name
    → ((k : ℕ) (other : List ℕ) → k < before → slice_get names k ≡ Some other → least ≤ edits word other) → limit ≤ least
    → (k : ℕ) (other : List ℕ) → k < before + 1 → slice_get names k ≡ Some other → limit ≤ edits word other
bound_here word names before least limit name at here bound less k other below there =
    elim (last k before below) as (λ _. limit ≤ edits word other) [
      | inl same ↦
          let there' : slice_get names before ≡ Some other = subst (λ (i : ℕ). slice_get names i ≡ Some other) same there in
          subst (λ (n : List ℕ). limit ≤ edits word n) (same_name names before name other at there') here
      | inr earlier ↦ let old = bound k other earlier there in omega arith
    ]

-- the name at the place is nearer than all before it
pub nearer : (word : List ℕ) (names : List (List ℕ)) (before least : ℕ) (found : Option (List ℕ)) (name : List ℕ) → SoFar word names before least found
    → slice_get names before ≡ Some name → edits word name < least → SoFar word names (before + 1) (edits word name) (Some name)
nearer word names before least found name so at less =
    let bounded = small word names before least found so in
    record {
      short = so.short;
      bound = bound_here word names before least (edits word name) name at (omega arith) so.bound (omega arith);
      best = record {
        place = before;
        inside = omega arith;
        named = at;
        itself = refl;
        near = omega arith;
        first = λ k other below there. let old = so.bound k other below there in omega arith;
      };
    }

keeps_best : (word : List ℕ) (names : List (List ℕ)) (before least : ℕ) (found : Option (List ℕ)) → BestSoFar word names before least found → BestSoFar word names (before + 1) least found
keeps_best word names before least None best = best
keeps_best word names before least (Some name) best =
    let inside = best.inside in
    record { place = best.place; inside = omega arith; named = best.named; itself = best.itself; near = best.near; first = best.first }

-- the name at the place is no nearer than the nearest one before it
pub no_nearer : (word : List ℕ) (names : List (List ℕ)) (before least : ℕ) (found : Option (List ℕ)) (name : List ℕ) → SoFar word names before least found
    → slice_get names before ≡ Some name → least ≤ edits word name → SoFar word names (before + 1) least found
no_nearer word names before least found name so at more =
    record {
      short = so.short;
      bound = bound_here word names before least least name at more so.bound (omega arith);
      best = keeps_best word names before least found so.best;
    }

-- what was found among all names is what is offered
pub offered : (word : List ℕ) (before least : ℕ) (found : Option (List ℕ)) → 9 ≤ before → SoFar word command_names before least found → IsOffered word found
offered word before least None all so = λ k name at near.
    let within = slice_get_within command_names k name at in
    let few = so.bound k name (omega arith) at in
    let is = so.best in
    let close = near.1 in
    omega arith
offered word before least (Some name) all so =
    let best = so.best in
    let close = best.near in
    let itself = best.itself in
    record {
      place = best.place;
      named = best.named;
      near = (so.short, omega arith);
      least = λ k other at.
          let within = slice_get_within command_names k other at in
          let few = so.bound k other (omega arith) at in
          omega arith;
      first = λ k other below at. let few = best.first k other below at in omega arith;
    }

-- no command is near a long word
pub none_for_long : (word : List ℕ) → 16 < length word → IsOffered word None
none_for_long word long = λ k name at near. let short = near.0 in omega arith

-- there is a name at each place of the table
pub named : (place : ℕ) → place < 9 → slice_get command_names place ≡ None → ⊥
named place inside none = let some = slice_get-get_or command_names place [] inside in cc

-- the name at the place is taken
pub taken : (word : List ℕ) (names : List (List ℕ)) (before least least' e : ℕ) (found found' : Option (List ℕ)) (name : List ℕ) → SoFar word names before least found
    → slice_get names before ≡ Some name → e ≡ edits word name → e < least → found' ≡ Some name → least' ≡ e → SoFar word names (before + 1) least' found'
taken word names before least least' e found found' name so at is less found-is least-is =
    let less' : edits word name < least = omega arith in
    let all : SoFar word names (before + 1) (edits word name) (Some name) = nearer word names before least found name so at less' in
    subst (λ (f : Option (List ℕ)). SoFar word names (before + 1) least' f) (sym found-is)
    (subst (λ (l : ℕ). SoFar word names (before + 1) l (Some name)) (sym (least-is ∙ is)) all)

-- the name at the place is not taken
pub left : (word : List ℕ) (names : List (List ℕ)) (before least least' e : ℕ) (found found' : Option (List ℕ)) (name : List ℕ) → SoFar word names before least found
    → slice_get names before ≡ Some name → e ≡ edits word name → least ≤ e → found' ≡ found → least' ≡ least → SoFar word names (before + 1) least' found'
left word names before least least' e found found' name so at is more found-is least-is =
    let more' : least ≤ edits word name = omega arith in
    let all : SoFar word names (before + 1) least found = no_nearer word names before least found name so at more' in
    subst (λ (f : Option (List ℕ)). SoFar word names (before + 1) least' f) (sym found-is)
    (subst (λ (l : ℕ). SoFar word names (before + 1) l found) (sym least-is) all)

-- the distance of two words, by what they are
pub edits_are : (a b word name : List ℕ) (e : ℕ) → e ≡ edits a b → a ≡ word → b ≡ name → e ≡ edits word name
edits_are a b word name e is one two = is ∙ ap (λ (x : List ℕ). edits x b) one ∙ ap (λ (y : List ℕ). edits word y) two
