-- Where `clap` answers with its help, some word asks for it.
use Rattle.std.proofs.Common.{◌≡◌, ◌∙◌, ◌&&◌, ◌⊎◌, ◌++◌, take-append-drop, inl, inr, ℕ, Bool, cond, true, false, not, refl, ap, subst, sym, List, [], ◌∷◌, drop, Option, Some, None, is_some, codes, true≢false, option_map, ap₂, eqb-true, eq-eqb, ◌≢◌}
use Rattle.std.specs.Prelude.{slice_get, ◌==◌, ◌||◌, find, option_and_then}
use Rattle.std.specs.List.{Any, before_first, list_any, position_or_len}
use Rattle.std.specs.Option.{option_map_or}
use Rattle.std.specs.Str.{bytes_eq, chars}
use Rattle.std.proofs.lemmas.Option.{same_Some}
use Rattle.std.proofs.lemmas.Slice.Eq.{bytes_eq-Decides}
use Rattle.clap.specs.Lexer.{long_of, long_of_rest, short_of, short_of_rest, strip_byte}
use Rattle.clap.specs.Walk.{Rule, Text, arg_by_id, arg_by_index, arg_by_long, arg_by_short, takes_values, nothing_held, has_long, has_short}
use Rattle.clap.specs.Simple.{built}
use Rattle.clap.specs.Kinds.{IsAmong}
use Rattle.clap.specs.Faults.{fault_of}
use Rattle.clap.specs.declared.error.kind.ErrorKind.TheVariants as kind
use Rattle.clap.proofs.FaultLemmas.{leaf_fault}
use Rattle.cli_args.specs.Line.{line_app}
use Rattle.cli_args.specs.Words.{AsksForHelp, LooksForHelp}
use Rattle.cli_args.proofs.CalmWalks.{IsCalm, IsCalmFound, Plain}
use Rattle.cli_args.proofs.HelpKinds.{Only, level_only}

-- ---- the command line is such a command

abbrev IsIn : (Rule → Bool) → Rule → List Rule → Type 0
IsIn test a [] = ⊥
IsIn test a (x ∷ xs) = ((a ≡ x) × (test x ≡ true)) ⊎ IsIn test a xs

found_at : (test : Rule → Bool) (x : Rule) (xs : List Rule) (a : Rule) (b : Bool) → test x ≡ b → (find test xs ≡ Some a → IsIn test a xs) →
    cond b (Some x) (find test xs) ≡ Some a → IsIn test a (x ∷ xs)
found_at test x xs a true is later e = inl (sym (same_Some x a e), is)
found_at test x xs a false is later e = inr (later e)

found_in : (test : Rule → Bool) (xs : List Rule) (a : Rule) → find test xs ≡ Some a → IsIn test a xs
found_in test [] a e = absurd (true≢false (sym (ap is_some e)))
found_in test (x ∷ xs) a e = found_at test x xs a (test x) refl (found_in test xs a) e

abbrev rules : List Rule
rules = (built line_app).top.rules

or_false : (b : Bool) → (b || false) ≡ true → b ≡ true
or_false true e = refl
or_false false e = e

line_by_long : (name : Text) (a : Rule) → arg_by_long rules name ≡ Some a → IsCalm a ⊎ (name ≡ codes "help")
line_by_long name a e = elim (found_in (λ r. not (is_some r.index) && has_long r name) rules a e) [
  | inl h ↦ inl (rw h.0 refl)
  | inr h ↦ elim h [
    | inl h ↦ inl (rw h.0 refl)
    | inr h ↦ elim h [
      | inl h ↦ inl (rw h.0 refl)
      | inr h ↦ elim h [
        | inl h ↦ inl (rw h.0 refl)
        | inr h ↦ elim h [
          | inl h ↦ inr (sym ((bytes_eq-Decides (codes "help") name).0 (or_false (bytes_eq (codes "help") name) h.1)))
          | inr h ↦ absurd h
        ]
      ]
    ]
  ]
]

line_by_short : (x : ℕ) (a : Rule) → arg_by_short rules x ≡ Some a → (x ≡ 104) × (takes_values a ≡ false)
line_by_short x a e = elim (found_in (λ r. not (is_some r.index) && has_short r x) rules a e) [
  | inl h ↦ absurd (true≢false (sym h.1))
  | inr h ↦ elim h [
    | inl h ↦ absurd (true≢false (sym h.1))
    | inr h ↦ elim h [
      | inl h ↦ absurd (true≢false (sym h.1))
      | inr h ↦ elim h [
        | inl h ↦ absurd (true≢false (sym h.1))
        | inr h ↦ elim h [
          | inl h ↦ (sym (eqb-true 104 x (or_false (104 == x) h.1)), rw h.0 refl)
          | inr h ↦ absurd h
        ]
      ]
    ]
  ]
]

line_ids : (test : Rule → Bool) (a : Rule) → find test rules ≡ Some a → takes_values a ≡ true → IsCalmFound (arg_by_id rules a.id)
line_ids test a e takes = elim (found_in test rules a e) [
  | inl h ↦ rw h.0 refl
  | inr h ↦ elim h [
    | inl h ↦ rw h.0 refl
    | inr h ↦ elim h [
      | inl h ↦ rw h.0 refl
      | inr h ↦ elim h [
        | inl h ↦ rw h.0 refl
        | inr h ↦ elim h [
          | inl h ↦ absurd (true≢false (sym takes ∙ ap takes_values h.0))
          | inr h ↦ absurd h
        ]
      ]
    ]
  ]
]

line_index : (i : ℕ) (a : Rule) → arg_by_index rules i ≡ Some a → IsCalmFound (arg_by_id rules a.id)
line_index i a e = elim (found_in (λ r. option_map_or (λ k. k == i) r.index false) rules a e) [
  | inl h ↦ rw h.0 refl
  | inr h ↦ elim h [
    | inl h ↦ rw h.0 refl
    | inr h ↦ elim h [
      | inl h ↦ rw h.0 refl
      | inr h ↦ elim h [
        | inl h ↦ rw h.0 refl
        | inr h ↦ elim h [
          | inl h ↦ absurd (true≢false (sym h.1))
          | inr h ↦ absurd h
        ]
      ]
    ]
  ]
]

line_plain : Plain rules
line_plain = record {
  by_long = line_by_long;
  by_short = line_by_short;
  long_id = λ name a e takes. line_ids (λ r. not (is_some r.index) && has_long r name) a e takes;
  index_id = line_index;
}

-- where `clap` answers with its help, some word asks for it
pub help_is_asked : (words : List Text) → IsAmong kind.DisplayHelp (fault_of line_app words) → Any AsksForHelp words
help_is_asked words h =
    let only : Only (Any AsksForHelp words) (fault_of line_app words) = subst (Only (Any AsksForHelp words)) (sym (leaf_fault (built line_app) nothing_held words refl))
    (level_only (built line_app).top line_plain words refl) in
    only.gives h

-- ---- what such a word looks like

help_name : (p : ℕ → Bool) (xs : List ℕ) → before_first p xs ≡ codes "help" → (rest : List ℕ) × (xs ≡ codes "help" ++ rest)
help_name p xs e = (drop (position_or_len p xs) xs, sym (take-append-drop (position_or_len p xs) xs) ∙ ap (λ t. t ++ drop (position_or_len p xs) xs) e)

looks_long : (found : Option (Text × Option Text)) (xs : List ℕ) → found ≡ long_of_rest xs → option_map (λ q. q.0) found ≡ Some (codes "help") →
    (rest : List ℕ) × (xs ≡ codes "help" ++ rest)
looks_long found [] is e = absurd (true≢false (ap is_some (sym e ∙ ap (option_map (λ q. q.0)) is)))
looks_long found (x ∷ xs) is e =
    help_name (λ y. y == 61) (x ∷ xs) (same_Some (before_first (λ y. y == 61) (x ∷ xs)) (codes "help") (sym (ap (option_map (λ q. q.0)) is) ∙ e))

looks_short : (found : Option Text) (xs : List ℕ) → found ≡ short_of_rest xs → option_and_then (λ flags. slice_get (chars flags) 0) found ≡ Some 104 →
    (slice_get xs 0 ≢ Some 45) × (list_any (λ x. x == 104) (chars xs) ≡ true)
looks_short found [] is e = absurd (true≢false (ap is_some (sym e ∙ ap (option_and_then (λ flags. slice_get (chars flags) 0)) is)))
looks_short found (x ∷ xs) is e = go (x == 45) refl (sym (ap (option_and_then (λ flags. slice_get (chars flags) 0)) is) ∙ e)
  where
    first : (cs : List ℕ) → slice_get cs 0 ≡ Some 104 → list_any (λ y. y == 104) cs ≡ true
    first [] f = absurd (true≢false (ap is_some (sym f)))
    first (c ∷ cs) f = rw (same_Some c 104 f) refl

    go : (b : Bool) → (x == 45) ≡ b → option_and_then (λ flags. slice_get (chars flags) 0) (cond b None (Some (x ∷ xs))) ≡ Some 104 →
        (slice_get (x ∷ xs) 0 ≢ Some 45) × (list_any (λ y. y == 104) (chars (x ∷ xs)) ≡ true)
    go true is h = absurd (true≢false (ap is_some (sym h)))
    go false is h = (λ same. true≢false (sym (eq-eqb x 45 (same_Some x 45 same)) ∙ is), first (chars (x ∷ xs)) h)

strip_at : (b : Bool) (c x : ℕ) (xs rest : List ℕ) → (x == c) ≡ b → cond b (Some xs) None ≡ Some rest → x ∷ xs ≡ c ∷ rest
strip_at true c x xs rest is e = ap₂ ◌∷◌ (eqb-true x c is) (same_Some xs rest e)
strip_at false c x xs rest is e = absurd (true≢false (ap is_some (sym e)))

strip_is : (c : ℕ) (xs rest : List ℕ) → strip_byte c xs ≡ Some rest → xs ≡ c ∷ rest
strip_is c [] rest e = absurd (true≢false (ap is_some (sym e)))
strip_is c (x ∷ xs) rest e = strip_at (x == c) c x xs rest refl e

and_then_some : {A B : Type 0} (f : A → Option B) (o : Option A) (y : B) → option_and_then f o ≡ Some y → (x : A) × (o ≡ Some x) × (f x ≡ Some y)
and_then_some f None y e = absurd (true≢false (ap is_some (sym e)))
and_then_some f (Some x) y e = (x, refl, e)

map_some : {A B : Type 0} (f : A → B) (o : Option A) (y : B) → option_map f o ≡ Some y → (x : A) × (o ≡ Some x) × (f x ≡ y)
map_some f None y e = absurd (true≢false (ap is_some (sym e)))
map_some f (Some x) y e = (x, refl, same_Some (f x) y e)

looks : (word : Text) → AsksForHelp word → LooksForHelp word
looks word (inl e) =
    let named = map_some (λ (q : Text × Option Text). q.0) (long_of word) (codes "help") e in
    let two = and_then_some long_of_rest (option_and_then (strip_byte 45) (strip_byte 45 word)) named.0 named.1 in
    let one = and_then_some (strip_byte 45) (strip_byte 45 word) two.0 two.1 in
    let help = looks_long (Some named.0) two.0 (sym two.2) (ap Some named.2) in
    inl (help.0, strip_is 45 word one.0 one.1 ∙ ap (λ (t : Text). 45 ∷ t) (strip_is 45 one.0 two.0 one.2 ∙ ap (λ (t : Text). 45 ∷ t) help.1))
looks word (inr e) =
    let flags = and_then_some (λ (t : Text). slice_get (chars t) 0) (short_of word) 104 e in
    let one = and_then_some short_of_rest (strip_byte 45 word) flags.0 flags.1 in
    let short = looks_short (Some flags.0) one.0 (sym one.2) flags.2 in
    inr (one.0, strip_is 45 word one.0 one.1, short.0, short.1)

pub help_looks_so : (words : List Text) → IsAmong kind.DisplayHelp (fault_of line_app words) → Any LooksForHelp words
help_looks_so words h =
    let some = help_is_asked words h in
    (some.0, some.1, some.2, some.3, looks some.1 some.4)
