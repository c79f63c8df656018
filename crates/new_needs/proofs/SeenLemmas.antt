-- What was seen, one after another, and what of it is new.
use Rattle.std.proofs.Common.{◌≡◌, ◌<◌, ◌+◌, ◌∙◌, ℕ, Bool, true, false, cond, not, ◌&&◌, ◌||◌, if◌then◌else◌, List, [], ◌∷◌, ◌++◌, length, take, get_or, Some, refl, sym, ap, arith, inl, inr}
use Rattle.std.specs.Prelude.{slice_get}
use Rattle.std.specs.Borrow.{Bor}
use Rattle.std.specs.Cmp.{both_tied}
use Rattle.std.specs.Cmp.Lexicographic.{slice_cmp}
use Rattle.std.specs.List.{flat_map, list_any, range_with_len}
use Rattle.std.specs.Ordering.{is_eq, nat_cmp}
use Rattle.std.specs.Str.{bytes_eq}
use Rattle.std.proofs.lemmas.Bool.{cases_Bool}
use Rattle.std.proofs.lemmas.List.{append-nil, append_assoc, length_push, map-append, take_all, take_more, take-append-le}
use Rattle.std.proofs.lemmas.List.Folds.{list_any-append}
use Rattle.std.proofs.lemmas.Grind.{flat_map-append}
use Rattle.std.proofs.lemmas.Map.Text.{is_eq-slice_cmp}
use Rattle.abi_base.proofs.lemmas.Lists.{slice_get_last, slice_get-before}
use Rattle.abi_base.proofs.lemmas.Ranges.{below_more}
use Rattle.abi_base.proofs.lemmas.Bools.{not_is_true, not_is_false}
use Rattle.new_needs.proofs.lemmas.Ranges.{flat_map-same}
use Rattle.new_needs.specs.declared.kept.Needed.{Needed}
use Rattle.new_needs.specs.Lacking.{is_among, is_named, kept_if_new, lacking, lacking_at}
use Rattle.new_needs.specs.Needed.{PlainNeeded}
use Rattle.new_needs.specs.Plain.{plain_all, plain_needed}
use Rattle.new_needs.specs.Seen.{AreSeen, SeenSet, has_seen, names_cmp}

-- ---- one more of the new list

module _ (old xs : List PlainNeeded) (x : PlainNeeded) where
  front : (i : ℕ) → i < length xs → lacking_at old (xs ++ x ∷ []) i ≡ lacking_at old xs i
  front i lt =
      ap (λ (before : List PlainNeeded). kept_if_new (old ++ before) (slice_get (xs ++ x ∷ []) i)) (take-append-le i xs (x ∷ []) (omega arith))
      ∙ ap (kept_if_new (old ++ take i xs)) (slice_get-before xs (x ∷ []) i lt)

  last : lacking_at old (xs ++ x ∷ []) (length xs) ≡ kept_if_new (old ++ xs) (Some x)
  last =
      ap (λ (before : List PlainNeeded). kept_if_new (old ++ before) (slice_get (xs ++ x ∷ []) (length xs))) (take-append-le (length xs) xs (x ∷ []) (omega arith) ∙ take_all (length xs) xs (omega arith))
      ∙ ap (kept_if_new (old ++ xs)) (slice_get_last xs x)

  lacking_push : lacking old (xs ++ x ∷ []) ≡ lacking old xs ++ kept_if_new (old ++ xs) (Some x)
  unfolding lacking
  lacking_push =
      ap (λ n. flat_map (lacking_at old (xs ++ x ∷ [])) (range_with_len 0 n)) (length_push xs x) ∙ ap (flat_map (lacking_at old (xs ++ x ∷ []))) (below_more (length xs))
      ∙ flat_map-append (lacking_at old (xs ++ x ∷ [])) (range_with_len 0 (length xs)) (length xs ∷ [])
      ∙ ap (λ (ns : List PlainNeeded). ns ++ flat_map (lacking_at old (xs ++ x ∷ [])) (length xs ∷ [])) (flat_map-same (lacking_at old (xs ++ x ∷ [])) (lacking_at old xs) 0 (length xs) (λ k lt. front k (omega (arith, lt))))
      ∙ ap (λ (ns : List PlainNeeded). lacking old xs ++ ns) (append-nil (lacking_at old (xs ++ x ∷ []) (length xs)) ∙ last)

  kept_new : (kept after : List PlainNeeded) (new : Bool) → kept ≡ lacking old xs → new ≡ not (is_among (old ++ xs) x) → new ≡ true → after ≡ kept ++ x ∷ [] → after ≡ lacking old (xs ++ x ∷ [])
  kept_new kept after new are is there grown =
      let unseen : is_among (old ++ xs) x ≡ false = not_is_true (is_among (old ++ xs) x) (sym is ∙ there) in
      let here : kept_if_new (old ++ xs) (Some x) ≡ x ∷ [] = ap (λ (b : Bool). if b then [] else x ∷ []) unseen in
      grown ∙ ap (λ (ns : List PlainNeeded). ns ++ x ∷ []) are ∙ ap (λ (ns : List PlainNeeded). lacking old xs ++ ns) (sym here) ∙ sym lacking_push

  kept_old : (kept : List PlainNeeded) (new : Bool) → kept ≡ lacking old xs → new ≡ not (is_among (old ++ xs) x) → new ≡ false → kept ≡ lacking old (xs ++ x ∷ [])
  kept_old kept new are is gone =
      let seen : is_among (old ++ xs) x ≡ true = not_is_false (is_among (old ++ xs) x) (sym is ∙ gone) in
      let here : kept_if_new (old ++ xs) (Some x) ≡ [] = ap (λ (b : Bool). if b then [] else x ∷ []) seen in
      are ∙ sym (lacking_push ∙ ap (λ (ns : List PlainNeeded). lacking old xs ++ ns) here ∙ append-nil (lacking old xs))

pub lacking_none : (old : List PlainNeeded) → lacking old [] ≡ []
unfolding lacking
lacking_none old = refl

-- ---- what was seen

cond_or : (a b : Bool) → cond a true b ≡ (b || a)
cond_or true true = refl
cond_or true false = refl
cond_or false true = refl
cond_or false false = refl

any_one : (p : PlainNeeded → Bool) (x : PlainNeeded) → list_any p (x ∷ []) ≡ p x
any_one p x = elim (cases_Bool (p x)) [ inl passes ↦ rw passes refl | inr fails ↦ rw fails refl ]

-- two names with what they are of compare equal exactly to equal ones
equal_names : (name of other_name other_of : List ℕ) → is_eq (names_cmp name of other_name other_of) ≡ (bytes_eq name other_name && bytes_eq of other_of)
equal_names name of other_name other_of =
    sym (both_tied (bytes_eq name other_name) (bytes_eq of other_of) (slice_cmp nat_cmp name other_name) (slice_cmp nat_cmp of other_of) (sym (is_eq-slice_cmp name other_name)) (sym (is_eq-slice_cmp of other_of)))

abbrev key : List ℕ → Bor (List ℕ)
key q = record { ref_ptr = (0, 0); now = q }

pub seen_none : (set : SeenSet) → set.keys ≡ [] → AreSeen [] set
seen_none set none = record { each = λ name of. ap (list_any (λ (k : Bor (List ℕ) × Bor (List ℕ)). is_eq (names_cmp name of k.0.now k.1.now))) none }

pub seen_more : (set next : SeenSet) (those : List PlainNeeded) (x : PlainNeeded)
    → ((q : Bor (List ℕ) × Bor (List ℕ)) → has_seen next q.0.now q.1.now ≡ cond (is_eq (names_cmp x.name x.of q.0.now q.1.now)) true (has_seen set q.0.now q.1.now))
    → AreSeen those set → AreSeen (those ++ x ∷ []) next
seen_more set next those x updates so_far = record {
  each = λ name of.
      updates (key name, key of) ∙ ap (λ (b : Bool). cond b true (has_seen set name of)) (equal_names x.name x.of name of)
      ∙ ap (cond (bytes_eq x.name name && bytes_eq x.of of) true) (so_far.each name of)
      ∙ cond_or (bytes_eq x.name name && bytes_eq x.of of) (list_any (is_named name of) those)
      ∙ sym (list_any-append (is_named name of) those (x ∷ []) ∙ ap (λ (b : Bool). list_any (is_named name of) those || b) (any_one (is_named name of) x));
}

pub seen_new : (set : SeenSet) (those : List PlainNeeded) (x : PlainNeeded) (new : Bool) → new ≡ not (has_seen set x.name x.of) → AreSeen those set → new ≡ not (is_among those x)
seen_new set those x new added so_far = added ∙ ap not (so_far.each x.name x.of)

-- ---- item by item

one_more : (list : List Needed) (i : ℕ) (d : Needed) → i < length list → plain_all (take (i + 1) list) ≡ plain_all (take i list) ++ plain_needed (get_or list i d) ∷ []
one_more list i d lt = ap plain_all (take_more list i d lt) ∙ map-append plain_needed (take i list) (get_or list i d ∷ [])

module _ (list : List Needed) (i : ℕ) (d : Needed) (lt : i < length list) where
  -- the first items were seen, behind those before
  pub seen_so_far : (before : List PlainNeeded) (next : SeenSet) → AreSeen ((before ++ plain_all (take i list)) ++ plain_needed (get_or list i d) ∷ []) next → AreSeen (before ++ plain_all (take (i + 1) list)) next
  seen_so_far before next seen =
      let same : (before ++ plain_all (take i list)) ++ plain_needed (get_or list i d) ∷ [] ≡ before ++ plain_all (take (i + 1) list) =
      append_assoc before (plain_all (take i list)) (plain_needed (get_or list i d) ∷ []) ∙ ap (λ (l : List PlainNeeded). before ++ l) (sym (one_more list i d lt)) in
      rw same at seen

  pub kept_so_far : (old : List PlainNeeded) (kept after : List Needed) (new : Bool) → plain_all kept ≡ lacking old (plain_all (take i list))
      → new ≡ not (is_among (old ++ plain_all (take i list)) (plain_needed (get_or list i d))) → new ≡ true → after ≡ kept ++ get_or list i d ∷ [] → plain_all after ≡ lacking old (plain_all (take (i + 1) list))
  kept_so_far old kept after new are is there grown =
      kept_new old (plain_all (take i list)) (plain_needed (get_or list i d)) (plain_all kept) (plain_all after) new are is there (ap plain_all grown ∙ map-append plain_needed kept (get_or list i d ∷ []))
      ∙ ap (lacking old) (sym (one_more list i d lt))

  pub left_so_far : (old : List PlainNeeded) (kept : List Needed) (new : Bool) → plain_all kept ≡ lacking old (plain_all (take i list))
      → new ≡ not (is_among (old ++ plain_all (take i list)) (plain_needed (get_or list i d))) → new ≡ false → plain_all kept ≡ lacking old (plain_all (take (i + 1) list))
  left_so_far old kept new are is gone =
      kept_old old (plain_all (take i list)) (plain_needed (get_or list i d)) (plain_all kept) new are is gone ∙ ap (lacking old) (sym (one_more list i d lt))
