-- The first exports of names and of stems.
use Rattle.std.proofs.Common.{◌≡◌, ℕ, zero, suc, ◌+◌, ◌<◌, ◌≤◌, Bool, true, false, cond, List, [], ◌∷◌, ◌++◌, length, take, get_or, Option, Some, None, refl, sym, ◌∙◌, ap, subst, arith, length-append, length-take-le, ⊎_elim}
use Rattle.std.specs.Prelude.{Contains, position, not, nat_lt, is_some, slice_get, ◌==◌, if◌then◌else◌}
use Rattle.std.specs.Borrow.{Bor}
use Rattle.std.specs.Cmp.Lexicographic.{slice_cmp}
use Rattle.std.specs.List.{position_or_len}
use Rattle.std.specs.Option.{option_or}
use Rattle.std.specs.Ordering.{is_eq, nat_cmp}
use Rattle.std.specs.Str.{bytes_eq}
use Rattle.std.proofs.lemmas.Bool.Decides.{nat_tests}
use Rattle.std.proofs.lemmas.Bool.{cases_lt}
use Rattle.std.proofs.lemmas.List.{take_more, get_or-map, length-map}
use Rattle.std.proofs.lemmas.List.Sums.{prefix_len-le-length}
use Rattle.std.proofs.lemmas.List.Folds.{position_or_len_push}
use Rattle.std.proofs.lemmas.Map.Text.{is_eq-slice_cmp}
use Rattle.std.proofs.lemmas.Option.{get_or_from_slice_get, slice_get-get_or, slice_get_within, none-some, same_Some}
use Rattle.std.proofs.lemmas.Slice.Eq.{bytes_eq-Decides}
use Rattle.abi_base.proofs.lemmas.Lists.{position_is, position_none}
use Rattle.abi_base.proofs.lemmas.Cases.{bool_cases}
use Rattle.abi_types.specs.declared.export.Export.{Export}
use Rattle.abi_types.specs.Exports.{PlainExport}
use Rattle.abi_types.specs.Names.{AreNamed, IsNamed}
use Rattle.abi_types.specs.Plain.{plain_export, plain_exports}
use Rattle.elf_bind.specs.Binding.{is_named}
use Rattle.side_notes.specs.Added.{has_export}
use Rattle.side_notes.specs.Places.{Places, place_under}
use Rattle.side_notes.specs.Stems.{stem}
use Rattle.side_notes.specs.Successors.{AreKin, KeepsFirst, is_kin}

abbrev key : List ℕ → Bor (List ℕ)
key q = record { ref_ptr = (0, 0); now = q }

-- ---- what an insert gives

or_none : (o : Option ℕ) → o ≡ option_or o None
or_none None = refl
or_none (Some x) = refl

-- a stem that has no place takes it
pub first_kept : (before after : Places) (s : List ℕ) (place : ℕ) → place_under before s ≡ None
    → ((q : Bor (List ℕ)) → place_under after q.now ≡ cond (is_eq (slice_cmp nat_cmp s q.now)) (Some place) (place_under before q.now)) → KeepsFirst before (bytes_eq s) place after
first_kept before after s place none adds q =
    adds (key q) ∙ ap (λ (b : Bool). cond b (Some place) (place_under before q)) (is_eq-slice_cmp s q) ∙ bool_cases (bytes_eq s q) (λ same.
    let is : s ≡ q = (bytes_eq-Decides s q).0 same in
    let here : place_under before q ≡ None = subst (λ (n : List ℕ). place_under before n ≡ None) is none in
    rw (same, here) refl) (λ apart. rw apart (or_none (place_under before q)))

some_or : (o other : Option ℕ) → is_some o ≡ true → o ≡ option_or o other
some_or None other there = absurd cc
some_or (Some x) other there = refl

-- a stem that has a place keeps it
pub kept_before : (places : Places) (s : List ℕ) (place : ℕ) (found : Bool) → found ≡ is_some (place_under places s) → found ≡ true → KeepsFirst places (bytes_eq s) place places
kept_before places s place found is holds q =
    bool_cases (bytes_eq s q) (λ same.
    let equal : s ≡ q = (bytes_eq-Decides s q).0 same in
    let there : is_some (place_under places q) ≡ true = subst (λ (n : List ℕ). is_some (place_under places n) ≡ true) equal (sym is ∙ holds) in
    some_or (place_under places q) (if bytes_eq s q then Some place else None) there) (λ apart. rw apart (or_none (place_under places q)))

-- an export that the old library has takes no place
pub kept_known : (old : List PlainExport) (places : Places) (f : PlainExport) (place : ℕ) (known : Bool) → known ≡ has_export old f → known ≡ true → KeepsFirst places (λ (s : List ℕ). is_kin old s f) place places
kept_known old places f place known is holds q =
    let there : has_export old f ≡ true = sym is ∙ holds in
    rw there (or_none (place_under places q))

-- and one that it does not have takes the place of its stem
pub kept_added : (old : List PlainExport) (before after : Places) (f : PlainExport) (s : List ℕ) (place : ℕ) (known : Bool) → known ≡ has_export old f → known ≡ false → s ≡ stem f.name
    → KeepsFirst before (bytes_eq s) place after → KeepsFirst before (λ (q : List ℕ). is_kin old q f) place after
kept_added old before after f s place known is fails same keeps q =
    let new : has_export old f ≡ false = sym is ∙ fails in
    let P : List ℕ → Type 0 = λ n. place_under after q ≡ option_or (place_under before q) (if bytes_eq n q then Some place else None) in
    rw new (subst P same (keeps q))

-- ---- positions

at_within : (n l : ℕ) → n < l → cond (nat_lt n l) (Some n) None ≡ Some n
at_within n l inside = grind (arith, nat_tests)

at_end : (n l : ℕ) → l ≤ n → cond (nat_lt n l) (Some n) None ≡ None
at_end n l past = grind (arith, nat_tests)

push_front : (n l b : ℕ) → n < l → cond (n == l) (l + b) n ≡ n
push_front n l b inside = grind (arith, nat_tests)

push_end : (n l b : ℕ) → n ≡ l → cond (n == l) (l + b) n ≡ l + b
push_end n l b past = grind (arith, nat_tests)

module _ {X : Type 0} (p : X → Bool) (xs : List X) (x : X) where
  longer : length (xs ++ x ∷ []) ≡ length xs + 1
  longer = length-append xs (x ∷ [])

  push_inside : position_or_len p xs < length xs → position p (xs ++ x ∷ []) ≡ option_or (position p xs) (cond (p x) (Some (length xs)) None)
  push_inside inside =
      let e : position_or_len p (xs ++ x ∷ []) ≡ position_or_len p xs = position_or_len_push p xs x ∙ push_front (position_or_len p xs) (length xs) (cond (p x) 0 1) inside in
      let more : position_or_len p (xs ++ x ∷ []) < length (xs ++ x ∷ []) = omega (arith, longer, e) in
      let here : position p xs ≡ Some (position_or_len p xs) = at_within (position_or_len p xs) (length xs) inside in
      at_within (position_or_len p (xs ++ x ∷ [])) (length (xs ++ x ∷ [])) more ∙ ap (λ (n : ℕ). Some n) e
      ∙ ap (λ (o : Option ℕ). option_or o (cond (p x) (Some (length xs)) None)) (sym here)

  push_past : position_or_len p xs ≡ length xs → position p (xs ++ x ∷ []) ≡ option_or (position p xs) (cond (p x) (Some (length xs)) None)
  push_past past =
      let e : position_or_len p (xs ++ x ∷ []) ≡ length xs + cond (p x) 0 1 = position_or_len_push p xs x ∙ push_end (position_or_len p xs) (length xs) (cond (p x) 0 1) past in
      let none : position p xs ≡ None = at_end (position_or_len p xs) (length xs) (omega (arith, past)) in
      bool_cases (p x) (λ holds.
      let f : position_or_len p (xs ++ x ∷ []) ≡ length xs = omega (arith, e ∙ ap (λ (b : Bool). length xs + cond b 0 1) holds) in
      at_within (position_or_len p (xs ++ x ∷ [])) (length (xs ++ x ∷ [])) (omega (arith, longer, f)) ∙ ap (λ (n : ℕ). Some n) f
      ∙ sym (ap (λ (o : Option ℕ). option_or o (cond (p x) (Some (length xs)) None)) none ∙ ap (λ (b : Bool). cond b (Some (length xs)) None) holds)) (λ other.
      let f : position_or_len p (xs ++ x ∷ []) ≡ length xs + 1 = e ∙ ap (λ (b : Bool). length xs + cond b 0 1) other in
      at_end (position_or_len p (xs ++ x ∷ [])) (length (xs ++ x ∷ [])) (omega (arith, longer, f))
      ∙ sym (ap (λ (o : Option ℕ). option_or o (cond (p x) (Some (length xs)) None)) none ∙ ap (λ (b : Bool). cond b (Some (length xs)) None) other))

  position_push : position p (xs ++ x ∷ []) ≡ option_or (position p xs) (cond (p x) (Some (length xs)) None)
  position_push = ⊎_elim push_inside (λ past. push_past (omega (arith, past, prefix_len-le-length (λ y. not (p y)) xs))) (cases_lt (position_or_len p xs) (length xs))

-- ---- the exports of the code, one after another

next_export : (exports : List Export) (i : ℕ) (d : Export) → i < length exports → take (i + 1) (plain_exports exports) ≡ take i (plain_exports exports) ++ plain_export (get_or exports i d) ∷ []
next_export exports i d inside =
    let within : i < length (plain_exports exports) = omega (arith, inside, length-map exports plain_export) in
    take_more (plain_exports exports) i (plain_export d) within
    ∙ ap (λ (e : PlainExport). take i (plain_exports exports) ++ e ∷ []) (get_or-map plain_export exports i d (plain_export d) inside)

first_longer : (p : PlainExport → Bool) (before : List PlainExport) (e : PlainExport) (i : ℕ) → length before ≡ i → (old new : Option ℕ) → old ≡ position p before
    → new ≡ option_or old (if p e then Some i else None) → new ≡ position p (before ++ e ∷ [])
first_longer p before e i long old new was is =
    is ∙ ap (λ (o : Option ℕ). option_or o (if p e then Some i else None)) was
    ∙ ap (λ (n : ℕ). option_or (position p before) (if p e then Some n else None)) (sym long) ∙ sym (position_push p before e)

-- one more export
pub kin_more : (old : List PlainExport) (exports : List Export) (before after : Places) (i : ℕ) (d : Export) → i < length exports → AreKin old (take i (plain_exports exports)) before
    → KeepsFirst before (λ (s : List ℕ). is_kin old s (plain_export (get_or exports i d))) i after → AreKin old (take (i + 1) (plain_exports exports)) after
kin_more old exports before after i d inside were keeps s =
    let long : length (take i (plain_exports exports)) ≡ i = length-take-le i (plain_exports exports) (omega (arith, inside, length-map exports plain_export)) in
    first_longer (is_kin old s) (take i (plain_exports exports)) (plain_export (get_or exports i d)) i long (place_under before s) (place_under after s) (were s) (keeps s)
    ∙ ap (position (is_kin old s)) (sym (next_export exports i d inside))

-- ---- the first export of a name

module _ (exports : List PlainExport) (name : List ℕ) (places : List ℕ) (named : AreNamed exports name places) where
  -- an export that passes stands at one of the places
  placed : (k : ℕ) (e : PlainExport) → slice_get exports k ≡ Some e → is_named name e ≡ true → Contains places k
  placed k e at passes = (named.exact k).1 (record { exported = e; at = at; named = (bytes_eq-Decides e.name name).0 passes })

  below : (first k : ℕ) → slice_get places 0 ≡ Some first → Contains places k → first ≤ k
  below first k at (zero, lt, is) =
      let there : slice_get places 0 ≡ Some k = slice_get-get_or places 0 k lt ∙ ap Some is in
      let same = same_Some first k (sym at ∙ there) in
      omega (arith, same)
  below first k at (suc j, lt, is) =
      let there : slice_get places (suc j) ≡ Some k = slice_get-get_or places (suc j) k lt ∙ ap Some is in
      let later = named.ascend 0 (suc j) first k (omega arith) at there in
      omega (arith, later)

  pub first_at : (first : ℕ) → slice_get places 0 ≡ Some first → position (is_named name) exports ≡ Some first
  first_at first at =
      let lt = slice_get_within places 0 first at in
      let there : IsNamed exports name first = (named.exact first).0 (0, lt, get_or_from_slice_get places 0 first first at) in
      let e : PlainExport = there.exported in
      let inside = slice_get_within exports first e there.at in
      let here : is_named name (get_or exports first e) ≡ true = ap (is_named name) (get_or_from_slice_get exports first e e there.at) ∙ (bytes_eq-Decides e.name name).1 there.named in
      let before : (k : ℕ) → k < first → is_named name (get_or exports k e) ≡ false = λ k earlier.
      bool_cases (is_named name (get_or exports k e)) (λ passes.
      let at_k = slice_get-get_or exports k e (omega (arith, earlier, inside)) in
      let not_before = below first k at (placed k (get_or exports k e) at_k passes) in
      absurd (omega (arith, not_before, earlier))) (λ fails. fails) in
      position_is (is_named name) exports first e inside before here

  pub none_named : slice_get places 0 ≡ None → position (is_named name) exports ≡ None
  none_named none = go exports refl where
    go : (es : List PlainExport) → exports ≡ es → position (is_named name) exports ≡ None
    go [] is = rw is refl
    go (d ∷ es) is =
        let fails : (k : ℕ) → k < length exports → is_named name (get_or exports k d) ≡ false = λ k lt.
        bool_cases (is_named name (get_or exports k d)) (λ passes.
        let there = placed k (get_or exports k d) (slice_get-get_or exports k d lt) passes in
        let first = slice_get-get_or places 0 k (omega (arith, there.1)) in
        absurd (none-some (get_or places 0 k) (sym none ∙ first))) (λ fails. fails) in
        position_none (is_named name) exports d fails
