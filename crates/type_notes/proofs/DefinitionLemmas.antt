-- The definitions of each name, as loops over entries find them, and texts that grow entry by entry.
use Rattle.std.proofs.Common.{◌≡◌, ◌↔◌, ◌<◌, ◌≤◌, ◌+◌, ◌-◌, ◌∙◌, ℕ, zero, suc, Bool, true, false, cond, List, [], ◌∷◌, ◌++◌, length, take, map, get_or, Option, Some, None, ap, sym, arith, refl, inl, inr}
use Rattle.std.specs.Prelude.{◌||◌, filter, position, is_some, codes, if◌then◌else◌, Contains}
use Rattle.std.specs.BTreeMap.{get_by}
use Rattle.std.specs.Borrow.{Bor}
use Rattle.std.specs.Cmp.Lexicographic.{slice_cmp}
use Rattle.std.specs.List.{flat_map, range_with_len, All}
use Rattle.std.specs.Option.{IfSome}
use Rattle.std.specs.Ordering.{is_eq, nat_cmp}
use Rattle.std.specs.Str.{bytes_eq}
use Rattle.std.proofs.lemmas.Bool.{cases_Bool}
use Rattle.std.proofs.lemmas.List.Folds.{list_any_more}
use Rattle.std.proofs.lemmas.Grind.{flat_map-append}
use Rattle.std.proofs.lemmas.List.{append-nil, append_assoc, take_more}
use Rattle.std.proofs.lemmas.List.Elements.{All-append, All-filter, All-head, All-nil, Contains-get_or, filter-append}
use Rattle.std.proofs.lemmas.Map.Text.{is_eq-slice_cmp}
use Rattle.std.proofs.lemmas.Slice.Eq.{bytes_eq-Decides}
use Rattle.abi_base.proofs.lemmas.Ranges.{below_more}
use Rattle.abi_base.proofs.lemmas.Places.{places, places_more}
use Rattle.dwarf_tree.specs.Parents.{StandsBelow}
use Rattle.dwarf_tree.specs.Trees.{PlainTree, children_of, is_tagged}
use Rattle.dwarf_entries.specs.Addresses.{tag_at}
use Rattle.dwarf_entries.specs.Debug.{PlainDwarf}
use Rattle.type_reach.specs.References.{Type_, role_of, tagged_children, type_of}
use Rattle.type_notes.specs.declared.difference.Difference.{Difference}
use Rattle.type_notes.specs.DefinedElsewhere.{Named, TextSet, at_top_of, definitions_of, definitions_named, defines, first_in, first_of, has_definitions, has_text, is_among, is_unit_tag, list_or_none, numbers_under, tops_below, tops_of}
use Rattle.type_notes.specs.DefinitionTexts.{goes_on, type_text, type_word}
use Rattle.pair_rules.proofs.lemmas.Truths.{cond_or}
use Rattle.type_notes.proofs.ChainLemmas.{one_less, none_left}

abbrev key : List ℕ → Bor (List ℕ)
key q = record { ref_ptr = (0, 0); now = q }

-- ---- the map of names

-- what stands under each name once the list under one name is taken out
pub taken_others : (old new : Named) (name : List ℕ) → ((q : Bor (List ℕ)) → get_by (λ k. slice_cmp nat_cmp q.now k.now) new ≡ cond (is_eq (slice_cmp nat_cmp name q.now)) None (get_by (λ k. slice_cmp nat_cmp q.now k.now) old))
    → (q : List ℕ) → numbers_under new q ≡ (if bytes_eq name q then [] else numbers_under old q)
taken_others old new name updates q =
    ap list_or_none (updates (key q)) ∙ ap (λ (b : Bool). list_or_none (cond b None (get_by (λ k. slice_cmp nat_cmp q k.now) old))) (is_eq-slice_cmp name q) ∙ elim (cases_Bool (bytes_eq name q)) [
      | inl same ↦ rw same refl
      | inr apart ↦ rw apart refl
    ]

-- what stands under each name once the list is put back with one number more
pub kept : (old mid new : Named) (name list grown : List ℕ) (number : ℕ) → list ≡ numbers_under old name → grown ≡ list ++ number ∷ []
    → ((q : List ℕ) → numbers_under mid q ≡ (if bytes_eq name q then [] else numbers_under old q))
    → ((q : Bor (List ℕ)) → get_by (λ k. slice_cmp nat_cmp q.now k.now) new ≡ cond (is_eq (slice_cmp nat_cmp name q.now)) (Some grown) (get_by (λ k. slice_cmp nat_cmp q.now k.now) mid))
    → (q : List ℕ) → numbers_under new q ≡ numbers_under old q ++ (if bytes_eq name q then number ∷ [] else [])
kept old mid new name list grown number is pushed others updates q =
    ap list_or_none (updates (key q)) ∙ ap (λ (b : Bool). list_or_none (cond b (Some grown) (get_by (λ k. slice_cmp nat_cmp q k.now) mid))) (is_eq-slice_cmp name q) ∙ elim (cases_Bool (bytes_eq name q)) [
      | inl same ↦ rw same (pushed ∙ ap (λ (l : List ℕ). l ++ number ∷ []) (is ∙ ap (numbers_under old) ((bytes_eq-Decides name q).0 same)))
      | inr apart ↦ rw apart (others q ∙ ap (λ (b : Bool). if b then [] else numbers_under old q) apart ∙ sym (append-nil (numbers_under old q)))
    ]

-- ---- searches

-- one entry more of a list
pub listed_more : (p : ℕ → Bool) (xs : List ℕ) (k : ℕ) (d : ℕ) → k < length xs → (first so_far next : List ℕ) → so_far ≡ first ++ filter p (take k xs)
    → next ≡ so_far ++ (if p (get_or xs k d) then get_or xs k d ∷ [] else []) → next ≡ first ++ filter p (take (k + 1) xs)
listed_more p xs k d lt first so_far next was is =
    is ∙ ap (λ (l : List ℕ). l ++ filter p (get_or xs k d ∷ [])) was ∙ append_assoc first (filter p (take k xs)) (filter p (get_or xs k d ∷ []))
    ∙ ap (λ (l : List ℕ). first ++ l) (sym (filter-append p (take k xs) (get_or xs k d ∷ [])) ∙ ap (filter p) (sym (take_more xs k d lt)))

-- the tops of one unit more
pub tops_more : (p : ℕ → Bool) (t : PlainTree) (tag n : ℕ) (so_far next : List ℕ) → so_far ≡ filter p (tops_below t tag n) → next ≡ so_far ++ filter p (at_top_of t tag n)
    → next ≡ filter p (tops_below t tag (n + 1))
tops_more p t tag n so_far next was is =
    is ∙ ap (λ (l : List ℕ). l ++ filter p (at_top_of t tag n)) was ∙ sym (filter-append p (tops_below t tag n) (at_top_of t tag n))
    ∙ ap (filter p) (ap (λ (xs : List ℕ). tops_below t tag n ++ xs) (sym (append-nil (at_top_of t tag n))) ∙ sym (flat_map-append (at_top_of t tag) (range_with_len 0 n) (n ∷ [])) ∙ sym (ap (flat_map (at_top_of t tag)) (below_more n)))

-- ---- what is found is an entry

abbrev pub StandOneDeeper : Type 0
StandOneDeeper = (t : PlainTree) (e i : ℕ) → e < length t.entries → Contains (children_of t e) i ↔ StandsBelow t e i

abbrev IsInside : PlainTree → ℕ → Type 0
IsInside t e = e < length t.entries

top_inside : StandOneDeeper → (t : PlainTree) (tag root : ℕ) → root < length t.entries → All (IsInside t) (at_top_of t tag root)
unfolding at_top_of tagged_children
top_inside deeper t tag root inside = elim_unit (is_unit_tag (tag_at t root)) where
  below : All (IsInside t) (filter (is_tagged t tag) (children_of t root))
  below = All-filter (is_tagged t tag) (IsInside t) (children_of t root) (λ k d lt. ((deeper t root _ inside).0 (Contains-get_or (children_of t root) k d lt)).inside)

  elim_unit : (b : Bool) → All (IsInside t) (if b then filter (is_tagged t tag) (children_of t root) else [])
  elim_unit true = below
  elim_unit false = All-nil (IsInside t)

tops_inside : StandOneDeeper → (t : PlainTree) (tag a n : ℕ) → a + n ≤ length t.entries → All (IsInside t) (flat_map (at_top_of t tag) (range_with_len a n))
tops_inside deeper t tag a zero le = All-nil (IsInside t)
tops_inside deeper t tag a (suc n) le =
    All-append (IsInside t) (at_top_of t tag a) (flat_map (at_top_of t tag) (range_with_len (a + 1) n)) (top_inside deeper t tag a (omega arith)) (tops_inside deeper t tag (a + 1) n (omega arith))

definitions_inside : StandOneDeeper → (d : PlainDwarf) (tag : ℕ) (name : List ℕ) → All (IsInside d.tree) (definitions_of d tag name)
unfolding definitions_of
definitions_inside deeper d tag name = All-filter (defines d name) (IsInside d.tree) (tops_of d.tree tag) (tops_inside deeper d.tree tag 0 (length d.tree.entries) (omega arith))

pub named_inside : StandOneDeeper → (d : PlainDwarf) (tag : ℕ) (name : Option (List ℕ)) → All (IsInside d.tree) (definitions_named d tag name)
named_inside deeper d tag None = All-nil (IsInside d.tree)
named_inside deeper d tag (Some name) = elim_tag (has_definitions tag) where
  elim_tag : (b : Bool) → All (IsInside d.tree) (if b then definitions_of d tag name else [])
  elim_tag true = definitions_inside deeper d tag name
  elim_tag false = All-nil (IsInside d.tree)

-- the first of what is found
pub first_inside : (t : PlainTree) (xs : List ℕ) → All (IsInside t) xs → IfSome (first_in xs) (IsInside t)
first_inside t [] all = tt
first_inside t (x ∷ xs) all = All-head (IsInside t) x xs all

-- ---- texts that are none of others

tests_same : {X : Type 0} (p q : X → Bool) → ((x : X) → p x ≡ q x) → p ≡ q
tests_same p q same = λ i x. same x i

pub position_same : {X : Type 0} (p q : X → Bool) → ((x : X) → p x ≡ q x) → (xs : List X) → position p xs ≡ position q xs
position_same p q same xs = ap (λ r. position r xs) (tests_same p q same)

-- one text more in a set
pub among_more : (old new : TextSet) (texts : List (List ℕ)) (k : ℕ) (d text : List ℕ) → k < length texts → text ≡ get_or texts k d
    → ((q : Bor (List ℕ)) → has_text new q.now ≡ cond (is_eq (slice_cmp nat_cmp text q.now)) true (has_text old q.now))
    → ((q : List ℕ) → has_text old q ≡ is_among (take k texts) q) → (q : List ℕ) → has_text new q ≡ is_among (take (k + 1) texts) q
among_more old new texts k d text lt is updates so_far q =
    updates (key q) ∙ ap (λ (b : Bool). cond b true (has_text old q)) (is_eq-slice_cmp text q) ∙ ap (λ (b : Bool). cond (bytes_eq text q) true b) (so_far q) ∙ cond_or (bytes_eq text q) (is_among (take k texts) q)
    ∙ ap (λ (t : List ℕ). is_among (take k texts) q || bytes_eq t q) is ∙ sym (list_any_more (λ (t : List ℕ). bytes_eq t q) texts k d lt)

-- ---- the first difference

changes_more : (f : ℕ → Option Difference) (k n : ℕ) → k < n → f k ≡ None → first_of (map f (places k n)) ≡ first_of (map f (places (k + 1) n))
changes_more f k n lt none = rw (places_more k n lt, none) refl

none_of : (o : Option Difference) → is_some o ≡ false → o ≡ None
none_of None none = refl
none_of (Some found) none = absurd cc

pub changes_passed : (f : ℕ → Option Difference) (k n : ℕ) (o : Option Difference) → k < n → o ≡ f k → is_some o ≡ false → first_of (map f (places k n)) ≡ first_of (map f (places (k + 1) n))
changes_passed f k n o lt is none = changes_more f k n lt (sym is ∙ none_of o none)

pub changes_found : (f : ℕ → Option Difference) (k n : ℕ) (o : Option Difference) → k < n → o ≡ f k → is_some o ≡ true → o ≡ first_of (map f (places k n))
changes_found f k n None lt is found = absurd cc
changes_found f k n (Some difference) lt is found = let here : f k ≡ Some difference = sym is in rw (places_more k n lt, here) refl

-- ---- the text of a type

-- a text that grew by one part, before the rest
pub append_apart : (old word rest new : List ℕ) → new ≡ old ++ word → new ++ rest ≡ old ++ (word ++ rest)
append_apart old word rest new is = ap (λ (xs : List ℕ). xs ++ rest) is ∙ append_assoc old word rest

pub text_void : (d : PlainDwarf) (n k : ℕ) → k < n → type_text d (n - k) None ≡ codes "void"
unfolding type_text
text_void d n k h = ap (λ (m : ℕ). type_text d m None) (one_less n k h)

text_on : (d : PlainDwarf) (n k e : ℕ) → k < n → type_text d (n - k) (Some e) ≡ type_word d e ++ (if goes_on (role_of d.tree e) then type_text d (n - (k + 1)) (type_of d.tree e) else [])
unfolding type_text
text_on d n k e h = ap (λ (m : ℕ). type_text d m (Some e)) (one_less n k h)

pub text_next : (d : PlainDwarf) (n k e : ℕ) → k < n → goes_on (role_of d.tree e) ≡ true → type_text d (n - k) (Some e) ≡ type_word d e ++ type_text d (n - (k + 1)) (type_of d.tree e)
text_next d n k e h is = text_on d n k e h ∙ ap (λ (b : Bool). type_word d e ++ (if b then type_text d (n - (k + 1)) (type_of d.tree e) else [])) is

pub text_last : (d : PlainDwarf) (n k e : ℕ) → k < n → goes_on (role_of d.tree e) ≡ false → type_text d (n - k) (Some e) ≡ type_word d e
text_last d n k e h is =
    text_on d n k e h ∙ ap (λ (b : Bool). type_word d e ++ (if b then type_text d (n - (k + 1)) (type_of d.tree e) else [])) is ∙ append-nil (type_word d e)

pub text_end : (d : PlainDwarf) (n k : ℕ) (r : Type_) → n ≤ k → type_text d (n - k) r ≡ []
unfolding type_text
text_end d n k r h = ap (λ (m : ℕ). type_text d m r) (none_left n k h)
