-- Counts and positions of parts by sort and name, as they grow by one part after another.
use Rattle.std.proofs.Common.{◌≡◌, ◌<◌, ◌≤◌, ◌+◌, ℕ, Bool, true, cond, List, [], ◌∷◌, ◌++◌, Option, Some, None, length, take, get_or, count_by, refl, sym, ap, subst, ◌∙◌, inl, inr, arith, below_more}
use Rattle.std.specs.Prelude.{◌&&◌, unwrap_or, if◌then◌else◌, IsPermutation}
use Rattle.std.specs.Borrow.{Bor}
use Rattle.std.specs.Str.{bytes_eq}
use Rattle.std.specs.List.{HoldsAt}
use Rattle.std.specs.List.Sorted.{IsPartitionPoint, IsNonDecreasingBy}
use Rattle.std.specs.Option.{option_copied}
use Rattle.std.specs.declared.cmp.Ordering.{Ordering}
use Rattle.std.specs.declared.cmp.Ordering.TheVariants.{Less, Equal, Greater}
use Rattle.std.specs.BTreeMap.{get_by, is_at}
use Rattle.std.specs.Ordering.{is_eq, nat_cmp, ordering_index}
use Rattle.std.specs.Cmp.{IsTotalOrder, both_tied, unsigned_ties}
use Rattle.std.specs.Cmp.Lexicographic.{slice_cmp, lists_ties}
use Rattle.std.specs.Map.{lookup}
use Rattle.std.proofs.lemmas.Bool.{cases_lt}
use Rattle.std.proofs.lemmas.Cmp.{nat_cmp_total, nat_list_cmp_total, then_total, on_total, tied_itself}
use Rattle.std.proofs.lemmas.List.{take_more, length_push, get_or_append_left, get_or_push}
use Rattle.std.proofs.lemmas.List.Elements.{Contains-get_or}
use Rattle.std.proofs.lemmas.List.Sorted.{searchable_from_sorted, Contains-permutation, IsPermutation-sym}
use Rattle.std.proofs.lemmas.List.Sums.{sum_by_push}
use Rattle.abi_base.proofs.lemmas.Cases.{bool_cases}
use Rattle.abi_base.proofs.lemmas.Orders.{then_equal, nat_equal}
use Rattle.abi_types.specs.declared.sort.Sort.{Sort}
use Rattle.abi_types.specs.declared.sort.Sort.TheVariants as sort
use Rattle.abi_types.specs.contracts.sort.SortOrd.TheImpl.Laws as ord
use Rattle.abi_types.specs.declared.lookup.NamedPlace.{NamedPlace}
use Rattle.abi_types.specs.declared.lookup.Lookup.{Lookup}
use Rattle.abi_types.specs.Types.{PlainPart}
use Rattle.abi_types.specs.Graphs.{no_part}
use Rattle.abi_types.specs.Parts.{like, place_of, like_before}
use Rattle.abi_types.specs.Sorts.{sort_of, name_of, same_sort, sort_cmp}
use Rattle.abi_types.specs.Lookups.{Counts, name_cmp, number_cmp, count_under, part_in, IsNamedPlace, IsInOrder, IsUnder, IsFound, IsLookup}
use Rattle.abi_types.proofs.LikeLemmas.{like_is, like-sym, like_sort, like_name, like-same, count_by-agree, place_of-at, place_of-inside, place_of-passes, place_of-counts}

-- the number under a sort and a name
abbrev pub number_at : Counts → Sort → List ℕ → Option ℕ
number_at counts s n = get_by (λ key. name_cmp s n key.0 key.1.now) counts

abbrev name_key : List ℕ → Bor (List ℕ)
name_key n = record { ref_ptr = (0, 0); now = n }

abbrev nowhere : NamedPlace
nowhere = record { sort = sort.Member; name = name_key []; number = 0; place = 0 }

-- what a look-up by the sort and the name of a part gives
pub count_under_from : (counts : Counts) (part : PlainPart) (s : Sort) (n : List ℕ) (borrowed : Option (Bor ℕ)) (r : Option ℕ) (number : ℕ) → s ≡ sort_of part → n ≡ name_of part
    → option_copied borrowed ≡ number_at counts s n → r ≡ option_copied borrowed → number ≡ unwrap_or r 0 → number ≡ count_under counts part
count_under_from counts part s n borrowed r number es en eb er e =
    e ∙ ap (λ (o : Option ℕ). unwrap_or o 0) (er ∙ eb ∙ ap (λ (t : Sort). number_at counts t n) es ∙ ap (number_at counts (sort_of part)) en)

-- sorts compare equal where they are the same
sorts_tied : (s t : Sort) → same_sort s t ≡ is_eq (sort_cmp s t)
sorts_tied sort.Member sort.Member = refl
sorts_tied sort.Enumerator sort.Enumerator = refl
sorts_tied sort.Target sort.Target = refl
sorts_tied sort.Element sort.Element = refl
sorts_tied sort.Outcome sort.Outcome = refl
sorts_tied sort.Param sort.Param = refl
sorts_tied _ _ = refl

-- keys compare equal where their sorts and their names are the same
same_name_key : (s : Sort) (n : List ℕ) (t : Sort) (m : List ℕ) → is_eq (name_cmp s n t m) ≡ (same_sort s t && bytes_eq n m)
same_name_key s n t m = sym (both_tied (same_sort s t) (bytes_eq n m) (sort_cmp s t) (slice_cmp nat_cmp n m) (sorts_tied s t) (lists_ties nat_cmp unsigned_ties n m))

same_key : (q x : PlainPart) (s : Sort) (n : List ℕ) → s ≡ sort_of x → n ≡ name_of x → is_eq (name_cmp s n (sort_of q) (name_of q)) ≡ like q x
same_key q x s n es en =
    same_name_key s n (sort_of q) (name_of q)
    ∙ ap (λ (t : Sort). same_sort t (sort_of q) && bytes_eq n (name_of q)) es ∙ ap (λ (m : List ℕ). same_sort (sort_of x) (sort_of q) && bytes_eq m (name_of q)) en ∙ sym (like_is x q) ∙ like-sym x q

-- what an insert of a count gives
pub counted_up : (old new : Counts) (x : PlainPart) (s : Sort) (n : List ℕ) (number : ℕ) → s ≡ sort_of x → n ≡ name_of x → number ≡ count_under old x
    → ((key : Sort × Bor (List ℕ)) → number_at new key.0 key.1.now ≡ cond (is_eq (name_cmp s n key.0 key.1.now)) (Some (number + 1)) (number_at old key.0 key.1.now))
    → (q : PlainPart) → count_under new q ≡ count_under old q + (if like q x then 1 else 0)
counted_up old new x s n number es en er adds q =
    let e : number_at new (sort_of q) (name_of q) ≡ cond (like q x) (Some (number + 1)) (number_at old (sort_of q) (name_of q)) =
    adds (sort_of q, name_key (name_of q)) ∙ ap (λ (b : Bool). cond b (Some (number + 1)) (number_at old (sort_of q) (name_of q))) (same_key q x s n es en) in
    bool_cases (like q x) (λ same.
    let here : count_under old q ≡ count_under old x = ap (λ (t : Sort). unwrap_or (number_at old t (name_of q)) 0) (like_sort q x same) ∙ ap (λ (m : List ℕ). unwrap_or (number_at old (sort_of x) m) 0) (like_name q x same) in
    let f : count_under new q ≡ number + 1 = ap (λ (o : Option ℕ). unwrap_or o 0) (e ∙ ap (λ (b : Bool). cond b (Some (number + 1)) (number_at old (sort_of q) (name_of q))) same) in
    rw same (omega (arith, f, here, er))) (λ other.
    let f : count_under new q ≡ count_under old q = ap (λ (o : Option ℕ). unwrap_or o 0) (e ∙ ap (λ (b : Bool). cond b (Some (number + 1)) (number_at old (sort_of q) (name_of q))) other) in
    rw other (omega (arith, f)))

-- ---- one more part

count_more : (before : List PlainPart) (x : PlainPart) (q : PlainPart) (old new : ℕ) → old ≡ count_by (like q) before → new ≡ old + (if like q x then 1 else 0) → new ≡ count_by (like q) (before ++ x ∷ [])
count_more before x q old new was is = is ∙ ap (λ (n : ℕ). n + (if like q x then 1 else 0)) was ∙ sym (sum_by_push (λ y. cond (like q y) 1 0) before x)

-- what is kept after the parts before a position
pub record IsFilling (parts : List PlainPart) (i : ℕ) (counts : Counts) (numbers : List ℕ) (places : List NamedPlace) : Type 0 where
  pub counts_are : (q : PlainPart) → count_under counts q ≡ count_by (like q) (take i parts)
  pub many : length numbers ≡ i
  pub numbers_are : (j : ℕ) → j < i → get_or numbers j 0 ≡ like_before parts (part_in parts j) j
  pub many_places : length places ≡ i
  pub places_are : (d : NamedPlace) (j : ℕ) → j < i → IsNamedPlace (part_in parts j) (like_before parts (part_in parts j) j) j (get_or places j d)

renamed : (x y : PlainPart) (m n place : ℕ) (a b : NamedPlace) → x ≡ y → m ≡ n → a ≡ b → IsNamedPlace x m place a → IsNamedPlace y n place b
renamed x y m n place a b part number at is = record {
  sort = ap (λ (e : NamedPlace). e.sort) (sym at) ∙ is.sort ∙ ap sort_of part;
  name = ap (λ (e : NamedPlace). e.name.now) (sym at) ∙ is.name ∙ ap name_of part;
  number = ap (λ (e : NamedPlace). e.number) (sym at) ∙ is.number ∙ number;
  place = ap (λ (e : NamedPlace). e.place) (sym at) ∙ is.place;
}

-- one more part, with the number that it has
IsFilling-more : (parts : List PlainPart) (i : ℕ) (old new : Counts) (numbers : List ℕ) (places : List NamedPlace) (x : PlainPart) (number : ℕ) (at : NamedPlace)
    → i < length parts → part_in parts i ≡ x → number ≡ count_under old x → IsFilling parts i old numbers places
    → ((q : PlainPart) → count_under new q ≡ count_under old q + (if like q x then 1 else 0))
    → IsNamedPlace x number i at
    → IsFilling parts (i + 1) new (numbers ++ number ∷ []) (places ++ at ∷ [])
unfolding like_before
IsFilling-more parts i old new numbers places x number at inside here many filling counts placed =
    let longer : take (i + 1) parts ≡ take i parts ++ x ∷ [] = take_more parts i no_part inside ∙ ap (λ (y : PlainPart). take i parts ++ y ∷ []) here in
    let is_number : number ≡ like_before parts (part_in parts i) i = many ∙ filling.counts_are x ∙ ap (λ (y : PlainPart). like_before parts y i) (sym here) in
    record {
      counts_are = λ q. count_more (take i parts) x q (count_under old q) (count_under new q) (filling.counts_are q) (counts q) ∙ ap (count_by (like q)) (sym longer);
      many = length_push numbers number ∙ omega (arith, filling.many);
      numbers_are = below_more (λ j. get_or (numbers ++ number ∷ []) j 0 ≡ like_before parts (part_in parts j) j) i
          (λ j below. get_or_append_left numbers (number ∷ []) 0 j (omega (arith, filling.many)) ∙ filling.numbers_are j below)
          (get_or_push numbers number 0 i filling.many ∙ is_number);
      many_places = length_push places at ∙ omega (arith, filling.many_places);
      places_are = λ d. below_more (λ j. IsNamedPlace (part_in parts j) (like_before parts (part_in parts j) j) j (get_or (places ++ at ∷ []) j d)) i
          (λ j below. renamed (part_in parts j) (part_in parts j) (like_before parts (part_in parts j) j) (like_before parts (part_in parts j) j) j (get_or places j d) (get_or (places ++ at ∷ []) j d)
          refl refl (sym (get_or_append_left places (at ∷ []) d j (omega (arith, filling.many_places)))) (filling.places_are d j below))
          (renamed x (part_in parts i) number (like_before parts (part_in parts i) i) i at (get_or (places ++ at ∷ []) i d) (sym here) is_number (sym (get_or_push places at d i filling.many_places)) placed);
    }

-- the lists after a push fill one part more
pub IsFilling-pushed : (parts : List PlainPart) (i : ℕ) (old new : Counts) (numbers grown : List ℕ) (places longer : List NamedPlace) (x : PlainPart) (number : ℕ) (at : NamedPlace)
    → i < length parts → part_in parts i ≡ x → number ≡ count_under old x → IsFilling parts i old numbers places
    → ((q : PlainPart) → count_under new q ≡ count_under old q + (if like q x then 1 else 0))
    → IsNamedPlace x number i at
    → grown ≡ numbers ++ number ∷ []
    → longer ≡ places ++ at ∷ []
    → IsFilling parts (i + 1) new grown longer
IsFilling-pushed parts i old new numbers grown places longer x number at inside here many filling counts placed pushed put =
    rw (pushed, put) (IsFilling-more parts i old new numbers places x number at inside here many filling counts placed)

-- nothing is kept of no part
pub IsFilling-start : (parts : List PlainPart) (counts : Counts) (numbers : List ℕ) (places : List NamedPlace) → counts.entries ≡ [] → numbers ≡ [] → places ≡ [] → IsFilling parts 0 counts numbers places
IsFilling-start parts counts numbers places no_counts no_numbers no_places = record {
  counts_are = λ q. ap (λ es. unwrap_or (lookup (is_at (λ key. name_cmp (sort_of q) (name_of q) key.0 key.1.now)) es) 0) no_counts;
  many = ap length no_numbers;
  numbers_are = λ j below. absurd (omega arith);
  many_places = ap length no_places;
  places_are = λ d j below. absurd (omega arith);
}

-- after all parts, and with the positions in order, it is the look-up of them
pub IsFilling-end : (parts : List PlainPart) (i : ℕ) (counts : Counts) (places : List NamedPlace) (lookup : Lookup) → length parts ≤ i → i ≤ length parts → IsFilling parts i counts lookup.numbers.items places
    → IsPermutation places lookup.places.items → IsInOrder lookup.places.items → IsLookup lookup parts
IsFilling-end parts i counts places lookup past inside filling moved order =
    record {
      many = omega (arith, lookup.numbers.ok.0, filling.many);
      numbers = λ j below. filling.numbers_are j (omega arith);
      order = order;
      there = λ at has.
          let (j, within, is) = Contains-permutation lookup.places.items places at (IsPermutation-sym places lookup.places.items moved) has in
          let below : j < i = omega (arith, filling.many_places) in
          let named = filling.places_are at j below in
          let placed : at.place ≡ j = ap (λ (e : NamedPlace). e.place) (sym is) ∙ named.place in
          let here = renamed (part_in parts j) (part_in parts j) (like_before parts (part_in parts j) j) (like_before parts (part_in parts j) j) j (get_or places j at) at refl refl is named in
          (omega arith, subst (λ (p : ℕ). IsNamedPlace (part_in parts p) (like_before parts (part_in parts p) p) p at) (sym placed) here);
      all = λ j below.
          let at = get_or places j nowhere in
          (at, Contains-permutation places lookup.places.items at moved (Contains-get_or places j nowhere (omega (arith, filling.many_places))), (filling.places_are nowhere j (omega arith)).place);
    }

-- ---- a search

-- positions go up by their keys
abbrev pub Key : Type 0
Key = Sort × List ℕ × ℕ

abbrev pub key_cmp : Key → Key → Ordering
key_cmp a b = number_cmp a.0 a.1 a.2 b.0 b.1 b.2

abbrev pub key_of : NamedPlace → Key
key_of at = (at.sort, at.name.now, at.number)

pub key_total : IsTotalOrder key_cmp
key_total = then_total (then_total (on_total (λ (k : Key). k.0) ord.total-law) (on_total (λ (k : Key). k.1) nat_list_cmp_total)) (on_total (λ (k : Key). k.2) nat_cmp_total)

not_less : (o : Ordering) → o ≡ Less → o ≡ Equal → ⊥
not_less o less equal = cc

not_greater : (o : Ordering) → o ≡ Greater → o ≡ Equal → ⊥
not_greater o greater equal = cc

-- the order of positions relative to a sort, a name and a number
abbrev pub order_by : Sort → List ℕ → ℕ → NamedPlace → Ordering
order_by s n k at = key_cmp (key_of at) (s, n, k)

module _ (places seen : List NamedPlace) (part : PlainPart) (k : ℕ) (s : Sort) (n : List ℕ) (same : seen ≡ places) (es : s ≡ sort_of part) (en : n ≡ name_of part) where
  as_part : (at : NamedPlace) → order_by (sort_of part) (name_of part) k at ≡ order_by s n k at
  as_part at = ap (λ (t : Sort). order_by t (name_of part) k at) (sym es) ∙ ap (λ (m : List ℕ). order_by s m k at) (sym en)

  at_seen : (j : ℕ) (at : NamedPlace) → get_or places j at ≡ at → order_by (sort_of part) (name_of part) k at ≡ order_by s n k (get_or seen j at)
  at_seen j at is = as_part at ∙ ap (order_by s n k) (sym is ∙ ap (λ (ps : List NamedPlace). get_or ps j at) (sym same))

  pub found_from_search : (i : ℕ) (at : NamedPlace) → i < length seen → at ≡ get_or places i at → HoldsAt (λ (e : NamedPlace). order_by s n k e ≡ Equal) seen i → IsFound places part k (Some at.place)
  found_from_search i at inside is holds = (at, (i, rw (sym same) inside, sym is), at_seen i at (sym is) ∙ holds at, refl)

  pub none_from_search : (i : ℕ) → IsInOrder places
      → (IsNonDecreasingBy (λ (e : NamedPlace). ordering_index (order_by s n k e)) seen → IsPartitionPoint (λ (e : NamedPlace). order_by s n k e ≡ Less) (λ (e : NamedPlace). order_by s n k e ≡ Greater) seen i)
      → IsFound places part k None
  none_from_search i order splits at (j, inside, is) under =
      let rises = subst IsInOrder (sym same) order in
      let within : j < length seen = rw same inside in
      let point = splits (searchable_from_sorted key_total key_of seen (s, n, k) rises) in
      let here : order_by s n k (get_or seen j at) ≡ Equal = sym (at_seen j at is) ∙ under in
      elim (cases_lt j i) [
        | inl lt ↦ absurd (not_less (order_by s n k (get_or seen j at)) (point.0 j at (omega arith) lt) here)
        | inr ge ↦ absurd (not_greater (order_by s n k (get_or seen j at)) (point.1 j at ge within) here)
      ]

-- ---- what a search in the look-up gives

under_is : (part x : PlainPart) (k number place : ℕ) (at : NamedPlace) → IsNamedPlace x number place at → IsUnder part k at → (like part x ≡ true) × (number ≡ k)
under_is part x k number place at named under =
    let both = then_equal (name_cmp at.sort at.name.now (sort_of part) (name_of part)) (nat_cmp at.number k) under in
    (sym (same_key part x at.sort at.name.now named.sort named.name) ∙ ap is_eq both.0, sym named.number ∙ nat_equal at.number k both.1)

under_from : (part x : PlainPart) (k number place : ℕ) (at : NamedPlace) → IsNamedPlace x number place at → like part x ≡ true → number ≡ k → IsUnder part k at
under_from part x k number place at named alike same =
    let s : at.sort ≡ sort_of part = named.sort ∙ sym (like_sort part x alike) in
    let n : at.name.now ≡ name_of part = named.name ∙ sym (like_name part x alike) in
    let m : at.number ≡ k = named.number ∙ same in
    ap (λ (t : Sort). number_cmp t at.name.now at.number (sort_of part) (name_of part) k) s
    ∙ ap (λ (l : List ℕ). number_cmp (sort_of part) l at.number (sort_of part) (name_of part) k) n
    ∙ ap (λ (l : ℕ). number_cmp (sort_of part) (name_of part) l (sort_of part) (name_of part) k) m
    ∙ tied_itself key_total (sort_of part, name_of part, k)

module _ (lookup : Lookup) (parts : List PlainPart) (part : PlainPart) (k : ℕ) (is : IsLookup lookup parts) where
  none_is : (o : Option ℕ) → place_of (like part) k parts ≡ o → IsFound lookup.places.items part k None → None ≡ o
  unfolding like_before
  none_is None e absent = refl
  none_is (Some i) e absent =
      let (at, has, placed) = is.all i (place_of-inside (like part) k parts i e) in
      let alike : like part (part_in parts at.place) ≡ true = ap (λ (p : ℕ). like part (part_in parts p)) placed ∙ place_of-passes (like part) k parts i no_part e in
      let counted : count_by (like part) (take at.place parts) ≡ k = ap (λ (p : ℕ). count_by (like part) (take p parts)) placed ∙ place_of-counts (like part) k parts i e in
      let number : like_before parts (part_in parts at.place) at.place ≡ k =
      sym (count_by-agree (like part) (like (part_in parts at.place)) (take at.place parts) (λ y. like-same part (part_in parts at.place) y alike)) ∙ counted in
      absurd (absent at has (under_from part (part_in parts at.place) k (like_before parts (part_in parts at.place) at.place) at.place at (is.there at has).1 alike number))

  pub found_is : (r : Option ℕ) → IsFound lookup.places.items part k r → r ≡ place_of (like part) k parts
  unfolding like_before
  found_is None absent = none_is (place_of (like part) k parts) refl absent
  found_is (Some place) (at, has, under, placed) =
      let there = is.there at has in
      let both = under_is part (part_in parts at.place) k (like_before parts (part_in parts at.place) at.place) at.place at there.1 under in
      let counted : count_by (like part) (take at.place parts) ≡ k =
      count_by-agree (like part) (like (part_in parts at.place)) (take at.place parts) (λ y. like-same part (part_in parts at.place) y both.0) ∙ both.1 in
      ap (λ (p : ℕ). Some p) (sym placed) ∙ sym (place_of-at (like part) k parts at.place no_part there.0 both.0 counted)
