-- The chain of entries, link by link from its front.
use Rattle.std.proofs.Common.{◌≡◌, ℕ, zero, suc, ◌+◌, ◌-◌, ◌<◌, ◌≤◌, Bool, true, false, List, [], ◌∷◌, length, Option, Some, None, refl, sym, ◌∙◌, ap, arith, add-one, inl, inr}
use Rattle.std.proofs.lemmas.Bool.{cases_Bool}
use Rattle.std.specs.Prelude.{find, is_some, slice_index_or}
use Rattle.std.specs.List.{filter_map, cons_option, range_with_len}
use Rattle.std.specs.Option.{option_map_or}
use Rattle.dwarf_forms.specs.declared.values.Value.{Value}
use Rattle.dwarf_tree.specs.Trees.{PlainTree, own_of}
use Rattle.dwarf_entries.specs.Chains.{link_of, after_links, chain_within, chain_of, origin_of, holder_of, is_own_attribute, attribute_along}

-- ---- links counted from the front

pub after_first : (t : PlainTree) (e n : ℕ) (link : Option ℕ) → link_of t e ≡ link → after_links t e (suc n) ≡ option_map_or (λ f. after_links t f n) link None
unfolding after_links
after_first t e zero None is = is
after_first t e zero (Some f) is = is
after_first t e (suc n) None is = ap (λ (o : Option ℕ). option_map_or (link_of t) o None) (after_first t e n None is)
after_first t e (suc n) (Some f) is = ap (λ (o : Option ℕ). option_map_or (link_of t) o None) (after_first t e n (Some f) is)

-- an entry and the entries that its links lead to, up to a number of entries
unfoldable pub rest_of : PlainTree → ℕ → ℕ → List ℕ
rest_of t zero e = []
rest_of t (suc n) e = e ∷ option_map_or (rest_of t n) (link_of t e) []

shifted : (g h : ℕ → Option ℕ) → ((i : ℕ) → g (i + 1) ≡ h i) → (a n : ℕ) → filter_map g (range_with_len (a + 1) n) ≡ filter_map h (range_with_len a n)
shifted g h same a zero = refl
shifted g h same a (suc n) =
    ap (λ (o : Option ℕ). cons_option o (filter_map g (range_with_len (a + 1 + 1) n))) (same a) ∙ ap (cons_option (h a)) (shifted g h same (a + 1) n)

nothing : (h : ℕ → Option ℕ) → ((i : ℕ) → h i ≡ None) → (a n : ℕ) → filter_map h (range_with_len a n) ≡ []
nothing h none a zero = refl
nothing h none a (suc n) =
    ap (λ (o : Option ℕ). cons_option o (filter_map h (range_with_len (a + 1) n))) (none a) ∙ nothing h none (a + 1) n

after_at : (t : PlainTree) (e i : ℕ) (link : Option ℕ) → link_of t e ≡ link → after_links t e (i + 1) ≡ option_map_or (λ f. after_links t f i) link None
after_at t e i link is = rw add-one (after_first t e i link is)

chain_rest : (t : PlainTree) (n e : ℕ) → chain_within t e n ≡ rest_of t n e
unfolding after_links rest_of
chain_rest t zero e = refl
chain_rest t (suc n) e = ap (λ (others : List ℕ). e ∷ others) (others (link_of t e) refl (λ f. chain_rest t n f))
  where
    others : (link : Option ℕ) → link_of t e ≡ link → ((f : ℕ) → filter_map (after_links t f) (range_with_len 0 n) ≡ rest_of t n f)
        → filter_map (after_links t e) (range_with_len (0 + 1) n) ≡ option_map_or (rest_of t n) (link_of t e) []
    others None is chained = rw is (shifted (after_links t e) (λ i. None) (λ i. after_at t e i None is) 0 n ∙ nothing (λ i. None) (λ i. refl) 0 n)
    others (Some f) is chained = rw is (shifted (after_links t e) (after_links t f) (λ i. after_at t e i (Some f) is) 0 n ∙ chained f)

pub chain_whole : (t : PlainTree) (e : ℕ) → chain_of t e ≡ rest_of t 9 e
unfolding chain_of
chain_whole t e = chain_rest t 9 e

-- ---- the invariant of loops, at an entry after a number of links

left : (n i : ℕ) → i < n → n - i ≡ suc (n - (i + 1))
left n i lt = omega arith

-- the first entry that passes
pub find_here : (t : PlainTree) (p : ℕ → Bool) (e n i : ℕ) → i < n → p e ≡ true → find p (rest_of t (n - i) e) ≡ Some e
unfolding rest_of
find_here t p e n i lt here = rw (left n i lt, here) refl

pub find_next : (t : PlainTree) (p : ℕ → Bool) (e f n i : ℕ) → i < n → p e ≡ false → link_of t e ≡ Some f → find p (rest_of t (n - i) e) ≡ find p (rest_of t (n - (i + 1)) f)
unfolding rest_of
find_next t p e f n i lt apart link = rw (left n i lt, apart, link) refl

pub find_last : (t : PlainTree) (p : ℕ → Bool) (e n i : ℕ) → i < n → p e ≡ false → link_of t e ≡ None → find p (rest_of t (n - i) e) ≡ None
unfolding rest_of
find_last t p e n i lt apart link = rw (left n i lt, apart, link) refl

pub find_end : (t : PlainTree) (p : ℕ → Bool) (e n i : ℕ) → n ≤ i → find p (rest_of t (n - i) e) ≡ None
unfolding rest_of
find_end t p e n i le = let none : n - i ≡ 0 = omega arith in rw none refl

pub holder_found : (t : PlainTree) (e name : ℕ) → holder_of t e name ≡ find (λ f. is_some (own_of t f name)) (rest_of t 9 e)
unfolding holder_of
holder_found t e name = ap (find (λ f. is_some (own_of t f name))) (chain_whole t e)

pub first_found : (t : PlainTree) (p : ℕ → Bool) (n e : ℕ) → find p (chain_within t e n) ≡ find p (rest_of t n e)
first_found t p n e = ap (find p) (chain_rest t n e)

-- ---- the holder of an attribute, by the first entry and its link

pub holder_here : (t : PlainTree) (e name : ℕ) (v : Value) → own_of t e name ≡ Some v → holder_of t e name ≡ Some e
holder_here t e name v has =
    holder_found t e name ∙ find_here t (λ f. is_some (own_of t f name)) e 9 0 (omega arith) (ap (λ (o : Option Value). is_some o) has)

pub holder_last : (t : PlainTree) (e name : ℕ) → own_of t e name ≡ None → link_of t e ≡ None → holder_of t e name ≡ None
holder_last t e name lacks link =
    holder_found t e name ∙ find_last t (λ f. is_some (own_of t f name)) e 9 0 (omega arith) (ap (λ (o : Option Value). is_some o) lacks) link

pub holder_next : (t : PlainTree) (e f name : ℕ) → own_of t e name ≡ None → link_of t e ≡ Some f → holder_of t e name ≡ find (λ g. is_some (own_of t g name)) (chain_within t f 8)
holder_next t e f name lacks link =
    holder_found t e name ∙ find_next t (λ g. is_some (own_of t g name)) e f 9 0 (omega arith) (ap (λ (o : Option Value). is_some o) lacks) link
    ∙ sym (first_found t (λ g. is_some (own_of t g name)) 8 f)

pub along_here : (t : PlainTree) (e name : ℕ) (v : Value) → own_of t e name ≡ Some v → attribute_along t e name ≡ Some v
along_here t e name v has =
    elim (cases_Bool (is_own_attribute name)) [
      | inl own ↦ rw own has
      | inr along ↦ rw (along, holder_here t e name v has) has
    ]

-- ---- the last entry

-- the last entry, or another where there is none
abbrev pub last_or : List ℕ → ℕ → ℕ
last_or xs d = slice_index_or xs (length xs - 1) d

last_more : (e f : ℕ) (others : List ℕ) (d : ℕ) → last_or (e ∷ f ∷ others) d ≡ last_or (f ∷ others) d
last_more e f others d =
    let two : suc (suc (length others)) - 1 ≡ suc (length others) = omega arith in
    let one : suc (length others) - 1 ≡ length others = omega arith in
    rw (two, one) refl

one_left : (n i : ℕ) → i < n → suc n - i ≡ suc (suc (n - (i + 1)))
one_left n i lt = omega arith

next_left : (n i : ℕ) → i < n → suc n - (i + 1) ≡ suc (n - (i + 1))
next_left n i lt = omega arith

pub last_next : (t : PlainTree) (e f n i d : ℕ) → i < n → link_of t e ≡ Some f → last_or (rest_of t (suc n - i) e) d ≡ last_or (rest_of t (suc n - (i + 1)) f) d
unfolding rest_of
last_next t e f n i d lt link = rw (one_left n i lt, next_left n i lt, link) (last_more e f (option_map_or (rest_of t (n - (i + 1))) (link_of t f) []) d)

pub last_here : (t : PlainTree) (e n i d : ℕ) → i < n → link_of t e ≡ None → last_or (rest_of t (n - i) e) d ≡ e
unfolding rest_of
last_here t e n i d lt link = rw (left n i lt, link) refl

last_one : (t : PlainTree) (e d : ℕ) (link : Option ℕ) → link_of t e ≡ link → last_or (rest_of t 1 e) d ≡ e
unfolding rest_of
last_one t e d None is = rw is refl
last_one t e d (Some f) is = rw is refl

pub last_end : (t : PlainTree) (e n i d : ℕ) → i ≡ n → last_or (rest_of t (suc n - i) e) d ≡ e
last_end t e n i d is =
    let one : suc n - i ≡ 1 = omega arith in
    rw one (last_one t e d (link_of t e) refl)

pub origin_last : (t : PlainTree) (e : ℕ) → origin_of t e ≡ last_or (rest_of t 9 e) e
origin_last t e = ap (λ (es : List ℕ). last_or es e) (chain_whole t e)

-- the entry after links
pub after_next : (t : PlainTree) (e f n i : ℕ) → i < n → link_of t e ≡ Some f → after_links t e (n - i) ≡ after_links t f (n - (i + 1))
after_next t e f n i lt link = rw (left n i lt) (after_first t e (n - (i + 1)) (Some f) link)

pub after_none : (t : PlainTree) (e n i : ℕ) → i < n → link_of t e ≡ None → after_links t e (n - i) ≡ None
after_none t e n i lt link = rw (left n i lt) (after_first t e (n - (i + 1)) None link)

pub after_end : (t : PlainTree) (e n i : ℕ) → n ≤ i → after_links t e (n - i) ≡ Some e
unfolding after_links
after_end t e n i le = let none : n - i ≡ 0 = omega arith in rw none refl
