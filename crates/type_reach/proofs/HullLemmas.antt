-- The span of a type reaches from the least to the greatest bit of its flat members.
use Rattle.std.proofs.Common.{◌≡◌, ◌+◌, ℕ, zero, suc, Bool, true, false, List, [], ◌∷◌, ◌++◌, map, Option, Some, None, refl, sym, ◌∙◌, ap, subst, arith, ◌⊎◌, inl, inr}
use Rattle.std.specs.Prelude.{Contains, flat_map, ◌||◌, ℤ, pos, negsuc, ◌+ℤ◌, ◌≤ℤ◌, ◌<ℤ◌, nat_le, int_lt}
use Rattle.std.specs.List.{list_any}
use Rattle.std.specs.Int.{int_min, int_max}
use Rattle.std.proofs.lemmas.Bool.{cases_Bool, cases_lt, or_parts, le-leb, leb-true, false≢true}
use Rattle.std.proofs.lemmas.Int.{ints, clamps}
use Rattle.std.proofs.lemmas.List.{append-nil}
use Rattle.std.proofs.lemmas.List.Elements.{Contains-append_cases, Contains-append_left, Contains-append_right}
use Rattle.abi_base.proofs.lemmas.Lists.{any-map}
use Rattle.abi_base.proofs.lemmas.Contained.{in_front, at_front, in_rest, in_none}
use Rattle.abi_base.specs.Limits.{depth_limit}
use Rattle.abi_types.specs.Limits.{bit_limit}
use Rattle.dwarf_entries.specs.Chains.{name_of}
use Rattle.dwarf_entries.specs.Debug.{PlainDwarf}
use Rattle.type_reach.specs.declared.facts.Facts.{Facts}
use Rattle.type_reach.specs.declared.facts.Span.{Span}
use Rattle.type_reach.specs.References.{Type_, role_of, type_of, members_of, steps_of}
use Rattle.type_reach.specs.ByValue.{StepsOn, IsTooDeep}
use Rattle.type_reach.specs.Placement.{is_out_of_range, is_nameless}
use Rattle.type_reach.specs.Facts.{facts_from, facts_of, moved_span, joined, spread, bit_span, member_span, own_span, span_out_of_range, member_beyond}
use Rattle.type_reach.specs.Flat.{Flat, moved, declared_bit, given_by, core_of, flat_of, member_gives}
use Rattle.type_reach.specs.PeeledCores.{IsPeeledCore}
use Rattle.type_reach.specs.Sizes.{begins_beyond, has_member_beyond}
use Rattle.type_reach.proofs.ByValueLemmas.{StepsOn-none, StepsOn-more}
use Rattle.type_reach.proofs.lemmas.Mapped.{from_map, Contains-map}
use Rattle.type_reach.proofs.FactLemmas.{facts_of-is, facts_of-void, shallow-step}
use Rattle.type_reach.proofs.StepLemmas.{members-beside}
use Rattle.type_reach.proofs.CoreLemmas.{passed-step, passed-shares, passed-flat, core-is}
use Rattle.type_reach.proofs.FlatLemmas.{IsLast, passed_or_last, members-flat, member-step, flat-void}

-- no member begins before the low end or after the high one, and some member begins at each
record IsHullOf (s : Span) (xs : List Flat) : Type 0 where
  low : (x : Flat) → Contains xs x → s.low ≤ℤ x.bit
  high : (x : Flat) → Contains xs x → x.bit ≤ℤ s.high
  at_low : (x : Flat) × Contains xs x × (x.bit ≡ s.low)
  at_high : (x : Flat) × Contains xs x × (x.bit ≡ s.high)

abbrev IsHull : Option Span → List Flat → Type 0
IsHull None xs = xs ≡ []
IsHull (Some s) xs = IsHullOf s xs

-- ---- hulls of parts

least-of : (a b : ℤ) → ((int_min a b ≡ a) × (a ≤ℤ b)) ⊎ ((int_min a b ≡ b) × (b ≤ℤ a))
least-of a b = elim (cases_Bool (int_lt b a)) [ inl below ↦ inr (rw below refl, omega (arith, ints, clamps, below)) | inr other ↦ inl (rw other refl, omega (arith, ints, clamps, other)) ]

greatest-of : (a b : ℤ) → ((int_max a b ≡ a) × (b ≤ℤ a)) ⊎ ((int_max a b ≡ b) × (a ≤ℤ b))
greatest-of a b = elim (cases_Bool (int_lt b a)) [ inl below ↦ inl (rw below refl, omega (arith, ints, clamps, below)) | inr other ↦ inr (rw other refl, omega (arith, ints, clamps, other)) ]

hull-both : (a b : Span) (xs ys : List Flat) → IsHullOf a xs → IsHullOf b ys → IsHullOf (record { low = int_min a.low b.low; high = int_max a.high b.high }) (xs ++ ys)
hull-both a b xs ys one two = record {
  low = λ x h. elim (Contains-append_cases xs ys x h) [
    | inl here ↦ let le = one.low x here in omega (arith, ints, clamps)
    | inr later ↦ let le = two.low x later in omega (arith, ints, clamps)
  ];
  high = λ x h. elim (Contains-append_cases xs ys x h) [
    | inl here ↦ let le = one.high x here in omega (arith, ints, clamps)
    | inr later ↦ let le = two.high x later in omega (arith, ints, clamps)
  ];
  at_low = elim (least-of a.low b.low) [
    | inl first ↦ (one.at_low.0, Contains-append_left xs ys one.at_low.0 one.at_low.1, one.at_low.2 ∙ sym first.0)
    | inr second ↦ (two.at_low.0, Contains-append_right xs ys two.at_low.0 two.at_low.1, two.at_low.2 ∙ sym second.0)
  ];
  at_high = elim (greatest-of a.high b.high) [
    | inl first ↦ (one.at_high.0, Contains-append_left xs ys one.at_high.0 one.at_high.1, one.at_high.2 ∙ sym first.0)
    | inr second ↦ (two.at_high.0, Contains-append_right xs ys two.at_high.0 two.at_high.1, two.at_high.2 ∙ sym second.0)
  ];
}

hull-joined : (a b : Option Span) (xs ys : List Flat) → IsHull a xs → IsHull b ys → IsHull (joined a b) (xs ++ ys)
hull-joined None b xs ys one two = subst (IsHull b) (sym (ap (λ zs. zs ++ ys) one)) two
hull-joined (Some a) None xs ys one two = subst (IsHullOf a) (sym (ap (λ zs. xs ++ zs) two ∙ append-nil xs)) one
hull-joined (Some a) (Some b) xs ys one two = hull-both a b xs ys one two

hull-moved : (by : ℤ) (s : Option Span) (xs : List Flat) → IsHull s xs → IsHull (moved_span by s) (map (moved by) xs)
hull-moved by None xs hull = ap (map (moved by)) hull
hull-moved by (Some s) xs hull = record {
  low = λ x h. let from = from_map (moved by) xs x h in let le = hull.low from.0 from.1 in let is : by +ℤ from.0.bit ≡ x.bit = ap (λ (y : Flat). y.bit) from.2 in omega (arith, ints);
  high = λ x h. let from = from_map (moved by) xs x h in let le = hull.high from.0 from.1 in let is : by +ℤ from.0.bit ≡ x.bit = ap (λ (y : Flat). y.bit) from.2 in omega (arith, ints);
  at_low = (moved by hull.at_low.0, Contains-map (moved by) xs hull.at_low.0 hull.at_low.1, ap (λ z. by +ℤ z) hull.at_low.2);
  at_high = (moved by hull.at_high.0, Contains-map (moved by) xs hull.at_high.0 hull.at_high.1, ap (λ z. by +ℤ z) hull.at_high.2);
}

hull-one : (x : Flat) → IsHull (bit_span x.bit) (x ∷ [])
hull-one x = record {
  low = λ y h. elim (in_front x [] y h) [ inl same ↦ (let is : x.bit ≡ y.bit = ap (λ (z : Flat). z.bit) same in omega (arith, ints)) | inr none ↦ absurd (in_none y none) ];
  high = λ y h. elim (in_front x [] y h) [ inl same ↦ (let is : x.bit ≡ y.bit = ap (λ (z : Flat). z.bit) same in omega (arith, ints)) | inr none ↦ absurd (in_none y none) ];
  at_low = (x, at_front x [], refl);
  at_high = (x, at_front x [], refl);
}

-- ---- hulls of members

hull-member : (d : PlainDwarf) (m : ℕ) → IsHull (facts_of d (type_of d.tree m)).span (flat_of d (type_of d.tree m)) → IsHull (member_span d (m, facts_of d (type_of d.tree m))) (member_gives d m)
unfolding member_span is_nameless
hull-member d m below = go (name_of d m) refl where
  go : (name : Option (List ℕ)) → name_of d m ≡ name → IsHull (member_span d (m, facts_of d (type_of d.tree m))) (given_by d m (name_of d m) (flat_of d (type_of d.tree m)))
  go (Some name) is = rw is (hull-one (record { name = name; bit = declared_bit d m; width = _; to = type_of d.tree m }))
  go None is =
      elim (cases_Bool (facts_of d (type_of d.tree m)).aggregate) [ inl yes' ↦ rw (is, yes') (hull-moved (declared_bit d m) (facts_of d (type_of d.tree m)).span (flat_of d (type_of d.tree m)) below) | inr no' ↦ rw (is, no') refl ]

hull-members : (d : PlainDwarf) (ms : List ℕ) → ((m : ℕ) → Contains ms m → IsHull (facts_of d (type_of d.tree m)).span (flat_of d (type_of d.tree m)))
    → IsHull (spread (map (member_span d) (map (λ m. (m, facts_of d (type_of d.tree m))) ms))) (flat_map (member_gives d) ms)
unfolding spread
hull-members d [] below = refl
hull-members d (m ∷ ms) below =
    hull-joined (member_span d (m, facts_of d (type_of d.tree m))) (spread (map (member_span d) (map (λ n. (n, facts_of d (type_of d.tree n))) ms))) (member_gives d m) (flat_map (member_gives d) ms)
    (hull-member d m (below m (at_front m ms)))
    (hull-members d ms (λ n h. below n (in_rest m ms n h)))

own-span : (d : PlainDwarf) (e : ℕ) → own_span d e (map (facts_of d) (steps_of d.tree e)) ≡ spread (map (member_span d) (map (λ m. (m, facts_of d (type_of d.tree m))) (members_of d.tree e)))
unfolding own_span
own-span d e = ap (λ zs. spread (map (member_span d) zs)) (members-beside (facts_of d) d.tree e)

last-span : (d : PlainDwarf) (e : ℕ) → (IsTooDeep d.tree (Some e) → ⊥) → IsLast (role_of d.tree e) → (facts_of d (Some e)).span ≡ own_span d e (map (facts_of d) (steps_of d.tree e))
unfolding facts_from
last-span d e shallow last = ap (λ (y : Facts). y.span) (facts_of-is d (Some e) shallow) ∙ last.span d e (map (facts_of d) (steps_of d.tree e))

hull-within : (d : PlainDwarf) (k : ℕ) (r : Type_) → (StepsOn d.tree k r → ⊥) → (IsTooDeep d.tree r → ⊥) → IsHull (facts_of d r).span (flat_of d r)
hull-within d zero r none shallow = absurd (none (StepsOn-none d.tree r))
hull-within d (suc k) None none shallow = subst (λ s. IsHull s (flat_of d None)) (sym (ap (λ (y : Facts). y.span) (facts_of-void d))) (flat-void d)
hull-within d (suc k) (Some e) none shallow =
    let below : (s : Type_) → Contains (steps_of d.tree e) s → IsHull (facts_of d s).span (flat_of d s) = λ s has. hull-within d k s (λ on. none (StepsOn-more d.tree k (Some e) s has on)) (shallow-step d.tree (Some e) s shallow has) in
    elim (passed_or_last (role_of d.tree e)) [
      | inl passed ↦
          let ty : Type_ = type_of d.tree e in
          let here = below ty (passed-step d.tree e passed) in
          subst (λ s. IsHull s (flat_of d (Some e))) (sym (passed-shares d e shallow passed).span) (subst (IsHull (facts_of d ty).span) (sym (passed-flat d e shallow passed)) here)
      | inr last ↦
          subst (λ s. IsHull s (flat_of d (Some e))) (sym (last-span d e shallow last ∙ own-span d e))
          (subst (IsHull (spread (map (member_span d) (map (λ m. (m, facts_of d (type_of d.tree m))) (members_of d.tree e))))) (sym (members-flat d e shallow last))
          (hull-members d (members_of d.tree e) (λ m h. below (type_of d.tree m) (member-step d.tree e m h))))
    ]

-- ---- what is out of range

beyond-parts : (z : ℤ) → is_out_of_range z ≡ false → (pos 0 ≤ℤ z) × (z <ℤ pos bit_limit)
beyond-parts (pos n) is = elim (cases_lt n bit_limit) [ inl lt ↦ (omega (arith, ints), omega (arith, ints)) | inr le ↦ absurd (false≢true (sym is ∙ le-leb bit_limit n le)) ]
beyond-parts (negsuc n) is = absurd (false≢true (sym is))

beyond-from : (z : ℤ) → pos 0 ≤ℤ z → z <ℤ pos bit_limit → is_out_of_range z ≡ false
beyond-from (pos n) low high = elim (cases_Bool (nat_le bit_limit n)) [ inl above ↦ absurd (let le = leb-true bit_limit n above in omega (arith, ints)) | inr below ↦ below ]
beyond-from (negsuc n) low high = absurd (omega (arith, ints))

none-beyond : (xs : List Flat) → list_any begins_beyond xs ≡ false → (x : Flat) → Contains xs x → is_out_of_range x.bit ≡ false
none-beyond [] none x h = absurd (in_none x h)
none-beyond (y ∷ ys) none x h =
    let both = or_parts (is_out_of_range y.bit) (list_any begins_beyond ys) none in
    elim (in_front y ys x h) [ inl same ↦ subst (λ (z : Flat). is_out_of_range z.bit ≡ false) same both.0 | inr later ↦ none-beyond ys both.1 x later ]

all-within : (xs : List Flat) → ((x : Flat) → Contains xs x → is_out_of_range x.bit ≡ false) → list_any begins_beyond xs ≡ false
all-within [] each = refl
all-within (y ∷ ys) each = let here = each y (at_front y ys) in let later = all-within ys (λ x h. each x (in_rest y ys x h)) in rw (here, later) refl

same-tests : (a b : Bool) → (a ≡ false → b ≡ false) → (b ≡ false → a ≡ false) → a ≡ b
same-tests true true to from = refl
same-tests true false to from = from refl
same-tests false true to from = sym (to refl)
same-tests false false to from = refl

hull-beyond : (s : Option Span) (xs : List Flat) → IsHull s xs → span_out_of_range s ≡ list_any begins_beyond xs
hull-beyond None xs hull = sym (ap (list_any begins_beyond) hull)
hull-beyond (Some s) xs hull = same-tests (is_out_of_range s.low || is_out_of_range s.high) (list_any begins_beyond xs) to from where
  to : (is_out_of_range s.low || is_out_of_range s.high) ≡ false → list_any begins_beyond xs ≡ false
  to is =
      let both = or_parts (is_out_of_range s.low) (is_out_of_range s.high) is in
      let low = beyond-parts s.low both.0 in
      let high = beyond-parts s.high both.1 in
      all-within xs (λ x h. let a = hull.low x h in let b = hull.high x h in let l = low.0 in let u = high.1 in beyond-from x.bit (omega (arith, ints)) (omega (arith, ints)))

  from : list_any begins_beyond xs ≡ false → (is_out_of_range s.low || is_out_of_range s.high) ≡ false
  from none =
      let low : is_out_of_range s.low ≡ false = ap is_out_of_range (sym hull.at_low.2) ∙ none-beyond xs none hull.at_low.0 hull.at_low.1 in
      let high : is_out_of_range s.high ≡ false = ap is_out_of_range (sym hull.at_high.2) ∙ none-beyond xs none hull.at_high.0 hull.at_high.1 in
      rw (low, high) refl

last-beyond : (d : PlainDwarf) (e : ℕ) → (IsTooDeep d.tree (Some e) → ⊥) → IsLast (role_of d.tree e) → (facts_of d (Some e)).beyond ≡ (list_any (λ m. is_out_of_range (declared_bit d m)) (members_of d.tree e) || list_any begins_beyond (flat_of d (Some e)))
unfolding facts_from member_beyond
last-beyond d e shallow last =
    let facts : List Facts = map (facts_of d) (steps_of d.tree e) in
    let span = hull-beyond (facts_of d (Some e)).span (flat_of d (Some e)) (hull-within d (depth_limit + 1) (Some e) shallow shallow) in
    ap (λ (y : Facts). y.beyond) (facts_of-is d (Some e) shallow)
    ∙ last.beyond d e facts
    ∙ ap (λ zs. list_any (member_beyond d) zs || span_out_of_range (own_span d e facts)) (members-beside (facts_of d) d.tree e)
    ∙ ap (λ b. b || span_out_of_range (own_span d e facts)) (any-map (member_beyond d) (λ m. (m, facts_of d (type_of d.tree m))) (members_of d.tree e))
    ∙ ap (λ b. list_any (λ m. is_out_of_range (declared_bit d m)) (members_of d.tree e) || b) (ap span_out_of_range (sym (last-span d e shallow last)) ∙ span)

-- THE LAW: what facts tell of bits out of range is what the lists say
pub beyond-is : (d : PlainDwarf) (r : Type_) → (IsTooDeep d.tree r → ⊥) → (facts_of d r).beyond ≡ (has_member_beyond d (core_of d r) || list_any begins_beyond (flat_of d r))
beyond-is d r shallow = let core = core-is d r shallow in core.same.beyond ∙ go (core_of d r) core where
  go : (c : Type_) → IsPeeledCore d r c → (facts_of d c).beyond ≡ (has_member_beyond d c || list_any begins_beyond (flat_of d r))
  go None core = ap (λ (y : Facts). y.beyond) (facts_of-void d) ∙ sym (ap (list_any begins_beyond) (core.flat ∙ flat-void d))
  go (Some c) core = elim (passed_or_last (role_of d.tree c)) [
    | inl passed ↦ absurd (core.last passed)
    | inr last ↦ last-beyond d c core.shallow last ∙ ap (λ xs. list_any (λ m. is_out_of_range (declared_bit d m)) (members_of d.tree c) || list_any begins_beyond xs) (sym core.flat)
  ]
