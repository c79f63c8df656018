-- The numbers of visits, one visit after another.
use Rattle.std.proofs.Common.{◌≡◌, ◌<◌, ◌+◌, ◌==◌, ◌&&◌, ℕ, Bool, true, false, cond, List, [], ◌∷◌, map, Option, Some, refl, sym, ◌∙◌, ap, subst, inl, inr, arith}
use Rattle.std.specs.Prelude.{slice_get}
use Rattle.std.specs.BTreeMap.{BTreeMap, get}
use Rattle.std.specs.Cmp.{both_tied, unsigned_ties}
use Rattle.std.specs.Map.{lookup}
use Rattle.std.specs.Ordering.{bool_cmp, is_eq, nat_cmp, ordering_then}
use Rattle.std.specs.declared.cmp.Ordering.{Ordering}
use Rattle.std.proofs.lemmas.Bool.{and_from, and_parts, cases_Bool, cases_lt, false≢true, eq-eqb, eqb-true}
use Rattle.std.proofs.lemmas.Option.{none-some, same_Some}
use Rattle.abi_types.specs.declared.kind.Way.{Way}
use Rattle.abi_types.specs.declared.kind.Way.TheVariants.{Direct, Pointer}
use Rattle.pair_rules.specs.Steps.{Triple, is_pointer}
use Rattle.pair_explorer.specs.declared.visits.Visit.{Visit}
use Rattle.pair_explorer.specs.Keys.{Key, at_triple, key_cmp, key_of}
use Rattle.pair_explorer.specs.Visits.{seen}
use Rattle.leading_exports.specs.Numbers.{AreNumbersUpto, HasNumber, IsNumberOf, number_in, numbered, way_of}
use Rattle.pair_rules.proofs.lemmas.Triples.{triple_eq}

-- ---- triples that the test tells to be one are one

same_made : (a b : ℕ) (v : Way) (c d : ℕ) (w : Way) → at_triple (record { old = a; new = b; way = v }) (record { old = c; new = d; way = w }) ≡ true → (a ≡ c) × (b ≡ d) × (v ≡ w)
same_made a b Direct c d Direct e = let p = and_parts (a == c) (b == d && true) e in let q = and_parts (b == d) true p.1 in (eqb-true a c p.0, eqb-true b d q.0, refl)
same_made a b Pointer c d Pointer e = let p = and_parts (a == c) (b == d && true) e in let q = and_parts (b == d) true p.1 in (eqb-true a c p.0, eqb-true b d q.0, refl)
same_made a b Direct c d Pointer e = let p = and_parts (a == c) (b == d && false) e in let q = and_parts (b == d) false p.1 in absurd cc
same_made a b Pointer c d Direct e = let p = and_parts (a == c) (b == d && false) e in let q = and_parts (b == d) false p.1 in absurd cc

pub at_triple-is : (x y : Triple) → at_triple x y ≡ true → x ≡ y
at_triple-is x y e = let all = same_made x.old x.new x.way y.old y.new y.way e in triple_eq x y all.0 all.1 all.2

itself_made : (a b : ℕ) (w : Way) → at_triple (record { old = a; new = b; way = w }) (record { old = a; new = b; way = w }) ≡ true
itself_made a b Direct = and_from (a == a) (b == b && true) (eq-eqb a a refl) (and_from (b == b) true (eq-eqb b b refl) refl)
itself_made a b Pointer = and_from (a == a) (b == b && true) (eq-eqb a a refl) (and_from (b == b) true (eq-eqb b b refl) refl)

pub at_triple-itself : (x : Triple) → at_triple x x ≡ true
at_triple-itself x = itself_made x.old x.new x.way

-- ---- triples and their keys

and_assoc : (a b c : Bool) → ((a && b) && c) ≡ (a && (b && c))
and_assoc true b c = refl
and_assoc false b c = refl

numbers_tied : (a b c d : ℕ) (w : Bool) (o : Ordering) → w ≡ is_eq o → is_eq (ordering_then (ordering_then (nat_cmp a c) (nat_cmp b d)) o) ≡ (a == c && (b == d && w))
numbers_tied a b c d w o is =
    sym (both_tied (a == c && b == d) w (ordering_then (nat_cmp a c) (nat_cmp b d)) o (both_tied (a == c) (b == d) (nat_cmp a c) (nat_cmp b d) (unsigned_ties a c) (unsigned_ties b d)) is)
    ∙ and_assoc (a == c) (b == d) w

made_tied : (a b : ℕ) (v : Way) (c d : ℕ) (p : Bool) → is_eq (key_cmp (a, b, is_pointer v) (c, d, p)) ≡ at_triple (record { old = a; new = b; way = v }) (record { old = c; new = d; way = way_of p })
made_tied a b Direct c d false = numbers_tied a b c d true (bool_cmp false false) refl
made_tied a b Direct c d true = numbers_tied a b c d false (bool_cmp false true) refl
made_tied a b Pointer c d true = numbers_tied a b c d true (bool_cmp true true) refl
made_tied a b Pointer c d false = numbers_tied a b c d false (bool_cmp true false) refl

way_back : (w : Way) → way_of (is_pointer w) ≡ w
way_back Direct = refl
way_back Pointer = refl

-- keys compare equal exactly where their triples are the same
key_tied : (x q : Triple) → is_eq (key_cmp (key_of x) (key_of q)) ≡ at_triple x q
key_tied x q = made_tied x.old x.new x.way q.old q.new (is_pointer q.way) ∙ ap (λ (w : Way). at_triple x (record { old = q.old; new = q.new; way = w })) (way_back q.way)

pub found_is : (x : Triple) (entries : List (Key × ℕ)) → lookup (λ (k : Key). is_eq (key_cmp (key_of x) k)) entries ≡ number_in (map numbered entries) x
found_is x [] = refl
found_is x (e ∷ es) =
    ap (λ (b : Bool). cond b (Some e.1) (lookup (λ (k : Key). is_eq (key_cmp (key_of x) k)) es)) (made_tied x.old x.new x.way e.0.0 e.0.1 e.0.2)
    ∙ ap (λ (o : Option ℕ). cond (at_triple x (numbered e).0) (Some e.1) o) (found_is x es)

pub inserted_is : (old new : BTreeMap Key ℕ) (x : Triple) (key : Key) (n : ℕ) → key ≡ key_of x → ((q : Key) → get key_cmp new q ≡ cond (is_eq (key_cmp key q)) (Some n) (get key_cmp old q))
    → (q : Triple) → number_in (map numbered new.entries) q ≡ cond (at_triple x q) (Some n) (number_in (map numbered old.entries) q)
inserted_is old new x key n is puts q =
    sym (found_is q new.entries) ∙ puts (key_of q) ∙ ap (λ (k : Key). cond (is_eq (key_cmp k (key_of q))) (Some n) (get key_cmp old (key_of q))) is
    ∙ ap (λ (b : Bool). cond b (Some n) (get key_cmp old (key_of q))) (key_tied x q) ∙ ap (λ (o : Option ℕ). cond (at_triple x q) (Some n) o) (found_is q old.entries)

-- ---- one more number

pub AreNumbers-none : (visits : List Visit) (entries : List (Triple × ℕ)) → entries ≡ [] → AreNumbersUpto visits 0 entries
AreNumbers-none visits entries none = rw none (record {
  sound = λ x n is. absurd (none-some n is);
  each = λ n v lt at. absurd (omega (arith, lt));
})

-- what is found once a triple has the number
abbrev Grows : List (Triple × ℕ) → List (Triple × ℕ) → Triple → ℕ → Type 0
Grows entries more x n = (q : Triple) → number_in more q ≡ cond (at_triple x q) (Some n) (number_in entries q)

module _ (visits : List Visit) (entries more : List (Triple × ℕ)) (x : Triple) (k : ℕ) (v : Visit) (at : slice_get visits k ≡ Some v) (of : x ≡ seen v) (were : AreNumbersUpto visits k entries) (grows : Grows entries more x k) where
  here : (q : Triple) → at_triple x q ≡ true → number_in more q ≡ Some k
  here q e = grows q ∙ ap (λ b. cond b (Some k) (number_in entries q)) e

  other : (q : Triple) → at_triple x q ≡ false → number_in more q ≡ number_in entries q
  other q e = grows q ∙ ap (λ b. cond b (Some k) (number_in entries q)) e

  sound_more : (q : Triple) (n : ℕ) → number_in more q ≡ Some n → IsNumberOf visits q n
  sound_more q n is = elim (cases_Bool (at_triple x q)) [
    | inl same ↦
        let number : k ≡ n = same_Some k n (sym (here q same) ∙ is) in
        let triple : seen v ≡ q = sym of ∙ at_triple-is x q same in
        let P : ℕ → Type 0 = λ m. IsNumberOf visits q m in
        subst P number (record { visit = v; at = at; is = triple })
    | inr differs ↦ were.sound q n (sym (other q differs) ∙ is)
  ]

  each_more : (n : ℕ) (w : Visit) → n < k + 1 → slice_get visits n ≡ Some w → HasNumber more (seen w)
  each_more n w lt at_w = elim (cases_Bool (at_triple x (seen w))) [
    | inl same ↦ record { number = k; is = here (seen w) same }
    | inr differs ↦ elim (cases_lt n k) [
      | inl below ↦ let before = were.each n w below at_w in record { number = before.number; is = other (seen w) differs ∙ before.is }
      | inr last ↦
          let number : k ≡ n = omega (arith, last, lt) in
          let visit : v ≡ w = same_Some v w (sym at ∙ ap (slice_get visits) number ∙ at_w) in
          let same : at_triple x (seen w) ≡ true = ap (λ q. at_triple q (seen w)) of ∙ ap (λ (u : Visit). at_triple (seen u) (seen w)) visit ∙ at_triple-itself (seen w) in
          absurd (false≢true (sym differs ∙ same))
    ]
  ]

  pub AreNumbers-more : AreNumbersUpto visits (k + 1) more
  AreNumbers-more = record { sound = sound_more; each = each_more }
