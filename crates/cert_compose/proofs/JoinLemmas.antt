-- Which lines are joined.
use Rattle.std.proofs.Common.{◌≡◌, ◌==◌, ◌&&◌, ℕ, zero, suc, Bool, true, false, cond, List, [], ◌∷◌, Option, None, refl, sym, ◌∙◌, ap, subst, arith}
use Rattle.std.specs.Prelude.{◌↔◌, is_none}
use Rattle.std.specs.List.{Contains}
use Rattle.std.proofs.lemmas.Bool.{and_parts, and_from, eqb-true, eq-eqb}
use Rattle.abi_base.proofs.lemmas.Options.{is_none-true}
use Rattle.abi_types.specs.declared.kind.Way.{Way}
use Rattle.abi_types.specs.declared.kind.Way.TheVariants.{Direct, Pointer}
use Rattle.cert_text.specs.Certs.{PairLine}
use Rattle.cert_check.specs.Accepted.{line_of}
use Rattle.cert_compose.specs.Chains.{PlainChain}
use Rattle.cert_compose.specs.Composed.{IsJoined}
use Rattle.cert_compose.specs.Middles.{middle_at, IsMiddle}
use Rattle.cert_compose.specs.Joins.{same_way, followed_by, followed, through_by, through, joined_by, joins}
use Rattle.abi_base.proofs.lemmas.Contained.{in_none}
use Rattle.pair_rules.proofs.lemmas.Lists.{in_flat_map, from_flat_map}
use Rattle.cert_check.proofs.lemmas.Lines.{same_way-is}

-- ---- what a function gives of the items of a list

pub only_in : {Y : Type 0} (x y : Y) → Contains (x ∷ []) y → y ≡ x
only_in x y (zero, lt, is) = sym is
only_in x y (suc k, lt, is) = absurd (omega (arith, lt))

-- what stands only where a test passes
pub if_in : {Y : Type 0} (b : Bool) (xs : List Y) (y : Y) → Contains (cond b xs []) y → (b ≡ true) × Contains xs y
if_in true xs y h = (refl, h)
if_in false xs y h = absurd (in_none y h)

pub in_if : {Y : Type 0} (b : Bool) (xs : List Y) (y : Y) → b ≡ true → Contains xs y → Contains (cond b xs []) y
in_if true xs y e h = h
in_if false xs y e h = absurd cc

pub none-is_none : (o : Option ℕ) → o ≡ None → is_none o ≡ true
none-is_none o e = rw e refl

way_itself : (v : Way) → same_way v v ≡ true
way_itself Direct = refl
way_itself Pointer = refl

-- ---- one step after the other

pub record IsFollowed (alike : List (ℕ × ℕ)) (seconds : List PairLine) (a m : ℕ) (w : Way) (y : PairLine) : Type 0 where
  pub own : line_of alike y.1 ≡ None
  pub there : Contains seconds (m, y.1, w)
  pub is : y ≡ (a, y.1, w)

module _ (alike : List (ℕ × ℕ)) (seconds : List PairLine) (a m : ℕ) (w : Way) (y : PairLine) where
  pub from_followed : Contains (followed alike seconds a m w) y → IsFollowed alike seconds a m w y
  unfolding followed
  from_followed h =
      let given = from_flat_map (followed_by alike a m w) seconds y h in
      let s = given.0 in
      let both = if_in (s.0 == m && same_way s.2 w && is_none (line_of alike s.1)) ((a, s.1, w) ∷ []) y given.2 in
      let is : y ≡ (a, s.1, w) = only_in (a, s.1, w) y both.1 in
      let tests = and_parts (s.0 == m && same_way s.2 w) (is_none (line_of alike s.1)) both.0 in
      let firsts = and_parts (s.0 == m) (same_way s.2 w) tests.0 in
      let new : y.1 ≡ s.1 = ap (λ (l : PairLine). l.1) is in
      let mk : ℕ → ℕ → Way → PairLine = λ b n v. (b, n, v) in
      let line : s ≡ (m, y.1, w) = ap (λ b. mk b s.1 s.2) (eqb-true s.0 m firsts.0) ∙ ap (λ n. mk m n s.2) (sym new) ∙ ap (mk m y.1) (same_way-is s.2 w firsts.1) in
      record {
        own = ap (line_of alike) new ∙ is_none-true (line_of alike s.1) tests.1;
        there = subst (λ (l : PairLine). Contains seconds l) line given.1;
        is = is ∙ ap (λ n. mk a n w) (sym new);
      }

  pub to_followed : IsFollowed alike seconds a m w y → Contains (followed alike seconds a m w) y
  unfolding followed
  to_followed f =
      in_flat_map (followed_by alike a m w) seconds (m, y.1, w) y f.there
      (in_if (m == m && same_way w w && is_none (line_of alike y.1)) ((a, y.1, w) ∷ []) y
      (and_from _ _ (and_from _ _ (eq-eqb m m refl) (way_itself w)) (none-is_none (line_of alike y.1) f.own))
      (0, omega arith, sym f.is))

pub record GoesThrough (alike : List (ℕ × ℕ)) (seconds : List PairLine) (middles : List (ℕ × ℕ)) (a e : ℕ) (w : Way) (y : PairLine) : Type 0 where
  pub entry : ℕ
  pub there : Contains middles (e, entry)
  pub on : IsFollowed alike seconds a entry w y

module _ (alike : List (ℕ × ℕ)) (seconds : List PairLine) (middles : List (ℕ × ℕ)) (a e : ℕ) (w : Way) (y : PairLine) where
  pub from_through : Contains (through alike seconds middles a e w) y → GoesThrough alike seconds middles a e w y
  unfolding through
  from_through h =
      let given = from_flat_map (through_by alike seconds a e w) middles y h in
      let m = given.0 in
      let both = if_in (m.0 == e) (followed alike seconds a m.1 w) y given.2 in
      let mk : ℕ → ℕ × ℕ = λ b. (b, m.1) in
      record {
        entry = m.1;
        there = subst (λ (p : ℕ × ℕ). Contains middles p) (ap mk (eqb-true m.0 e both.0)) given.1;
        on = from_followed alike seconds a m.1 w y both.1;
      }

  pub to_through : GoesThrough alike seconds middles a e w y → Contains (through alike seconds middles a e w) y
  unfolding through
  to_through g =
      in_flat_map (through_by alike seconds a e w) middles (e, g.entry) y g.there
      (in_if (e == e) (followed alike seconds a g.entry w) y (eq-eqb e e refl) (to_followed alike seconds a g.entry w y g.on))

-- ---- the lines that two certificates join

module _ (ch : PlainChain) (middles : List (ℕ × ℕ)) (exact : (m : ℕ × ℕ) → Contains middles m ↔ IsMiddle ch m) (y : PairLine) where
  pub from_joins : Contains (joins ch.one.alike_old ch.other.alike_new ch.other.pairs middles ch.one.pairs) y → IsJoined ch y
  unfolding joins
  from_joins h =
      let given = from_flat_map (joined_by ch.one.alike_old ch.other.alike_new ch.other.pairs middles) ch.one.pairs y h in
      let f = given.0 in
      let both = if_in (is_none (line_of ch.one.alike_old f.0)) (through ch.other.alike_new ch.other.pairs middles f.0 f.1 f.2) y given.2 in
      let goes = from_through ch.other.alike_new ch.other.pairs middles f.0 f.1 f.2 y both.1 in
      let node = (exact (f.1, goes.entry)).0 goes.there in
      let old : y.0 ≡ f.0 = ap (λ (l : PairLine). l.0) goes.on.is in
      let way : y.2 ≡ f.2 = ap (λ (l : PairLine). l.2) goes.on.is in
      let first : (middle_at ch node.0).0 ≡ f.1 = ap (λ (m : ℕ × ℕ). m.0) node.2 in
      let second : (middle_at ch node.0).1 ≡ goes.entry = ap (λ (m : ℕ × ℕ). m.1) node.2 in
      let mk : ℕ → ℕ → Way → PairLine = λ a b w. (a, b, w) in
      record {
        old_own = ap (line_of ch.one.alike_old) old ∙ is_none-true (line_of ch.one.alike_old f.0) both.0;
        new_own = goes.on.own;
        node = node.0;
        inside = node.1;
        one =
            subst (λ (l : PairLine). Contains ch.one.pairs l)
            (ap (λ a. mk a f.1 f.2) (sym old) ∙ ap (λ b. mk y.0 b f.2) (sym first) ∙ ap (mk y.0 (middle_at ch node.0).0) (sym way)) given.1;
        other =
            subst (λ (l : PairLine). Contains ch.other.pairs l)
            (ap (λ b. mk b y.1 f.2) (sym second) ∙ ap (mk (middle_at ch node.0).1 y.1) (sym way)) goes.on.there;
      }

  pub to_joins : IsJoined ch y → Contains (joins ch.one.alike_old ch.other.alike_new ch.other.pairs middles ch.one.pairs) y
  unfolding joins
  to_joins j =
      let m = middle_at ch j.node in
      let there = (exact m).1 (j.node, j.inside, refl) in
      in_flat_map (joined_by ch.one.alike_old ch.other.alike_new ch.other.pairs middles) ch.one.pairs (y.0, m.0, y.2) y j.one
      (in_if (is_none (line_of ch.one.alike_old y.0)) (through ch.other.alike_new ch.other.pairs middles y.0 m.0 y.2) y (none-is_none (line_of ch.one.alike_old y.0) j.old_own)
      (to_through ch.other.alike_new ch.other.pairs middles y.0 m.0 y.2 y (record { entry = m.1; there = there; on = record { own = j.new_own; there = j.other; is = refl } })))

  pub joins_are : Contains (joins ch.one.alike_old ch.other.alike_new ch.other.pairs middles ch.one.pairs) y ↔ IsJoined ch y
  joins_are = (from_joins, to_joins)
