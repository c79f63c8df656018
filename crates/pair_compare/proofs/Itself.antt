-- A library in its own place.
use Rattle.std.proofs.Common.{◌≡◌, ◌<◌, ◌&&◌, ◌==◌, not, ℕ, Bool, true, false, List, [], length, Some, refl, sym, ◌∙◌, ap, subst, slice_get}
use Rattle.std.specs.Prelude.{◌↔◌, option_and_then}
use Rattle.std.proofs.lemmas.Bool.{eq-eqb, eqb-true}
use Rattle.std.proofs.lemmas.Option.{same_Some}
use Rattle.abi_types.specs.declared.export.SymbolKind.{SymbolKind}
use Rattle.abi_types.specs.declared.export.SymbolKind.TheVariants.{NoType, Object, Func, Common, Tls, Ifunc}
use Rattle.abi_types.specs.declared.library.Marks.{Marks}
use Rattle.abi_types.specs.Types.{PlainView, PlainNode}
use Rattle.abi_types.specs.Exports.{PlainExport}
use Rattle.abi_types.specs.Libraries.{PlainLibrary}
use Rattle.abi_types.specs.Graphs.{part_at, view_at, to_of, node_of}
use Rattle.pair_rules.specs.ExportRules.{kinds_agree}
use Rattle.pair_rules.specs.Matching.{match_of, IsMatch}
use Rattle.pair_rules.specs.TypeRules.{breaks}
use Rattle.pair_rules.specs.Steps.{Task, Triple, step, IsStep, breaks_of}
use Rattle.pair_rules.specs.Closed.{IsClosed, HoldsRoots}
use Rattle.cert_check.specs.Compatible.{sides, KeepsExport, bound, task_of, IsCompatible}
use Rattle.pair_compare.specs.Distinct.{AreDistinct}
use Rattle.pair_compare.proofs.Apart.{binds_to_itself}
use Rattle.pair_compare.proofs.Pairs.{AreTypedPairs, typed_pair}
use Rattle.pair_rules.proofs.lemmas.Parts.{like-same}

-- ---- exports

kinds_agree-refl : (k : SymbolKind) → kinds_agree k k ≡ true
kinds_agree-refl NoType = refl
kinds_agree-refl Object = refl
kinds_agree-refl Func = refl
kinds_agree-refl Common = refl
kinds_agree-refl Tls = refl
kinds_agree-refl Ifunc = refl

both_not : (a b : Bool) → not a && a && b ≡ false
both_not true b = refl
both_not false b = refl

last_false : (a b : Bool) → a && b && false ≡ false
last_false true true = refl
last_false true false = refl
last_false false b = refl

keeps_itself : (e : PlainExport) → KeepsExport e e
keeps_itself e =
    let sized : e.size == e.size ≡ true = eq-eqb e.size e.size refl in
    rw (kinds_agree-refl e.kind, sized, last_false, both_not) refl

-- ---- types

-- what the rules of types say
pub record AreRules : Type 0 where
  pub found : (v w : PlainView) (i j : ℕ) → (match_of v w i ≡ Some j) ↔ IsMatch v w i j
  pub none : (v : PlainView) → breaks v v ≡ []
  pub steps : (t : Task) (x y : Triple) (i : ℕ) → (step t x i ≡ Some y) ↔ IsStep t x i y

-- a part of a type matches itself
own_match : AreRules → (v : PlainView) (i j : ℕ) → i < length v.parts → IsMatch v v i j → j ≡ i
own_match rules v i j inside matched =
    let own : IsMatch v v i i = record { inside = inside; alike = like-same (part_at v i); as_many = refl } in
    same_Some j i (sym ((rules.found v v i j).1 matched) ∙ (rules.found v v i i).1 own)

-- two nodes are one
pub is_one : Triple → Bool
is_one x = x.old == x.new

module _ (rules : AreRules) (nodes : List PlainNode) (t : Task) (old : t.old ≡ nodes) (new : t.new ≡ nodes) where
  view_there : (x : Triple) → is_one x ≡ true → view_at t.new x.new ≡ view_at t.old x.old
  unfolding is_one
  view_there x one = ap (λ (ns : List PlainNode). view_at ns x.new) (new ∙ sym old) ∙ ap (view_at t.old) (sym (eqb-true x.old x.new one))

  keeps : (x : Triple) → is_one x ≡ true → breaks_of t x ≡ []
  keeps x one = ap (breaks (view_at t.old x.old)) (view_there x one) ∙ rules.none (view_at t.old x.old)

  leads_on : (x y : Triple) (i : ℕ) → is_one x ≡ true → step t x i ≡ Some y → is_one y ≡ true
  unfolding is_one
  leads_on x y i one stepped =
      let is = (rules.steps t x y i).0 stepped in
      let v = view_at t.old x.old in
      let there = view_there x one in
      let own : is.new_part ≡ i = own_match rules v i is.new_part is.partners.old_inside (subst (λ (w : PlainView). IsMatch v w i is.new_part) there is.partners.matched) in
      let to : to_of (part_at v i) ≡ Some y.new = ap (λ (j : ℕ). to_of (part_at v j)) (sym own) ∙ ap (λ (w : PlainView). to_of (part_at w is.new_part)) (sym there) ∙ is.new in
      eq-eqb y.old y.new (same_Some y.old y.new (sym is.old ∙ to))

  pub closed : IsClosed t is_one
  closed = record { keeps = λ x one unmarked. keeps x one; leads_on = leads_on }

-- ---- libraries

module _ (rules : AreRules) (pairs : AreTypedPairs) (l : PlainLibrary) (m : Marks) (distinct : AreDistinct l.exports) where
  pub own_bound : (k : ℕ) (e : PlainExport) → slice_get l.exports k ≡ Some e → bound (sides l l m) e ≡ Some e
  own_bound k e at = ap (option_and_then (slice_get l.exports)) (binds_to_itself l.exports k e distinct at) ∙ at

  roots : HoldsRoots (task_of (sides l l m)) is_one
  unfolding is_one
  roots j root at =
      let pair = typed_pair pairs (sides l l m) j root at in
      let same : pair.new ≡ pair.old = same_Some pair.new pair.old (sym pair.binds ∙ own_bound root.export pair.old pair.compared.at) in
      eq-eqb root.old root.new (same_Some root.old root.new (sym pair.old_node ∙ ap (λ (e : PlainExport). node_of l.graph e.entry) (sym same) ∙ pair.new_node))

  pub compatible : IsCompatible (sides l l m)
  compatible = record {
    sonames = refl;
    exports = λ k e compared. record { partner = e; binds = own_bound k e compared.at; keeps = keeps_itself e };
    types = (is_one, closed rules l.graph (task_of (sides l l m)) refl refl, roots);
  }
