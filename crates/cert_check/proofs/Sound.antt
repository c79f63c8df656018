-- An accepted certificate is a proof.
use Rattle.std.proofs.Common.{◌≡◌, ◌<◌, ◌&&◌, ℕ, Bool, true, false, List, [], ◌∷◌, length, slice_get, Option, Some, None, refl, sym, ◌∙◌, ap, inl, inr, arith}
use Rattle.std.specs.Prelude.{slice_index_or, ◌↔◌}
use Rattle.std.specs.List.{AllByRecursion, Contains}
use Rattle.std.proofs.lemmas.Bool.{cases_Bool, and_from}
use Rattle.std.proofs.lemmas.Option.{none-some, slice_get_within}
use Rattle.abi_base.proofs.lemmas.Lists.{at_contains}
use Rattle.abi_types.specs.declared.kind.Way.TheVariants.{Direct}
use Rattle.abi_types.specs.Types.{PlainNode}
use Rattle.abi_types.specs.Exports.{PlainExport}
use Rattle.abi_types.specs.Graphs.{IsGraph, node_at, node_of}
use Rattle.abi_types.proofs.lemmas.Nodes.{node_of-is}
use Rattle.pair_rules.specs.Steps.{PlainRoot, Task, Triple}
use Rattle.pair_rules.specs.Paths.{root_triple}
use Rattle.pair_rules.specs.Closed.{IsClosed, HoldsRoots}
use Rattle.abi_types.specs.ClassLooks.{look_of}
use Rattle.pair_rules.specs.Stable.{IsStable, AreEven, AreClasses, IsInside, classed, StandsFor, related}
use Rattle.cert_check.specs.Compatible.{Sides, IsCompatible, bound, is_typed, root_with, root_to, root_from, typed_root, typed_roots, task_of}
use Rattle.abi_types.specs.Limits.{symbol_limit}
use Rattle.abi_types.specs.Libraries.{AreNumbered}
use Rattle.cert_check.specs.ProvedConditions.{KeepsAll}
use Rattle.cert_check.specs.Relation.{relation_of}
use Rattle.cert_check.specs.TypedPairs.{IsTypedPair, HasTypes}
use Rattle.cert_check.specs.Accepted.{Place, heads, joined, Binding, Rules, AlikeOld, AlikeNew, Root, Rule, Partners, groups, places, binding_places, pair_places, IsAccepted, Case, line_of, rep, class_in, old_class, new_class, listed, is_line, KeepsAlike, KeepsBinding, KeepsRule, KeepsPartners, Keeps}
use Rattle.cert_check.proofs.First.{grouped, join, each-at, each-from, twos-at, twos-from}
use Rattle.cert_check.proofs.Numbered.{given_there, given_ascends}
use Rattle.cert_check.proofs.Lines.{line_of-some, is_line-at}
use Rattle.pair_rules.proofs.lemmas.Triples.{is_inside-from, triple_eq}
use Rattle.cert_check.proofs.lemmas.Lines.{rep-some, rep-none}
use Rattle.cert_check.proofs.lemmas.Roots.{typed_pair, root_with-parts}

-- ---- classes

module _ (nodes : List PlainNode) (graph : IsGraph nodes) (lines : List (ℕ × ℕ)) (kept : (k : ℕ) → KeepsAlike nodes lines k) where
  abbrev class : ℕ → ℕ
  class = class_in nodes lines

  -- what stands for a node: the node of the class's own entry, which looks the same
  pub record HasRep (i : ℕ) : Type 0 where
    pub node : ℕ
    pub inside : node < length nodes
    pub entry : (node_at nodes node).entry ≡ class i
    pub own : class node ≡ class i
    pub looks : look_of class (node_at nodes i) ≡ look_of class (node_at nodes node)

  has_rep : (i : ℕ) → i < length nodes → HasRep i
  has_rep i inside = go (line_of lines (node_at nodes i).entry) refl where
    go : (o : Option ℕ) → line_of lines (node_at nodes i).entry ≡ o → HasRep i
    go None is = record { node = i; inside = inside; entry = sym (rep-none lines (node_at nodes i).entry is); own = refl; looks = refl }
    go (Some r) is =
        let line = line_of-some lines (node_at nodes i).entry r is in
        let alike = kept line.place ((node_at nodes i).entry, r) line.at in
        let one = node_of-is nodes (node_at nodes i).entry alike.one alike.stands in
        let other = node_of-is nodes r alike.other alike.for_it in
        let same : alike.one ≡ i = graph.apart alike.one i one.0 inside one.1 in
        let stands : class i ≡ r = rep-some lines (node_at nodes i).entry r is in
        record {
          node = alike.other;
          inside = other.0;
          entry = other.1 ∙ sym stands;
          own = ap (rep lines) other.1 ∙ rep-none lines r alike.own ∙ sym stands;
          looks = ap (λ (k : ℕ). look_of class (node_at nodes k)) (sym same) ∙ alike.looks;
        }

  pub stable : IsStable nodes class
  stable i j below under e =
      let one = has_rep i below in
      let other = has_rep j under in
      let same : one.node ≡ other.node = graph.apart one.node other.node one.inside other.inside (one.entry ∙ e ∙ sym other.entry) in
      one.looks ∙ ap (λ (k : ℕ). look_of class (node_at nodes k)) same ∙ sym other.looks

  -- the node of an entry that is its own class
  pub own_class : (i k : ℕ) → i < length nodes → node_of nodes (class i) ≡ Some k → class k ≡ class i
  own_class i k inside is =
      let one = has_rep i inside in
      let found = node_of-is nodes (class i) k is in
      let same : k ≡ one.node = graph.apart k one.node found.0 one.inside (found.1 ∙ sym one.entry) in
      ap class same ∙ one.own

-- ---- typed pairs

-- a root is at its own place
root_to-place : (s : Sides) (k : ℕ) (e : PlainExport) (root : PlainRoot) (o : Option PlainExport) → root_to s k e o ≡ Some root → k ≡ root.export
root_to-place s k e root None h = absurd (none-some root h)
root_to-place s k e root (Some f) h =
    elim (cases_Bool (is_typed e && is_typed f)) [
      | inl typed ↦ (root_with-parts k (node_of s.old.graph e.entry) (node_of s.new.graph f.entry) root (rw typed at h)).0
      | inr untyped ↦ absurd (none-some root (rw untyped at h))
    ]

root_from-place : (s : Sides) (k : ℕ) (root : PlainRoot) (o : Option PlainExport) → root_from s k o ≡ Some root → k ≡ root.export
root_from-place s k root None h = absurd (none-some root h)
root_from-place s k root (Some e) h =
    elim (cases_Bool (slice_index_or s.marks.exports k false)) [
      | inl dropped ↦ absurd (none-some root (rw dropped at h))
      | inr kept ↦ root_to-place s k e root (bound s e) (rw kept at h)
    ]

typed_root-place : (s : Sides) (k : ℕ) (root : PlainRoot) → typed_root s k ≡ Some root → k ≡ root.export
unfolding typed_root
typed_root-place s k root e = root_from-place s k root (slice_get s.old.exports k) e

-- and where there is a typed pair there is its root
root_of_pair : (s : Sides) (root : PlainRoot) → IsTypedPair s root → typed_root s root.export ≡ Some root
unfolding typed_root
root_of_pair s root p =
    let here : root_from s root.export (slice_get s.old.exports root.export) ≡ root_from s root.export (Some p.old) = ap (root_from s root.export) p.compared.at in
    let kept : root_from s root.export (Some p.old) ≡ root_to s root.export p.old (bound s p.old) = rw p.compared.kept refl in
    let there : root_to s root.export p.old (bound s p.old) ≡ root_to s root.export p.old (Some p.new) = ap (root_to s root.export p.old) p.binds in
    let typed : is_typed p.old && is_typed p.new ≡ true = rw (p.old_typed, p.new_typed) refl in
    let both : root_to s root.export p.old (Some p.new) ≡ root_with root.export (node_of s.old.graph p.old.entry) (node_of s.new.graph p.new.entry) = rw typed refl in
    let nodes : root_with root.export (node_of s.old.graph p.old.entry) (node_of s.new.graph p.new.entry) ≡ root_with root.export (Some root.old) (Some root.new) =
    ap (λ (o : Option ℕ). root_with root.export o (node_of s.new.graph p.new.entry)) p.old_node ∙ ap (root_with root.export (Some root.old)) p.new_node in
    here ∙ kept ∙ there ∙ both ∙ nodes

pub typed_roots-there : (s : Sides) (root : PlainRoot) → IsTypedPair s root → Contains (typed_roots s) root
unfolding typed_roots
typed_roots-there s root p = given_there (typed_root s) (length s.old.exports) root.export root (slice_get_within s.old.exports root.export p.old p.compared.at) (root_of_pair s root p)

pub typed_roots_iff : (s : Sides) (root : PlainRoot) → Contains (typed_roots s) root ↔ IsTypedPair s root
typed_roots_iff s root = (λ h. let there = at_contains (typed_roots s) root h in typed_pair s there.0 root there.1, typed_roots-there s root)

pub typed_roots-ascend : (s : Sides) (j k : ℕ) (first later : PlainRoot) → j < k → slice_get (typed_roots s) j ≡ Some first → slice_get (typed_roots s) k ≡ Some later → first.export < later.export
unfolding typed_roots
typed_roots-ascend s j k first later less at there =
    given_ascends (typed_root s) (λ (r t : PlainRoot). r.export < t.export) (length s.old.exports)
    (λ m n x y lt below one other. omega (arith, lt, typed_root-place s m x one, typed_root-place s n y other))
    0 (length s.old.exports) j k first later (omega arith) less at there

pub typed_pair-inside : (s : Sides) (root : PlainRoot) → IsTypedPair s root → HasTypes s root
typed_pair-inside s root p = record { old = (node_of-is s.old.graph p.old.entry root.old p.old_node).0; new = (node_of-is s.new.graph p.new.entry root.new p.new_node).0 }

-- ---- what is accepted

bindings-at : (c : Case) (symbol : ℕ) → AllByRecursion (Keeps c) binding_places → symbol < symbol_limit → KeepsBinding c symbol
unfolding binding_places
bindings-at c symbol all below = each-at (Keeps c) Binding 0 symbol_limit symbol all (omega arith) (omega arith)

bindings-from : (c : Case) → ((symbol : ℕ) → symbol < symbol_limit → KeepsBinding c symbol) → AllByRecursion (Keeps c) binding_places
unfolding binding_places
bindings-from c all = each-from (Keeps c) Binding 0 symbol_limit (λ symbol from below. all symbol (omega (arith, below)))

pairs-at : (c : Case) (n k : ℕ) → AllByRecursion (Keeps c) (pair_places n) → k < n → KeepsRule c k × KeepsPartners c k
unfolding pair_places
pairs-at c n k all below = twos-at (Keeps c) Rule Partners 0 n k all (omega arith) (omega arith)

pairs-from : (c : Case) (n : ℕ) → ((k : ℕ) → KeepsRule c k) → ((k : ℕ) → KeepsPartners c k) → AllByRecursion (Keeps c) (pair_places n)
unfolding pair_places
pairs-from c n lines partners = twos-from (Keeps c) Rule Partners 0 n (λ k from below. (lines k, partners k))

pub KeepsAll-from : (c : Case) → IsAccepted c → KeepsAll c
unfolding places
KeepsAll-from c all =
    let g = grouped (Keeps c) (groups c) all in
    record {
      old_digest = g.0.0;
      new_digest = g.0.1.0;
      rules_digest = g.0.1.1.0;
      sonames = g.0.1.1.1.0;
      bindings = λ symbol below. bindings-at c symbol g.1.0 below;
      rules = λ k e f compared. each-at (Keeps c) Rules 0 (length c.sides.old.exports) k g.1.1.0 (omega arith) (omega (arith, slice_get_within c.sides.old.exports k e compared.at)) e f compared;
      alike_old = λ k line at. each-at (Keeps c) AlikeOld 0 (length c.cert.alike_old) k g.1.1.1.0 (omega arith) (omega (arith, slice_get_within c.cert.alike_old k line at)) line at;
      alike_new = λ k line at. each-at (Keeps c) AlikeNew 0 (length c.cert.alike_new) k g.1.1.1.1.0 (omega arith) (omega (arith, slice_get_within c.cert.alike_new k line at)) line at;
      roots = λ k e f compared. each-at (Keeps c) Root 0 (length c.sides.old.exports) k g.1.1.1.1.1.0 (omega arith) (omega (arith, slice_get_within c.sides.old.exports k e compared.at)) e f compared;
      lines = λ k line at. (pairs-at c (length c.cert.pairs) k g.1.1.1.1.1.1.0 (slice_get_within c.cert.pairs k line at)).0 line at;
      partners = λ k line at. (pairs-at c (length c.cert.pairs) k g.1.1.1.1.1.1.0 (slice_get_within c.cert.pairs k line at)).1 line at;
    }

-- group by group
ungrouped : (c : Case) (pss : List (List Place)) → AllByRecursion (AllByRecursion (Keeps c)) pss → AllByRecursion (Keeps c) (joined pss)
ungrouped c [] all = tt
ungrouped c (ps ∷ pss) all = join (Keeps c) ps (joined pss) all.0 (ungrouped c pss all.1)

pub IsAccepted-from : (c : Case) → KeepsAll c → IsAccepted c
unfolding places
IsAccepted-from c k =
    let head : AllByRecursion (Keeps c) heads = (k.old_digest, (k.new_digest, (k.rules_digest, (k.sonames, tt)))) in
    let rules = each-from (Keeps c) Rules 0 (length c.sides.old.exports) (λ n from below. k.rules n) in
    let olds = each-from (Keeps c) AlikeOld 0 (length c.cert.alike_old) (λ n from below. k.alike_old n) in
    let news = each-from (Keeps c) AlikeNew 0 (length c.cert.alike_new) (λ n from below. k.alike_new n) in
    let roots = each-from (Keeps c) Root 0 (length c.sides.old.exports) (λ n from below. k.roots n) in
    ungrouped c (groups c) (head, (bindings-from c k.bindings, (rules, (olds, (news, (roots, (pairs-from c (length c.cert.pairs) k.lines k.partners, tt)))))))

-- ---- the proof

-- what the rules of pairs promise of classes
abbrev pub Closes : Type 0
Closes = (t : Task) (old new : ℕ → ℕ) (listed : Triple → Bool) → AreClasses t old new → ((x : Triple) → IsInside t x → listed (classed old new x) ≡ true → StandsFor t old new listed x) → IsClosed t (related t old new listed)

module _ (closes : Closes) (c : Case) (old_graph : IsGraph c.sides.old.graph) (new_graph : IsGraph c.sides.new.graph) (even : AreEven (task_of c.sides)) (kept : KeepsAll c) where
  classes : AreClasses (task_of c.sides) (old_class c) (new_class c)
  classes = record {
    old_graph = old_graph;
    new_graph = new_graph;
    old_stable = stable c.sides.old.graph old_graph c.cert.alike_old kept.alike_old;
    new_stable = stable c.sides.new.graph new_graph c.cert.alike_new kept.alike_new;
    even = even;
  }

  -- the line of the classes of a triple of nodes stands for them
  stands : (x : Triple) → IsInside (task_of c.sides) x → listed c (classed (old_class c) (new_class c) x) ≡ true → StandsFor (task_of c.sides) (old_class c) (new_class c) (listed c) x
  stands x inside is =
      let (k, at) = is_line-at c.cert.pairs (old_class c x.old, new_class c x.new, x.way) is in
      let line = kept.lines k (old_class c x.old, new_class c x.new, x.way) at in
      let one = node_of-is c.sides.old.graph (old_class c x.old) line.triple.old line.is.old in
      let other = node_of-is c.sides.new.graph (new_class c x.new) line.triple.new line.is.new in
      record {
        triple = line.triple;
        inside = record { old = one.0; new = other.0 };
        is =
            triple_eq (classed (old_class c) (new_class c) line.triple) (classed (old_class c) (new_class c) x)
            (own_class c.sides.old.graph old_graph c.cert.alike_old kept.alike_old x.old line.triple.old inside.old line.is.old)
            (own_class c.sides.new.graph new_graph c.cert.alike_new kept.alike_new x.new line.triple.new inside.new line.is.new)
            line.is.way;
        keeps = line.keeps;
        leads_on = λ y i stepped. kept.partners k (old_class c x.old, new_class c x.new, x.way) at line.triple y i line.is stepped;
      }

  pub closed : IsClosed (task_of c.sides) (relation_of c)
  closed = closes (task_of c.sides) (old_class c) (new_class c) (listed c) classes stands

  pub roots : HoldsRoots (task_of c.sides) (relation_of c)
  roots j root at =
      let pair = typed_pair c.sides j root at in
      let one = node_of-is c.sides.old.graph pair.old.entry root.old pair.old_node in
      let other = node_of-is c.sides.new.graph pair.new.entry root.new pair.new_node in
      let line = kept.roots root.export pair.old pair.new pair.compared pair.binds pair.old_typed pair.new_typed in
      and_from _ _ (is_inside-from (task_of c.sides) (root_triple root) (record { old = one.0; new = other.0 }))
      (ap (λ (e : ℕ). is_line c.cert.pairs (rep c.cert.alike_old e, new_class c root.new, Direct)) one.1
      ∙ ap (λ (e : ℕ). is_line c.cert.pairs (rep c.cert.alike_old pair.old.entry, rep c.cert.alike_new e, Direct)) other.1
      ∙ line)

  pub compatible : AreNumbered c.sides.old.exports → IsCompatible c.sides
  compatible numbered = record {
    sonames = kept.sonames;
    exports = λ k e compared.
        let binding = (kept.bindings e.symbol (numbered.below k e compared.at)).bound k e compared refl in
        record { partner = binding.partner; binds = binding.binds; keeps = kept.rules k e binding.partner compared binding.binds };
    types = (relation_of c, closed, roots);
  }

pub IsCompatible-from_accepted : Closes → (c : Case) → AreNumbered c.sides.old.exports → IsGraph c.sides.old.graph → IsGraph c.sides.new.graph → AreEven (task_of c.sides) → IsAccepted c → IsCompatible c.sides
IsCompatible-from_accepted closes c numbered old_graph new_graph even accepted = compatible closes c old_graph new_graph even (KeepsAll-from c accepted) numbered
