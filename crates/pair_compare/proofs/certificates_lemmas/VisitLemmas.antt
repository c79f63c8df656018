-- The lines of visits are those of reachable triples.
use Rattle.std.proofs.Common.{◌≡◌, ◌<◌, ◌+◌, ℕ, true, false, List, [], ◌∷◌, ◌++◌, map, take, length, get_or, slice_get, Some, refl, sym, ◌∙◌, ap, subst, inl, inr, arith}
use Rattle.std.specs.Prelude.{◌↔◌}
use Rattle.std.specs.List.{Contains}
use Rattle.std.specs.Option.{option_map}
use Rattle.std.specs.List.Sorted.{IsPermutation, IsSorted}
use Rattle.std.specs.Ordering.{eq_by_cmp}
use Rattle.std.proofs.lemmas.Bool.{cases_Bool}
use Rattle.std.proofs.lemmas.List.{take_more, map-append}
use Rattle.std.proofs.lemmas.List.Sorted.{Contains-permutation, IsPermutation-sym}
use Rattle.std.proofs.lemmas.Option.{slice_get_within, slice_get-get_or, slice_get-map, get_or_from_slice_get}
use Rattle.abi_base.proofs.lemmas.Lists.{contains_at, at_contains, map_source}
use Rattle.abi_types.specs.declared.kind.Way.{Way}
use Rattle.abi_types.specs.Types.{PlainNode}
use Rattle.abi_types.specs.Graphs.{IsGraph, node_at}
use Rattle.pair_rules.specs.declared.rules.Broken.{Broken}
use Rattle.pair_rules.specs.Steps.{PlainRoot, Task, Triple}
use Rattle.pair_rules.specs.Stable.{IsInside}
use Rattle.pair_rules.specs.Paths.{Path, PathLeadsTo, IsReachable, root_triple}
use Rattle.type_classes.specs.Classes.{PlainClasses, AreSound, AreCoarsest, IsLeastEntry, rep_of}
use Rattle.pair_explorer.specs.declared.visits.Visit.{Visit}
use Rattle.pair_explorer.specs.Scopes.{Scope, rep}
use Rattle.pair_explorer.specs.Visits.{seen, has, IsVisit}
use Rattle.pair_explorer.specs.Explorations.{IsExploration}
use Rattle.pair_explorer.specs.ByClass.{IsSound, IsReached}
use Rattle.cert_text.specs.Certs.{PairLine, pair_cmp}
use Rattle.cert_check.specs.Compatible.{Sides, task_of}
use Rattle.pair_compare.specs.certificates.Lines.{IsReachedPair, ArePairLines}
use Rattle.pair_compare.specs.certificates.LineLists.{pair_line}
use Rattle.pair_compare.specs.certificates.Searches.{scope_of, AreClassesOf, IsUnbroken}
use Rattle.pair_compare.proofs.certificates_lemmas.Orders.{sorted_ascends, pair_cmp_total, pair_same, pair_eq}
use Rattle.pair_compare.proofs.certificates_lemmas.FoundLemmas.{ClassLaws}

-- ---- one more line

pub lines_more : (old new : List PlainNode) (visits : List Visit) (n : ℕ) (v : Visit) (lines more : List PairLine) (a b : ℕ) → lines ≡ map (pair_line old new) (take n visits) → slice_get visits n ≡ Some v → a ≡ (node_at old v.old).entry → b ≡ (node_at new v.new).entry
    → more ≡ lines ++ (a, b, v.way) ∷ [] → more ≡ map (pair_line old new) (take (n + 1) visits)
lines_more old new visits n v lines more a b so_far at is_a is_b pushed =
    let grown : take (n + 1) visits ≡ take n visits ++ v ∷ [] = take_more visits n v (slice_get_within visits n v at) ∙ ap (λ u. take n visits ++ u ∷ []) (get_or_from_slice_get visits n v v at) in
    let line : PairLine = (a, b, v.way) in
    let same : line ≡ pair_line old new v = pair_eq line (pair_line old new v) (record { old = is_a; new = is_b; way = refl }) in
    pushed ∙ ap (λ l. lines ++ l ∷ []) same ∙ ap (λ ls. ls ++ pair_line old new v ∷ []) so_far ∙ sym (map-append (pair_line old new) (take n visits) (v ∷ [])) ∙ ap (map (pair_line old new)) (sym grown)

-- ---- the laws below

pub record VisitLaws : Type 0 where
  pub classes : ClassLaws
  pub reached : (s : Scope) (visits : List Visit) (broken : List (ℕ × Broken)) (z : Triple) → IsSound s → IsExploration s visits broken → (has visits z ≡ true) ↔ IsReached s z
  pub visited : (visits : List Visit) (x : Triple) → (has visits x ≡ true) ↔ IsVisit visits x
  pub nodes : (t : Task) (path : Path) (x : Triple) → IsGraph t.old → IsGraph t.new → ((k : ℕ) (root : PlainRoot) → slice_get t.roots k ≡ Some root → IsInside t (root_triple root)) → PathLeadsTo t path x → IsInside t x

-- a node stands by the least entry of those alike to it, in a graph of which the classes are
module _ (laws : ClassLaws) (c : PlainClasses) (nodes : List PlainNode) (sound : AreSound c) (coarsest : AreCoarsest c) (is : c.nodes ≡ nodes) where
  stands_in : (a : ℕ) → a < length nodes → IsLeastEntry nodes (node_at nodes (rep_of c a)).entry a
  stands_in a inside = subst (λ (ns : List PlainNode). IsLeastEntry ns (node_at ns (rep_of c a)).entry a) is (laws.stands c a sound coarsest (omega (arith, ap length is, inside)))

  alone_in : (entry a : ℕ) → a < length nodes → IsLeastEntry nodes entry a → (node_at nodes (rep_of c a)).entry ≡ entry
  alone_in entry a inside least =
      ap (λ (ns : List PlainNode). (node_at ns (rep_of c a)).entry) (sym is) ∙ laws.alone c entry a sound coarsest (omega (arith, ap length is, inside)) (subst (λ (ns : List PlainNode). IsLeastEntry ns entry a) (sym is) least)

module _ (laws : VisitLaws) (s : Sides) (old new : PlainClasses) (visits : List Visit) (are : AreClassesOf s old new) (search_of : IsUnbroken s old new visits) where
  abbrev scope : Scope
  scope = scope_of s old new

  sound : IsSound scope
  sound = record { scope = search_of.scope; old = are.old_sound; new = are.new_sound }

  inside : (x : Triple) → IsReachable (task_of s) x → IsInside (task_of s) x
  inside x (path, leads) = laws.nodes (task_of s) path x are.old_graph are.new_graph (λ k root at. let here = search_of.scope.nodes.roots k root at in record { old = here.0; new = here.1 }) leads

  abbrev lines : List PairLine
  lines = map (pair_line s.old.graph s.new.graph) visits

  old_stands : (a : ℕ) → a < length s.old.graph → IsLeastEntry s.old.graph (node_at s.old.graph (rep_of old a)).entry a
  old_stands = stands_in laws.classes old s.old.graph are.old_sound search_of.old_coarsest search_of.scope.nodes.old_nodes

  new_stands : (a : ℕ) → a < length s.new.graph → IsLeastEntry s.new.graph (node_at s.new.graph (rep_of new a)).entry a
  new_stands = stands_in laws.classes new s.new.graph are.new_sound search_of.new_coarsest search_of.scope.nodes.new_nodes

  line_from : (line : PairLine) → Contains lines line → IsReachedPair (task_of s) line
  line_from line h =
      let (k, at) = at_contains lines line h in
      let m = map_source (pair_line s.old.graph s.new.graph) visits k line at in
      let r = (laws.reached scope visits [] (seen m.item) sound search_of.exploration).0 ((laws.visited visits (seen m.item)).1 (record { number = k; visit = m.item; at = m.at; is = refl })) in
      let x = r.triple in
      let in_x = inside x (r.path, r.leads) in
      let old_is : (node_at s.old.graph (rep_of old x.old)).entry ≡ line.0 = ap (λ (z : Triple). (node_at s.old.graph z.old).entry) r.is ∙ ap (λ (l : PairLine). l.0) m.is in
      let new_is : (node_at s.new.graph (rep_of new x.new)).entry ≡ line.1 = ap (λ (z : Triple). (node_at s.new.graph z.new).entry) r.is ∙ ap (λ (l : PairLine). l.1) m.is in
      record {
        triple = x;
        reachable = (r.path, r.leads);
        old = subst (λ (e : ℕ). IsLeastEntry s.old.graph e x.old) old_is (old_stands x.old in_x.old);
        new = subst (λ (e : ℕ). IsLeastEntry s.new.graph e x.new) new_is (new_stands x.new in_x.new);
        way = sym (ap (λ (l : PairLine). l.2) m.is) ∙ ap (λ (z : Triple). z.way) (sym r.is);
      }

  line_to : (line : PairLine) → IsReachedPair (task_of s) line → Contains lines line
  line_to line p =
      let x = p.triple in
      let in_x = inside x p.reachable in
      let there = (laws.visited visits (rep scope x)).0 ((laws.reached scope visits [] (rep scope x) sound search_of.exploration).1 (record { triple = x; path = p.reachable.0; leads = p.reachable.1; is = refl })) in
      let v = there.visit in
      let old_is : (node_at s.old.graph v.old).entry ≡ line.0 = ap (λ (z : Triple). (node_at s.old.graph z.old).entry) there.is ∙ alone_in laws.classes old s.old.graph are.old_sound search_of.old_coarsest search_of.scope.nodes.old_nodes line.0 x.old in_x.old p.old in
      let new_is : (node_at s.new.graph v.new).entry ≡ line.1 = ap (λ (z : Triple). (node_at s.new.graph z.new).entry) there.is ∙ alone_in laws.classes new s.new.graph are.new_sound search_of.new_coarsest search_of.scope.nodes.new_nodes line.1 x.new in_x.new p.new in
      let way_is : v.way ≡ line.2 = ap (λ (z : Triple). z.way) there.is ∙ sym p.way in
      let here : slice_get lines there.number ≡ Some (pair_line s.old.graph s.new.graph v) = slice_get-map (pair_line s.old.graph s.new.graph) visits there.number ∙ ap (option_map (pair_line s.old.graph s.new.graph)) there.at in
      subst (Contains lines) (pair_eq (pair_line s.old.graph s.new.graph v) line (record { old = old_is; new = new_is; way = way_is })) (contains_at lines there.number (pair_line s.old.graph s.new.graph v) here)

  triple_eq : (x y : Triple) → x.old ≡ y.old → x.new ≡ y.new → x.way ≡ y.way → x ≡ y
  triple_eq x y a b c =
      let mk : ℕ → ℕ → Way → Triple = λ m n w. record { old = m; new = n; way = w } in
      ap (λ m. mk m x.new x.way) a ∙ ap (λ n. mk y.old n x.way) b ∙ ap (mk y.old y.new) c

  lines_apart : (i j : ℕ) (d : PairLine) → i < j → j < length lines → eq_by_cmp pair_cmp (get_or lines i d) (get_or lines j d) ≡ false
  lines_apart i j d less below =
      elim (cases_Bool (eq_by_cmp pair_cmp (get_or lines i d) (get_or lines j d))) [
        | inl same ↦
            let one = pair_same (get_or lines i d) (get_or lines j d) same in
            let f = pair_line s.old.graph s.new.graph in
            let u = map_source f visits i (get_or lines i d) (slice_get-get_or lines i d (omega (arith, less, below))) in
            let v = map_source f visits j (get_or lines j d) (slice_get-get_or lines j d below) in
            let in_u = search_of.exploration.inside i u.item u.at in
            let in_v = search_of.exploration.inside j v.item v.at in
            let old_same = are.old_graph.apart u.item.old v.item.old in_u.0 in_v.0 (ap (λ (l : PairLine). l.0) u.is ∙ one.old ∙ sym (ap (λ (l : PairLine). l.0) v.is)) in
            let new_same = are.new_graph.apart u.item.new v.item.new in_u.1 in_v.1 (ap (λ (l : PairLine). l.1) u.is ∙ one.new ∙ sym (ap (λ (l : PairLine). l.1) v.is)) in
            let way_same = ap (λ (l : PairLine). l.2) u.is ∙ one.way ∙ sym (ap (λ (l : PairLine). l.2) v.is) in
            let twice = search_of.exploration.once i j u.item v.item u.at v.at (triple_eq (seen u.item) (seen v.item) old_same new_same way_same) in
            absurd (omega (arith, twice, less))
        | inr other ↦ other
      ]

  pub visits_are : (sorted_lines : List PairLine) → IsPermutation lines sorted_lines → IsSorted pair_cmp sorted_lines → ArePairLines (task_of s) sorted_lines
  visits_are sorted_lines moved sorted = record {
    ascending = sorted_ascends pair_cmp_total lines sorted_lines moved sorted lines_apart;
    exact = λ line. (
      λ h. line_from line (Contains-permutation sorted_lines lines line (IsPermutation-sym lines sorted_lines moved) h),
      λ p. Contains-permutation lines sorted_lines line moved (line_to line p),
    );
  }
