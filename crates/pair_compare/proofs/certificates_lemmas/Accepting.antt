-- The certificate of compatible libraries is accepted.
use Rattle.std.proofs.Common.{◌≡◌, ◌<◌, ℕ, true, false, List, [], length, slice_get, Some, refl, sym, ◌∙◌, ap, subst}
use Rattle.std.specs.Prelude.{◌↔◌, is_some}
use Rattle.std.specs.List.{Contains}
use Rattle.std.proofs.lemmas.Option.{same_Some, slice_get_within, get_or_from_slice_get}
use Rattle.abi_base.proofs.lemmas.Lists.{contains_at, at_contains}
use Rattle.abi_types.specs.declared.kind.Way.{Way}
use Rattle.abi_types.specs.declared.kind.Way.TheVariants.{Direct}
use Rattle.abi_types.specs.Exports.{PlainExport}
use Rattle.abi_types.specs.Graphs.{node_of, view_at}
use Rattle.abi_types.specs.Limits.{symbol_limit}
use Rattle.pair_rules.specs.ExportRules.{export_breaks}
use Rattle.pair_rules.specs.Steps.{PlainRoot, Task, Triple, is_marked, breaks_of, step}
use Rattle.pair_rules.specs.Stable.{IsInside, classed}
use Rattle.pair_rules.specs.Paths.{From, Then, IsReachable, root_triple}
use Rattle.type_classes.specs.Classes.{IsLeastEntry}
use Rattle.cert_text.specs.Certs.{PlainCert, PairLine}
use Rattle.cert_check.specs.Compatible.{Sides, IsCompatible, typed_roots, task_of}
use Rattle.cert_check.specs.TypedPairs.{IsTypedPair, HasTypes}
use Rattle.cert_check.specs.Accepted.{Case, KeepsBinding, KeepsRules, KeepsRoot, KeepsRule, KeepsPartners, IsOf, line_of, is_line, rep, old_class, new_class, listed}
use Rattle.cert_check.specs.ProvedConditions.{KeepsAll}
use Rattle.pair_compare.specs.certificates.Lines.{IsReachedPair, bind_lines}
use Rattle.pair_compare.specs.certificates.Certificates.{IsCertificateOf, AreLibraries, AreMarkedAlike}
use Rattle.pair_compare.proofs.certificates_lemmas.Leasts.{AlikeLaws, least_moved}
use Rattle.abi_types.proofs.lemmas.Nodes.{node_of-at, node_of-is}
use Rattle.pair_compare.proofs.certificates_lemmas.AlikeLemmas.{LineLaws, rep_least, lines_kept}
use Rattle.pair_compare.proofs.certificates_lemmas.Leading.{RuleLaws, goes_alike, some_node}
use Rattle.pair_compare.proofs.certificates_lemmas.BindLemmas.{GivenLaw}
use Rattle.pair_compare.proofs.certificates_lemmas.BindLines.{export_of_line, line_says}
use Rattle.cert_check.proofs.lemmas.Exports.{bound_place}

pub record RootLaws : Type 0 where
  pub exact : (s : Sides) (root : PlainRoot) → Contains (typed_roots s) root ↔ IsTypedPair s root
  pub nodes : (s : Sides) (root : PlainRoot) → IsTypedPair s root → HasTypes s root

module _ (alike : AlikeLaws) (look_ups : LineLaws) (given : GivenLaw) (rules : RuleLaws) (root_laws : RootLaws) (s : Sides) (c : PlainCert) (libraries : AreLibraries s) (marks : AreMarkedAlike (task_of s)) (compatible : IsCompatible s) (is : IsCertificateOf s c) where
  abbrev case : Case
  case = record { sides = s; cert = c }

  abbrev task : Task
  task = task_of s

  -- ---- what is reached

  root_inside : (k : ℕ) (root : PlainRoot) → slice_get (typed_roots s) k ≡ Some root → IsInside task (root_triple root)
  root_inside k root at = let types = root_laws.nodes s root ((root_laws.exact s root).0 (contains_at (typed_roots s) k root at)) in record { old = types.old; new = types.new }

  inside : (x : Triple) → IsReachable task x → IsInside task x
  inside x (path, leads) = rules.nodes task path x libraries.old_graph libraries.new_graph root_inside leads

  unbroken : (x : Triple) → IsReachable task x → is_marked task x.old x.way ≡ false → breaks_of task x ≡ []
  unbroken x (path, leads) unmarked = compatible.types.1.keeps x (rules.held task compatible.types.0 path x compatible.types.1 compatible.types.2 leads) unmarked

  old_least : (i : ℕ) → i < length s.old.graph → IsLeastEntry s.old.graph (old_class case i) i
  old_least = rep_least alike look_ups s.old.graph libraries.old_graph c.alike_old is.alike_old

  new_least : (i : ℕ) → i < length s.new.graph → IsLeastEntry s.new.graph (new_class case i) i
  new_least = rep_least alike look_ups s.new.graph libraries.new_graph c.alike_new is.alike_new

  listed_from : (line : PairLine) → IsReachedPair task line → is_line c.pairs line ≡ true
  listed_from line reached = (look_ups.pairs c.pairs line).1 ((is.pairs.exact line).1 reached)

  -- ---- pair lines

  reached_at : (k : ℕ) (line : PairLine) → slice_get c.pairs k ≡ Some line → IsReachedPair task line
  reached_at k line at = (is.pairs.exact line).0 (contains_at c.pairs k line at)

  module _ (line : PairLine) (p : IsReachedPair task line) where
    abbrev x : Triple
    x = p.triple

    x_inside : IsInside task x
    x_inside = inside x p.reachable

    -- the nodes of the line
    abbrev z : Triple
    z = record { old = p.old.node; new = p.new.node; way = line.2 }

    z_is : IsOf case line z
    z_is = record { old = node_of-at s.old.graph line.0 p.old.node libraries.old_graph p.old.inside (sym p.old.is); new = node_of-at s.new.graph line.1 p.new.node libraries.new_graph p.new.inside (sym p.new.is); way = refl }

    z_marked : is_marked task x.old x.way ≡ is_marked task p.old.node line.2
    z_marked = ap (is_marked task x.old) (sym p.way) ∙ marks x.old p.old.node line.2 x_inside.old p.old.inside p.old.alike

    z_breaks : breaks_of task z ≡ breaks_of task x
    z_breaks = sym (rules.old s.old.graph x.old p.old.node (view_at s.new.graph x.new) p.old.alike ∙ rules.new s.new.graph x.new p.new.node (view_at s.old.graph p.old.node) p.new.alike)

    only_z : (w : Triple) → IsOf case line w → w ≡ z
    only_z w of =
        let mk : ℕ → ℕ → Way → Triple = λ m n way. record { old = m; new = n; way = way } in
        let one : w.old ≡ p.old.node = same_Some w.old p.old.node (sym of.old ∙ z_is.old) in
        let other : w.new ≡ p.new.node = same_Some w.new p.new.node (sym of.new ∙ z_is.new) in
        ap (λ m. mk m w.new w.way) one ∙ ap (λ n. mk p.old.node n w.way) other ∙ ap (mk p.old.node p.new.node) of.way

    -- what the nodes of the line lead to has a line
    z_leads : (y : Triple) (i : ℕ) → step task z i ≡ Some y → listed case (classed (old_class case) (new_class case) y) ≡ true
    z_leads y i stepped =
        let g = goes_alike rules task x z y i z_marked p.old.alike p.new.alike (sym p.way) stepped in
        let in_y = rules.step_inside task z y i libraries.old_graph libraries.new_graph stepped in
        let reachable : IsReachable task g.to = (Then p.reachable.0 i, (x, p.reachable.1, g.stepped)) in
        let in_g = inside g.to reachable in
        listed_from (old_class case y.old, new_class case y.new, y.way) (record {
          triple = g.to;
          reachable = reachable;
          old = least_moved alike s.old.graph libraries.old_graph (old_class case y.old) y.old g.to.old in_y.old in_g.old (alike.symmetric s.old.graph g.to.old y.old g.old) (old_least y.old in_y.old);
          new = least_moved alike s.new.graph libraries.new_graph (new_class case y.new) y.new g.to.new in_y.new in_g.new (alike.symmetric s.new.graph g.to.new y.new g.new) (new_least y.new in_y.new);
          way = sym g.way;
        })

  rule_kept : (k : ℕ) → KeepsRule case k
  rule_kept k line at =
      let p = reached_at k line at in
      record {
        triple = z line p;
        is = z_is line p;
        keeps = λ unmarked. z_breaks line p ∙ unbroken p.triple p.reachable (z_marked line p ∙ unmarked);
      }

  partners_kept : (k : ℕ) → KeepsPartners case k
  partners_kept k line at w y i of stepped =
      let p = reached_at k line at in
      let same = only_z line p w of in
      z_leads line p y i (ap (λ (t : Triple). step task t i) (sym same) ∙ stepped)

  -- ---- exports

  binding_kept : (symbol : ℕ) → symbol < symbol_limit → KeepsBinding case symbol
  binding_kept symbol below = record {
    bound = λ k e compared same.
        let b = compatible.exports k e compared in
        record {
          partner = b.partner;
          binds = b.binds;
          says = ap (λ (lines : List (ℕ × ℕ)). line_of lines symbol) is.binds ∙ ap (line_of (bind_lines s)) (sym same) ∙ line_says given s libraries.old.numbered look_ups k e b.partner compared b.binds;
        };
    owned = λ j found.
        let h = export_of_line given s (symbol, j) (look_ups.found (bind_lines s) symbol j (ap (λ (lines : List (ℕ × ℕ)). line_of lines symbol) (sym is.binds) ∙ found)) in
        (h.place, h.is.old, h.is.compared, h.is.symbol);
  }

  rules_kept : (k : ℕ) → KeepsRules case k
  rules_kept k e f compared binds =
      let b = compatible.exports k e compared in
      let same : b.partner ≡ f = same_Some b.partner f (sym b.binds ∙ binds) in
      ap (λ (g : PlainExport). export_breaks e g) (sym same) ∙ b.keeps

  node_of_old : (k : ℕ) (e : PlainExport) → slice_get s.old.exports k ≡ Some e → (n : ℕ) × (node_of s.old.graph e.entry ≡ Some n)
  node_of_old k e at =
      let some : is_some (node_of s.old.graph e.entry) ≡ true = subst (λ (x : PlainExport). is_some (node_of s.old.graph x.entry) ≡ true) (get_or_from_slice_get s.old.exports k e e at) (libraries.old.entries k e (slice_get_within s.old.exports k e at)) in
      some_node (node_of s.old.graph e.entry) some

  node_of_new : (k : ℕ) (e : PlainExport) → slice_get s.new.exports k ≡ Some e → (n : ℕ) × (node_of s.new.graph e.entry ≡ Some n)
  node_of_new k e at =
      let some : is_some (node_of s.new.graph e.entry) ≡ true = subst (λ (x : PlainExport). is_some (node_of s.new.graph x.entry) ≡ true) (get_or_from_slice_get s.new.exports k e e at) (libraries.new.entries k e (slice_get_within s.new.exports k e at)) in
      some_node (node_of s.new.graph e.entry) some

  root_kept : (k : ℕ) → KeepsRoot case k
  root_kept k e f compared binds old_typed new_typed =
      let (a, to_a) = node_of_old k e compared.at in
      let there = bound_place s e f binds in
      let (b, to_b) = node_of_new there.0 f there.1 in
      let root : PlainRoot = record { export = k; old = a; new = b } in
      let pair : IsTypedPair s root = record { old = e; new = f; compared = compared; binds = binds; old_typed = old_typed; new_typed = new_typed; old_node = to_a; new_node = to_b } in
      let (j, at) = at_contains (typed_roots s) root ((root_laws.exact s root).1 pair) in
      let one = node_of-is s.old.graph e.entry a to_a in
      let other = node_of-is s.new.graph f.entry b to_b in
      listed_from (rep c.alike_old e.entry, rep c.alike_new f.entry, Direct) (record {
        triple = root_triple root;
        reachable = (From k, (j, root, at, refl, refl));
        old = subst (λ (n : ℕ). IsLeastEntry s.old.graph (rep c.alike_old n) a) one.1 (old_least a one.0);
        new = subst (λ (n : ℕ). IsLeastEntry s.new.graph (rep c.alike_new n) b) other.1 (new_least b other.0);
        way = refl;
      })

  pub all_kept : KeepsAll case
  all_kept = record {
    old_digest = is.old_digest;
    new_digest = is.new_digest;
    rules_digest = is.rules_digest;
    sonames = compatible.sonames;
    bindings = binding_kept;
    rules = rules_kept;
    alike_old = lines_kept alike look_ups s.old.graph libraries.old_graph c.alike_old is.alike_old;
    alike_new = lines_kept alike look_ups s.new.graph libraries.new_graph c.alike_new is.alike_new;
    roots = root_kept;
    lines = rule_kept;
    partners = partners_kept;
  }
