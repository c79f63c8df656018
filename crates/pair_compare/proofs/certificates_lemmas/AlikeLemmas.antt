-- What the alike lines of a graph come to.
use Rattle.std.proofs.Common.{◌≡◌, ◌<◌, ℕ, List, length, Option, Some, None, refl, sym, ◌∙◌, subst, arith}
use Rattle.std.specs.Prelude.{◌↔◌, true}
use Rattle.std.specs.List.{Contains}
use Rattle.abi_base.proofs.lemmas.Lists.{contains_at}
use Rattle.abi_types.specs.Types.{PlainNode}
use Rattle.abi_types.specs.Graphs.{IsGraph, node_at}
use Rattle.type_classes.specs.Alike.{AreAlike}
use Rattle.type_classes.specs.Classes.{IsLeastEntry}
use Rattle.cert_text.specs.Certs.{PairLine}
use Rattle.cert_check.specs.Accepted.{line_of, is_line, class_in, KeepsAlike}
use Rattle.pair_compare.specs.certificates.Lines.{AreAlikeLines}
use Rattle.pair_compare.proofs.certificates_lemmas.Leasts.{AlikeLaws, one_least, own_least}
use Rattle.abi_types.proofs.lemmas.Nodes.{node_of-at}
use Rattle.cert_check.proofs.lemmas.Lines.{rep-some, rep-none}

-- what look-ups find among lines
pub record LineLaws : Type 0 where
  pub found : (lines : List (ℕ × ℕ)) (n m : ℕ) → line_of lines n ≡ Some m → Contains lines (n, m)
  pub missing : (lines : List (ℕ × ℕ)) (n m : ℕ) → line_of lines n ≡ None → Contains lines (n, m) → ⊥
  pub pairs : (lines : List PairLine) (line : PairLine) → (is_line lines line ≡ true) ↔ Contains lines line

module _ (laws : AlikeLaws) (look_ups : LineLaws) (nodes : List PlainNode) (graph : IsGraph nodes) (lines : List (ℕ × ℕ)) (are : AreAlikeLines nodes lines) where
  abbrev class : ℕ → ℕ
  class = class_in nodes lines

  -- what the lines give for an entry is the least of those alike to it
  pub rep_least : (i : ℕ) → i < length nodes → IsLeastEntry nodes (class i) i
  rep_least i i_in = go (line_of lines (node_at nodes i).entry) refl where
    go : (o : Option ℕ) → line_of lines (node_at nodes i).entry ≡ o → IsLeastEntry nodes (class i) i
    go None is =
        subst (λ (e : ℕ). IsLeastEntry nodes e i) (sym (rep-none lines (node_at nodes i).entry is))
        (own_least laws nodes graph i i_in (λ r least less.
        look_ups.missing lines (node_at nodes i).entry r is
        ((are.exact ((node_at nodes i).entry, r)).1 (record { node = i; inside = i_in; entry = refl; least = least; other = λ same. omega (arith, same, less) }))))
    go (Some r) is =
        let line = (are.exact ((node_at nodes i).entry, r)).0 (look_ups.found lines (node_at nodes i).entry r is) in
        let same : line.node ≡ i = graph.apart line.node i line.inside i_in (sym line.entry) in
        subst (λ (e : ℕ). IsLeastEntry nodes e i) (sym (rep-some lines (node_at nodes i).entry r is)) (subst (IsLeastEntry nodes r) same line.least)

  pub class_same : (i j : ℕ) → i < length nodes → j < length nodes → AreAlike nodes i j → class i ≡ class j
  class_same i j i_in j_in alike = one_least laws nodes graph (class i) (class j) i j i_in j_in alike (rep_least i i_in) (rep_least j j_in)

  -- a least entry has no line
  least_free : (e a : ℕ) → a < length nodes → IsLeastEntry nodes e a → line_of lines e ≡ None
  least_free e a a_in least = go (line_of lines e) refl where
    go : (o : Option ℕ) → line_of lines e ≡ o → line_of lines e ≡ None
    go None is = is
    go (Some r) is =
        let line = (are.exact (e, r)).0 (look_ups.found lines e r is) in
        let same : line.node ≡ least.node = graph.apart line.node least.node line.inside least.inside (sym line.entry ∙ least.is) in
        let near : AreAlike nodes line.node a = subst (λ (k : ℕ). AreAlike nodes k a) (sym same) (laws.symmetric nodes a least.node least.alike) in
        let is_r : r ≡ e = one_least laws nodes graph r e line.node a line.inside a_in near line.least least in
        absurd (line.other (sym is_r))

  pub lines_kept : (k : ℕ) → KeepsAlike nodes lines k
  lines_kept k line at =
      let is = (are.exact line).0 (contains_at lines k line at) in
      let m = is.least in
      record {
        one = is.node;
        other = m.node;
        stands = node_of-at nodes line.0 is.node graph is.inside (sym is.entry);
        for_it = node_of-at nodes line.1 m.node graph m.inside (sym m.is);
        own = least_free line.1 is.node is.inside m;
        looks = laws.looks nodes class graph class_same is.node m.node m.alike;
      }
