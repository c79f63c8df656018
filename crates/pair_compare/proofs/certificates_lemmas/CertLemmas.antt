-- What is made is the certificate.
use Rattle.std.proofs.Common.{◌≡◌, ◌<◌, ◌+◌, ◌^◌, ℕ, List, map, length, sym, ◌∙◌, ap, subst, arith}
use Rattle.std.specs.List.{All}
use Rattle.std.specs.List.Sorted.{IsPermutation, IsSorted}
use Rattle.abi_types.specs.declared.kind.Way.{Way}
use Rattle.abi_types.specs.declared.kind.Way.TheVariants.{Direct, Pointer}
use Rattle.abi_types.specs.Types.{PlainNode}
use Rattle.abi_types.specs.Graphs.{IsGraph}
use Rattle.abi_types.specs.Libraries.{IsLibrary}
use Rattle.pair_rules.specs.Steps.{is_marked}
use Rattle.pair_rules.specs.Closed.{AreCompatible}
use Rattle.type_classes.specs.Alike.{AreAlike}
use Rattle.type_classes.specs.Classes.{PlainClasses, AreSound, rep_of}
use Rattle.pair_explorer.specs.declared.visits.Visit.{Visit}
use Rattle.cert_text.specs.Certs.{PlainCert, PairLine, IsCert, IsDigest, IsBelow, IsPairBelow, Ascend, first_cmp, pair_cmp}
use Rattle.cert_check.specs.Compatible.{Sides, IsCompatible, task_of}
use Rattle.pair_compare.specs.certificates.Lines.{AreAlikeLines, ArePairLines, bind_lines}
use Rattle.pair_compare.specs.certificates.Certificates.{IsCertificateOf, AreLibraries, AreMarkedAlike}
use Rattle.pair_compare.specs.certificates.LineLists.{pair_line}
use Rattle.pair_compare.specs.certificates.Searches.{AreBound, AreClassesOf, IsUnbroken}
use Rattle.pair_compare.proofs.certificates_lemmas.Orders.{first_cmp_total, pair_cmp_total}
use Rattle.cert_check.proofs.lemmas.OneList.{one_list}
use Rattle.pair_compare.proofs.certificates_lemmas.BindLemmas.{GivenLaw}
use Rattle.pair_compare.proofs.certificates_lemmas.BindLines.{binds_ascend, binds_below}

-- ---- one certificate

one_cert : (a b d : List ℕ) (binds alike_old alike_new : List (ℕ × ℕ)) (pairs : List PairLine) → PlainCert
one_cert a b d binds alike_old alike_new pairs = record { old_digest = a; new_digest = b; rules_digest = d; binds = binds; alike_old = alike_old; alike_new = alike_new; pairs = pairs }

pub certs_same : (s : Sides) (c d : PlainCert) → IsCertificateOf s c → IsCertificateOf s d → c ≡ d
unfolding one_cert
certs_same s c d one other =
    let olds : c.alike_old ≡ d.alike_old = one_list first_cmp_total c.alike_old d.alike_old one.alike_old.ascending other.alike_old.ascending
    (λ z h. (other.alike_old.exact z).1 ((one.alike_old.exact z).0 h)) (λ z h. (one.alike_old.exact z).1 ((other.alike_old.exact z).0 h)) in
    let news : c.alike_new ≡ d.alike_new = one_list first_cmp_total c.alike_new d.alike_new one.alike_new.ascending other.alike_new.ascending
    (λ z h. (other.alike_new.exact z).1 ((one.alike_new.exact z).0 h)) (λ z h. (one.alike_new.exact z).1 ((other.alike_new.exact z).0 h)) in
    let pairs : c.pairs ≡ d.pairs = one_list pair_cmp_total c.pairs d.pairs one.pairs.ascending other.pairs.ascending
    (λ z h. (other.pairs.exact z).1 ((one.pairs.exact z).0 h)) (λ z h. (one.pairs.exact z).1 ((other.pairs.exact z).0 h)) in
    ap (λ x. one_cert x c.new_digest c.rules_digest c.binds c.alike_old c.alike_new c.pairs) (one.old_digest ∙ sym other.old_digest)
    ∙ ap (λ x. one_cert d.old_digest x c.rules_digest c.binds c.alike_old c.alike_new c.pairs) (one.new_digest ∙ sym other.new_digest)
    ∙ ap (λ x. one_cert d.old_digest d.new_digest x c.binds c.alike_old c.alike_new c.pairs) (one.rules_digest ∙ sym other.rules_digest)
    ∙ ap (λ x. one_cert d.old_digest d.new_digest d.rules_digest x c.alike_old c.alike_new c.pairs) (one.binds ∙ sym other.binds)
    ∙ ap (λ x. one_cert d.old_digest d.new_digest d.rules_digest d.binds x c.alike_new c.pairs) olds
    ∙ ap (λ x. one_cert d.old_digest d.new_digest d.rules_digest d.binds d.alike_old x c.pairs) news
    ∙ ap (one_cert d.old_digest d.new_digest d.rules_digest d.binds d.alike_old d.alike_new) pairs

-- ---- what a search knows

module _ (s : Sides) (old new : PlainClasses) (visits : List Visit) (unbroken : IsUnbroken s old new visits) where
  pub marked_alike : AreMarkedAlike (task_of s)
  marked_alike a b way a_in b_in alike = at_way way where
    len : length old.nodes ≡ length s.old.graph
    len = ap length unbroken.scope.nodes.old_nodes

    same : rep_of old a ≡ rep_of old b
    same = (unbroken.old_coarsest a b (omega (arith, a_in, len)) (omega (arith, b_in, len))).1 (subst (λ ns. AreAlike ns a b) (sym unbroken.scope.nodes.old_nodes) alike)

    at_way : (w : Way) → is_marked (task_of s) a w ≡ is_marked (task_of s) b w
    at_way Direct = unbroken.scope.direct.even a b same
    at_way Pointer = unbroken.scope.pointer.even a b same

  pub compatible_from : AreBound s → AreCompatible (task_of s) → IsCompatible s
  compatible_from bound types = record { sonames = bound.sonames; exports = bound.exports; types = types }

-- ---- what is made

pub record AreDigests (c : PlainCert) : Type 0 where
  pub old : IsDigest c.old_digest
  pub new : IsDigest c.new_digest
  pub rules : IsDigest c.rules_digest

pub record AreBelow (c : PlainCert) : Type 0 where
  pub alike_old : All (IsBelow (2 ^ 64)) c.alike_old
  pub alike_new : All (IsBelow (2 ^ 64)) c.alike_new
  pub pairs : All (IsPairBelow (2 ^ 64)) c.pairs

pub cert_kept : GivenLaw → (s : Sides) (c : PlainCert) → AreLibraries s → IsCertificateOf s c → AreDigests c → AreBelow c → 5 + length c.binds + length c.alike_old + length c.alike_new + length c.pairs < 2 ^ 64 → IsCert c
cert_kept given s c libraries is digests below fits = record {
  binds = subst (λ ls. Ascend first_cmp ls) (sym is.binds) (binds_ascend given s libraries.old.numbered);
  alike_old = is.alike_old.ascending;
  alike_new = is.alike_new.ascending;
  pairs = is.pairs.ascending;
  numbers = record {
    old_digest = digests.old;
    new_digest = digests.new;
    rules_digest = digests.rules;
    binds = subst (All (IsBelow (2 ^ 32))) (sym is.binds) (binds_below given s libraries.old.numbered libraries.new.numbered);
    alike_old = below.alike_old;
    alike_new = below.alike_new;
    pairs = below.pairs;
  };
  fits = fits;
}

-- what the code says of its lists, as the certificate of the libraries
pub record AreMade (s : Sides) (g h : List PlainNode) (visits : List Visit) (c : PlainCert) : Type 0 where
  pub old_digest : c.old_digest ≡ s.old.digest
  pub new_digest : c.new_digest ≡ s.new.digest
  pub rules_digest : c.rules_digest ≡ s.marks.digest
  pub binds : c.binds ≡ bind_lines s
  pub alike_old : AreAlikeLines g c.alike_old
  pub alike_new : AreAlikeLines h c.alike_new
  pub moved : IsPermutation (map (pair_line g h) visits) c.pairs
  pub sorted : IsSorted pair_cmp c.pairs

abbrev pub VisitsArePairLines : Type 0
VisitsArePairLines = (s : Sides) (old new : PlainClasses) (visits : List Visit) (lines : List PairLine) → AreClassesOf s old new → IsUnbroken s old new visits
    → IsPermutation (map (pair_line s.old.graph s.new.graph) visits) lines → IsSorted pair_cmp lines → ArePairLines (task_of s) lines

pub made_is : VisitsArePairLines → (s : Sides) (old new : PlainClasses) (visits : List Visit) (g h : List PlainNode) (c : PlainCert) → g ≡ s.old.graph → h ≡ s.new.graph → IsGraph g → IsGraph h → AreSound old → AreSound new
    → IsUnbroken s old new visits → AreMade s g h visits c → IsCertificateOf s c
made_is law s old new visits g h c is_g is_h graph_g graph_h old_sound new_sound unbroken made = record {
  old_digest = made.old_digest;
  new_digest = made.new_digest;
  rules_digest = made.rules_digest;
  binds = made.binds;
  alike_old = subst (λ (ns : List PlainNode). AreAlikeLines ns c.alike_old) is_g made.alike_old;
  alike_new = subst (λ (ns : List PlainNode). AreAlikeLines ns c.alike_new) is_h made.alike_new;
  pairs =
      law s old new visits c.pairs (record { old_sound = old_sound; new_sound = new_sound; old_graph = subst IsGraph is_g graph_g; new_graph = subst IsGraph is_h graph_h }) unbroken
      (subst (λ (ns : List PlainNode). IsPermutation (map (pair_line s.old.graph ns) visits) c.pairs) is_h (subst (λ (ns : List PlainNode). IsPermutation (map (pair_line ns h) visits) c.pairs) is_g made.moved))
      made.sorted;
}

-- what is known of the libraries
pub libraries_of : (s : Sides) (g h : List PlainNode) → IsLibrary s.old.exports s.old.graph → IsLibrary s.new.exports s.new.graph → g ≡ s.old.graph → h ≡ s.new.graph → IsGraph g → IsGraph h → AreLibraries s
libraries_of s g h old new is_g is_h graph_g graph_h = record { old = old; new = new; old_graph = subst IsGraph is_g graph_g; new_graph = subst IsGraph is_h graph_h }
