-- Certificates that are accepted with an empty rule file make a chain, and what is accepted for a chain is so with an empty rule file.
use Rattle.std.proofs.Common.{◌≡◌, ◌≤◌, ℕ, zero, suc, Bool, false, List, [], ◌∷◌, length, map, refl, sym, ◌∙◌}
use Rattle.std.specs.Prelude.{◌↔◌, slice_index_or}
use Rattle.abi_base.specs.Limits.{input_limit}
use Rattle.abi_types.specs.Graphs.{IsGraph}
use Rattle.abi_types.specs.Libraries.{IsLibrary, PlainLibrary}
use Rattle.abi_types.specs.Types.{PlainNode}
use Rattle.abi_types.specs.declared.kind.Way.{Way}
use Rattle.abi_types.specs.declared.kind.Way.TheVariants.{Direct, Pointer}
use Rattle.abi_types.specs.declared.library.Marks.{Marks}
use Rattle.cert_check.specs.Accepted.{Case, IsAccepted}
use Rattle.cert_check.specs.Compatible.{Sides, IsCompatible, sides, task_of}
use Rattle.cert_check.specs.ProvedConditions.{KeepsAll}
use Rattle.cert_check.specs.Unmarked.{MarkNothing, empty_marks}
use Rattle.cert_compose.specs.Between.{NothingBetween}
use Rattle.cert_compose.specs.Chains.{IsChain, far_case, joint}
use Rattle.cert_compose.specs.Composed.{IsComposed}
use Rattle.cert_text.specs.Certs.{IsCert, PlainCert}
use Rattle.cert_text.specs.Grammar.{IsSpelled}
use Rattle.pair_rules.specs.Stable.{AreEven}
use Rattle.suppression_text.specs.Rules.{rules_of}
use Rattle.suppressions.specs.Marks.{marks_of}
use Rattle.suppressions.specs.Meaning.{is_dropped, is_marked}
use Rattle.library_check.specs.Compositions.{AreAccepted, IsComposedFor, whole_sides}
use Rattle.library_check.specs.Judgements.{ruled}
use Rattle.library_check.specs.Verifications.{case_for}
use Rattle.library_check.proofs.Empty.{no_sections, not_dropped, not_marked}
use Rattle.library_check.proofs.Settled.{Proves}

none_set : {X : Type 0} (f : X → Bool) (xs : List X) → ((x : X) → f x ≡ false) → (k : ℕ) → slice_index_or (map f xs) k false ≡ false
none_set f [] none k = refl
none_set f (x ∷ xs) none zero = none x
none_set f (x ∷ xs) none (suc k) = none_set f xs none k

marks_nothing : (old : PlainLibrary) → MarkNothing (marks_of (rules_of []) old)
unfolding marks_of
marks_nothing old =
    let rules = rules_of [] in
    let by_way = λ (way : Way). none_set (λ (n : PlainNode). is_marked rules old.soname n.labels way) old.graph (λ n. not_marked rules old.soname n.labels way no_sections) in
    record {
      exports = none_set (is_dropped rules old.soname) old.exports (λ e. not_dropped rules old.soname e no_sections);
      direct = by_way Direct;
      pointer = by_way Pointer;
    }

empty_nothing : (digest : List ℕ) → MarkNothing (empty_marks digest)
empty_nothing digest = record { exports = λ k. refl; direct = λ a. refl; pointer = λ a. refl }

even : (old new : PlainLibrary) → AreEven (task_of (ruled old new (rules_of [])))
even old new a b Direct inside inside' same = (marks_nothing old).direct a ∙ sym ((marks_nothing old).direct b)
even old new a b Pointer inside inside' same = (marks_nothing old).pointer a ∙ sym ((marks_nothing old).pointer b)

-- marks that mark nothing are alike
abbrev pub AreAlike : Type 0
AreAlike = (s : Sides) (m : Marks) (c : PlainCert) → MarkNothing s.marks → MarkNothing m → s.marks.digest ≡ m.digest
    → IsAccepted (record { sides = s; cert = c }) → IsAccepted (record { sides = sides s.old s.new m; cert = c })

-- what is accepted keeps all
abbrev pub KeepAll : Type 0
KeepAll = (c : Case) → IsAccepted c ↔ KeepsAll c

module _ (alike : AreAlike) (keeps : KeepAll) where
  -- with marks of nothing that have the digest of the certificate
  with_its_digest : (old new : PlainLibrary) (c : PlainCert) → IsAccepted (case_for (ruled old new (rules_of [])) c) → IsAccepted (case_for (sides old new (empty_marks c.rules_digest)) c)
  with_its_digest old new c is =
      let s = ruled old new (rules_of []) in
      alike s (empty_marks c.rules_digest) c (marks_nothing old) (empty_nothing c.rules_digest) (sym ((keeps (case_for s c)).0 is).rules_digest) is

  -- the libraries and the certificates are a chain
  pub chained : (first middle last : PlainLibrary) (one other : PlainCert) → IsLibrary first.exports first.graph → IsLibrary middle.exports middle.graph
      → IsGraph first.graph → IsGraph middle.graph → IsGraph last.graph → IsCert one → IsCert other → AreAccepted (joint first middle last one other) → IsChain (joint first middle last one other)
  chained first middle last one other first_library middle_library first_graph middle_graph last_graph one_cert other_cert accepted = record {
    first_library = first_library;
    middle_library = middle_library;
    first_graph = first_graph;
    middle_graph = middle_graph;
    last_graph = last_graph;
    one_cert = one_cert;
    other_cert = other_cert;
    marks = empty_nothing one.rules_digest;
    onward = empty_nothing other.rules_digest;
    one = with_its_digest first middle one accepted.one;
    other = with_its_digest middle last other accepted.other;
  }

  -- with an empty rule file, where another certificate for the first library has the digest of that
  with_no_rules : (old between new : PlainLibrary) (one c : PlainCert) → IsAccepted (case_for (ruled old between (rules_of [])) one) → IsAccepted (case_for (sides old new (empty_marks one.rules_digest)) c)
      → IsAccepted (case_for (ruled old new (rules_of [])) c)
  with_no_rules old between new one c is accepted =
      alike (sides old new (empty_marks one.rules_digest)) (marks_of (rules_of []) old) c (empty_nothing one.rules_digest) (marks_nothing old)
      ((keeps (case_for (ruled old between (rules_of [])) one)).0 is).rules_digest accepted

compatible : Proves → (old new : PlainLibrary) (c : PlainCert) → IsLibrary old.exports old.graph → IsGraph old.graph → IsGraph new.graph
    → IsAccepted (case_for (ruled old new (rules_of [])) c) → IsCompatible (ruled old new (rules_of []))
compatible proves old new c library old_graph new_graph is = proves (case_for (ruled old new (rules_of [])) c) library.numbered old_graph new_graph (even old new) is

-- what the composed certificate comes to
pub composed_for : AreAlike → KeepAll → Proves → (first middle last : PlainLibrary) (one other cert : PlainCert) (text : List ℕ) → IsChain (joint first middle last one other) → AreAccepted (joint first middle last one other)
    → NothingBetween (joint first middle last one other) → IsComposed (joint first middle last one other) cert → IsAccepted (far_case (joint first middle last one other) cert)
    → IsSpelled text cert → length text ≤ input_limit → IsCompatible (whole_sides (joint first middle last one other)) × IsComposedFor (joint first middle last one other) text
composed_for alike keeps proves first middle last one other cert text chain accepted nothing composed far spelled short =
    let whole = with_no_rules alike keeps first middle last one cert accepted.one far in (
      compatible proves first last cert chain.first_library chain.first_graph chain.last_graph whole,
      record {
        accepted = accepted;
        nothing = nothing;
        cert = cert;
        composed = composed;
        spelled = spelled;
        proves = whole;
        short = short;
      },
    )
