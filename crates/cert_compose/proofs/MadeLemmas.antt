-- The composed certificate keeps what its type keeps.
use Rattle.std.proofs.Common.{◌≡◌, ◌<◌, ◌+◌, ◌^◌, ℕ, List, length, get_or, sym, ◌∙◌, ap, subst}
use Rattle.std.specs.Prelude.{◌↔◌}
use Rattle.std.specs.List.{Contains, All}
use Rattle.std.proofs.lemmas.Option.{slice_get-get_or}
use Rattle.std.proofs.lemmas.List.Elements.{All-contains}
use Rattle.abi_base.proofs.lemmas.Lists.{contains_at}
use Rattle.abi_types.specs.Types.{PlainNode}
use Rattle.cert_text.specs.Certs.{PlainCert, PairLine, Ascend, first_cmp, pair_cmp, IsBelow, IsPairBelow, IsDigest}
use Rattle.cert_check.specs.Accepted.{Case, IsAccepted, old_class, new_class}
use Rattle.cert_check.specs.Given.{given_below}
use Rattle.cert_check.specs.ProvedConditions.{KeepsAll}
use Rattle.cert_compose.specs.Binds.{through_line}
use Rattle.cert_compose.specs.Chains.{PlainChain, IsChain, near_case, next_case}
use Rattle.cert_compose.specs.Composed.{IsThrough, IsJoined, IsComposed}
use Rattle.cert_compose.specs.Joins.{joins}
use Rattle.cert_compose.specs.Middles.{IsBoth, IsMiddle}
use Rattle.cert_compose.proofs.BindLemmas.{GivenLaw, through_lines, lines_ascend, lines_below}
use Rattle.cert_compose.proofs.JoinLemmas.{joins_are}
use Rattle.cert_compose.proofs.LineLemmas.{LineLaws}

module _ (given : GivenLaw) (laws : LineLaws) (keeps_all : (c : Case) → IsAccepted c ↔ KeepsAll c) (ch : PlainChain) (chain : IsChain ch) (rules : ch.marks.digest ≡ ch.one.rules_digest)
    (middles : List (ℕ × ℕ)) (exact : (m : ℕ × ℕ) → Contains middles m ↔ IsMiddle ch m) (c : PlainCert) where
  joined : ((line : PairLine) → Contains c.pairs line ↔ Contains (joins ch.one.alike_old ch.other.alike_new ch.other.pairs middles ch.one.pairs) line) → (line : PairLine) → Contains c.pairs line ↔ IsJoined ch line
  joined same line =
      let are = joins_are ch middles exact line in
      (λ h. are.0 ((same line).0 h), λ j. (same line).1 (are.1 j))

  pairs_below : ((line : PairLine) → Contains c.pairs line ↔ IsJoined ch line) → All (IsPairBelow (2 ^ 64)) c.pairs
  pairs_below are k d inside =
      let line = get_or c.pairs k d in
      let j = (are line).0 (contains_at c.pairs k line (slice_get-get_or c.pairs k d inside)) in (
        (All-contains (IsPairBelow (2 ^ 64)) ch.one.pairs (line.0, new_class (near_case ch) j.node, line.2) chain.one_cert.numbers.pairs j.one).0,
        (All-contains (IsPairBelow (2 ^ 64)) ch.other.pairs (old_class (next_case ch) j.node, line.1, line.2) chain.other_cert.numbers.pairs j.other).1,
      )

  pub made : c.old_digest ≡ ch.one.old_digest → c.new_digest ≡ ch.other.new_digest → c.rules_digest ≡ ch.one.rules_digest → c.binds ≡ given_below (through_line ch.one.binds ch.other.binds) (length ch.one.binds)
      → c.alike_old ≡ ch.one.alike_old → c.alike_new ≡ ch.other.alike_new → Ascend pair_cmp c.pairs → ((line : PairLine) → Contains c.pairs line ↔ Contains (joins ch.one.alike_old ch.other.alike_new ch.other.pairs middles ch.one.pairs) line)
      → 5 + length c.binds + length c.alike_old + length c.alike_new + length c.pairs < 2 ^ 64 → IsComposed ch c
  made old_digest new_digest rules_digest binds alike_old alike_new ascend same fits =
      let kept_one = (keeps_all (near_case ch)).0 chain.one in
      let kept_other = (keeps_all (next_case ch)).0 chain.other in
      let one = chain.one_cert in
      let other = chain.other_cert in
      record {
        cert = record {
          binds = subst (Ascend first_cmp) (sym binds) (lines_ascend given laws ch.one.binds ch.other.binds one.binds);
          alike_old = subst (Ascend first_cmp) (sym alike_old) one.alike_old;
          alike_new = subst (Ascend first_cmp) (sym alike_new) other.alike_new;
          pairs = ascend;
          numbers = record {
            old_digest = subst IsDigest (sym old_digest) one.numbers.old_digest;
            new_digest = subst IsDigest (sym new_digest) other.numbers.new_digest;
            rules_digest = subst IsDigest (sym rules_digest) one.numbers.rules_digest;
            binds = subst (All (IsBelow (2 ^ 32))) (sym binds) (lines_below given laws ch.one.binds ch.other.binds (2 ^ 32) one.numbers.binds other.numbers.binds);
            alike_old = subst (All (IsBelow (2 ^ 64))) (sym alike_old) one.numbers.alike_old;
            alike_new = subst (All (IsBelow (2 ^ 64))) (sym alike_new) other.numbers.alike_new;
            pairs = pairs_below (joined same);
          };
          fits = fits;
        };
        old_digest = old_digest ∙ kept_one.old_digest;
        new_digest = new_digest ∙ kept_other.new_digest;
        rules_digest = rules_digest ∙ sym rules;
        binds = λ line. subst (λ (l : List (ℕ × ℕ)). Contains l line ↔ IsThrough ch line) (sym binds) (through_lines given laws ch other.binds line);
        alike_old = alike_old;
        alike_new = alike_new;
        pairs = joined same;
      }

-- ---- as the code reads the lists

pub binds_read : (ones others ones' others' : List (ℕ × ℕ)) → ones ≡ ones' → others ≡ others' → given_below (through_line ones others) (length ones) ≡ given_below (through_line ones' others') (length ones')
binds_read ones others ones' others' one other =
    ap (λ (l : List (ℕ × ℕ)). given_below (through_line l others) (length l)) one ∙ ap (λ (l : List (ℕ × ℕ)). given_below (through_line ones' l) (length ones')) other

pub joins_read : (olds news middles olds' news' : List (ℕ × ℕ)) (seconds firsts seconds' firsts' : List PairLine) → olds ≡ olds' → news ≡ news' → seconds ≡ seconds' → firsts ≡ firsts'
    → joins olds news seconds middles firsts ≡ joins olds' news' seconds' middles firsts'
joins_read olds news middles olds' news' seconds firsts seconds' firsts' a b d e =
    ap (λ (l : List (ℕ × ℕ)). joins l news seconds middles firsts) a ∙ ap (λ (l : List (ℕ × ℕ)). joins olds' l seconds middles firsts) b
    ∙ ap (λ (l : List PairLine). joins olds' news' l middles firsts) d ∙ ap (joins olds' news' seconds' middles) e

pub exact_read : (items slice news news' olds olds' : List (ℕ × ℕ)) (nodes nodes' : List PlainNode) → slice ≡ items → nodes ≡ nodes' → news ≡ news' → olds ≡ olds'
    → ((m : ℕ × ℕ) → Contains items m ↔ IsBoth nodes news olds m) → (m : ℕ × ℕ) → Contains slice m ↔ IsBoth nodes' news' olds' m
exact_read items slice news news' olds olds' nodes nodes' a b d e exact m =
    subst (λ (l : List (ℕ × ℕ)). Contains l m ↔ IsBoth nodes' news' olds' m) (sym a)
    (subst (λ (ns : List PlainNode). Contains items m ↔ IsBoth ns news' olds' m) b
    (subst (λ (l : List (ℕ × ℕ)). Contains items m ↔ IsBoth nodes l olds' m) d
    (subst (λ (l : List (ℕ × ℕ)). Contains items m ↔ IsBoth nodes news l m) e (exact m))))
