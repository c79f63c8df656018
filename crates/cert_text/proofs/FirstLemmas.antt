-- Certificates of version 1, and what they come to in version 2.
use Rattle.std.proofs.Common.{◌≡◌, ◌<◌, ◌≤◌, ◌+◌, ◌*◌, ◌^◌, ◌⊎◌, inl, inr, ℕ, zero, suc, List, [], ◌∷◌, ◌++◌, length, get_or, map, refl, sym, ◌∙◌, ap, subst, arith}
use Rattle.std.specs.List.{All}
use Rattle.std.proofs.lemmas.List.{length-map}
use Rattle.abi_types.specs.declared.kind.Way.{Way}
use Rattle.abi_types.specs.declared.kind.Way.TheVariants.{Direct, Pointer}
use Rattle.cert_text.specs.declared.line.Version.TheVariants.{One}
use Rattle.cert_text.specs.Certs.{PlainCert, PlainCert1, PairLine, IsCert, IsCert1, as_direct, with_ways, without_way, line_count}
use Rattle.cert_text.specs.Grammar.{HasNumbers, IsSpelledIn, IsSpelled1, body, text_of, bind_of, alike_old_of, alike_new_of, pair_of}
use Rattle.cert_text.proofs.BodyLemmas.{All-back, All-of_map, groups, body-groups}

abbrev IsDirect : PairLine → Type 0
IsDirect line = line.2 ≡ Direct

-- the way is written again
same_line : (line : PairLine) → line.2 ≡ Direct → as_direct (without_way line) ≡ line
same_line line e = ap (λ (way : Way). let l : PairLine = (line.0, line.1, way) in l) (sym e)

again : (lines : List PairLine) → All IsDirect lines → map as_direct (map without_way lines) ≡ lines
again [] all = refl
again (line ∷ lines) all =
    ap (λ (first : PairLine). first ∷ map as_direct (map without_way lines)) (same_line line (all 0 line (omega arith)))
    ∙ ap (λ (rest : List PairLine). line ∷ rest) (again lines (λ k d lt. all (suc k) d (omega (arith, lt))))

direct : (c : PlainCert) → All (HasNumbers One) (groups c.binds c.alike_old c.alike_new c.pairs) → All IsDirect c.pairs
unfolding groups
direct c all =
    let P = HasNumbers One in
    let ps = map pair_of c.pairs in
    let rest1 = All-back P (map bind_of c.binds) (map alike_old_of c.alike_old ++ (map alike_new_of c.alike_new ++ ps)) all in
    let rest2 = All-back P (map alike_old_of c.alike_old) (map alike_new_of c.alike_new ++ ps) rest1 in
    let rest3 = All-of_map P pair_of c.pairs (All-back P (map alike_new_of c.alike_new) ps rest2) in
    λ k d lt. (rest3 k d lt).2

-- a certificate whose pairs lost their ways
abbrev pub first_of : PlainCert → List (ℕ × ℕ) → PlainCert1
first_of c pairs = record {
  old_digest = c.old_digest;
  new_digest = c.new_digest;
  rules_digest = c.rules_digest;
  binds = c.binds;
  alike_old = c.alike_old;
  alike_new = c.alike_new;
  pairs = pairs;
}

with_pairs : PlainCert → List PairLine → PlainCert
with_pairs c pairs = record c { pairs = pairs }

ways_again : (c : PlainCert) (bytes : List ℕ) (pairs : List (ℕ × ℕ)) → IsSpelledIn One bytes c → pairs ≡ map without_way c.pairs → with_ways (first_of c pairs) ≡ c
unfolding with_pairs
ways_again c bytes pairs spelled is =
    let all = direct c (subst (All (HasNumbers One)) (body-groups c) spelled.lines) in
    ap (with_pairs c) (ap (map as_direct) is ∙ again c.pairs all)

-- the lines before the last one are no more than the bytes
abbrev pub IsRoomy : List ℕ → PlainCert → Type 0
IsRoomy bytes c = line_count c ≤ length bytes

pub first_kept : (c : PlainCert) (bytes : List ℕ) (pairs : List (ℕ × ℕ)) → IsSpelledIn One bytes c → line_count c ≤ length bytes → length bytes < 2 ^ 63 → pairs ≡ map without_way c.pairs → IsCert1 (first_of c pairs)
first_kept c bytes pairs spelled room short is =
    let size : length pairs ≡ length c.pairs = ap length is ∙ length-map c.pairs without_way in
    record {
      is = subst IsCert (sym (ways_again c bytes pairs spelled is)) spelled.kept;
      fits = omega (arith, size, room, short);
    }

pub first_spelled : (c : PlainCert) (bytes : List ℕ) (pairs : List (ℕ × ℕ)) → IsSpelledIn One bytes c → line_count c ≤ length bytes → length bytes < 2 ^ 63 → pairs ≡ map without_way c.pairs → IsSpelled1 bytes (first_of c pairs)
first_spelled c bytes pairs spelled room short is = record {
  kept = first_kept c bytes pairs spelled room short is;
  is = spelled.is ∙ sym (ap (text_of One) (ways_again c bytes pairs spelled is));
}
