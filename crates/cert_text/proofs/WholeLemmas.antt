-- The text of a certificate of either version has no fault, and is that of no other certificate of the version.
use Rattle.std.proofs.Common.{◌≡◌, ◌+◌, ℕ, suc, Bool, true, List, [], ◌∷◌, ◌++◌, get_or, map, Option, Some, None, refl, sym, ◌∙◌, ap, arith, append_assoc, append-nil}
use Rattle.std.specs.Prelude.{codes, is_some, filter_map}
use Rattle.std.specs.List.{All}
use Rattle.std.proofs.lemmas.List.Concat.{flat_map-append}
use Rattle.std.proofs.lemmas.List.Elements.{All-append, All-map, All-weaker, All-cons, All-nil}
use Rattle.std.proofs.lemmas.Option.{same_Some}
use Rattle.cert_text.specs.Certs.{PlainCert, PlainCert1, PairLine, IsCert, IsDigest, as_direct, with_ways, without_way}
use Rattle.cert_text.specs.Grammar.{HasNumbers, IsWay, IsSpelled, IsSpelled1, IsSpelledIn, spelling, head, body, text_of, lined, answer, digest_line, bind_of, alike_old_of, alike_new_of, pair_of}
use Rattle.cert_text.specs.Forms.{form_of, digest_behind}
use Rattle.cert_text.specs.Faults.{Parts, parts, head_fault, head_tests, body_fault, fault_of, answer_test, digest_test}
use Rattle.cert_text.specs.declared.line.Version.{Version}
use Rattle.cert_text.specs.declared.line.Version.TheVariants.{One, Two}
use Rattle.cert_text.specs.declared.line.Line.{Line}
use Rattle.cert_text.specs.declared.line.Line.TheVariants.{Bind, AlikeOld, AlikeNew, Pair, End}
use Rattle.cert_text.proofs.NumberLemmas.{digest_some}
use Rattle.cert_text.proofs.BodyLemmas.{groups, body-groups}
use Rattle.cert_text.proofs.CompleteLemmas.{form_read}
use Rattle.cert_text.proofs.LinedLemmas.{AreClear, is_clear, answer_clear, digest_clear, line_clear, parts-lined}
use Rattle.cert_text.proofs.RunLemmas.{run, body_in_order, body_bodies, body_numbers}

-- ---- the lines of the text

-- the lines behind the first four
abbrev tail : Version → PlainCert → List (List ℕ)
tail v c = map (spelling v) (body c) ++ spelling v End ∷ []

abbrev all_lines : Version → PlainCert → List (List ℕ)
all_lines v c = head v c ++ tail v c

as_lines : (v : Version) (c : PlainCert) → text_of v c ≡ lined (all_lines v c) ++ []
unfolding text_of
as_lines v c =
    let f : List ℕ → List ℕ = λ line. line ++ 10 ∷ [] in
    let inner : lined (map (spelling v) (body c)) ++ lined (spelling v End ∷ []) ≡ lined (tail v c) = sym (flat_map-append f (map (spelling v) (body c)) (spelling v End ∷ [])) in
    ap (λ (xs : List ℕ). lined (head v c) ++ xs) inner ∙ sym (flat_map-append f (head v c) (tail v c)) ∙ sym (append-nil (lined (all_lines v c)))

head_clear : (v : Version) (c : PlainCert) → AreClear (head v c)
head_clear v c =
    let P : List ℕ → Type 0 = λ text. is_clear text ≡ true in
    let rules = digest_line (codes "rules ") c.rules_digest ∷ [] in
    let new = digest_line (codes "new ") c.new_digest ∷ rules in
    let old = digest_line (codes "old ") c.old_digest ∷ new in
    All-cons P (answer v) old (answer_clear v)
    (All-cons P (digest_line (codes "old ") c.old_digest) new (digest_clear (codes "old ") c.old_digest refl)
    (All-cons P (digest_line (codes "new ") c.new_digest) rules (digest_clear (codes "new ") c.new_digest refl)
    (All-cons P (digest_line (codes "rules ") c.rules_digest) [] (digest_clear (codes "rules ") c.rules_digest refl) (All-nil P))))

lines_clear : (v : Version) (c : PlainCert) → All (HasNumbers v) (body c) → AreClear (all_lines v c)
lines_clear v c numbers =
    let P : List ℕ → Type 0 = λ text. is_clear text ≡ true in
    All-append P (head v c) (tail v c) (head_clear v c)
    (All-append P (map (spelling v) (body c)) (spelling v End ∷ []) (All-map P (spelling v) (body c) (All-weaker (HasNumbers v) (λ x. P (spelling v x)) (line_clear v) (body c) numbers))
    (All-cons P (spelling v End) [] (line_clear v End tt) (All-nil P)))

parts_are : (v : Version) (bytes : List ℕ) (c : PlainCert) → IsSpelledIn v bytes c → parts bytes ≡ record { lines = all_lines v c; rest = [] }
unfolding parts
parts_are v bytes c spelled =
    ap parts (spelled.is ∙ as_lines v c) ∙ parts-lined (all_lines v c) [] (lines_clear v c spelled.lines)
    ∙ ap (λ (lines : List (List ℕ)). let p : Parts = record { lines = lines; rest = [] } in p) (append-nil (all_lines v c))

-- ---- no fault

head_step : (v : Version) (number : ℕ) (test : List ℕ → Bool) (tests : List (List ℕ → Bool)) (text : List ℕ) (lines : List (List ℕ)) (rest : List ℕ) → test text ≡ true → head_fault v number (test ∷ tests) (text ∷ lines) rest ≡ head_fault v (number + 1) tests lines rest
unfolding head_fault
head_step v number test tests text lines rest right = rw right refl

head_over : (v : Version) (number : ℕ) (lines : List (List ℕ)) (rest : List ℕ) → head_fault v number [] lines rest ≡ body_fault v number None lines rest
unfolding head_fault
head_over v number lines rest = refl

answer_right : (v : Version) → answer_test v (answer v) ≡ true
answer_right One = refl
answer_right Two = refl

digest_right : (word digest : List ℕ) → IsDigest digest → digest_test word (digest_line word digest) ≡ true
digest_right word digest is = ap is_some (digest_some word digest is)

no_body_fault : (v : Version) (c : PlainCert) → IsCert c → All (HasNumbers v) (body c) → body_fault v 5 None (tail v c) [] ≡ None
no_body_fault v c kept numbers = run v 5 None (body c) refl numbers (body_bodies c) (λ k d lt. tt) (body_in_order c kept)

no_fault : (v : Version) (c : PlainCert) → IsCert c → All (HasNumbers v) (body c) → head_fault v 1 (head_tests v) (all_lines v c) [] ≡ None
no_fault v c kept numbers =
    let n = kept.numbers in
    head_step v 1 (answer_test v) _ (answer v) _ [] (answer_right v)
    ∙ head_step v 2 (digest_test (codes "old ")) _ (digest_line (codes "old ") c.old_digest) _ [] (digest_right (codes "old ") c.old_digest n.old_digest)
    ∙ head_step v 3 (digest_test (codes "new ")) _ (digest_line (codes "new ") c.new_digest) _ [] (digest_right (codes "new ") c.new_digest n.new_digest)
    ∙ head_step v 4 (digest_test (codes "rules ")) [] (digest_line (codes "rules ") c.rules_digest) (tail v c) [] (digest_right (codes "rules ") c.rules_digest n.rules_digest)
    ∙ head_over v 5 (tail v c) [] ∙ no_body_fault v c kept numbers

spelled_has_no_fault : (v : Version) (bytes : List ℕ) (c : PlainCert) → IsSpelledIn v bytes c → fault_of v bytes ≡ None
unfolding fault_of
spelled_has_no_fault v bytes c spelled = ap (λ (p : Parts). head_fault v 1 (head_tests v) p.lines p.rest) (parts_are v bytes c spelled) ∙ no_fault v c spelled.kept spelled.lines

-- ---- one certificate

same_lines : (v : Version) (bytes : List ℕ) (c d : PlainCert) → IsSpelledIn v bytes c → IsSpelledIn v bytes d → all_lines v c ≡ all_lines v d
same_lines v bytes c d one other = ap (λ (p : Parts). p.lines) (sym (parts_are v bytes c one) ∙ parts_are v bytes d other)

same_digest : (word one other : List ℕ) → IsDigest one → IsDigest other → digest_line word one ≡ digest_line word other → one ≡ other
same_digest word one other is is' e = same_Some one other (sym (digest_some word one is) ∙ ap (digest_behind word) e ∙ digest_some word other is')

line_or : Option Line → Line
line_or None = End
line_or (Some line) = line

abbrev read : Version → List ℕ → Line
read v text = line_or (form_of v text)

read_line : (v : Version) (line : Line) → HasNumbers v line → read v (spelling v line) ≡ line
unfolding line_or
read_line v line has = ap line_or (form_read v line has)

read_lines : (v : Version) (xs : List Line) → All (HasNumbers v) xs → map (read v) (map (spelling v) xs ++ spelling v End ∷ []) ≡ xs ++ End ∷ []
read_lines v [] all = ap (λ (line : Line). line ∷ []) (read_line v End tt)
read_lines v (x ∷ xs) all =
    ap (λ (line : Line). line ∷ map (read v) (map (spelling v) xs ++ spelling v End ∷ [])) (read_line v x (all 0 x (omega arith)))
    ∙ ap (λ (rest : List Line). x ∷ rest) (read_lines v xs (λ k d lt. all (suc k) d (omega (arith, lt))))

same_bodies : (v : Version) (c d : PlainCert) → All (HasNumbers v) (body c) → All (HasNumbers v) (body d) → tail v c ≡ tail v d → body c ++ End ∷ [] ≡ body d ++ End ∷ []
same_bodies v c d one other e = sym (read_lines v (body c) one) ∙ ap (map (read v)) e ∙ read_lines v (body d) other

-- what the lines of one kind say
as_bind : Line → Option (ℕ × ℕ)
as_bind (Bind i j) = Some (i, j)
as_bind line = None

as_old : Line → Option (ℕ × ℕ)
as_old (AlikeOld i j) = Some (i, j)
as_old line = None

as_new : Line → Option (ℕ × ℕ)
as_new (AlikeNew i j) = Some (i, j)
as_new line = None

as_pair : Line → Option PairLine
as_pair (Pair i j w) = Some (i, j, w)
as_pair line = None

kept_in : {X : Type 0} (f : Line → Option X) (g : X → Line) → ((x : X) → f (g x) ≡ Some x) → (xs : List X) (rest : List Line) → filter_map f (map g xs ++ rest) ≡ xs ++ filter_map f rest
kept_in {X} f g some [] rest = refl
kept_in {X} f g some (x ∷ xs) rest = let e = some x in rw e (ap (λ (ys : List X). x ∷ ys) (kept_in f g some xs rest))

left_out : {X Y : Type 0} (f : Line → Option X) (g : Y → Line) → ((y : Y) → f (g y) ≡ None) → (ys : List Y) (rest : List Line) → filter_map f (map g ys ++ rest) ≡ filter_map f rest
left_out {X} {Y} f g none [] rest = refl
left_out {X} {Y} f g none (y ∷ ys) rest = let e = none y in rw e (left_out f g none ys rest)

nested : (b o n p e : List Line) → (b ++ (o ++ (n ++ p))) ++ e ≡ b ++ (o ++ (n ++ (p ++ e)))
nested b o n p e = simp append_assoc

ended_groups : (c : PlainCert) → body c ++ End ∷ [] ≡ map bind_of c.binds ++ (map alike_old_of c.alike_old ++ (map alike_new_of c.alike_new ++ (map pair_of c.pairs ++ End ∷ [])))
unfolding groups
ended_groups c = ap (λ (xs : List Line). xs ++ End ∷ []) (body-groups c) ∙ nested (map bind_of c.binds) (map alike_old_of c.alike_old) (map alike_new_of c.alike_new) (map pair_of c.pairs) (End ∷ [])

binds_in : (c : PlainCert) → filter_map as_bind (body c ++ End ∷ []) ≡ c.binds
unfolding as_bind
binds_in c =
    ap (filter_map as_bind) (ended_groups c) ∙ kept_in as_bind bind_of (λ x. refl) c.binds _
    ∙ ap (λ (xs : List (ℕ × ℕ)). c.binds ++ xs) (left_out as_bind alike_old_of (λ y. refl) c.alike_old _ ∙ left_out as_bind alike_new_of (λ y. refl) c.alike_new _ ∙ left_out as_bind pair_of (λ y. refl) c.pairs (End ∷ []))
    ∙ append-nil c.binds

olds_in : (c : PlainCert) → filter_map as_old (body c ++ End ∷ []) ≡ c.alike_old
unfolding as_old
olds_in c =
    ap (filter_map as_old) (ended_groups c) ∙ left_out as_old bind_of (λ y. refl) c.binds _ ∙ kept_in as_old alike_old_of (λ x. refl) c.alike_old _
    ∙ ap (λ (xs : List (ℕ × ℕ)). c.alike_old ++ xs) (left_out as_old alike_new_of (λ y. refl) c.alike_new _ ∙ left_out as_old pair_of (λ y. refl) c.pairs (End ∷ []))
    ∙ append-nil c.alike_old

news_in : (c : PlainCert) → filter_map as_new (body c ++ End ∷ []) ≡ c.alike_new
unfolding as_new
news_in c =
    ap (filter_map as_new) (ended_groups c) ∙ left_out as_new bind_of (λ y. refl) c.binds _ ∙ left_out as_new alike_old_of (λ y. refl) c.alike_old _ ∙ kept_in as_new alike_new_of (λ x. refl) c.alike_new _
    ∙ ap (λ (xs : List (ℕ × ℕ)). c.alike_new ++ xs) (left_out as_new pair_of (λ y. refl) c.pairs (End ∷ []))
    ∙ append-nil c.alike_new

pairs_in : (c : PlainCert) → filter_map as_pair (body c ++ End ∷ []) ≡ c.pairs
unfolding as_pair
pairs_in c =
    ap (filter_map as_pair) (ended_groups c) ∙ left_out as_pair bind_of (λ y. refl) c.binds _ ∙ left_out as_pair alike_old_of (λ y. refl) c.alike_old _ ∙ left_out as_pair alike_new_of (λ y. refl) c.alike_new _
    ∙ kept_in as_pair pair_of (λ x. refl) c.pairs (End ∷ []) ∙ append-nil c.pairs

same_fields : (c d : PlainCert) → c.old_digest ≡ d.old_digest → c.new_digest ≡ d.new_digest → c.rules_digest ≡ d.rules_digest → c.binds ≡ d.binds → c.alike_old ≡ d.alike_old → c.alike_new ≡ d.alike_new → c.pairs ≡ d.pairs → c ≡ d
same_fields c d a b e f g h i =
    let mk : List ℕ → List ℕ → List ℕ → List (ℕ × ℕ) → List (ℕ × ℕ) → List (ℕ × ℕ) → List PairLine → PlainCert =
    λ o n r bs os ns ps. record { old_digest = o; new_digest = n; rules_digest = r; binds = bs; alike_old = os; alike_new = ns; pairs = ps } in
    ap (λ o. mk o c.new_digest c.rules_digest c.binds c.alike_old c.alike_new c.pairs) a
    ∙ ap (λ n. mk d.old_digest n c.rules_digest c.binds c.alike_old c.alike_new c.pairs) b
    ∙ ap (λ r. mk d.old_digest d.new_digest r c.binds c.alike_old c.alike_new c.pairs) e
    ∙ ap (λ bs. mk d.old_digest d.new_digest d.rules_digest bs c.alike_old c.alike_new c.pairs) f
    ∙ ap (λ os. mk d.old_digest d.new_digest d.rules_digest d.binds os c.alike_new c.pairs) g
    ∙ ap (λ ns. mk d.old_digest d.new_digest d.rules_digest d.binds d.alike_old ns c.pairs) h
    ∙ ap (λ ps. mk d.old_digest d.new_digest d.rules_digest d.binds d.alike_old d.alike_new ps) i

line_at : ℕ → List (List ℕ) → List ℕ
line_at k lines = get_or lines k []

rest_of : List (List ℕ) → List (List ℕ)
rest_of [] = []
rest_of (x ∷ xs) = xs

spelled_is_one : (v : Version) (bytes : List ℕ) (c d : PlainCert) → IsSpelledIn v bytes c → IsSpelledIn v bytes d → c ≡ d
unfolding line_at rest_of
spelled_is_one v bytes c d one other =
    let lines = same_lines v bytes c d one other in
    let n = one.kept.numbers in
    let m = other.kept.numbers in
    let old : digest_line (codes "old ") c.old_digest ≡ digest_line (codes "old ") d.old_digest = ap (line_at 1) lines in
    let new : digest_line (codes "new ") c.new_digest ≡ digest_line (codes "new ") d.new_digest = ap (line_at 2) lines in
    let rules : digest_line (codes "rules ") c.rules_digest ≡ digest_line (codes "rules ") d.rules_digest = ap (line_at 3) lines in
    let tails : tail v c ≡ tail v d = ap (λ (xs : List (List ℕ)). rest_of (rest_of (rest_of (rest_of xs)))) lines in
    let bodies = same_bodies v c d one.lines other.lines tails in
    same_fields c d (same_digest (codes "old ") c.old_digest d.old_digest n.old_digest m.old_digest old) (same_digest (codes "new ") c.new_digest d.new_digest n.new_digest m.new_digest new) (same_digest (codes "rules ") c.rules_digest d.rules_digest n.rules_digest m.rules_digest rules)
    (sym (binds_in c) ∙ ap (filter_map as_bind) bodies ∙ binds_in d) (sym (olds_in c) ∙ ap (filter_map as_old) bodies ∙ olds_in d) (sym (news_in c) ∙ ap (filter_map as_new) bodies ∙ news_in d) (sym (pairs_in c) ∙ ap (filter_map as_pair) bodies ∙ pairs_in d)

-- ---- version 2

in_two : (bytes : List ℕ) (c : PlainCert) → IsSpelled bytes c → IsSpelledIn Two bytes c
in_two bytes c spelled = record { kept = spelled.kept; lines = body_numbers Two c spelled.kept (λ k d lt. tt); is = spelled.is }

pub what_is_spelled_has_no_fault : (bytes : List ℕ) (c : PlainCert) → IsSpelled bytes c → fault_of Two bytes ≡ None
what_is_spelled_has_no_fault bytes c spelled = spelled_has_no_fault Two bytes c (in_two bytes c spelled)

pub a_text_is_of_one_certificate : (bytes : List ℕ) (c d : PlainCert) → IsSpelled bytes c → IsSpelled bytes d → c ≡ d
a_text_is_of_one_certificate bytes c d one other = spelled_is_one Two bytes c d (in_two bytes c one) (in_two bytes d other)

-- ---- version 1

direct_ways : (pairs : List (ℕ × ℕ)) → All (λ (line : PairLine). IsWay One line.2) (map as_direct pairs)
direct_ways pairs = All-map (λ (line : PairLine). IsWay One line.2) as_direct pairs (λ k d lt. refl)

in_one : (bytes : List ℕ) (c : PlainCert1) → IsSpelled1 bytes c → IsSpelledIn One bytes (with_ways c)
in_one bytes c spelled = record { kept = spelled.kept.is; lines = body_numbers One (with_ways c) spelled.kept.is (direct_ways c.pairs); is = spelled.is }

without : (pairs : List (ℕ × ℕ)) → map without_way (map as_direct pairs) ≡ pairs
without [] = refl
without (x ∷ pairs) = ap (λ (rest : List (ℕ × ℕ)). x ∷ rest) (without pairs)

-- the certificate of version 1 whose pairs are those without their ways
back : PlainCert → PlainCert1
back c = record {
  old_digest = c.old_digest;
  new_digest = c.new_digest;
  rules_digest = c.rules_digest;
  binds = c.binds;
  alike_old = c.alike_old;
  alike_new = c.alike_new;
  pairs = map without_way c.pairs;
}

with_pairs : PlainCert1 → List (ℕ × ℕ) → PlainCert1
with_pairs c pairs = record c { pairs = pairs }

back_again : (c : PlainCert1) → back (with_ways c) ≡ c
unfolding back with_pairs
back_again c = ap (with_pairs c) (without c.pairs)

pub a_text_is_of_one_certificate_of_version_1 : (bytes : List ℕ) (c d : PlainCert1) → IsSpelled1 bytes c → IsSpelled1 bytes d → c ≡ d
a_text_is_of_one_certificate_of_version_1 bytes c d one other =
    sym (back_again c) ∙ ap back (spelled_is_one One bytes (with_ways c) (with_ways d) (in_one bytes c one) (in_one bytes d other)) ∙ back_again d
