-- One line after the other.
use Rattle.std.proofs.Common.{◌≡◌, ◌<◌, ◌≤◌, ◌+◌, ◌^◌, ◌⊎◌, inl, inr, ℕ, zero, suc, Bool, true, false, List, [], ◌∷◌, ◌++◌, length, drop, map, Option, Some, None, refl, sym, ◌∙◌, ap, subst, arith, append_assoc, length-append, cond, nat_lt, ◌||◌, not}
use Rattle.std.specs.List.{All, AllPairs, flat_map}
use Rattle.std.proofs.lemmas.List.{append-nil, map-append}
use Rattle.std.proofs.lemmas.List.Concat.{flat_map-append}
use Rattle.std.proofs.lemmas.List.Elements.{All-push, All-weaker}
use Rattle.std.proofs.lemmas.List.Quantifiers.{all_pairs_push}
use Rattle.std.proofs.lemmas.Option.{none-some}
use Rattle.abi_base.proofs.lemmas.Lists.{All-none}
use Rattle.abi_base.specs.declared.fault.Fault.{Fault}
use Rattle.abi_base.specs.declared.fault.FaultKind.TheVariants as kind
use Rattle.cert_text.specs.Certs.{PlainCert, IsDigest}
use Rattle.cert_text.specs.Grammar.{HasNumbers, IsLine, spelling, body, head, lined}
use Rattle.cert_text.specs.Forms.{form_of}
use Rattle.cert_text.specs.Faults.{Parts, parts, may_follow, is_end, order_fault, line_fault, or_else, body_fault, fault_of}
use Rattle.cert_text.specs.Steps.{StandsAt, Accepts, LineFails, HasHead, body_from, empty_cert, with_line}
use Rattle.cert_text.specs.declared.line.Version.{Version}
use Rattle.cert_text.specs.declared.line.Line.{Line}
use Rattle.cert_text.specs.declared.line.Line.TheVariants.{Bind, AlikeOld, AlikeNew, Pair, End}
use Rattle.cert_text.proofs.OrderLemmas.{follow_trans}
use Rattle.cert_text.proofs.FormLemmas.{form_is}
use Rattle.cert_text.proofs.BodyLemmas.{body-with}

-- the line may follow that one
abbrev pub Follows : Line → Line → Type 0
Follows x y = may_follow x y ≡ true

-- no line stands behind the last one
abbrev pub IsBehind : Option Line → Line → Type 0
IsBehind None x = ⊥
IsBehind (Some before) x = (x ≡ before) ⊎ Follows x before

-- the last line, where it was read
abbrev pub ended : Option Line → List Line
ended (Some End) = End ∷ []
ended before = []

-- the lines that were read
abbrev pub said : Option Line → PlainCert → List Line
said before c = body c ++ ended before

abbrev pub count : PlainCert → ℕ
count c = 5 + length c.binds + length c.alike_old + length c.alike_new + length c.pairs

-- what was read before a place
pub record IsReading (v : Version) (bytes : List ℕ) (at number : ℕ) (before : Option Line) (c : PlainCert) : Type 0 where
  pub inside : at ≤ length bytes
  pub room : number ≤ at + 1
  pub size : count c ≤ number
  pub old_digest : IsDigest c.old_digest
  pub new_digest : IsDigest c.new_digest
  pub rules_digest : IsDigest c.rules_digest
  pub is : bytes ≡ (lined (head v c) ++ lined (map (spelling v) (said before c))) ++ drop at bytes
  pub same : fault_of v bytes ≡ body_from v number before bytes at
  pub ordered : AllPairs Follows (body c)
  pub behind : All (IsBehind before) (body c)
  pub numbers : All (HasNumbers v) (body c)

-- ---- at the first line

none_said : (old new rules : List ℕ) → body (empty_cert old new rules) ≡ []
unfolding body
none_said old new rules = refl

no_pairs : {X : Type 0} (R : X → X → Type 0) (xs : List X) → xs ≡ [] → AllPairs R xs
no_pairs {X} R xs e i j d less lt = absurd (omega (arith, lt, ap length e))

pub started : (v : Version) (bytes old new rules : List ℕ) (next : ℕ) → HasHead v bytes old new rules next → IsReading v bytes next 5 None (empty_cert old new rules)
started v bytes old new rules next has =
    let none = none_said old new rules in
    let c = empty_cert old new rules in
    record {
      inside = has.inside;
      room = omega (arith, has.room);
      size = omega arith;
      old_digest = has.old_digest;
      new_digest = has.new_digest;
      rules_digest = has.rules_digest;
      is = has.is ∙ ap (λ (xs : List ℕ). xs ++ drop next bytes) (sym (ap (λ (xs : List Line). lined (head v c) ++ lined (map (spelling v) (xs ++ []))) none ∙ append-nil (lined (head v c))));
      same = has.same;
      ordered = no_pairs Follows (body c) none;
      behind = All-none (IsBehind None) (body c) none;
      numbers = All-none (HasNumbers v) (body c) none;
    }

-- ---- one more line

order_is : (number : ℕ) (before line : Line) (b : Bool) → may_follow before line ≡ b → order_fault number (Some before) line ≡ None → b ≡ true
order_is number before line true is none = refl
order_is number before line false is none =
    let e : order_fault number (Some before) line ≡ Some (record { kind = kind.Order; at = number }) = rw is refl in
    absurd (none-some (record { kind = kind.Order; at = number }) (sym none ∙ e))

may_come : (number : ℕ) (before : Option Line) (line x : Line) → order_fault number before line ≡ None → IsBehind before x → Follows x line
may_come number None line x order behind = absurd behind
may_come number (Some earlier) line x order behind =
    let next : Follows earlier line = order_is number earlier line (may_follow earlier line) refl order in
    elim behind [
      | inl same ↦ subst (λ (y : Line). Follows y line) (sym same) next
      | inr follows ↦ follow_trans x earlier line follows next
    ]

all_before : (number : ℕ) (before : Option Line) (line : Line) (xs : List Line) → order_fault number before line ≡ None → All (IsBehind before) xs → All (λ x. Follows x line) xs
all_before number before line xs order = All-weaker (IsBehind before) (λ x. Follows x line) (λ x. may_come number before line x order) xs

-- the lines of the certificate are one more, or the last one stands behind them
record IsMore (line : Line) (c : PlainCert) : Type 0 where
  lines : said (Some line) (with_line c line) ≡ body c ++ line ∷ []
  all : (body (with_line c line) ≡ body c ++ line ∷ []) ⊎ (body (with_line c line) ≡ body c)
  size : count (with_line c line) ≤ count c + 1

more_count : (c : PlainCert) (line : Line) → count (with_line c line) ≤ count c + 1
more_count c (Bind i j) = omega (arith, length-append c.binds ((i, j) ∷ []))
more_count c (AlikeOld i j) = omega (arith, length-append c.alike_old ((i, j) ∷ []))
more_count c (AlikeNew i j) = omega (arith, length-append c.alike_new ((i, j) ∷ []))
more_count c (Pair i j w) = omega (arith, length-append c.pairs ((i, j, w) ∷ []))
more_count c End = omega arith

ended_none : (line : Line) → is_end (Some line) ≡ false → ended (Some line) ≡ []
ended_none (Bind i j) going = refl
ended_none (AlikeOld i j) going = refl
ended_none (AlikeNew i j) going = refl
ended_none (Pair i j w) going = refl
ended_none End going = cc

pushed : (line : Line) (xs : List Line) → All (λ x. Follows x line) xs → AllPairs Follows xs → AllPairs Follows (xs ++ line ∷ [])
pushed line xs before pairs = all_pairs_push Follows xs line pairs (λ k d lt. before k d lt)

more_of : (line : Line) (c : PlainCert) → is_end (Some line) ≡ false → All (λ x. Follows x line) (body c) → IsMore line c
more_of line c going all =
    let e = body-with c line all going in
    record {
      lines = ap (λ (xs : List Line). body (with_line c line) ++ xs) (ended_none line going) ∙ append-nil (body (with_line c line)) ∙ e;
      all = inl e;
      size = more_count c line;
    }

more_with : (line : Line) (c : PlainCert) (b : Bool) → is_end (Some line) ≡ b → All (λ x. Follows x line) (body c) → IsMore line c
more_with (Bind i j) c b is all = more_of (Bind i j) c refl all
more_with (AlikeOld i j) c b is all = more_of (AlikeOld i j) c refl all
more_with (AlikeNew i j) c b is all = more_of (AlikeNew i j) c refl all
more_with (Pair i j w) c b is all = more_of (Pair i j w) c refl all
more_with End c b is all = record { lines = refl; all = inr refl; size = more_count c End }

all_of : (P : Line → Type 0) (line : Line) (c : PlainCert) → IsMore line c → P line → All P (body c) → All P (body (with_line c line))
all_of P line c more here rest = elim (more.all) [
  | inl e ↦ subst (All P) (sym e) (All-push P (body c) line rest here)
  | inr e ↦ subst (All P) (sym e) rest
]

pairs_of : (line : Line) (c : PlainCert) → IsMore line c → All (λ x. Follows x line) (body c) → AllPairs Follows (body c) → AllPairs Follows (body (with_line c line))
pairs_of line c more all pairs = elim (more.all) [
  | inl e ↦ subst (AllPairs Follows) (sym e) (pushed line (body c) all pairs)
  | inr e ↦ subst (AllPairs Follows) (sym e) pairs
]

same_head : (v : Version) (c : PlainCert) (line : Line) → head v (with_line c line) ≡ head v c
same_head v c (Bind i j) = refl
same_head v c (AlikeOld i j) = refl
same_head v c (AlikeNew i j) = refl
same_head v c (Pair i j w) = refl
same_head v c End = refl

same_digests : (P : List ℕ → Type 0) (c : PlainCert) (line : Line) → P c.old_digest → P c.new_digest → P c.rules_digest → P (with_line c line).old_digest × P (with_line c line).new_digest × P (with_line c line).rules_digest
same_digests P c (Bind i j) a b d = (a, b, d)
same_digests P c (AlikeOld i j) a b d = (a, b, d)
same_digests P c (AlikeNew i j) a b d = (a, b, d)
same_digests P c (Pair i j w) a b d = (a, b, d)
same_digests P c End a b d = (a, b, d)

not_ended : (before : Option Line) → is_end before ≡ false → ended before ≡ []
not_ended None going = refl
not_ended (Some line) going = ended_none line going

pub lined-map : (v : Version) (xs : List Line) (line : Line) → lined (map (spelling v) (xs ++ line ∷ [])) ≡ lined (map (spelling v) xs) ++ (spelling v line ++ 10 ∷ [])
lined-map v xs line =
    ap lined (map-append (spelling v) xs (line ∷ [])) ∙ flat_map-append (λ (text : List ℕ). text ++ 10 ∷ []) (map (spelling v) xs) (spelling v line ∷ [])
    ∙ ap (λ (ys : List ℕ). lined (map (spelling v) xs) ++ ys) (append-nil (spelling v line ++ 10 ∷ []))

-- the text goes on by a line
text_more : (front lines text rest : List ℕ) → (front ++ lines) ++ (text ++ 10 ∷ rest) ≡ (front ++ (lines ++ (text ++ 10 ∷ []))) ++ rest
text_more front lines text rest =
    append_assoc front lines (text ++ 10 ∷ rest)
    ∙ ap (λ (xs : List ℕ). front ++ (lines ++ xs)) (sym (append_assoc text (10 ∷ []) rest))
    ∙ ap (λ (xs : List ℕ). front ++ xs) (sym (append_assoc lines (text ++ 10 ∷ []) rest))
    ∙ sym (append_assoc front (lines ++ (text ++ 10 ∷ [])) rest)

next_same : (v : Version) (bytes : List ℕ) (at next number : ℕ) (before : Option Line) (text : List ℕ) (line : Line) → StandsAt bytes at next text → Accepts v number before text line → body_from v number before bytes at ≡ body_from v (number + 1) (Some line) bytes next
unfolding body_fault
next_same v bytes at next number before text line stands accepts =
    let going = accepts.going in
    let form = accepts.form in
    let order = accepts.order in
    ap (λ (lines : List (List ℕ)). body_fault v number before lines (parts (drop at bytes)).rest) stands.lines
    ∙ ap (λ (rest : List ℕ). body_fault v number before (text ∷ (parts (drop next bytes)).lines) rest) stands.rest
    ∙ rw (going, form, order) refl

pub went_on : (v : Version) (bytes : List ℕ) (at next number : ℕ) (before : Option Line) (c : PlainCert) (text : List ℕ) (line : Line) → IsReading v bytes at number before c → StandsAt bytes at next text → Accepts v number before text line → IsReading v bytes next (number + 1) (Some line) (with_line c line)
went_on v bytes at next number before c text line reading stands accepts =
    let all = all_before number before line (body c) accepts.order reading.behind in
    let more = more_with line c (is_end (Some line)) refl all in
    let here = form_is v text line accepts.form in
    let digests = same_digests IsDigest c line reading.old_digest reading.new_digest reading.rules_digest in
    let front = lined (head v c) in
    let none : said before c ≡ body c = ap (λ (xs : List Line). body c ++ xs) (not_ended before accepts.going) ∙ append-nil (body c) in
    let lines = lined (map (spelling v) (body c)) in
    let went : bytes ≡ (front ++ lines) ++ (spelling v line ++ 10 ∷ drop next bytes) =
    reading.is ∙ ap (λ (xs : List Line). (front ++ lined (map (spelling v) xs)) ++ drop at bytes) none ∙ ap (λ (xs : List ℕ). (front ++ lines) ++ xs) (stands.is ∙ ap (λ (xs : List ℕ). xs ++ 10 ∷ drop next bytes) here.is) in
    let told : lined (map (spelling v) (said (Some line) (with_line c line))) ≡ lines ++ (spelling v line ++ 10 ∷ []) = ap (λ (xs : List Line). lined (map (spelling v) xs)) more.lines ∙ lined-map v (body c) line in
    record {
      inside = stands.inside;
      room = omega (arith, reading.room, stands.later);
      size = omega (arith, more.size, reading.size);
      old_digest = digests.0;
      new_digest = digests.1;
      rules_digest = digests.2;
      is = went ∙ text_more front lines (spelling v line) (drop next bytes) ∙ ap (λ (xs : List ℕ). (front ++ xs) ++ drop next bytes) (sym told) ∙ ap (λ (heads : List (List ℕ)). (lined heads ++ lined (map (spelling v) (said (Some line) (with_line c line)))) ++ drop next bytes) (sym (same_head v c line));
      same = reading.same ∙ next_same v bytes at next number before text line stands accepts;
      ordered = pairs_of line c more all reading.ordered;
      behind = all_of (IsBehind (Some line)) line c more (inl refl) (All-weaker (λ x. Follows x line) (IsBehind (Some line)) (λ x follows. inr follows) (body c) all);
      numbers = all_of (HasNumbers v) line c more here.numbers reading.numbers;
    }

-- ---- lines that are refused

pub over_fails : (v : Version) (number : ℕ) (before : Option Line) (text : List ℕ) → true ≡ is_end before → LineFails v number before text (record { kind = kind.End; at = number })
unfolding body_fault
over_fails v number before text over lines rest = let e = sym over in rw e refl

pub form_fails : (v : Version) (number : ℕ) (before : Option Line) (text : List ℕ) → false ≡ is_end before → form_of v text ≡ None → LineFails v number before text (record { kind = kind.CertLine; at = number })
unfolding body_fault
form_fails v number before text going none lines rest = let e = sym going in rw (e, none) refl

pub order_fails : (v : Version) (number : ℕ) (before : Line) (text : List ℕ) (line : Line) → false ≡ is_end (Some before) → form_of v text ≡ Some line → may_follow before line ≡ false → LineFails v number (Some before) text (record { kind = kind.Order; at = number })
unfolding body_fault
order_fails v number before text line going form other lines rest = let e = sym going in rw (e, form, other) refl
