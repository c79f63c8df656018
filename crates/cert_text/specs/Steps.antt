-- Reading line by line: where lines stand in a text, and the part of a certificate that was read so far.
use Rattle.std.specs.Prelude.{◌≡◌, ◌<◌, ◌≤◌, ◌+◌, ◌-◌, ℕ, Bool, true, false, if◌then◌else◌, List, [], ◌∷◌, ◌++◌, length, take, drop, map, Option, Some, None}
use Rattle.std.specs.List.{All, AllPairs}
use Rattle.abi_base.specs.declared.fault.Fault.{Fault}
use Rattle.cert_text.specs.Certs.{PlainCert, IsDigest}
use Rattle.cert_text.specs.Grammar.{HasNumbers, digest_line, lined, head_lines}
use Rattle.cert_text.specs.Forms.{form_of}
use Rattle.cert_text.specs.Faults.{parts, is_end, order_fault, body_fault, head_fault, digest_test, fault_of}
use Rattle.cert_text.specs.declared.line.Version.{Version}
use Rattle.cert_text.specs.declared.line.Line.{Line}
use Rattle.cert_text.specs.declared.line.Line.TheVariants.{Bind, AlikeOld, AlikeNew, Pair, End}

-- ---- positions

-- the bytes from one position to another
abbrev pub text_at : List ℕ → ℕ → ℕ → List ℕ
text_at bytes at end = take (end - at) (drop at bytes)

-- there is no line feed from this position on
pub record IsRest (bytes : List ℕ) (at : ℕ) : Type 0 where
  pub lines : (parts (drop at bytes)).lines ≡ []
  pub rest : (parts (drop at bytes)).rest ≡ drop at bytes

-- a line begins at this position, and the one after it at `next`
pub record StandsAt (bytes : List ℕ) (at next : ℕ) (text : List ℕ) : Type 0 where
  pub later : at < next
  pub inside : next ≤ length bytes
  pub is : drop at bytes ≡ text ++ 10 ∷ drop next bytes
  pub lines : (parts (drop at bytes)).lines ≡ text ∷ (parts (drop next bytes)).lines
  pub rest : (parts (drop at bytes)).rest ≡ (parts (drop next bytes)).rest

-- the first fault of the lines from a position on, after the line `before`
abbrev pub body_from : Version → ℕ → Option Line → List ℕ → ℕ → Option Fault
body_from v number before bytes at = body_fault v number before (parts (drop at bytes)).lines (parts (drop at bytes)).rest

-- ---- the first four lines

-- the first fault of the lines from a position on, where these tests remain
abbrev pub head_from : Version → ℕ → List (List ℕ → Bool) → List ℕ → ℕ → Option Fault
head_from v number tests bytes at = head_fault v number tests (parts (drop at bytes)).lines (parts (drop at bytes)).rest

-- the line at this position passes its test
pub record Passes (v : Version) (number : ℕ) (test : List ℕ → Bool) (bytes : List ℕ) (at next : ℕ) (text : List ℕ) : Type 0 where
  pub stands : StandsAt bytes at next text
  pub same : (tests : List (List ℕ → Bool)) → head_from v number (test ∷ tests) bytes at ≡ head_from v (number + 1) tests bytes next

-- the line at this position fails its test, and this is the first fault
abbrev pub Fails : ℕ → (List ℕ → Bool) → List ℕ → ℕ → Fault → Type 0
Fails number test bytes at fault = (v : Version) (tests : List (List ℕ → Bool)) → head_from v number (test ∷ tests) bytes at ≡ Some fault

-- the line at this position holds a digest
pub record HasDigest (number : ℕ) (word bytes : List ℕ) (at : ℕ) (digest : List ℕ) (next : ℕ) : Type 0 where
  pub size : IsDigest digest
  pub passes : (v : Version) → Passes v number (digest_test word) bytes at next (digest_line word digest)

-- the first four lines end at `next`, and hold these digests
pub record HasHead (v : Version) (bytes old new rules : List ℕ) (next : ℕ) : Type 0 where
  pub inside : next ≤ length bytes
  -- there are not more lines than bytes before a position
  pub room : 4 ≤ next
  pub old_digest : IsDigest old
  pub new_digest : IsDigest new
  pub rules_digest : IsDigest rules
  pub is : bytes ≡ lined (head_lines v old new rules) ++ drop next bytes
  pub same : fault_of v bytes ≡ body_from v 5 None bytes next

-- ---- the lines after the first four

-- the line has a form, and may follow the one before it
pub record Accepts (v : Version) (number : ℕ) (before : Option Line) (text : List ℕ) (line : Line) : Type 0 where
  pub going : is_end before ≡ false
  pub form : form_of v text ≡ Some line
  pub order : order_fault number before line ≡ None

-- the line has no form or may not follow, and this is the first fault
abbrev pub LineFails : Version → ℕ → Option Line → List ℕ → Fault → Type 0
LineFails v number before text fault = (lines : List (List ℕ)) (rest : List ℕ) → body_fault v number before (text ∷ lines) rest ≡ Some fault

-- a certificate with these digests and no line after the first four
abbrev pub empty_cert : List ℕ → List ℕ → List ℕ → PlainCert
empty_cert old new rules = record { old_digest = old; new_digest = new; rules_digest = rules; binds = []; alike_old = []; alike_new = []; pairs = [] }

-- the certificate with one more line
abbrev pub with_line : PlainCert → Line → PlainCert
with_line c (Bind old new) = record c { binds = c.binds ++ (old, new) ∷ [] }
with_line c (AlikeOld entry rep) = record c { alike_old = c.alike_old ++ (entry, rep) ∷ [] }
with_line c (AlikeNew entry rep) = record c { alike_new = c.alike_new ++ (entry, rep) ∷ [] }
with_line c (Pair old new way) = record c { pairs = c.pairs ++ (old, new, way) ∷ [] }
with_line c End = c
