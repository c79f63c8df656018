-- The first fault of the text of a certificate.
use Rattle.std.specs.Prelude.{◌+◌, ◌==◌, ◌||◌, ◌&&◌, not, nat_lt, is_some, ℕ, Bool, true, false, if◌then◌else◌, List, [], ◌∷◌, length, Option, Some, None, codes}
use Rattle.std.specs.Str.{bytes_eq}
use Rattle.abi_types.specs.declared.kind.Way.{Way}
use Rattle.abi_base.specs.declared.fault.Fault.{Fault}
use Rattle.abi_base.specs.declared.fault.FaultKind.TheVariants as kind
use Rattle.abi_base.specs.Outcome.{fault_if}
use Rattle.cert_text.specs.Certs.{is_pointer}
use Rattle.cert_text.specs.Grammar.{answer}
use Rattle.cert_text.specs.Forms.{form_of, digest_behind}
use Rattle.cert_text.specs.declared.line.Version.{Version}
use Rattle.cert_text.specs.declared.line.Version.TheVariants.{One, Two}
use Rattle.cert_text.specs.declared.line.Line.{Line}
use Rattle.cert_text.specs.declared.line.Line.TheVariants.{Bind, AlikeOld, AlikeNew, Pair, End}

-- ---- the lines of a text

-- the lines of a text without their line feeds, and the bytes after the last line feed
pub record Parts : Type 0 where
  pub lines : List (List ℕ)
  pub rest : List ℕ

abbrev pub onto : ℕ → List (List ℕ) → List ℕ → Parts
onto b [] rest = record { lines = []; rest = b ∷ rest }
onto b (line ∷ lines) rest = record { lines = (b ∷ line) ∷ lines; rest = rest }

unfoldable pub parts : List ℕ → Parts
parts [] = record { lines = []; rest = [] }
parts (b ∷ bytes) = if b == 10 then record { lines = [] ∷ (parts bytes).lines; rest = (parts bytes).rest } else onto b (parts bytes).lines (parts bytes).rest

-- ---- the order of lines

-- the position of a line's kind in the order of kinds
abbrev pub rank : Line → ℕ
rank (Bind old new) = 0
rank (AlikeOld entry rep) = 1
rank (AlikeNew entry rep) = 2
rank (Pair old new way) = 3
rank End = 4

-- the first number is less, or the numbers are equal and `next` decides
abbrev pub before_then : ℕ → ℕ → Bool → Bool
before_then m n next = nat_lt m n || (m == n && next)

abbrev pub way_before : Way → Way → Bool
way_before v w = not (is_pointer v) && is_pointer w

-- two lines of one kind: the second is strictly above the first
abbrev pub is_above : Line → Line → Bool
is_above (Bind i j) (Bind k l) = nat_lt i k
is_above (AlikeOld e r) (AlikeOld f s) = nat_lt e f
is_above (AlikeNew e r) (AlikeNew f s) = nat_lt e f
is_above (Pair e f v) (Pair g h w) = before_then e g (before_then f h (way_before v w))
is_above x y = false

-- the second may follow the first: it is of a later kind, or above it
unfoldable pub may_follow : Line → Line → Bool
may_follow x y = before_then (rank x) (rank y) (is_above x y)

-- ---- faults

abbrev pub is_end : Option Line → Bool
is_end (Some End) = true
is_end line = false

-- a line after the first four has a form (else 60), and may follow the line before it (else 61)
abbrev pub order_fault : ℕ → Option Line → Line → Option Fault
order_fault number None line = None
order_fault number (Some before) line = fault_if (not (may_follow before line)) kind.Order number

abbrev pub line_fault : ℕ → Option Line → Option Line → Option Fault
line_fault number before None = Some (record { kind = kind.CertLine; at = number })
line_fault number before (Some line) = order_fault number before line

abbrev pub or_else : Option Fault → Option Fault → Option Fault
or_else (Some fault) next = Some fault
or_else None next = next

-- where the lines end: the last one is `end`, and no bytes follow it (else 62)
abbrev pub end_fault : ℕ → Option Line → List ℕ → Option Fault
end_fault number before rest = fault_if (not (is_end before) || nat_lt 0 (length rest)) kind.End number

-- the first fault of the lines from this number on, after the line `before`
unfoldable pub body_fault : Version → ℕ → Option Line → List (List ℕ) → List ℕ → Option Fault
body_fault v number before [] rest = end_fault number before rest
body_fault v number before (text ∷ lines) rest =
    if is_end before then Some (record { kind = kind.End; at = number })
    else or_else (line_fault number before (form_of v text)) (body_fault v (number + 1) (form_of v text) lines rest)

abbrev pub answer_test : Version → List ℕ → Bool
answer_test v text = bytes_eq text (answer v)

abbrev pub digest_test : List ℕ → List ℕ → Bool
digest_test word text = is_some (digest_behind word text)

-- the first four lines, each as a test of a text
abbrev pub head_tests : Version → List (List ℕ → Bool)
head_tests v = answer_test v ∷ digest_test (codes "old ") ∷ digest_test (codes "new ") ∷ digest_test (codes "rules ") ∷ []

-- The first fault, where these tests remain for the next lines: a line does not pass its test (60), or the text ends before it
-- (62).
unfoldable pub head_fault : Version → ℕ → List (List ℕ → Bool) → List (List ℕ) → List ℕ → Option Fault
head_fault v number [] lines rest = body_fault v number None lines rest
head_fault v number (test ∷ tests) [] rest = Some (record { kind = kind.End; at = number })
head_fault v number (test ∷ tests) (text ∷ lines) rest =
    if test text then head_fault v (number + 1) tests lines rest else Some (record { kind = kind.CertLine; at = number })

-- The first fault of a text, read as this version. `at` is the number of the line.
unfoldable pub fault_of : Version → List ℕ → Option Fault
fault_of v bytes = head_fault v 1 (head_tests v) (parts bytes).lines (parts bytes).rest
