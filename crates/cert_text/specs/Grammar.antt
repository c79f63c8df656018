-- The text of a certificate. Each certificate has exactly one spelling.
use Rattle.std.specs.Prelude.{◌≡◌, ◌<◌, ◌^◌, ℕ, List, [], ◌∷◌, ◌++◌, map, codes, decimal}
use Rattle.std.specs.List.{All, flat_map}
use Rattle.hex.specs.Hex.{encode_lower}
use Rattle.abi_types.specs.declared.kind.Way.{Way}
use Rattle.abi_types.specs.declared.kind.Way.TheVariants.{Direct, Pointer}
use Rattle.cert_text.specs.Certs.{PlainCert, PlainCert1, PairLine, IsCert, IsCert1, with_ways}
use Rattle.cert_text.specs.declared.line.Version.{Version}
use Rattle.cert_text.specs.declared.line.Version.TheVariants.{One, Two}
use Rattle.cert_text.specs.declared.line.Line.{Line}
use Rattle.cert_text.specs.declared.line.Line.TheVariants.{Bind, AlikeOld, AlikeNew, Pair, End}

-- ---- lines

abbrev pub way_word : Way → List ℕ
way_word Direct = codes "direct"
way_word Pointer = codes "pointer"

-- a pair line of version 1 has no way
abbrev pub way_words : Version → Way → List ℕ
way_words One way = []
way_words Two way = 32 ∷ way_word way

-- a line after the first four, without its line feed
abbrev pub spelling : Version → Line → List ℕ
spelling v (Bind old new) = codes "bind " ++ (decimal old ++ 32 ∷ decimal new)
spelling v (AlikeOld entry rep) = codes "alike old " ++ (decimal entry ++ 32 ∷ decimal rep)
spelling v (AlikeNew entry rep) = codes "alike new " ++ (decimal entry ++ 32 ∷ decimal rep)
spelling v (Pair old new way) = codes "pair " ++ (decimal old ++ 32 ∷ (decimal new ++ way_words v way))
spelling v End = codes "end"

-- pair lines of version 1 have only one way, by value
abbrev pub IsWay : Version → Way → Type 0
IsWay One way = way ≡ Direct
IsWay Two way = Unit {0}

-- the numbers of a line are in range: symbols are below 2^32, entries below 2^64
abbrev pub HasNumbers : Version → Line → Type 0
HasNumbers v (Bind old new) = (old < 2 ^ 32) × (new < 2 ^ 32)
HasNumbers v (AlikeOld entry rep) = (entry < 2 ^ 64) × (rep < 2 ^ 64)
HasNumbers v (AlikeNew entry rep) = (entry < 2 ^ 64) × (rep < 2 ^ 64)
HasNumbers v (Pair old new way) = (old < 2 ^ 64) × (new < 2 ^ 64) × IsWay v way
HasNumbers v End = Unit {0}

-- the text is the spelling of the line
pub record IsLine (v : Version) (text : List ℕ) (line : Line) : Type 0 where
  pub numbers : HasNumbers v line
  pub is : text ≡ spelling v line

-- ---- texts

-- the first line: the answer and the version
abbrev pub answer : Version → List ℕ
answer One = codes "yes 1"
answer Two = codes "yes 2"

-- the line of an input's SHA-256, in lower-case hexadecimal digits
abbrev pub digest_line : List ℕ → List ℕ → List ℕ
digest_line word digest = word ++ encode_lower digest

-- the first four lines, with these digests
abbrev pub head_lines : Version → List ℕ → List ℕ → List ℕ → List (List ℕ)
head_lines v old new rules = answer v ∷ digest_line (codes "old ") old ∷ digest_line (codes "new ") new ∷ digest_line (codes "rules ") rules ∷ []

abbrev pub head : Version → PlainCert → List (List ℕ)
head v c = head_lines v c.old_digest c.new_digest c.rules_digest

abbrev pub bind_of : ℕ × ℕ → Line
bind_of x = Bind x.0 x.1

abbrev pub alike_old_of : ℕ × ℕ → Line
alike_old_of x = AlikeOld x.0 x.1

abbrev pub alike_new_of : ℕ × ℕ → Line
alike_new_of x = AlikeNew x.0 x.1

abbrev pub pair_of : PairLine → Line
pair_of x = Pair x.0 x.1 x.2

-- the lines between the first four and the last one
unfoldable pub body : PlainCert → List Line
body c = map bind_of c.binds ++ (map alike_old_of c.alike_old ++ (map alike_new_of c.alike_new ++ map pair_of c.pairs))

-- lines, each with its line feed
abbrev pub lined : List (List ℕ) → List ℕ
lined lines = flat_map (λ line. line ++ 10 ∷ []) lines

unfoldable pub text_of : Version → PlainCert → List ℕ
text_of v c = lined (head v c) ++ (lined (map (spelling v) (body c)) ++ lined (spelling v End ∷ []))

-- ---- certificates

-- the text spells a certificate whose lines this version can have
pub record IsSpelledIn (v : Version) (bytes : List ℕ) (c : PlainCert) : Type 0 where
  pub kept : IsCert c
  pub lines : All (HasNumbers v) (body c)
  pub is : bytes ≡ text_of v c

-- the text spells a certificate of version 2
pub record IsSpelled (bytes : List ℕ) (c : PlainCert) : Type 0 where
  pub kept : IsCert c
  pub is : bytes ≡ text_of Two c

-- the text spells a certificate of version 1
pub record IsSpelled1 (bytes : List ℕ) (c : PlainCert1) : Type 0 where
  pub kept : IsCert1 c
  pub is : bytes ≡ text_of One (with_ways c)
