-- What `check` promises: when a new library may replace an old one, given their bytes and those of a rule file, and the text that
-- shows it.
use Rattle.std.specs.Prelude.{ℕ, List}
use Rattle.accesses.specs.LeafPlaces.{LeavesStay}
use Rattle.report.specs.Listening.{Voice}
use Rattle.cert_check.specs.Agreed.{IsAgreed}
use Rattle.cert_check.specs.Compatible.{Sides, IsCompatible, task_of}
use Rattle.library_read.specs.Libraries.{library_of}
use Rattle.suppression_text.specs.Rules.{rules_of}
use Rattle.library_check.specs.Judgements.{ruled, IsCertificate, IsRefusal}

-- the libraries in two files, and what the rule file suppresses in the old one
abbrev pub sides_of : List ℕ → List ℕ → List ℕ → Sides
sides_of old new rules = ruled (library_of old) (library_of new) (rules_of rules)

-- The new library may replace the old one in all that the rule file does not suppress: the sonames agree, each compared old export
-- binds and keeps the rules of exports, and some relation between types that holds the typed exports is closed under the rules of
-- types.
abbrev pub Compatible : List ℕ → List ℕ → List ℕ → Type 0
Compatible old new rules = IsCompatible (sides_of old new rules)

-- What that means for a program that was compiled against the old library: the sonames agree, each compared old export binds and keeps
-- the rules of exports, and whatever the program may reach from the types of these exports, it finds the same.
abbrev pub Agreed : List ℕ → List ℕ → List ℕ → Type 0
Agreed old new rules = IsAgreed (sides_of old new rules)

-- Each leaf on which an open access from the types of these exports lands stays at its offset, unless it lies under a place that is
-- marked at its way, or under one that is declared only in the new library.
abbrev pub KeepsLeaves : List ℕ → List ℕ → List ℕ → Type 0
KeepsLeaves old new rules = LeavesStay (task_of (sides_of old new rules))

-- the text of a yes
abbrev pub IsCertificateText : List ℕ → List ℕ → List ℕ → List ℕ → Type 0
IsCertificateText old new rules text = IsCertificate (sides_of old new rules) text

-- the text of a no, with listeners of these voices
abbrev pub IsReportText : List Voice → List ℕ → List ℕ → List ℕ → List ℕ → Type 0
IsReportText voices old new rules text = IsRefusal voices (sides_of old new rules) text
