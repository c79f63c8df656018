-- What a rule file leaves out of a library is as comparisons need it.
use Rattle.std.proofs.Common.{ℕ, List, Result, Ok, Err}
use Rattle.std.specs.Prelude.{IfOk}
use Rattle.abi_types.specs.Libraries.{PlainLibrary}
use Rattle.abi_types.specs.declared.library.Marks.{Marks}
use Rattle.cert_check.specs.Compatible.{task_of}
use Rattle.pair_compare.specs.Marking.{AreMarksOf}
use Rattle.pair_compare.proofs.lemmas.Marks.{are_marks_of}
use Rattle.pair_rules.specs.Stable.{AreEven}
use Rattle.library_read.specs.Libraries.{library_of}
use Rattle.suppressions.specs.Marks.{AreEvenMarks, marks_of_text}
use Rattle.library_check.specs.Checks.{sides_of}

are_marks : (old : PlainLibrary) (marks : Marks) → AreEvenMarks old marks → AreMarksOf old marks
are_marks old marks even = are_marks_of old marks even.exports even.direct.each even.pointer.each even.direct.even even.pointer.even

pub AreMarksOf-result : {E : Type 0} → (old : PlainLibrary) (result : Result Marks E) → IfOk result (AreEvenMarks old) → IfOk result (λ marks. AreMarksOf old marks)
AreMarksOf-result old (Ok marks) even = are_marks old marks even
AreMarksOf-result old (Err e) even = tt

-- the marks of a rule text are even
abbrev pub AreEvenByText : Type 0
AreEvenByText = (text : List ℕ) (library : PlainLibrary) → AreEvenMarks library (marks_of_text text library)

pub even_sides : AreEvenByText → (old new rules : List ℕ) → AreEven (task_of (sides_of old new rules))
even_sides are old new rules = (are_marks (library_of old) (marks_of_text rules (library_of old)) (are rules (library_of old))).even (library_of new)
