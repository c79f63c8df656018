-- What a rule file leaves out of a library is as comparisons need it.
use Rattle.std.proofs.Common.{Result, Ok, Err}
use Rattle.std.specs.Prelude.{IfOk}
use Rattle.abi_types.specs.Libraries.{PlainLibrary}
use Rattle.abi_types.specs.declared.library.Marks.{Marks}
use Rattle.pair_compare.specs.Marking.{AreMarksOf}
use Rattle.pair_compare.proofs.lemmas.Marks.{are_marks_of}
use Rattle.suppressions.specs.Marks.{AreEvenMarks}

pub AreMarksOf-result : {E : Type 0} → (old : PlainLibrary) (result : Result Marks E) → IfOk result (AreEvenMarks old) → IfOk result (λ marks. AreMarksOf old marks)
AreMarksOf-result old (Ok marks) even = are_marks_of old marks even.exports even.direct.each even.pointer.each even.direct.even even.pointer.even
AreMarksOf-result old (Err e) even = tt
