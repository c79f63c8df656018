-- Bytes are equal to themselves.
use Rattle.std.proofs.Common.{Bool, subst, refl}
use Rattle.std.specs.Prelude.{not}
use Rattle.std.proofs.lemmas.Slice.Eq.{bytes_eq-Decides}
use Rattle.side_notes.specs.AllNotes.{AreWithNeeds, AreWhere}
use Rattle.side_notes.proofs.laws.the_same_bytes_have_no_notes.Goals as goal

pub returns : goal.returns
returns c = λ f rules notes are. subst (λ (b : Bool). AreWhere (not b) (AreWithNeeds f f rules) notes) ((bytes_eq-Decides f f).1 refl) are
