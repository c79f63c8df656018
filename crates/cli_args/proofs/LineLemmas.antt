use Rattle.std.proofs.Common.{◌≡◌, ◌≢◌, ◌≤◌, List, [], ◌∷◌, length, refl, ap, sym, arith, inl, inr}
use Rattle.clap.specs.Words.{Text, fault_of, HasKind, IsAmong, Kinds, kind_of}
use Rattle.clap.specs.declared.error.Error.{Error}
use Rattle.clap.specs.declared.error.kind.ErrorKind.{ErrorKind}
use Rattle.clap.specs.declared.error.kind.ErrorKind.TheVariants.{OutOfMemory}
use Rattle.cli_args.specs.Line.{line_app}
use Rattle.cli_args.proofs.OneKind.{one_kind}

pub line_one : (words : List Text) → length (fault_of line_app words) ≤ 1
line_one words = one_kind line_app words refl refl

alone : (k : ErrorKind) (kinds : Kinds) → length kinds ≤ 1 → IsAmong k kinds → kinds ≡ k ∷ []
alone k [] le h = absurd h
alone k (x ∷ []) le (inl same) = ap (λ y. y ∷ []) (sym same)
alone k (x ∷ []) le (inr none) = absurd none
alone k (x ∷ y ∷ rest) le h = absurd (omega (arith, le))

pub only : (e : Error) (kinds : Kinds) → length kinds ≤ 1 → kind_of e ≢ OutOfMemory → HasKind kinds e → kinds ≡ kind_of e ∷ []
only e kinds le other (inl memory) = absurd (other memory)
only e kinds le other (inr among) = alone _ kinds le among
