-- The words that ask for the help, each alone.
use Rattle.std.proofs.Common.{◌≡◌, List, ℕ, false, refl, sym, [], ◌∷◌, codes}
use Rattle.clap.specs.Words.{fault_of}
use Rattle.clap.specs.declared.error.kind.ErrorKind.TheVariants as kind
use Rattle.clap.proofs.OnLiterals.{clap_on_literals}
use Rattle.cli_args.specs.Line.{line_app}
use Rattle.cli_args.specs.Release.{is_version_alone}
use Rattle.cli_args.proofs.Judging.{when_help}
use Rattle.cli_args.specs.ParsedArguments.{arguments_by, help}

long_fault : fault_of line_app (codes "--help" ∷ []) ≡ kind.DisplayHelp ∷ []
unfolding clap_on_literals
long_fault = refl

short_fault : fault_of line_app (codes "-h" ∷ []) ≡ kind.DisplayHelp ∷ []
unfolding clap_on_literals
short_fault = refl

answered : (words : List (List ℕ)) → is_version_alone words ≡ false → fault_of line_app words ≡ kind.DisplayHelp ∷ [] → arguments_by words ≡ help
answered words other is = sym (when_help words other is)

pub long : arguments_by (codes "--help" ∷ []) ≡ help
long = answered (codes "--help" ∷ []) refl long_fault

pub short : arguments_by (codes "-h" ∷ []) ≡ help
short = answered (codes "-h" ∷ []) refl short_fault
