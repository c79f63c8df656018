-- what `clap` answers to some words
use Rattle.std.proofs.Common.{◌≡◌, refl, [], ◌∷◌, Some, codes}
use Rattle.clap.specs.Walk.{all_of, first_of}
use Rattle.clap.specs.Simple.{matches_of}
use Rattle.clap.specs.Faults.{fault_of}
use Rattle.clap.specs.declared.error.kind.ErrorKind.TheVariants as kind
use Rattle.clap.proofs.OnLiterals.{clap_on_literals}
use Rattle.cli_args.specs.Line.{line_app}

no_words : fault_of line_app [] ≡ kind.MissingRequiredArgument ∷ []
unfolding clap_on_literals
no_words = refl

option_waits : fault_of line_app (codes "check" ∷ codes "--rules" ∷ codes "-h" ∷ []) ≡ kind.InvalidValue ∷ []
unfolding clap_on_literals
option_waits = refl

help_last : fault_of line_app (codes "check" ∷ codes "a" ∷ codes "-hx" ∷ codes "--loud" ∷ []) ≡ kind.DisplayHelp ∷ []
unfolding clap_on_literals
help_last = refl

help_value : fault_of line_app (codes "--help=x" ∷ []) ≡ kind.TooManyValues ∷ []
unfolding clap_on_literals
help_value = refl

twice : fault_of line_app (codes "check" ∷ codes "--rules" ∷ codes "a" ∷ codes "--rules=b" ∷ []) ≡ kind.ArgumentConflict ∷ []
unfolding clap_on_literals
twice = refl

apart : all_of (codes "files") (matches_of line_app (codes "--report=table" ∷ codes "check" ∷ codes "a" ∷ codes "--rules" ∷ codes "f" ∷ codes "-" ∷ codes "--" ∷ codes "--rules" ∷ []))
    ≡ Some (codes "a" ∷ codes "-" ∷ codes "--rules" ∷ [])
unfolding clap_on_literals
apart = refl

empty_value : first_of (codes "rules") (matches_of line_app (codes "check" ∷ codes "--rules=" ∷ [])) ≡ Some []
unfolding clap_on_literals
empty_value = refl
