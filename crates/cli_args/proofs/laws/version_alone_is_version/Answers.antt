use Rattle.cli_args.proofs.Judging.{alone_is_version, version_is_alone}
use Rattle.cli_args.proofs.laws.version_alone_is_version.Goals as goal

pub returns : goal.returns
returns c = λ words. (version_is_alone words, alone_is_version words)
