-- The commands, a row for each: the inputs that it wants, what it says about their bytes, and the limits that these pass, as the crate
-- that makes its answer defines them. What `run` promises of a command stands in a module of its own.
pub mod Check
pub mod Verify
pub mod Listings
pub mod Trial
pub mod Migrate
pub mod Compose
pub mod Layout
pub mod App
use Rattle.std.specs.Prelude.{List}
use Rattle.cli_args.specs.Commands.{PlainRequest, check, verify, entries, exports, trial, migrate, compose, layout, app}
use Rattle.commands.specs.Commands.{Command}
use Rattle.library_check.specs.Rows.App.{app_inputs, app_passes, app_says}
use Rattle.library_check.specs.Rows.Check.{check_inputs, check_passes, check_says}
use Rattle.library_check.specs.Rows.Compose.{compose_inputs, compose_passes, compose_says}
use Rattle.library_check.specs.Rows.Migrate.{migrate_inputs, migrate_passes, migrate_says}
use Rattle.library_check.specs.Rows.Trial.{trial_inputs, trial_passes, trial_says}
use Rattle.library_check.specs.Rows.Verify.{verify_inputs, verify_passes, verify_says}
use Rattle.library_layout.specs.Command.{layout_inputs, layout_passes, layout_says}
use Rattle.listings.specs.entries.Command.{entries_inputs, entries_passes, entries_says}
use Rattle.listings.specs.exports.Command.{exports_inputs, exports_passes, exports_says}
use Rattle.report.specs.Listening.{Voice}
use Rattle.report.specs.styles.Wanted.{wanted_voices}

-- The row of a request, if the caller passes listeners with these voices. Those of the requested style hear the breaks.
abbrev pub command_of : List Voice → PlainRequest → Command
command_of voices (check rules report old new) = record { inputs = check_inputs rules old new; says = check_says (wanted_voices report voices); passes = check_passes }
command_of voices (verify rules old new certificate) = record { inputs = verify_inputs rules old new certificate; says = verify_says; passes = verify_passes }
command_of voices (entries library) = record { inputs = entries_inputs library; says = entries_says; passes = entries_passes }
command_of voices (exports library) = record { inputs = exports_inputs library; says = exports_says; passes = exports_passes }
command_of voices (trial count) = record { inputs = trial_inputs count; says = trial_says count; passes = trial_passes count }
command_of voices (migrate rules old new certificate) = record { inputs = migrate_inputs rules old new certificate; says = migrate_says; passes = migrate_passes }
command_of voices (compose first middle last certificate1 certificate2) = record { inputs = compose_inputs first middle last certificate1 certificate2; says = compose_says; passes = compose_passes }
command_of voices (layout library tag) = record { inputs = layout_inputs library; says = layout_says tag; passes = layout_passes tag }
command_of voices (app rules report program old new) = record { inputs = app_inputs rules program old new; says = app_says (wanted_voices report voices); passes = app_passes }
