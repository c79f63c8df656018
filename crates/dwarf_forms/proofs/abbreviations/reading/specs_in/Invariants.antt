use Rattle.std.proofs.Common.{◌≡◌, ◌-◌, length}
use Rattle.dwarf_forms.specs.abbreviations.Abbrevs.{specs_run}
use Rattle.abi_base.proofs.lemmas.Runs.{put_before}
use Rattle.dwarf_forms.proofs.abbreviations.reading.specs_in.Given as goal

abbrev pub invariant-loop-spec : goal.invariant-loop-spec
invariant-loop-spec l = put_before l.specs (specs_run l.bytes l.place) ≡ specs_run l.bytes l.at

abbrev pub decreases-loop-spec : goal.decreases-loop-spec
decreases-loop-spec l = length l.bytes - l.place
