-- Which listeners hear the report: those of the wanted style.
use Rattle.std.specs.Prelude.{Bool, true, false, List, filter}
use Rattle.report.specs.Listening.{Voice}
use Rattle.report.specs.declared.style.Style.{Style}
use Rattle.report.specs.declared.style.Style.TheVariants as style
use Rattle.report.specs.declared.styles.report_option.ReportStyle.{ReportStyle}
use Rattle.report.specs.declared.styles.report_option.ReportStyle.TheVariants.{Text, Table, Counts, First, Own}

-- the caller wants a listener of the style; `First` covers every number of rows
abbrev pub is_wanted : ReportStyle → Style → Bool
is_wanted Text style.Text = true
is_wanted Table style.Table = true
is_wanted Counts style.Counts = true
is_wanted First (style.First n) = true
is_wanted Own style.Own = true
is_wanted wanted other = false

-- the voices of the wanted listeners, in order
abbrev pub wanted_voices : ReportStyle → List Voice → List Voice
wanted_voices wanted voices = filter (λ (v : Voice). is_wanted wanted v.style) voices
