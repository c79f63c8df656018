-- Why certificates are refused: the number and the name of each kind.
use Rattle.std.specs.Prelude.{ℕ, List, codes}
use Rattle.cert_check.specs.declared.refused.RefusedKind.{RefusedKind}
use Rattle.cert_check.specs.declared.refused.RefusedKind.TheVariants as kind

abbrev pub refused_number : RefusedKind → ℕ
refused_number kind.OtherInput = 70
refused_number kind.Soname = 71
refused_number kind.Bindings = 72
refused_number kind.ExportRule = 73
refused_number kind.Alike = 74
refused_number kind.Root = 75
refused_number kind.Rule = 76
refused_number kind.Partner = 77
refused_number kind.BindingBetween = 81
refused_number kind.ExportBetween = 82
refused_number kind.TypeBetween = 83
refused_number kind.Declaration = 84

abbrev pub refused_name : RefusedKind → List ℕ
refused_name kind.OtherInput = codes "OtherInput"
refused_name kind.Soname = codes "Soname"
refused_name kind.Bindings = codes "Bindings"
refused_name kind.ExportRule = codes "ExportRule"
refused_name kind.Alike = codes "Alike"
refused_name kind.Root = codes "Root"
refused_name kind.Rule = codes "Rule"
refused_name kind.Partner = codes "Partner"
refused_name kind.BindingBetween = codes "BindingBetween"
refused_name kind.ExportBetween = codes "ExportBetween"
refused_name kind.TypeBetween = codes "TypeBetween"
refused_name kind.Declaration = codes "Declaration"
