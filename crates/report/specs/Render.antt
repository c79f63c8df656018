-- The text of a list of rows in each style.
use Rattle.std.specs.Prelude.{◌≡◌, ℕ, ◌-◌, ◌==◌, Bool, if◌then◌else◌, List, [], ◌∷◌, ◌++◌, length, take, map, flat_map, count_by, replicate, codes, decimal}
use Rattle.std.specs.List.{concat}
use Rattle.abi_types.specs.declared.rule.Rule.{Rule}
use Rattle.abi_types.specs.contracts.rule.RulePartialEq.TheImpl.{ghosts}
use Rattle.abi_types.specs.Rules.{all_rules, rule_word}
use Rattle.report.specs.declared.row.Row.{Row}
use Rattle.report.specs.declared.style.Style.{Style}
use Rattle.report.specs.declared.style.Style.TheVariants.{Text, Table, Counts, First, Own}

abbrev pub newline : List ℕ
newline = 10 ∷ []

-- ---- columns, which never cut a text

-- the text, padded with spaces on the right to this width
abbrev pub at_left : ℕ → List ℕ → List ℕ
at_left places text = text ++ replicate (places - length text) 32

-- the text, padded with spaces on the left to this width
abbrev pub at_right : ℕ → List ℕ → List ℕ
at_right places text = replicate (places - length text) 32 ++ text

-- ---- rows

abbrev pub path_behind : List ℕ → List ℕ
path_behind path = if length path == 0 then [] else codes " " ++ path

-- the end of a line
abbrev pub line_end : Row → List ℕ
line_end row = concat (codes ": " ∷ row.detail ∷ newline ∷ [])

-- a row as a line
unfoldable pub row_line : Row → List ℕ
row_line row = concat (rule_word row.rule ∷ codes " " ∷ row.export ∷ path_behind row.path ∷ line_end row ∷ [])

abbrev pub path_or_dash : List ℕ → List ℕ
path_or_dash path = if length path == 0 then codes "-" else path

-- the rule and the label in their columns
abbrev pub columns : Row → List ℕ
columns row = concat (at_left 4 (rule_word row.rule) ∷ codes " " ∷ at_left 32 row.export ∷ codes " " ∷ [])

-- a row of the table
unfoldable pub table_line : Row → List ℕ
table_line row = concat (columns row ∷ path_or_dash row.path ∷ line_end row ∷ [])

-- ---- counts

abbrev pub same_rule : Rule → Rule → Bool
same_rule = ghosts.eq

-- the number of rows of a rule
abbrev pub rows_of_rule : List Row → Rule → ℕ
rows_of_rule rows rule = count_by (λ (row : Row). same_rule row.rule rule) rows

-- a word and a number, in two columns
abbrev pub number_line : List ℕ → ℕ → List ℕ
number_line word number = concat (at_left 4 word ∷ at_right 8 (decimal number) ∷ newline ∷ [])

-- the line of a rule, if it has rows
abbrev pub count_line : List Row → Rule → List ℕ
count_line rows rule = if rows_of_rule rows rule == 0 then [] else number_line (rule_word rule) (rows_of_rule rows rule)

-- the number of rows of each rule that has some, and of all rules together
unfoldable pub counts_text : List Row → List ℕ
counts_text rows = flat_map (count_line rows) all_rules ++ number_line (codes "all") (length rows)

-- ---- styles

abbrev pub lines_text : List Row → List ℕ
lines_text rows = flat_map row_line rows

abbrev pub table_text : List Row → List ℕ
table_text rows = flat_map table_line rows

-- the text of the rows in a style; the style `Own` determines none
abbrev pub render : Style → List Row → List ℕ
render Text rows = lines_text rows
render Table rows = table_text rows
render Counts rows = counts_text rows
render (First n) rows = lines_text (take n rows)
render Own rows = []
