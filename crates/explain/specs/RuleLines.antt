-- Lines of a rule file whose value seems to be followed by a comment.
use Rattle.std.specs.Prelude.{◌==◌, ◌&&◌, ◌||◌, ℕ, Bool, false, true, not, List, [], ◌∷◌, filter, if◌then◌else◌}
use Rattle.std.specs.Str.Lines.{lines}

-- a space or a tab
abbrev pub is_blank : ℕ → Bool
is_blank b = b == 32 || b == 9

-- `#` (35) or `;` (59)
abbrev pub is_mark : ℕ → Bool
is_mark b = b == 35 || b == 59

-- the second of two bytes seems to begin a comment
abbrev pub begins_comment : (before b : ℕ) → Bool
begins_comment before b = is_blank before && is_mark b

-- neither a mark nor `[` (91)
abbrev pub is_plain : ℕ → Bool
is_plain b = not (is_mark b || b == 91)

-- among `before` and these bytes, a blank is immediately followed by a mark
unfoldable pub has_mark_behind : (before : ℕ) → List ℕ → Bool
has_mark_behind before [] = false
has_mark_behind before (b ∷ rest) = if begins_comment before b then true else has_mark_behind b rest

-- after the first `=` (61), a blank is immediately followed by a mark
unfoldable pub has_mark_in_value : List ℕ → Bool
has_mark_in_value [] = false
has_mark_in_value (b ∷ rest) = if b == 61 then has_mark_behind b rest else has_mark_in_value rest

-- apart from leading blanks, the line does not begin with a mark or with `[`, as comments and heads of sections do
unfoldable pub begins_property : List ℕ → Bool
begins_property [] = false
begins_property (b ∷ rest) = if is_blank b then begins_property rest else is_plain b

-- the line is a property whose value contains ` #` or ` ;`
abbrev pub has_comment_in_value : List ℕ → Bool
has_comment_in_value line = begins_property line && has_mark_in_value line

-- those lines of a text
abbrev pub commented_lines : List ℕ → List (List ℕ)
commented_lines text = filter has_comment_in_value (lines text)
