-- The printed form of a path: its steps, each by the part of the old type that it follows.
use Rattle.std.specs.Prelude.{ℕ, ◌+◌, ◌==◌, if◌then◌else◌, List, [], ◌∷◌, ◌++◌, map, flat_map, codes, decimal}
use Rattle.std.specs.List.{concat}
use Rattle.abi_types.specs.Types.{PlainPart, Member, Enumerator, Target, Element, Outcome, Param, PlainView}
use Rattle.abi_types.specs.Graphs.{part_at}
use Rattle.abi_types.specs.Shown.{shown}
use Rattle.abi_types.specs.Sorts.{name_of}
use Rattle.pair_rules.specs.Matching.{number_of}

-- `#` and the number of a part among those of its name, from the second one on
abbrev pub numbered : ℕ → List ℕ
numbered before = if before == 0 then [] else concat (codes "#" ∷ decimal (before + 1) ∷ [])

-- the name of part i, and its number among the parts of that name
unfoldable pub part_name : PlainView → ℕ → List ℕ
part_name v i = shown (name_of (part_at v i)) ++ numbered (number_of v i)

-- the step by a part, where `number` parts of its sort and name precede it
abbrev pub step_by : PlainPart → List ℕ → ℕ → List ℕ
step_by (Member name bit width to) named number = codes "member " ++ named
step_by (Enumerator name value) named number = []
step_by (Target to) named number = codes "target"
step_by (Element to) named number = codes "element"
step_by (Outcome to) named number = codes "result"
step_by (Param to) named number = concat (codes "param " ∷ decimal (number + 1) ∷ [])

-- the step by part i of a type
unfoldable pub step_text : PlainView → ℕ → List ℕ
step_text v i = step_by (part_at v i) (part_name v i) (number_of v i)

-- texts with a separator between them
abbrev pub joined : List ℕ → List (List ℕ) → List ℕ
joined between [] = []
joined between (text ∷ texts) = text ++ flat_map (λ (t : List ℕ). between ++ t) texts

-- the text of steps, each of a type and a position in it
abbrev pub path_text : List (PlainView × ℕ) → List ℕ
path_text steps = joined (codes " / ") (map (λ (s : PlainView × ℕ). step_text s.0 s.1) steps)
