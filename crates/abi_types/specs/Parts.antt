-- Parts that are alike, in order.
use Rattle.std.specs.Prelude.{ℕ, suc, ◌-◌, ◌==◌, Bool, true, false, cond, List, [], ◌∷◌, Option, Some, None, count_by, take}
use Rattle.std.specs.Str.{bytes_eq}
use Rattle.std.specs.Option.{option_map}
use Rattle.abi_types.specs.declared.part.Part.{Part}
use Rattle.abi_types.specs.declared.part.Part.TheVariants as code
use Rattle.abi_types.specs.Types.{PlainPart, Member, Enumerator, Target, Element, Outcome, Param}

-- a part of the code, without the address of its name in memory
abbrev pub plain_part : {Ix : Type 0} → (Ix → ℕ) → Part Ix → PlainPart
plain_part number_of (code.Member name bit width to) = Member name.now bit width (number_of to)
plain_part number_of (code.Enumerator name value) = Enumerator name.now value
plain_part number_of (code.Target to) = Target (number_of to)
plain_part number_of (code.Element to) = Element (number_of to)
plain_part number_of (code.Outcome to) = Outcome (number_of to)
plain_part number_of (code.Param to) = Param (number_of to)

-- the parts have the same sort and, where that sort has names, the same name
abbrev pub like : PlainPart → PlainPart → Bool
like (Member m _ _ _) (Member n _ _ _) = bytes_eq m n
like (Enumerator m _) (Enumerator n _) = bytes_eq m n
like (Target _) (Target _) = true
like (Element _) (Element _) = true
like (Outcome _) (Outcome _) = true
like (Param _) (Param _) = true
like _ _ = false

-- the position of the k-th item that passes the test, counted from 0
unfoldable pub place_of : {X : Type 0} → (X → Bool) → ℕ → List X → Option ℕ
place_of p k [] = None
place_of p k (x ∷ xs) = cond (p x) (cond (k == 0) (Some 0) (option_map suc (place_of p (k - 1) xs))) (option_map suc (place_of p k xs))

-- how many parts before a position are like the given one
unfoldable pub like_before : List PlainPart → PlainPart → ℕ → ℕ
like_before parts part i = count_by (like part) (take i parts)
