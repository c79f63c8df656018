-- A spelled call tells its places and their slots.
use Rattle.std.proofs.Common.{◌≡◌, ◌+◌, ◌*◌, ◌<◌, ℕ, eqb, true, List, [], ◌∷◌, ◌++◌, refl, sym, ◌∙◌, ap, arith, append_assoc}
use Rattle.std.proofs.lemmas.Bool.{eq-eqb, false≢true}
use Rattle.abi_types.specs.declared.place.Slot.{Slot}
use Rattle.abi_types.specs.declared.place.Slot.TheVariants as slot
use Rattle.abi_types.specs.declared.place.Place.{Place}
use Rattle.abi_types.specs.declared.place.Place.TheVariants as place
use Rattle.abi_types.specs.declared.place.CallShape.{CallShape}
use Rattle.type_classes.specs.Shapes.{slot_number, spelled_list, spelled_slot, spelled_place, spelled_call}
use Rattle.type_classes.proofs.SpelledLists.{Tells, digits_tell, list_tells, same_map}

slot_tag : Slot → ℕ
slot_tag slot.Unused = 0
slot_tag (slot.General n) = 1
slot_tag (slot.Vector n) = 2
slot_tag (slot.Upper n) = 3
slot_tag (slot.X87 n) = 4

slot_value : Slot → ℕ
slot_value slot.Unused = 0
slot_value (slot.General n) = n
slot_value (slot.Vector n) = n
slot_value (slot.Upper n) = n
slot_value (slot.X87 n) = n

slot_is : (a : Slot) → (slot_number a ≡ 5 * slot_value a + slot_tag a) × (slot_tag a < 5)
unfolding slot_tag slot_value
slot_is slot.Unused = (refl, omega arith)
slot_is (slot.General n) = (refl, omega arith)
slot_is (slot.Vector n) = (refl, omega arith)
slot_is (slot.Upper n) = (refl, omega arith)
slot_is (slot.X87 n) = (refl, omega arith)

slot_same : (a b : Slot) → eqb (slot_tag a) (slot_tag b) ≡ true → slot_value a ≡ slot_value b → a ≡ b
unfolding slot_tag slot_value
slot_same slot.Unused slot.Unused tags values = refl
slot_same (slot.General m) (slot.General n) tags values = ap slot.General values
slot_same (slot.Vector m) (slot.Vector n) tags values = ap slot.Vector values
slot_same (slot.Upper m) (slot.Upper n) tags values = ap slot.Upper values
slot_same (slot.X87 m) (slot.X87 n) tags values = ap slot.X87 values
slot_same _ _ tags values = absurd (false≢true tags)

slot_tells : Tells spelled_slot (λ a. a)
slot_tells a b s t e =
    let numbers : slot_number a ≡ slot_number b = cc in
    let (is_a, small_a) = slot_is a in
    let (is_b, small_b) = slot_is b in
    let digits : slot_value a * 5 + slot_tag a ≡ slot_value b * 5 + slot_tag b = let e = sym is_a ∙ numbers ∙ is_b in omega (arith, e) in
    let (values, tags) = digits_tell 5 (slot_value a) (slot_value b) (slot_tag a) (slot_tag b) small_a small_b digits in
    (slot_same a b (eq-eqb (slot_tag a) (slot_tag b) tags) values, let u : s ≡ t = cc in u)

place_tag : Place → ℕ
place_tag place.Nothing = 0
place_tag (place.Registers eightbytes) = 1
place_tag (place.Stack offset size) = 2
place_tag place.Hidden = 3

place_rest : Place → List ℕ
place_rest place.Nothing = []
place_rest (place.Registers eightbytes) = spelled_list spelled_slot eightbytes
place_rest (place.Stack offset size) = offset ∷ size ∷ []
place_rest place.Hidden = []

place_is : (a : Place) (s : List ℕ) → spelled_place a ++ s ≡ place_tag a ∷ (place_rest a ++ s)
unfolding place_tag place_rest spelled_place
place_is place.Nothing s = refl
place_is (place.Registers eightbytes) s = refl
place_is (place.Stack offset size) s = refl
place_is place.Hidden s = refl

place_same : (a b : Place) (s t : List ℕ) → eqb (place_tag a) (place_tag b) ≡ true → place_rest a ++ s ≡ place_rest b ++ t → (a ≡ b) × (s ≡ t)
unfolding place_tag place_rest
place_same place.Nothing place.Nothing s t tags rest = (refl, rest)
place_same (place.Registers xs) (place.Registers ys) s t tags rest =
    let (same, after) = list_tells spelled_slot (λ (a : Slot). a) slot_tells xs ys s t rest in
    (ap place.Registers (sym (same_map xs) ∙ same ∙ same_map ys), after)
place_same (place.Stack m p) (place.Stack n q) s t tags rest = (let u : m ≡ n = cc in let v : p ≡ q = cc in cc, let u : s ≡ t = cc in u)
place_same place.Hidden place.Hidden s t tags rest = (refl, rest)
place_same _ _ s t tags rest = absurd (false≢true tags)

place_tells : Tells spelled_place (λ a. a)
place_tells a b s t e =
    let both : place_tag a ∷ (place_rest a ++ s) ≡ place_tag b ∷ (place_rest b ++ t) = sym (place_is a s) ∙ e ∙ place_is b t in
    let tags : place_tag a ≡ place_tag b = cc in
    let rest : place_rest a ++ s ≡ place_rest b ++ t = cc in
    place_same a b s t (eq-eqb (place_tag a) (place_tag b) tags) rest

pub call_tells : Tells spelled_call (λ c. c)
unfolding spelled_call
call_tells c d s t e =
    let both : spelled_place c.outcome ++ (spelled_list spelled_place c.params ++ s) ≡ spelled_place d.outcome ++ (spelled_list spelled_place d.params ++ t) =
    sym (append_assoc (spelled_place c.outcome) (spelled_list spelled_place c.params) s) ∙ e ∙ append_assoc (spelled_place d.outcome) (spelled_list spelled_place d.params) t in
    let (outcomes, rest) = place_tells c.outcome d.outcome (spelled_list spelled_place c.params ++ s) (spelled_list spelled_place d.params ++ t) both in
    let (params, after) = list_tells spelled_place (λ (a : Place). a) place_tells c.params d.params s t rest in
    let same_params : c.params ≡ d.params = sym (same_map c.params) ∙ params ∙ same_map d.params in
    let made : Place → List Place → CallShape = λ o ps. record { outcome = o; params = ps } in
    (ap (λ (o : Place). made o c.params) outcomes ∙ ap (λ (ps : List Place). made d.outcome ps) same_params, after)
