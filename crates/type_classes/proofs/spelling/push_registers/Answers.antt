-- Eight slots at once.
use Rattle.std.proofs.Common.{◌≡◌, ◌∙◌, ℕ, List, [], ◌∷◌, ◌++◌, length, get_or, ap, arith}
use Rattle.abi_types.specs.declared.place.Slot.{Slot}
use Rattle.type_classes.specs.Shapes.{spelled_list, spelled_slot, slot_number}
use Rattle.type_classes.proofs.spelling.push_registers.Goals as goal

-- a list of eight slots is spelled by the number of the slot at each place
eight_slots : (xs : List Slot) (d : Slot) (n0 n1 n2 n3 n4 n5 n6 n7 : ℕ) → length xs ≡ 8
    → n0 ≡ slot_number (get_or xs 0 d) → n1 ≡ slot_number (get_or xs 1 d) → n2 ≡ slot_number (get_or xs 2 d) → n3 ≡ slot_number (get_or xs 3 d)
    → n4 ≡ slot_number (get_or xs 4 d) → n5 ≡ slot_number (get_or xs 5 d) → n6 ≡ slot_number (get_or xs 6 d) → n7 ≡ slot_number (get_or xs 7 d)
    → 8 ∷ n0 ∷ n1 ∷ n2 ∷ n3 ∷ n4 ∷ n5 ∷ n6 ∷ n7 ∷ [] ≡ spelled_list spelled_slot xs
unfolding spelled_list
eight_slots [] d n0 n1 n2 n3 n4 n5 n6 n7 is e0 e1 e2 e3 e4 e5 e6 e7 = absurd (omega (arith, is))
eight_slots (x0 ∷ []) d n0 n1 n2 n3 n4 n5 n6 n7 is e0 e1 e2 e3 e4 e5 e6 e7 = absurd (omega (arith, is))
eight_slots (x0 ∷ x1 ∷ []) d n0 n1 n2 n3 n4 n5 n6 n7 is e0 e1 e2 e3 e4 e5 e6 e7 = absurd (omega (arith, is))
eight_slots (x0 ∷ x1 ∷ x2 ∷ []) d n0 n1 n2 n3 n4 n5 n6 n7 is e0 e1 e2 e3 e4 e5 e6 e7 = absurd (omega (arith, is))
eight_slots (x0 ∷ x1 ∷ x2 ∷ x3 ∷ []) d n0 n1 n2 n3 n4 n5 n6 n7 is e0 e1 e2 e3 e4 e5 e6 e7 = absurd (omega (arith, is))
eight_slots (x0 ∷ x1 ∷ x2 ∷ x3 ∷ x4 ∷ []) d n0 n1 n2 n3 n4 n5 n6 n7 is e0 e1 e2 e3 e4 e5 e6 e7 = absurd (omega (arith, is))
eight_slots (x0 ∷ x1 ∷ x2 ∷ x3 ∷ x4 ∷ x5 ∷ []) d n0 n1 n2 n3 n4 n5 n6 n7 is e0 e1 e2 e3 e4 e5 e6 e7 = absurd (omega (arith, is))
eight_slots (x0 ∷ x1 ∷ x2 ∷ x3 ∷ x4 ∷ x5 ∷ x6 ∷ []) d n0 n1 n2 n3 n4 n5 n6 n7 is e0 e1 e2 e3 e4 e5 e6 e7 = absurd (omega (arith, is))
eight_slots (x0 ∷ x1 ∷ x2 ∷ x3 ∷ x4 ∷ x5 ∷ x6 ∷ x7 ∷ []) d n0 n1 n2 n3 n4 n5 n6 n7 is e0 e1 e2 e3 e4 e5 e6 e7 = cc
eight_slots (x0 ∷ x1 ∷ x2 ∷ x3 ∷ x4 ∷ x5 ∷ x6 ∷ x7 ∷ x8 ∷ xs) d n0 n1 n2 n3 n4 n5 n6 n7 is e0 e1 e2 e3 e4 e5 e6 e7 = absurd (omega (arith, is))

pub returns-clause-appended : goal.returns-clause-appended
returns-clause-appended c =
    c.in_ok-extend_from_slice.ensures.items
    ∙ ap (λ (ns : List ℕ). c.args.into.now.items ++ 1 ∷ ns)
    (eight_slots c.args.slots.now _ _ _ _ _ _ _ _ _ (omega arith) c.slot_number.ensures c.slot_number-2.ensures c.slot_number-3.ensures c.slot_number-4.ensures c.slot_number-5.ensures c.slot_number-6.ensures c.slot_number-7.ensures c.slot_number-8.ensures)
