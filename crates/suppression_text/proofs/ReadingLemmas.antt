-- Lines that were read, up to a place.
use Rattle.std.proofs.Common.{◌≡◌, ◌<◌, ◌≤◌, ◌+◌, ◌-◌, ℕ, suc, List, [], ◌∷◌, ◌++◌, length, take, drop, get_or, map, Option, Some, None, refl, sym, ◌∙◌, ap, subst, arith}
use Rattle.std.specs.Prelude.{◌^◌, min}
use Rattle.std.specs.List.{range_with_len, sum_by}
use Rattle.std.specs.Str.Lines.{lines}
use Rattle.std.proofs.lemmas.List.{drop_more, get_or-map, take_more, take_all, length-drop, length-map, length-take-le}
use Rattle.std.proofs.lemmas.List.Sums.{sum_by-take-le, sum_by_push}
use Rattle.abi_base.specs.declared.fault.Fault.{Fault}
use Rattle.abi_base.specs.declared.fault.Refusal.{Refusal}
use Rattle.abi_base.specs.declared.fault.Refusal.TheVariants as refusal
use Rattle.abi_base.specs.declared.limit.Limit.TheVariants.{PatternClasses}
use Rattle.abi_base.specs.Budgets.{BudgetState, with_taken}
use Rattle.abi_base.specs.Outcome.{first, Refuses}
use Rattle.abi_base.proofs.lemmas.Filtered.{SpentOn, spent_again}
use Rattle.suppression_text.specs.Classes.{classes_of, classes_allowed, file_classes}
use Rattle.suppression_text.specs.Lines.{Form, Comment, form_of, forms_of}
use Rattle.suppression_text.specs.Rules.{PlainSection, sections_of, sections_from}
use Rattle.suppression_text.specs.Faults.{last_of, form_fault, line_fault, line_faults, section_fault, text_fault, rule_fault}
use Rattle.suppression_text.specs.Steps.{with_form}
use Rattle.suppression_text.proofs.lemmas.Capped.{above_cap, fits_below}
use Rattle.suppression_text.proofs.SectionLemmas.{AreKnown, AreKnown-more, sections-more}

-- ---- the first fault of places in order

-- the first fault at the places from i on and below n
abbrev from_place : (ℕ → Option Fault) → ℕ → ℕ → Option Fault
from_place g i n = first (map g (range_with_len i (n - i)))

place_clear : (g : ℕ → Option Fault) (i n : ℕ) → i < n → g i ≡ None → from_place g i n ≡ from_place g (i + 1) n
place_clear g i n lt none =
    let k : n - i ≡ suc (n - (i + 1)) = omega arith in
    rw (k, none) refl

place_here : (g : ℕ → Option Fault) (i n : ℕ) (f : Fault) → i < n → g i ≡ Some f → from_place g i n ≡ Some f
place_here g i n f lt some =
    let k : n - i ≡ suc (n - (i + 1)) = omega arith in
    rw (k, some) refl

place_end : (g : ℕ → Option Fault) (i n : ℕ) → n ≤ i → from_place g i n ≡ None
place_end g i n le =
    let k : n - i ≡ 0 = omega arith in
    rw k refl

-- ---- lines that were read

-- k lines of the text were read: these are their sections, and the first fault stands behind them
pub record IsReading (bytes left : List ℕ) (k : ℕ) (sections : List PlainSection) : Type 0 where
  pub ahead : drop k (lines bytes) ≡ lines left
  pub room : k + length left ≤ length bytes
  pub done : sections ≡ sections_of (take k (forms_of bytes))
  pub known : AreKnown (take k (forms_of bytes))
  pub same : first (line_faults (forms_of bytes)) ≡ from_place (line_fault (forms_of bytes)) k (length (forms_of bytes))

pub started : (bytes : List ℕ) → IsReading bytes bytes 0 []
unfolding forms_of sections_from
started bytes =
    let forms = forms_of bytes in
    let count : length forms ≡ length forms - 0 = omega arith in
    record { ahead = refl; room = omega arith; done = refl; known = tt; same = ap (λ (n : ℕ). first (map (line_fault forms) (range_with_len 0 n))) count }

-- the next line
record IsNext (bytes left rest line : List ℕ) (k : ℕ) : Type 0 where
  inside : k < length (forms_of bytes)
  at : get_or (forms_of bytes) k Comment ≡ form_of line
  later : drop (k + 1) (lines bytes) ≡ lines rest

next_line : (bytes left rest line : List ℕ) (k : ℕ) → drop k (lines bytes) ≡ lines left → lines left ≡ line ∷ lines rest → IsNext bytes left rest line k
unfolding forms_of
next_line bytes left rest line k ahead is =
    let e : drop k (lines bytes) ≡ line ∷ lines rest = ahead ∙ is in
    let size : length (lines bytes) - k ≡ suc (length (lines rest)) = sym (length-drop k (lines bytes)) ∙ ap length e in
    let lt : k < length (lines bytes) = omega (arith, size) in
    let more : get_or (lines bytes) k [] ∷ drop (k + 1) (lines bytes) ≡ line ∷ lines rest = sym (drop_more (lines bytes) k [] lt) ∙ e in
    let first_is : get_or (lines bytes) k [] ≡ line = cc in
    record {
      inside = subst (λ (n : ℕ). k < n) (sym (length-map (lines bytes) form_of)) lt;
      at = get_or-map form_of (lines bytes) k [] Comment lt ∙ ap form_of first_is;
      later = cc;
    }

here : (bytes left rest line : List ℕ) (k : ℕ) (sections : List PlainSection) → IsReading bytes left k sections → IsNext bytes left rest line k → form_fault (k + 1) (last_of sections) (form_of line) ≡ line_fault (forms_of bytes) k
here bytes left rest line k sections was next = rw (was.done, next.at) refl

pub read_on : (bytes left rest line : List ℕ) (k : ℕ) (sections now : List PlainSection) → IsReading bytes left k sections → lines left ≡ line ∷ lines rest → length rest < length left
    → form_fault (k + 1) (last_of sections) (form_of line) ≡ None → now ≡ with_form (k + 1) sections (form_of line) → IsReading bytes rest (k + 1) now
read_on bytes left rest line k sections now was is shorter clear put =
    let forms = forms_of bytes in
    let next = next_line bytes left rest line k was.ahead is in
    let more : take (k + 1) forms ≡ take k forms ++ form_of line ∷ [] = take_more forms k Comment next.inside ∙ ap (λ (f : Form). take k forms ++ f ∷ []) next.at in
    let size : length (take k forms) ≡ k = length-take-le k forms (omega (arith, next.inside)) in
    record {
      ahead = next.later;
      room = omega (arith, was.room, shorter);
      done =
          put ∙ ap (λ (ss : List PlainSection). with_form (k + 1) ss (form_of line)) was.done
          ∙ ap (λ (n : ℕ). with_form n (sections_of (take k forms)) (form_of line)) (let number : k + 1 ≡ 1 + length (take k forms) = omega (arith, size) in number)
          ∙ sym (sections-more 1 (take k forms) (form_of line) was.known)
          ∙ ap sections_of (sym more);
      known = subst AreKnown (sym more) (AreKnown-more (k + 1) (last_of sections) (take k forms) (form_of line) was.known clear);
      same = was.same ∙ place_clear (line_fault forms) k (length forms) next.inside (sym (here bytes left rest line k sections was next) ∙ clear);
    }

pub read_fault : (bytes left rest line : List ℕ) (k : ℕ) (sections : List PlainSection) (f : Fault) → IsReading bytes left k sections → lines left ≡ line ∷ lines rest
    → form_fault (k + 1) (last_of sections) (form_of line) ≡ Some f → first (line_faults (forms_of bytes)) ≡ Some f
read_fault bytes left rest line k sections f was is fault =
    let next = next_line bytes left rest line k was.ahead is in
    was.same ∙ place_here (line_fault (forms_of bytes)) k (length (forms_of bytes)) f next.inside (sym (here bytes left rest line k sections was next) ∙ fault)

all_read : (bytes left : List ℕ) (k : ℕ) → drop k (lines bytes) ≡ lines left → lines left ≡ [] → length (forms_of bytes) ≤ k
unfolding forms_of
all_read bytes left k ahead none =
    let size : length (lines bytes) - k ≡ 0 = sym (length-drop k (lines bytes)) ∙ ap length (ahead ∙ none) in
    omega (arith, size, length-map (lines bytes) form_of)

pub read_whole : (bytes left : List ℕ) (k : ℕ) (sections : List PlainSection) → IsReading bytes left k sections → lines left ≡ [] → sections ≡ sections_of (forms_of bytes)
read_whole bytes left k sections was none = was.done ∙ ap sections_of (take_all k (forms_of bytes) (all_read bytes left k was.ahead none))

pub read_clear : (bytes left : List ℕ) (k : ℕ) (sections : List PlainSection) → IsReading bytes left k sections → lines left ≡ [] → first (line_faults (forms_of bytes)) ≡ None
read_clear bytes left k sections was none = was.same ∙ place_end (line_fault (forms_of bytes)) k (length (forms_of bytes)) (all_read bytes left k was.ahead none)

-- ---- refusals

-- a refusal stays right where each fault of one text is a fault of the other
pub refused : (e : Refusal) (a b : Option Fault) → Refuses e a → ((f : Fault) → a ≡ Some f → b ≡ Some f) → Refuses e b
refused (refusal.Fault f) a b is same = same f is
refused (refusal.NoMemory cause) a b is same = tt

-- ---- faults of lines before those of sections

first-append : (xs ys : List (Option Fault)) → first xs ≡ None → first (xs ++ ys) ≡ first ys
first-append [] ys none = refl
first-append (None ∷ xs) ys none = first-append xs ys none
first-append (Some f ∷ xs) ys none = cc

first-front : (xs ys : List (Option Fault)) (f : Fault) → first xs ≡ Some f → first (xs ++ ys) ≡ Some f
first-front [] ys f some = cc
first-front (None ∷ xs) ys f some = first-front xs ys f some
first-front (Some g ∷ xs) ys f some = some

pub fault_of_line : (bytes : List ℕ) → text_fault bytes ≡ None → (f : Fault) → first (line_faults (forms_of bytes)) ≡ Some f → rule_fault bytes ≡ Some f
unfolding rule_fault
fault_of_line bytes text f line = rw text (first-front (line_faults (forms_of bytes)) (map section_fault (sections_of (forms_of bytes))) f line)

pub fault_of_section : (bytes : List ℕ) (sections : List PlainSection) → text_fault bytes ≡ None → first (line_faults (forms_of bytes)) ≡ None → sections ≡ sections_of (forms_of bytes)
    → rule_fault bytes ≡ first (map section_fault sections)
unfolding rule_fault
fault_of_section bytes sections text line is =
    rw text (first-append (line_faults (forms_of bytes)) (map section_fault (sections_of (forms_of bytes))) line ∙ ap (λ (ss : List PlainSection). first (map section_fault ss)) (sym is))

-- ---- the classes of lines

-- the line that is read next stands behind those that were read
pub next_taken : (bytes left rest line : List ℕ) (k : ℕ) (sections : List PlainSection) → IsReading bytes left k sections → lines left ≡ line ∷ lines rest
    → take (k + 1) (lines bytes) ≡ take k (lines bytes) ++ line ∷ []
next_taken bytes left rest line k sections was is =
    let e : drop k (lines bytes) ≡ line ∷ lines rest = was.ahead ∙ is in
    let size : length (lines bytes) - k ≡ suc (length (lines rest)) = sym (length-drop k (lines bytes)) ∙ ap length e in
    let lt : k < length (lines bytes) = omega (arith, size) in
    let more : get_or (lines bytes) k [] ∷ drop (k + 1) (lines bytes) ≡ line ∷ lines rest = sym (drop_more (lines bytes) k [] lt) ∙ e in
    let first_is : get_or (lines bytes) k [] ≡ line = cc in
    take_more (lines bytes) k [] lt ∙ ap (λ (l : List ℕ). take k (lines bytes) ++ l ∷ []) first_is

pub classes_more : (bytes left rest line : List ℕ) (k : ℕ) (sections : List PlainSection) → IsReading bytes left k sections → lines left ≡ line ∷ lines rest
    → sum_by classes_of (take (k + 1) (lines bytes)) ≡ sum_by classes_of (take k (lines bytes)) + classes_of line
classes_more bytes left rest line k sections was is =
    ap (λ (l : List (List ℕ)). sum_by classes_of l) (next_taken bytes left rest line k sections was is) ∙ sum_by_push classes_of (take k (lines bytes)) line

-- where the classes of the next line pass the limit, those of the file do
pub classes_past : (bytes left rest line : List ℕ) (k : ℕ) (sections : List PlainSection) (budget : BudgetState) (n : ℕ) → IsReading bytes left k sections → lines left ≡ line ∷ lines rest
    → SpentOn PatternClasses 0 (sum_by classes_of (take k (lines bytes))) budget → n ≡ min (classes_of line) (2 ^ 64 - 1) → budget.most < budget.taken + n → classes_allowed < file_classes bytes
classes_past bytes left rest line k sections budget n was is spent capped above =
    omega (
      arith,
      above_cap (classes_of line) (2 ^ 64 - 1) budget.most budget.taken (subst (λ (c : ℕ). budget.most < budget.taken + c) capped above),
      spent.most,
      spent.taken,
      classes_more bytes left rest line k sections was is,
      sum_by-take-le classes_of (lines bytes) (k + 1),
    )

-- the classes of the next line were taken
pub classes_spent : (bytes left rest line : List ℕ) (k : ℕ) (sections : List PlainSection) (budget next : BudgetState) (n : ℕ) → IsReading bytes left k sections → lines left ≡ line ∷ lines rest
    → SpentOn PatternClasses 0 (sum_by classes_of (take k (lines bytes))) budget → n ≡ min (classes_of line) (2 ^ 64 - 1) → budget.taken + n ≤ budget.most → next ≡ with_taken budget n
    → SpentOn PatternClasses 0 (sum_by classes_of (take (k + 1) (lines bytes))) next
classes_spent bytes left rest line k sections budget next n was is spent capped fits took =
    let exact : min (classes_of line) (2 ^ 64 - 1) ≡ classes_of line =
    fits_below (classes_of line) (2 ^ 64 - 1) budget.most budget.taken (subst (λ (c : ℕ). budget.taken + c ≤ budget.most) capped fits) (omega (arith, spent.most)) in
    spent_again PatternClasses 0 (sum_by classes_of (take k (lines bytes))) n (sum_by classes_of (take (k + 1) (lines bytes))) budget next spent fits took
    (classes_more bytes left rest line k sections was is ∙ ap (λ (c : ℕ). sum_by classes_of (take k (lines bytes)) + c) (sym (capped ∙ exact)))

-- all lines were read
pub classes_whole : (bytes left : List ℕ) (k : ℕ) (sections : List PlainSection) (budget : BudgetState) → IsReading bytes left k sections → lines left ≡ []
    → SpentOn PatternClasses 0 (sum_by classes_of (take k (lines bytes))) budget → file_classes bytes ≤ classes_allowed
unfolding forms_of
classes_whole bytes left k sections budget was none spent =
    let all : take k (lines bytes) ≡ lines bytes = take_all k (lines bytes) (subst (λ (n : ℕ). n ≤ k) (length-map (lines bytes) form_of) (all_read bytes left k was.ahead none)) in
    let e : sum_by classes_of (take k (lines bytes)) ≡ file_classes bytes = ap (λ (l : List (List ℕ)). sum_by classes_of l) all in
    omega (arith, e, spent.within, spent.most, spent.taken)
