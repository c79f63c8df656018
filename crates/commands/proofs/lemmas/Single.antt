-- Over inputs that tell their bytes there is one answer: the first thing that stops decides, and then the verdict.
use Rattle.std.proofs.Common.{◌≡◌, ◌≤◌, ◌<◌, ◌⊎◌, ℕ, zero, suc, List, [], ◌∷◌, length, Option, Some, None, refl, sym, ◌∙◌, ap, subst, inl, inr, arith}
use Rattle.std.proofs.lemmas.Bool.{cases_lt}
use Rattle.abi_base.specs.Causes.{Rose}
use Rattle.abi_base.specs.Limits.{input_limit}
use Rattle.abi_base.specs.declared.fault.Fault.{Fault}
use Rattle.abi_base.specs.declared.remark.Remark.{Remark}
use Rattle.commands.specs.Commands.{asks_of, Wanted, places_of}
use Rattle.commands.specs.Faults.{AreReadable, AreShort, FaultOfAll, FirstFault, too_long}
use Rattle.commands.specs.OneReply.{AreShortAfter, SaysOne, TellsEach, TellsFirst}
use Rattle.commands.specs.Reading.{Gives, Reaches, Reading}
use Rattle.commands.specs.Replies.{IsFaulty, Replies}
use Rattle.commands.specs.Served.{AreServed, AreUnfailed, IsUnfailed, IsVerdict}
use Rattle.commands.specs.Texts.{unreadable_text}
use Rattle.commands.specs.declared.input.Input.{Input}
use Rattle.commands.specs.declared.outcome.Outcome.{Outcome}
use Rattle.commands.specs.declared.outcome.Outcome.TheVariants.{Judged, Unreadable, ReadFault, Help, Usage, NoMemory, WriteFault}
use Rattle.commands.specs.declared.verdict.Verdict.{Verdict}
use Rattle.commands.proofs.InOrder.{gives_short}
use Rattle.commands.proofs.lemmas.Told.{each_first, first_fault, first_given, first_long, first_short, gives_told, inside_all, is_first, is_first_long, none_faulty, none_long, reaches_long}

-- what stops a judgement: the first input that is too long, or else the first that has a fault
abbrev pub stop_of : Option Input → Option (Input × Fault) → Option (Input × Fault)
stop_of (Some input) fault = Some (input, too_long)
stop_of None fault = fault

module _ (r : Reading) (inputs : List Wanted) (says : List (List ℕ) → Verdict → Option Remark → List ℕ → Type 0) (all : List (List ℕ)) (tells : TellsEach r.told (places_of inputs) all) where
  -- the one answer, where this stops the judgement, or nothing does
  abbrev pub IsReply : Option (Input × Fault) → Outcome → List ℕ → Type 0
  IsReply (Some stop) outcome text = (outcome ≡ Unreadable stop.0 stop.1) × (text ≡ unreadable_text stop.0 stop.1)
  IsReply None outcome text = AreShort all × AreReadable (asks_of inputs) all × IsVerdict says all outcome (λ (t : List ℕ). t ≡ text)

  the_fault : Option (Input × Fault)
  the_fault = first_fault (asks_of inputs) all

  pub the_stop : Option (Input × Fault)
  the_stop = stop_of (first_long (places_of inputs) all) (first_fault (asks_of inputs) all)

  -- what holds of the bytes that inputs gave holds of what they tell
  on_told : (P : List (List ℕ) → Type 0) (given : List (List ℕ)) → Gives r.told (places_of inputs) given → P given → AreShort all × P all
  on_told P given gives holds =
      let same = gives_told r.told (places_of inputs) all given tells gives in
      (subst AreShort same (gives_short r.told (places_of inputs) given gives), subst P same holds)

  by_faults : AreShort all → the_stop ≡ first_fault (asks_of inputs) all
  unfolding the_stop
  by_faults short = ap (λ long. stop_of long (first_fault (asks_of inputs) all)) (none_long (places_of inputs) all short)

  faulty : (which : Input) (fault : Fault) → IsFaulty r inputs which fault → the_stop ≡ Some (which, fault)
  unfolding the_stop
  faulty which fault (inl (same, (at, name, reaches, last, over, long))) =
      ap (λ l. stop_of l (first_fault (asks_of inputs) all)) (reaches_long r.told (places_of inputs) all at which name (each_first r.told (places_of inputs) all tells) (inside_all r.told (places_of inputs) all at which name tells reaches) reaches long) ∙ ap (λ f. Some (which, f)) (sym same)
  faulty which fault (inr (given, gives, first)) =
      let on = on_told (λ l. FirstFault (asks_of inputs) l which fault) given gives first in
      by_faults on.0 ∙ is_first (asks_of inputs) all which fault on.1

  -- a verdict is on what the inputs tell
  pub judged_alone : (v : Verdict) (untyped : Option Remark) (text : List ℕ) → Replies r inputs says (Judged v untyped) text → AreShort all × AreReadable (asks_of inputs) all × says all v untyped text
  judged_alone v untyped text (given, gives, (readable, said)) =
      let on = on_told (λ l. AreReadable (asks_of inputs) l × says l v untyped text) given gives (readable, said) in
      (on.0, on.1.0, on.1.1)

  pub replies_alone : (outcome : Outcome) (text : List ℕ) → ((which : Input) → outcome ≡ ReadFault which → ⊥) → Replies r inputs says outcome text → IsReply the_stop outcome text
  replies_alone (Judged v untyped) text other (given, gives, (readable, said)) =
      let on = on_told (λ l. AreReadable (asks_of inputs) l × says l v untyped text) given gives (readable, said) in
      let none : None ≡ the_stop = sym (by_faults on.0 ∙ none_faulty (asks_of inputs) all on.1.0) in
      subst (λ s. IsReply s (Judged v untyped) text) none
      (on.0, on.1.0, record { verdict = v; untyped = untyped; text = text; is = refl; said = on.1.1; holds = refl })
  replies_alone (Unreadable which fault) text other reply =
      subst (λ s. IsReply s (Unreadable which fault) text) (sym (faulty which fault reply.0)) (refl, reply.1)
  replies_alone (ReadFault which) text other reply = absurd (other which refl)
  replies_alone Help text other reply = absurd reply
  replies_alone Usage text other reply = absurd reply
  replies_alone (NoMemory cause) text other reply = absurd reply
  replies_alone WriteFault text other reply = absurd reply

  -- where no input is too long or has a fault, the answer is a verdict
  pub verdict_alone : AreShort all → AreReadable (asks_of inputs) all → (outcome : Outcome) (text : List ℕ) → ((which : Input) → outcome ≡ ReadFault which → ⊥)
      → Replies r inputs says outcome text → IsVerdict says all outcome (λ (t : List ℕ). t ≡ text)
  verdict_alone short readable outcome text other reply =
      let none = by_faults short ∙ none_faulty (asks_of inputs) all readable in
      let this = subst (λ s. IsReply s outcome text) none (replies_alone outcome text other reply) in this.2

  same_reply : SaysOne inputs says → (stop : Option (Input × Fault)) (o p : Outcome) (text other : List ℕ) → IsReply stop o text → IsReply stop p other → (o ≡ p) × (text ≡ other)
  same_reply alone (Some stop) o p text other one two = (one.0 ∙ sym two.0, one.1 ∙ sym two.1)
  same_reply alone None o p text other one two =
      let same = alone all one.0 one.1 one.2.verdict two.2.verdict one.2.untyped two.2.untyped one.2.text two.2.text one.2.said two.2.said in
      (one.2.is ∙ ap (λ (v : Verdict). Judged v one.2.untyped) same.0 ∙ ap (λ (u : Option Remark). Judged two.2.verdict u) same.1 ∙ sym two.2.is, sym one.2.holds ∙ same.2 ∙ two.2.holds)

  -- two answers are one
  pub one_reply : SaysOne inputs says → (o p : Outcome) (text other : List ℕ) → ((which : Input) → o ≡ ReadFault which → ⊥) → ((which : Input) → p ≡ ReadFault which → ⊥)
      → Replies r inputs says o text → Replies r inputs says p other → (o ≡ p) × (text ≡ other)
  one_reply alone o p text other o_not p_not one two = same_reply alone the_stop o p text other (replies_alone o text o_not one) (replies_alone p other p_not two)

-- ---- where the bytes of the first inputs are known, and one of them has a fault

module _ (r : Reading) (inputs : List Wanted) (says : List (List ℕ) → Verdict → Option Remark → List ℕ → Type 0) (all : List (List ℕ)) (which : Input) (fault : Fault)
    (tells : TellsFirst r.told (places_of inputs) all) (after : AreShortAfter r (length all) (places_of inputs)) (first : FaultOfAll (asks_of inputs) all which fault) where
  -- if the inputs gave bytes, their first fault is this one
  of_given : (given : List (List ℕ)) → Gives r.told (places_of inputs) given → first_fault (asks_of inputs) given ≡ Some (which, fault)
  of_given given gives = of first
    where
      of : FaultOfAll (asks_of inputs) all which fault → first_fault (asks_of inputs) given ≡ Some (which, fault)
      of (inl (same, long)) = absurd (first_short r.told inputs all given which tells gives long)
      of (inr (short, one)) = is_first (asks_of inputs) given which fault (first_given r.told inputs all given which fault tells gives one)

  -- an input that is too long is this one
  of_long : (other : Input) → first_long (places_of inputs) all ≡ Some other → Unreadable other too_long ≡ Unreadable which fault
  of_long other is = of first
    where
      of : FaultOfAll (asks_of inputs) all which fault → Unreadable other too_long ≡ Unreadable which fault
      of (inl (same, long)) = let this : first_long (places_of inputs) all ≡ Some which = is_first_long inputs all which long in cc
      of (inr (short, one)) = let none : first_long (places_of inputs) all ≡ None = none_long (places_of inputs) all short in cc

  of_faulty : (other : Input) (its : Fault) → IsFaulty r inputs other its → Unreadable other its ≡ Unreadable which fault
  of_faulty other its (inl (same, (at, name, reaches, last, over, long))) = by (cases_lt at (length all))
    where
      by : (at < length all) ⊎ (length all ≤ at) → Unreadable other its ≡ Unreadable which fault
      by (inl inside) = ap (λ f. Unreadable other f) same ∙ of_long other (reaches_long r.told (places_of inputs) all at other name tells inside reaches long)
      by (inr past) = let short : r.given ≤ input_limit = after at other name past reaches last long in absurd (omega (arith, over))
  of_faulty other its (inr (given, gives, one)) =
      let this : first_fault (asks_of inputs) given ≡ Some (which, fault) = of_given given gives in
      let that : first_fault (asks_of inputs) given ≡ Some (other, its) = is_first (asks_of inputs) given other its one in
      let same : ◌≡◌ {A = Input × Fault} (other, its) (which, fault) = cc in
      ap (λ (p : Input × Fault). Unreadable p.0 p.1) same

  pub first_answers : (outcome : Outcome) (text : List ℕ) → ((other : Input) → outcome ≡ ReadFault other → ⊥) → Replies r inputs says outcome text → outcome ≡ Unreadable which fault
  first_answers (Judged v untyped) text never (given, gives, (readable, said)) =
      let this : first_fault (asks_of inputs) given ≡ Some (which, fault) = of_given given gives in
      let none : first_fault (asks_of inputs) given ≡ None = none_faulty (asks_of inputs) given readable in
      cc
  first_answers (Unreadable other its) text never reply = of_faulty other its reply.0
  first_answers (ReadFault other) text never reply = absurd (never other refl)
  first_answers Help text never reply = absurd reply
  first_answers Usage text never reply = absurd reply
  first_answers (NoMemory cause) text never reply = absurd reply
  first_answers WriteFault text never reply = absurd reply

-- ---- where all inputs are served

module _ (r : Reading) where
  served_tells : (inputs : List Wanted) (all : List (List ℕ)) → AreServed r inputs all → TellsEach r.told (places_of inputs) all
  served_tells [] [] served = tt
  served_tells [] (bytes ∷ all) served = absurd served
  served_tells (wanted ∷ inputs) [] served = absurd served
  served_tells (wanted ∷ inputs) (bytes ∷ all) served = (served.0.told, served_tells inputs all served.1)

  served_short : (inputs : List Wanted) (all : List (List ℕ)) → AreServed r inputs all → AreShort all
  served_short [] [] served = tt
  served_short [] (bytes ∷ all) served = absurd served
  served_short (wanted ∷ inputs) [] served = absurd served
  served_short (wanted ∷ inputs) (bytes ∷ all) served = (served.0.short, served_short inputs all served.1)

  served_readable : (inputs : List Wanted) (all : List (List ℕ)) → AreServed r inputs all → AreReadable (asks_of inputs) all
  served_readable [] [] served = tt
  served_readable [] (bytes ∷ all) served = absurd served
  served_readable (wanted ∷ inputs) [] served = absurd served
  served_readable (wanted ∷ inputs) (bytes ∷ all) served = (served.0.faultless, served_readable inputs all served.1)

  served_unfailed : (inputs : List Wanted) (all : List (List ℕ)) → AreServed r inputs all → AreUnfailed r inputs
  served_unfailed [] [] served = tt
  served_unfailed [] (bytes ∷ all) served = absurd served
  served_unfailed (wanted ∷ inputs) [] served = absurd served
  served_unfailed (wanted ∷ inputs) (bytes ∷ all) served = (served.0.unfailed, served_unfailed inputs all served.1)

  reaches_unfailed : (inputs : List Wanted) → AreUnfailed r inputs → (at : ℕ) (which : Input) (name : List ℕ) → Reaches r.told (places_of inputs) at which name → Rose (r.before name) (r.after name) → ⊥
  reaches_unfailed [] unfailed at which name reaches rose = absurd reaches
  reaches_unfailed (wanted ∷ inputs) unfailed zero which name here rose = subst (IsUnfailed r) here.1 unfailed.0 rose
  reaches_unfailed (wanted ∷ inputs) unfailed (suc at) which name past rose = reaches_unfailed inputs unfailed.1 at which name past.1 rose

  module _ (inputs : List Wanted) (says : List (List ℕ) → Verdict → Option Remark → List ℕ → Type 0) (all : List (List ℕ)) (outcome : Outcome) (text : List ℕ) (reply : Replies r inputs says outcome text) where
    -- where no reading failed, no read fault is answered
    never_fails : AreUnfailed r inputs → (which : Input) → outcome ≡ ReadFault which → ⊥
    never_fails unfailed which same =
        let fails : Replies r inputs says (ReadFault which) text = subst (λ o. Replies r inputs says o text) same reply in
        reaches_unfailed inputs unfailed fails.0.0 which fails.0.1 fails.0.2 fails.0.4

    pub served_verdict : AreServed r inputs all → IsVerdict says all outcome (λ (t : List ℕ). t ≡ text)
    served_verdict served =
        verdict_alone r inputs says all (served_tells inputs all served) (served_short inputs all served) (served_readable inputs all served) outcome text
        (never_fails (served_unfailed inputs all served)) reply

    -- where no reading failed, the first fault of the first inputs is answered
    pub fault_answers : (which : Input) (fault : Fault) → TellsFirst r.told (places_of inputs) all → AreUnfailed r inputs → AreShortAfter r (length all) (places_of inputs)
        → FaultOfAll (asks_of inputs) all which fault → outcome ≡ Unreadable which fault
    fault_answers which fault tells unfailed after first = first_answers r inputs says all which fault tells after first outcome text (never_fails unfailed) reply

-- a verdict with its text, of which a fact is known
pub verdict_with : (says : List (List ℕ) → Verdict → Option Remark → List ℕ → Type 0) (all : List (List ℕ)) (outcome : Outcome) (text : List ℕ) (P : List ℕ → Type 0)
    → IsVerdict says all outcome (λ (t : List ℕ). t ≡ text) → P text → IsVerdict says all outcome P
verdict_with says all outcome text P on holds =
    record { verdict = on.verdict; untyped = on.untyped; text = on.text; is = on.is; said = on.said; holds = subst P (sym on.holds) holds }
