-- Telling one listener after another.
use Rattle.std.proofs.Common.{◌≡◌, ◌≤◌, ◌<◌, ◌+◌, ℕ, zero, suc, max, List, [], ◌∷◌, ◌++◌, length, map, take, drop, get_or, refl, sym, ◌∙◌, ap, subst, arith, append_assoc, length-drop, All, Ok, Err, Result, OnErr}
use Rattle.std.specs.List.{concat, remove}
use Rattle.std.proofs.lemmas.List.{take_more, take_all, drop_more, append-nil, length-map, map-append, length-take-le}
use Rattle.std.proofs.Math.ListN.{get_or-map}
use Rattle.std.proofs.lemmas.List.Elements.{All-drop, All-get_or}
use Rattle.report.specs.declared.row.Row.{Row}
use Rattle.report.specs.declared.style.Style.{Style}
use Rattle.report.specs.declared.style.Style.TheVariants.{Text, Table, Counts, First, Own}
use Rattle.report.specs.Listening.{Voice, InStyle, IsText, IsEnough, Reports, heard_of}
use Rattle.report.specs.declared.style.More.{More}
use Rattle.report.specs.declared.style.More.TheVariants.{Go, Enough}

Reports-push : (styles : List Voice) (rows : List Row) (texts : List (List ℕ)) (style : Voice) (text : List ℕ) → Reports styles rows texts → IsText style (heard_of style.style rows) text → Reports (styles ++ style ∷ []) rows (texts ++ text ∷ [])
Reports-push [] rows [] style text reports is = (is, tt)
Reports-push [] rows (t ∷ texts) style text reports is = absurd reports
Reports-push (s ∷ styles) rows [] style text reports is = absurd reports
Reports-push (s ∷ styles) rows (t ∷ texts) style text reports is = (reports.0, Reports-push styles rows texts style text reports.1 is)

concat-push : (texts : List (List ℕ)) (text : List ℕ) → concat (texts ++ text ∷ []) ≡ concat texts ++ text
concat-push [] text = append-nil text
concat-push (t ∷ texts) text = ap (λ (l : List ℕ). t ++ l) (concat-push texts text) ∙ sym (append_assoc t (concat texts) text)

-- one row more
pub heard_more : (rows : List Row) (index : ℕ) (row : Row) → index < length rows → row ≡ get_or rows index row → take (index + 1) rows ≡ take index rows ++ row ∷ []
heard_more rows index row inside is = take_more rows index row inside ∙ ap (λ (r : Row). take index rows ++ r ∷ []) (sym is)

-- a listener of the style that has heard this many rows hears more
abbrev pub IsStillHearing : Style → ℕ → Type 0
IsStillHearing (First n) heard = heard < max n 1
IsStillHearing style heard = Unit {0}

pub hears_on : (style : Style) (index : ℕ) → IsEnough style (index + 1) Go → IsStillHearing style (index + 1)
hears_on (First n) index more = omega arith
hears_on Text index more = tt
hears_on Table index more = tt
hears_on Counts index more = tt
hears_on Own index more = tt

-- a listener that has enough has heard what its style hears
pub heard_enough : (style : Style) (rows : List Row) (index : ℕ) → IsStillHearing style index → IsEnough style (index + 1) Enough → take (index + 1) rows ≡ heard_of style rows
heard_enough (First n) rows index hears enough = let e : index + 1 ≡ max n 1 = omega (arith, hears, enough) in ap (λ k. take k rows) e
heard_enough Text rows index hears enough = absurd enough
heard_enough Table rows index hears enough = absurd enough
heard_enough Counts rows index hears enough = absurd enough
heard_enough Own rows index hears enough = absurd enough

-- and so has one that was told all rows
pub heard_all : (style : Style) (rows : List Row) (index : ℕ) → IsStillHearing style index → length rows ≤ index → index ≤ length rows → take index rows ≡ heard_of style rows
heard_all (First n) rows index hears past within = take_all index rows past ∙ sym (take_all (max n 1) rows (omega (arith, hears)))
heard_all Text rows index hears past within = take_all index rows past
heard_all Table rows index hears past within = take_all index rows past
heard_all Counts rows index hears past within = take_all index rows past
heard_all Own rows index hears past within = take_all index rows past

module _ {B : Type 0} (heard : B → List Row) (voice : B → Voice) (all : List B) (rows : List Row) (old : List ℕ) where
  -- the first listeners were told, and their texts stand behind the old bytes
  pub record TellsOn (waiting : List B) (out : List ℕ) : Type 0 where
    pub done : ℕ
    pub within : done ≤ length all
    pub left : waiting ≡ drop done all
    pub unheard : All (λ b. heard b ≡ []) waiting
    pub texts : List (List ℕ)
    pub reports : Reports (take done (map voice all)) rows texts
    pub written : out ≡ old ++ concat texts

  pub first_waiting : (waiting : List B) (out : List ℕ) (b : B) → TellsOn waiting out → 0 < length waiting → b ≡ get_or waiting 0 b → heard b ≡ []
  first_waiting waiting out b so_far some is =
      subst (λ (x : B). heard x ≡ []) (sym is) (All-get_or (λ (x : B). heard x ≡ []) waiting 0 b some so_far.unheard)

  pub tells_more : (waiting : List B) (out text : List ℕ) (b : B) → TellsOn waiting out → 0 < length waiting → b ≡ get_or waiting 0 b → IsText (voice b) (heard_of (voice b).style rows) text → TellsOn (remove waiting 0) (out ++ text)
  tells_more waiting out text b so_far some is printed =
      let inside : so_far.done < length all = omega (arith, some, ap length so_far.left, length-drop so_far.done all) in
      let split : waiting ≡ get_or all so_far.done b ∷ drop (so_far.done + 1) all = so_far.left ∙ drop_more all so_far.done b inside in
      let here : get_or all so_far.done b ≡ b = sym (is ∙ ap (λ (l : List B). get_or l 0 b) split) in
      let style : get_or (map voice all) so_far.done (voice b) ≡ voice b = get_or-map voice all so_far.done b ∙ ap voice here in
      let styles : take (so_far.done + 1) (map voice all) ≡ take so_far.done (map voice all) ++ voice b ∷ [] =
      take_more (map voice all) so_far.done (voice b) (omega (arith, inside, length-map all voice)) ∙ ap (λ (s : Voice). take so_far.done (map voice all) ++ s ∷ []) style in
      record {
        done = so_far.done + 1;
        within = omega (arith, inside);
        left = ap (λ (l : List B). drop 1 l) split;
        unheard = All-drop (λ (x : B). heard x ≡ []) 1 waiting so_far.unheard;
        texts = so_far.texts ++ text ∷ [];
        reports = subst (λ (l : List Voice). Reports l rows (so_far.texts ++ text ∷ [])) (sym styles) (Reports-push (take so_far.done (map voice all)) rows so_far.texts (voice b) text so_far.reports printed);
        written = ap (λ (l : List ℕ). l ++ text) so_far.written ∙ append_assoc old (concat so_far.texts) text ∙ ap (λ (l : List ℕ). old ++ l) (sym (concat-push so_far.texts text));
      }

  pub tells_first : All (λ b. heard b ≡ []) all → TellsOn all old
  tells_first unheard = record { done = 0; within = omega arith; left = refl; unheard = unheard; texts = []; reports = tt; written = sym (append-nil old) }

  pub tells_at : (waiting waiting' : List B) (out out' : List ℕ) → TellsOn waiting out → waiting' ≡ waiting → out' ≡ out → TellsOn waiting' out'
  tells_at waiting waiting' out out' so_far w o = record {
    done = so_far.done;
    within = so_far.within;
    left = w ∙ so_far.left;
    unheard = subst (All (λ (x : B). heard x ≡ [])) (sym w) so_far.unheard;
    texts = so_far.texts;
    reports = so_far.reports;
    written = o ∙ so_far.written;
  }

  -- the texts of the first listeners
  pub told_some : (waiting : List B) (out : List ℕ) → TellsOn waiting out → (n : ℕ) × (texts : List (List ℕ)) × Reports (take n (map voice all)) rows texts × (out ≡ old ++ concat texts)
  told_some waiting out so_far = (so_far.done, so_far.texts, so_far.reports, so_far.written)

  -- the texts of all
  pub told_all : (waiting : List B) (out : List ℕ) → TellsOn waiting out → length waiting ≡ 0 → (texts : List (List ℕ)) × Reports (map voice all) rows texts × (out ≡ old ++ concat texts)
  told_all waiting out so_far none =
      let past : length (map voice all) ≤ so_far.done = omega (arith, none, ap length so_far.left, length-drop so_far.done all, length-map all voice) in
      (so_far.texts, subst (λ (l : List Voice). Reports l rows so_far.texts) (take_all so_far.done (map voice all) past) so_far.reports, so_far.written)

-- a fact that holds anyway
pub on_err : {T E : Type 0} (result : Result T E) (P : Type 0) → P → OnErr result P
on_err (Ok x) P holds = tt
on_err (Err e) P holds = holds

pub told_more : (rows : List Row) (index : ℕ) (row : Row) (heard : List Row) → index < length rows → row ≡ get_or rows index row → heard ≡ take index rows → heard ++ row ∷ [] ≡ take (index + 1) rows
told_more rows index row heard inside is so_far = ap (λ (l : List Row). l ++ row ∷ []) so_far ∙ sym (heard_more rows index row inside is)

-- what the answer says of the number of rows heard
pub enough_at : (style : Style) (rows heard : List Row) (index : ℕ) (more answer : More) → heard ≡ take (index + 1) rows → more ≡ answer → IsEnough style (length heard) more → index < length rows → IsEnough style (index + 1) answer
enough_at style rows heard index more answer is same enough inside =
    let count : length heard ≡ index + 1 = ap length is ∙ length-take-le (index + 1) rows (omega arith) in
    subst (λ (n : ℕ). IsEnough style n answer) count (subst (λ (m : More). IsEnough style (length heard) m) same enough)

-- the text of what was heard, at an equal style
pub text_of : (voice first : Voice) (rows heard : List Row) (text : List ℕ) → voice ≡ first → heard ≡ heard_of voice.style rows → IsText voice heard text → IsText first (heard_of first.style rows) text
text_of voice first rows heard text same is printed =
    subst (λ (v : Voice). IsText v (heard_of v.style rows) text) same (subst (λ (l : List Row). IsText voice l text) is printed)
