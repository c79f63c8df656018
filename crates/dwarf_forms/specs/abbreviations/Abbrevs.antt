-- Abbreviation tables of `.debug_abbrev` (DWARF 5, section 7.5.3 "Abbreviations Tables").
use Rattle.std.specs.Prelude.{ℕ, suc, ◌+◌, ◌==◌, ◌&&◌, ◌||◌, nat_lt, Bool, true, false, if◌then◌else◌, List, [], ◌∷◌, ◌++◌, ◌≡◌, length, Option, Some, None, Result, Ok, Err, slice_get, pos, ℤ, find}
use Rattle.std.specs.List.{list_any}
use Rattle.std.specs.Option.{option_map}
use Rattle.abi_base.specs.declared.fault.Fault.{Fault}
use Rattle.abi_base.specs.declared.fault.FaultKind.TheVariants as kind
use Rattle.abi_base.specs.declared.fault.Refusal.{Refusal}
use Rattle.abi_base.specs.declared.fault.Refusal.TheVariants as refusal
use Rattle.dwarf_forms.specs.declared.abbreviations.abbrev.Spec.{Spec}
use Rattle.dwarf_forms.specs.declared.abbreviations.abbrev.Abbrev.{Abbrev}
use Rattle.abi_base.specs.Dwarf.{dw_form_implicit_const, dw_children_no, dw_children_yes}
use Rattle.abi_base.specs.Leb.{uleb_at, sleb_at}
use Rattle.abi_base.specs.Outcome.{◌>>=◌, or_end}
use Rattle.abi_base.specs.Runs.{Run, run}

-- the constant after a form: a signed LEB128 number after DW_FORM_implicit_const, nothing after any other form
abbrev pub implicit_at : List ℕ → ℕ → ℕ → Option (ℤ × ℕ)
implicit_at bytes form at = if form == dw_form_implicit_const then sleb_at bytes at else Some (pos 0, at)

-- an attribute specification without a constant
abbrev pub plain_pair : ℕ → ℕ → Spec
plain_pair attribute form = record { attribute = attribute; form = form; implicit = pos 0 }

-- a byte that is a whole LEB128 number other than 0 (DWARF 5, section 7.6 "Variable Length Data")
abbrev pub short_number_of : Option ℕ → Option ℕ
short_number_of None = None
short_number_of (Some byte) = if nat_lt 0 byte && nat_lt byte 128 then Some byte else None

-- two such numbers, the second a form without a constant
abbrev pub short_pair_of : Option ℕ → Option ℕ → Option (ℕ × ℕ)
short_pair_of None form = None
short_pair_of (Some attribute) None = None
short_pair_of (Some attribute) (Some form) = if form == dw_form_implicit_const then None else Some (attribute, form)

-- an attribute specification in two bytes
abbrev pub short_pair_at : List ℕ → ℕ → Option (ℕ × ℕ)
short_pair_at bytes at = short_pair_of (short_number_of (slice_get bytes at)) (short_number_of (slice_get bytes (at + 1)))

-- An attribute specification, and the offset after it. The list ends with the pair 0 0, which gives the offset after it, or,
-- without an offset, where no pair can be read or only one number is 0.
unfoldable pub spec_step : List ℕ → ℕ → Result (Spec × ℕ) (Option ℕ)
spec_step bytes at = do
  attribute ← or_end (uleb_at bytes at) None
  form ← or_end (uleb_at bytes attribute.1) None
  if attribute.0 == 0 && form.0 == 0
      then Err (Some form.1)
      else (if attribute.0 == 0 || form.0 == 0
      then Err None
      else (or_end (implicit_at bytes form.0 form.1) None
      >>= λ implicit. Ok (record { attribute = attribute.0; form = form.0; implicit = implicit.0 }, implicit.1)))

-- the attribute specifications from an offset on, and the offset after them
unfoldable pub specs_run : List ℕ → ℕ → Run Spec (Option ℕ)
specs_run bytes at = run (spec_step bytes) None (suc (length bytes)) at

abbrev pub specs_at : List ℕ → ℕ → Option (List Spec × ℕ)
specs_at bytes at = option_map (λ after. ((specs_run bytes at).items, after)) (specs_run bytes at).end

-- a byte that says whether entries have children
abbrev pub children_of : Option ℕ → Option Bool
children_of None = None
children_of (Some b) = if b == dw_children_no then Some false else (if b == dw_children_yes then Some true else None)

-- The abbreviation at an offset, after the earlier ones, and the state after it. Code 0 ends the table.
unfoldable pub abbrev_step : List ℕ → ℕ × List Abbrev → Result (Abbrev × (ℕ × List Abbrev)) (Option Fault)
abbrev_step bytes s =
    let fault : Option Fault = Some (record { kind = kind.Abbrev; at = s.0 }) in do
      code ← or_end (uleb_at bytes s.0) fault
      if code.0 == 0
          then Err None
          else (if list_any (λ a. a.code == code.0) s.1
          then Err fault
          else (do
            tag ← or_end (uleb_at bytes code.1) fault
            children ← or_end (children_of (slice_get bytes tag.1)) fault
            specs ← or_end (specs_at bytes (tag.1 + 1)) fault
            let made : Abbrev = record { code = code.0; tag = tag.0; children = children; specs_from = tag.1 + 1; specs = specs.0 } in
                Ok (made, (specs.1, s.1 ++ made ∷ []))))

-- all abbreviations of the table at an offset, and its fault, if it has one
unfoldable pub table_run : List ℕ → ℕ → Run Abbrev (Option Fault)
table_run bytes at = run (abbrev_step bytes) None (suc (length bytes)) (at, [])

-- what the reader of one abbreviation answers, after the earlier ones
abbrev pub ReadsAbbrev : List ℕ → ℕ → List Abbrev → Result (Option (Abbrev × ℕ)) Refusal → Type 0
ReadsAbbrev bytes at seen (Ok (Some a)) = abbrev_step bytes (at, seen) ≡ Ok (a.0, (a.1, seen ++ a.0 ∷ []))
ReadsAbbrev bytes at seen (Ok None) = abbrev_step bytes (at, seen) ≡ Err None
ReadsAbbrev bytes at seen (Err (refusal.Fault f)) = abbrev_step bytes (at, seen) ≡ Err (Some f)
ReadsAbbrev bytes at seen (Err (refusal.NoMemory cause)) = Unit {0}

-- the abbreviation with a code
abbrev pub abbrev_of : List Abbrev → ℕ → Option Abbrev
abbrev_of abbrevs code = find (λ a. a.code == code) abbrevs
