use Rattle.std.proofs.Common.{◌∙◌, sym, ap, length}
use Rattle.dwarf_forms.proofs.abbreviations_lemmas.LeastBytesLemmas.{least_bytes_of-push}
use Rattle.dwarf_forms.proofs.abbreviations_lemmas.PlacesLemmas.{placed_own, placed_elsewhere}
use Rattle.dwarf_forms.proofs.abbreviations.kept.Table.push.Goals as goal
use Rattle.dwarf_forms.proofs.abbreviations.kept.Table.push.Goals.{then-own_place-place+in_ok-insert, else-own_place-place}

pub invariant_of-self-in-Ok : goal.invariant_of-self-in-Ok
invariant_of-self-in-Ok c =
    elim c.if-own_place-place.branch [
      | then-own_place-place+in_ok-insert w ↦ (
        rw (c.in-Ok.ensures.ok, w.self-inside-is)
            (placed_elsewhere c.self.inside.abbrevs c.self.inside.elsewhere c.args.made c.self.invariant.0 (rw c.self.view_is c.requires) w.insert.new.self (rw (c.as_slice-place.ensures, w.get.ensures) at w.in_ok-insert.ensures.updates.0)),
        rw (c.saturating_add-self-inside.ensures, c.in-Ok.ensures.ok, w.self-inside-is) (least_bytes_of-push c.self.inside.abbrevs c.args.made c.self.inside.bytes c.least_bytes-size.result c.self.invariant.1 c.least_bytes-size.ensures),
      )
      | else-own_place-place w ↦ (
        rw (c.in-Ok.ensures.ok, w.self-inside-is)
            (placed_own c.self.inside.abbrevs c.self.inside.elsewhere c.args.made c.self.invariant.0 (rw c.self.view_is c.requires) (sym c.own_place.ensures ∙ w.if-own_place-place.false ∙ ap length c.as_slice-place.ensures)),
        rw (c.saturating_add-self-inside.ensures, c.in-Ok.ensures.ok, w.self-inside-is) (least_bytes_of-push c.self.inside.abbrevs c.args.made c.self.inside.bytes c.least_bytes-size.result c.self.invariant.1 c.least_bytes-size.ensures),
      )
    ]
