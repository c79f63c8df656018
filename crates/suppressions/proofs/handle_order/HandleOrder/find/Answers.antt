use Rattle.std.proofs.Common.{◌≡◌, ◌∙◌, List, ap, subst}
use Rattle.suppressions.specs.Handles.{PlainHandle, AreAt}
use Rattle.suppressions.specs.PlainHandles.{plain_handle, plain_handles}
use Rattle.suppressions.proofs.handle_order.HandleOrder.find.Goals as goal

pub returns : goal.returns
returns c =
    let same : plain_handles c.as_slice.result.now ≡ c.args.self.now = ap plain_handles c.as_slice.ensures.value ∙ c.self.view_is in
    subst (λ (handles : List PlainHandle). AreAt handles (plain_handle c.args.handle) c.places_in.result.now) same c.places_in.ensures
