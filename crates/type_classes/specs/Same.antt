-- Views that are the same except for their parts and calls.
use Rattle.std.specs.Prelude.{◌≡◌}
use Rattle.abi_types.specs.Types.{PlainView}

pub record HaveSameHeads (v w : PlainView) : Type 0 where
  pub kind : v.kind ≡ w.kind
  pub group : v.group ≡ w.group
  pub declared_only : v.declared_only ≡ w.declared_only
  pub variadic : v.variadic ≡ w.variadic
  pub tag : v.tag ≡ w.tag
  pub size : v.size ≡ w.size
  pub align : v.align ≡ w.align
  pub count : v.count ≡ w.count
