-- The rules on an old export and the new one to which it binds.
use Rattle.std.specs.Prelude.{Bool, true, false, not, ◌==◌, ◌||◌, ◌&&◌, List, [], ◌∷◌}
use Rattle.abi_types.specs.declared.export.SymbolKind.{SymbolKind}
use Rattle.abi_types.specs.declared.export.SymbolKind.TheVariants.{NoType, Object, Func, Common, Tls, Ifunc}
use Rattle.abi_types.specs.Exports.{PlainExport}

-- a function, with or without a resolver
abbrev pub is_function : SymbolKind → Bool
is_function Func = true
is_function Ifunc = true
is_function kind = false

-- a data object or a common block
abbrev pub is_object : SymbolKind → Bool
is_object Object = true
is_object Common = true
is_object kind = false

abbrev pub is_tls : SymbolKind → Bool
is_tls Tls = true
is_tls kind = false

abbrev pub is_untyped : SymbolKind → Bool
is_untyped NoType = true
is_untyped kind = false

abbrev pub is_ifunc : SymbolKind → Bool
is_ifunc Ifunc = true
is_ifunc kind = false

-- Functions agree with functions, objects with objects, and thread-local objects with each other. A symbol without a type
-- agrees with everything but thread-local objects.
abbrev pub kinds_agree : SymbolKind → SymbolKind → Bool
kinds_agree old new =
    (is_function old && is_function new) || (is_object old && is_object new) || (is_tls old && is_tls new)
    || (is_untyped old && not (is_tls new)) || (is_untyped new && not (is_tls old))

-- the kinds of the symbols disagree
abbrev pub breaks_kind : PlainExport → PlainExport → Bool
breaks_kind old new = not (kinds_agree old.kind new.kind)

-- both are objects, and their sizes differ
abbrev pub breaks_size : PlainExport → PlainExport → Bool
breaks_size old new = is_object old.kind && is_object new.kind && not (old.size == new.size)

-- the old export has a type, the new one has none, and the new one is not a function with a resolver
abbrev pub breaks_type : PlainExport → PlainExport → Bool
breaks_type old new = not (old.entry == 0) && new.entry == 0 && not (is_ifunc new.kind)

-- whether X4, X5 and X6 are broken, in this order
abbrev pub export_breaks : PlainExport → PlainExport → List Bool
export_breaks old new = breaks_kind old new ∷ breaks_size old new ∷ breaks_type old new ∷ []
