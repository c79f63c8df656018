-- Which export of a new library an export of an old one binds to: by name and version, as the dynamic loader binds.
use Rattle.std.specs.Prelude.{ℕ, ◌==◌, Bool, not, ◌&&◌, is_some, if◌then◌else◌, List, position, map, count_by, Option, None}
use Rattle.std.specs.Option.{option_or}
use Rattle.std.specs.Str.{bytes_eq}
use Rattle.abi_types.specs.Exports.{PlainExport}
use Rattle.elf_bind.specs.Exports.{same_name}

-- the index of the first version of a library, to which symbols bind that were linked before there were versions
abbrev pub first_version : ℕ
first_version = 2

abbrev pub is_named : List ℕ → PlainExport → Bool
is_named name e = bytes_eq e.name name

-- an export of this name and this version
abbrev pub has_version : List ℕ → Option (List ℕ) → PlainExport → Bool
has_version name version e = is_named name e && same_name e.version version

-- an export of this name of the first version of its library
abbrev pub has_first_version : List ℕ → PlainExport → Bool
has_first_version name e = is_named name e && e.index == first_version

-- an export of this name whose version is its default one
abbrev pub is_default_version : List ℕ → PlainExport → Bool
is_default_version name e = is_named name e && is_some e.version && not e.hidden

-- the only export of this name whose version is the default one
abbrev pub only_default_version : List ℕ → List PlainExport → Option ℕ
only_default_version name offered = if count_by (is_default_version name) offered == 1 then position (is_default_version name) offered else None

-- the place of the export among those offered that an export binds to: with a version, the one of its name and version;
-- without one, the one without a version of its name, else the one of the first version, else the only default one
abbrev pub bind_to : List PlainExport → PlainExport → Option ℕ
bind_to offered e =
    if is_some e.version
    then position (has_version e.name e.version) offered
    else option_or (position (has_version e.name None) offered) (option_or (position (has_first_version e.name) offered) (only_default_version e.name offered))

-- the same for each of a list of exports
abbrev pub bind_each : List PlainExport → List PlainExport → List (Option ℕ)
bind_each wanted offered = map (bind_to offered) wanted
