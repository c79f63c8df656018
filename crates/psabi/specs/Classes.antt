-- The classes of objects (psABI, section 3.2.3 "Parameter Passing", "Classification").
use Rattle.std.specs.Prelude.{ℕ, ◌||◌, not, nat_lt, Bool, if◌then◌else◌, List, map}
use Rattle.std.specs.List.{fold, list_all, range_with_len}
use Rattle.abi_types.specs.Types.{PlainNode}
use Rattle.abi_types.specs.Forms.{is_aggregate, is_leaf}
use Rattle.abi_types.specs.Graphs.{view_at}
use Rattle.abi_types.specs.Leaves.{leaves_of}
use Rattle.psabi.specs.declared.class.Class.{Class}
use Rattle.psabi.specs.declared.class.Class.TheVariants.{NoClass}
use Rattle.psabi.specs.Cleanup.{cleaned_up}
use Rattle.psabi.specs.Merging.{merge_leaf}
use Rattle.psabi.specs.Past.{ends_past}
use Rattle.psabi.specs.Psabi.{eightbyte_limit, object_limit}
use Rattle.psabi.specs.Rows.{one, all_memory_class, row}
use Rattle.psabi.specs.Touching.{is_aligned}

-- the class of an eightbyte of an aggregate before the cleanup: the classes of all leaves in it, merged in order
unfoldable pub merged_at : List PlainNode → ℕ → ℕ → Class
merged_at nodes i k = fold (merge_leaf k) NoClass (leaves_of nodes i 0 0)

unfoldable pub merged : List PlainNode → ℕ → List Class
merged nodes i = map (merged_at nodes i) (range_with_len 0 eightbyte_limit)

-- the three cases in which an aggregate is in memory whatever the classes of its leaves: it is larger than eight
-- eightbytes, a member ends past its aggregate, or a leaf is not aligned
unfoldable pub in_memory : List PlainNode → ℕ → Bool
in_memory nodes i = nat_lt object_limit (view_at nodes i).size || ends_past nodes i || not (list_all is_aligned (leaves_of nodes i 0 0))

-- the classes of a node's object: void and functions have none
unfoldable pub classes_of : List PlainNode → ℕ → List Class
classes_of nodes i =
    if is_leaf (view_at nodes i).kind then row (view_at nodes i).kind (view_at nodes i).group (view_at nodes i).size else
    if is_aggregate (view_at nodes i).kind then (if in_memory nodes i then all_memory_class else cleaned_up (merged nodes i) (view_at nodes i).size) else one NoClass
