-- Natives that take paths (manual of jq 1.7, "getpath(PATHS)", "setpath(PATHS; VALUE)", "delpaths(PATHS)").
use Rattle.std.specs.Prelude.{List, [], ◌∷◌, codes}
use Rattle.std.specs.Option.{option_map_or}
use Rattle.jv_data.specs.Fails.{raised}
use Rattle.jv_data.specs.Value.{Value, array, values_of}
use Rattle.jv_value.specs.DeletePaths.{delpaths_of}
use Rattle.jv_value.specs.GetPath.{getpath_of}
use Rattle.jv_value.specs.SetPath.{setpath_of}
use Rattle.jq_natives.specs.Answers.{Answer}
use Rattle.jq_natives.specs.Lists.{lists_of}
use Rattle.jq_natives.specs.declared.native.Native.TheVariants as native
use Rattle.jq_natives.specs.Entries.{NativeEntry, with_one, with_two}

abbrev pub path_error : Answer
path_error = raised (codes "Path must be an array")

abbrev pub getpath_native_of : Value → Value → Answer
getpath_native_of v (array path) = getpath_of v (values_of path)
getpath_native_of v path = path_error

abbrev pub setpath_native_of : Value → Value → Value → Answer
setpath_native_of v (array path) w = setpath_of v (values_of path) w
setpath_native_of v path w = path_error

abbrev pub paths_error : Answer
paths_error = raised (codes "Paths must be an array of arrays")

abbrev pub delpaths_native_of : Value → Value → Answer
delpaths_native_of v (array paths) = option_map_or (delpaths_of v) (lists_of paths) paths_error
delpaths_native_of v paths = paths_error

-- the natives of paths
abbrev pub path_natives : List NativeEntry
path_natives =
    with_one (codes "getpath") native.GetPath getpath_native_of
    ∷ with_two (codes "setpath") native.SetPath setpath_native_of
    ∷ with_one (codes "delpaths") native.DelPaths delpaths_native_of
    ∷ []
