-- A list that is not empty is put in as it is.
use Rattle.std.proofs.Common.{◌≡◌, ◌<◌, ℕ, List, [], ◌∷◌, length, refl, arith}
use Rattle.serde_json.specs.Data.{array, Members, put}
use Rattle.serde_json.specs.View.{items_view}
use Rattle.serde_json.specs.declared.value.Value.{Value}
use Rattle.serde_json.proofs.Views.{view-Array, view-Object}
use Rattle.pm_docjson.specs.Members.{put_list}

pub put_list-filled : (key : List ℕ) (vs : List Value) (ms : Members) → 0 < length vs → put_list key (items_view vs) ms ≡ put key (array (items_view vs)) ms
put_list-filled key [] ms h = absurd (omega arith)
put_list-filled key (v ∷ vs) ms h = refl

pub ruleset filled = (put_list-filled, view-Array, view-Object)
