-- Given names and values.
use Rattle.std.proofs.Common.{◌≡◌, ◌<◌, ℕ, zero, suc, Bool, not, List, [], ◌∷◌, length, get_or, String, string_bytes, refl, ap, sym, ◌∙◌, arith}
use Rattle.std.specs.List.{list_any}
use Rattle.std.specs.Str.{bytes_eq}
use Rattle.std.specs.declared.alloc.Global.{Global}
use Rattle.pm_value.specs.Views.{plain}
use Rattle.pm_value.specs.declared.value.Value.{Value}
use Rattle.pm_schema.specs.declared.spec.AttrSpec.{AttrSpec}
use Rattle.pm_schema.specs.Attrs.{no_pair, pairs_of, is_unknown}

pub length-pairs : (gs : List (String Global × Value)) → length (pairs_of gs) ≡ length gs
length-pairs [] = refl
length-pairs (g ∷ gs) = ap suc (length-pairs gs)

pair-at : (gs : List (String Global × Value)) (j : ℕ) (p : String Global × Value) → j < length gs → p ≡ get_or gs j p → get_or (pairs_of gs) j no_pair ≡ (string_bytes p.0, plain p.1)
pair-at [] j p l e = absurd (omega arith)
pair-at (g ∷ gs) zero p l e = ap (λ (q : String Global × Value). (string_bytes q.0, plain q.1)) (sym e)
pair-at (g ∷ gs) (suc j) p l e = pair-at gs j p (omega arith) e

-- whether an attribute has the name of a pair that was read
pub unknown-at : (attrs : List AttrSpec) (gs : List (String Global × Value)) (j : ℕ) (p : String Global × Value) (name : List ℕ) (b : Bool) → j < length gs → p ≡ get_or gs j p → name ≡ string_bytes p.0
    → b ≡ list_any (λ a. bytes_eq name a.name) attrs → is_unknown attrs (get_or (pairs_of gs) j no_pair) ≡ not b
unknown-at attrs gs j p name b l e n h =
    ap (is_unknown attrs) (pair-at gs j p l e) ∙ ap not (sym (ap (λ (m : List ℕ). list_any (λ a. bytes_eq m a.name) attrs) n) ∙ sym h)
