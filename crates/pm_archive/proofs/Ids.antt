-- The ID at a place.
use Rattle.std.proofs.Common.{◌≡◌, ◌<◌, ◌+◌, ℕ, Bool, List, [], ◌∷◌, ◌++◌, Option, length, drop, get_or, ap, sym, ◌∙◌, append_assoc}
use Rattle.std.specs.Prelude.{◌&&◌, unwrap_or, true}
use Rattle.std.specs.Str.{bytes_eq}
use Rattle.std.specs.Cmp.Lexicographic.{pointwise}
use Rattle.std.proofs.lemmas.List.{drop_more}
use Rattle.std.proofs.lemmas.Option.{slice_get-get_or}
use Rattle.serde_json.specs.Written.{comma_if}
use Rattle.pm_talk.specs.Ids.{id_at}
use Rattle.pm_archive.specs.Lines.{all_ids}

-- the IDs from a place on are the one that stands there, and those behind
from_place : (ids : List (List ℕ)) (i : ℕ) → i < length ids → drop i ids ≡ id_at ids i ∷ drop (i + 1) ids
from_place ids i within =
    drop_more ids i [] within
    ∙ ap (λ (id : List ℕ). id ∷ drop (i + 1) ids) (sym (ap (λ (o : Option (List ℕ)). unwrap_or o []) (slice_get-get_or ids i [] within)))

-- IDs are the same from a place on where those that stand there are, and those behind
pub same_from : (ids others : List (List ℕ)) (i : ℕ) → i < length ids → i < length others
    → pointwise bytes_eq (drop i ids) (drop i others) ≡ (bytes_eq (id_at ids i) (id_at others i) && pointwise bytes_eq (drop (i + 1) ids) (drop (i + 1) others))
same_from ids others i within too =
    ap (λ (ls : List (List ℕ)). pointwise bytes_eq ls (drop i others)) (from_place ids i within)
    ∙ ap (pointwise bytes_eq (id_at ids i ∷ drop (i + 1) ids)) (from_place others i too)

-- An ID more was written: what is left to write are those behind it.
pub item_from : (old new id : List ℕ) (later : Bool) (ids : List (List ℕ)) (i : ℕ) → i < length ids → id ≡ id_at ids i → new ≡ old ++ (comma_if later ++ id)
    → new ++ all_ids true (drop (i + 1) ids) ≡ old ++ all_ids later (drop i ids)
item_from old new id later ids i within is put =
    let rest : List ℕ = all_ids true (drop (i + 1) ids) in
    ap (λ (t : List ℕ). t ++ rest) (put ∙ ap (λ (t : List ℕ). old ++ (comma_if later ++ t)) is)
    ∙ append_assoc old (comma_if later ++ id_at ids i) rest
    ∙ ap (λ (t : List ℕ). old ++ t) (append_assoc (comma_if later) (id_at ids i) rest)
    ∙ ap (λ (ls : List (List ℕ)). old ++ all_ids later ls) (sym (from_place ids i within))
