-- The places of IDs among the keys of a set, and among their texts.
use Rattle.std.proofs.Common.{◌≡◌, ◌+◌, ◌++◌, Bool, false, cond, List, [], ◌∷◌, map, refl, ap, ◌∙◌, sym, String, string_bytes, ◌||◌}
use Rattle.std.specs.Prelude.{position, not}
use Rattle.std.specs.List.{prefix_len, list_any}
use Rattle.std.specs.Str.{bytes_eq}
use Rattle.std.proofs.lemmas.List.{length-map, map-append}
use Rattle.std.specs.declared.alloc.Global.{Global}

prefix-map : {A B : Type 0} → (p : B → Bool) (f : A → B) (xs : List A) → prefix_len p (map f xs) ≡ prefix_len (λ x. p (f x)) xs
prefix-map p f [] = refl
prefix-map p f (x ∷ xs) = ap (λ n. cond (p (f x)) (1 + n) 0) (prefix-map p f xs)

pub position-map : {A B : Type 0} → (p : B → Bool) (f : A → B) (xs : List A) → position p (map f xs) ≡ position (λ x. p (f x)) xs
position-map p f xs = rw (prefix-map (λ y. not (p y)) f xs, length-map xs f) refl

pub any-map : {A B : Type 0} → (p : B → Bool) (f : A → B) (xs : List A) → list_any p (map f xs) ≡ list_any (λ x. p (f x)) xs
any-map p f [] = refl
any-map p f (x ∷ xs) = ap (λ b. p (f x) || b) (any-map p f xs)

-- an ID that is new goes after the last one
pub insert_new : (ks : List (String Global)) (k : String Global) → list_any (λ n. bytes_eq (string_bytes k) n) (map string_bytes ks) ≡ false
    → map string_bytes (cond (list_any (λ x. bytes_eq (string_bytes k) (string_bytes x)) ks) ks (ks ++ k ∷ [])) ≡ map string_bytes ks ++ string_bytes k ∷ []
insert_new ks k h =
    let f : list_any (λ x. bytes_eq (string_bytes k) (string_bytes x)) ks ≡ false = sym (any-map (λ n. bytes_eq (string_bytes k) n) string_bytes ks) ∙ h in
    rw f (map-append string_bytes ks (k ∷ []))
