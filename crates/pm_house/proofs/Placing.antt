-- The document at the place of its name is the one that answers and that is closed.
use Rattle.std.proofs.Common.{◌≡◌, ◌∙◌, ◌+◌, ◌<◌, arith, ℕ, suc, String, string_bytes, Bool, true, false, cond, List, [], ◌∷◌, length, refl, ap, sym, subst, Result, Ok, Err, ◌||◌}
use Rattle.std.specs.Prelude.{Some, None, IfOk, OnOk, not, nat_lt, slice_get, slice_set, remove, if◌then◌else◌}
use Rattle.std.specs.List.{list_any, prefix_len}
use Rattle.std.specs.Str.{bytes_eq}
use Rattle.std.specs.declared.alloc.Global.{Global}
use Rattle.std.proofs.lemmas.Bool.Decides.{nat_tests}
use Rattle.std.proofs.lemmas.List.{length-map}
use Rattle.serde_json.specs.Data.{Data}
use Rattle.pm_schema.specs.Names.{place_of}
use Rattle.pm_head.specs.declared.code.Code.{Code}
use Rattle.pm_order.specs.declared.word.DocWord.{DocWord}
use Rattle.pm_archive.specs.declared.archive.Archive.{Archive}
use Rattle.pm_archive.specs.Answers.{answered}
use Rattle.pm_house.specs.declared.house.House.{House}
use Rattle.pm_house.specs.declared.texts.Lack.TheVariants as lack
use Rattle.pm_house.specs.Found.{names_of}
use Rattle.pm_house.specs.Texts.{lack_text, closed_text}
use Rattle.pm_house.specs.Houses.{with_documents}
use Rattle.pm_house.specs.Replies.{behind, among, onto, without, told_among, within, closed_in, closes, Are}
use Rattle.pm_house.proofs.Finding.{some-inner, none-some}

-- the place of the first document of this name, or how many there are
abbrev place : List ℕ → List Archive → ℕ
place name docs = prefix_len (λ n. not (bytes_eq name n)) (names_of docs)

-- the document at the place answers and is closed by this name
pub record AtPlace (name : List ℕ) (docs : List Archive) (i : ℕ) : Type 0 where
  pub archive : Archive
  pub here : slice_get docs i ≡ Some archive
  pub answers : (w : DocWord) (d : Data) → among name w d docs ≡ Some ((answered archive w d).0, slice_set docs i (answered archive w d).1)
  pub goes : without name docs ≡ Some (remove docs i)

first-place : (name : List ℕ) (a : Archive) (rest : List Archive) → bytes_eq name a.name ≡ true → AtPlace name (a ∷ rest) 0
first-place name a rest h = record {
  archive = a;
  here = refl;
  answers = λ w d. ap (λ b. if b then Some ((answered a w d).0, (answered a w d).1 ∷ rest) else behind a (among name w d rest)) h;
  goes = ap (λ b. if b then Some rest else onto a (without name rest)) h;
}

later-place : (name : List ℕ) (a : Archive) (rest : List Archive) (k : ℕ) → bytes_eq name a.name ≡ false → AtPlace name rest k
    → AtPlace name (a ∷ rest) (suc k)
later-place name a rest k h at = record {
  archive = at.archive;
  here = at.here;
  answers = λ w d. ap (λ b. if b then Some ((answered a w d).0, (answered a w d).1 ∷ rest) else behind a (among name w d rest)) h ∙ ap (behind a) (at.answers w d);
  goes = ap (λ b. if b then Some rest else onto a (without name rest)) h ∙ ap (onto a) at.goes;
}

one-more : (k : ℕ) → 1 + k ≡ suc k
one-more k = omega arith

one-less : (k n : ℕ) → 1 + k < suc n → k < n
one-less k n h = omega (arith, h)

none-below : (k : ℕ) → k < 0 → ⊥
none-below k h = omega (arith, h)

is-place : (name : List ℕ) (docs : List Archive) → place name docs < length docs → AtPlace name docs (place name docs)
is-place name [] lt = absurd (none-below 0 lt)
is-place name (a ∷ rest) lt = from (bytes_eq name a.name) refl lt (is-place name rest)
  where
    from : (b : Bool) → bytes_eq name a.name ≡ b → cond (not b) (1 + place name rest) 0 < suc (length rest)
        → (place name rest < length rest → AtPlace name rest (place name rest))
        → AtPlace name (a ∷ rest) (cond (not b) (1 + place name rest) 0)
    from true is lt further = first-place name a rest is
    from false is lt further =
        subst (AtPlace name (a ∷ rest)) (sym (one-more (place name rest)))
        (later-place name a rest (place name rest) is (further (one-less (place name rest) (length rest) lt)))

tested : (a b c : ℕ) → nat_lt a b ≡ true → b ≡ c → a < c
tested a b c h e = grind (arith, nat_tests)

pub at-place : (name : List ℕ) (docs : List Archive) (i : ℕ) → place_of name (names_of docs) ≡ Some i → AtPlace name docs i
at-place name docs i e = from (nat_lt (place name docs) (length (names_of docs))) refl e
  where
    from : (b : Bool) → nat_lt (place name docs) (length (names_of docs)) ≡ b → cond b (Some (place name docs)) None ≡ Some i → AtPlace name docs i
    from true lt e =
        subst (AtPlace name docs) (some-inner (place name docs) i e)
        (is-place name docs (tested (place name docs) (length (names_of docs)) (length docs) lt (length-map docs (λ a. a.name))))
    from false lt e = absurd (none-some i e)

-- ---- no document has the name

true-is-false : true ≡ false → ⊥
true-is-false e = absurd (cc)

pub among-none : (name : List ℕ) (docs : List Archive) (w : DocWord) (d : Data) → list_any (bytes_eq name) (names_of docs) ≡ false → among name w d docs ≡ None
among-none name [] w d h = refl
among-none name (a ∷ rest) w d h = from (bytes_eq name a.name) refl h (among-none name rest w d)
  where
    from : (b : Bool) → bytes_eq name a.name ≡ b → (b || list_any (bytes_eq name) (names_of rest)) ≡ false
        → (list_any (bytes_eq name) (names_of rest) ≡ false → among name w d rest ≡ None)
        → among name w d (a ∷ rest) ≡ None
    from true is h further = absurd (true-is-false h)
    from false is h further =
        ap (λ b. if b then Some ((answered a w d).0, (answered a w d).1 ∷ rest) else behind a (among name w d rest)) is ∙ ap (behind a) (further h)

without-none : (name : List ℕ) (docs : List Archive) → list_any (bytes_eq name) (names_of docs) ≡ false → without name docs ≡ None
without-none name [] h = refl
without-none name (a ∷ rest) h = from (bytes_eq name a.name) refl h (without-none name rest)
  where
    from : (b : Bool) → bytes_eq name a.name ≡ b → (b || list_any (bytes_eq name) (names_of rest)) ≡ false
        → (list_any (bytes_eq name) (names_of rest) ≡ false → without name rest ≡ None)
        → without name (a ∷ rest) ≡ None
    from true is h further = absurd (true-is-false h)
    from false is h further = ap (λ b. if b then Some rest else onto a (without name rest)) is ∙ ap (onto a) (further h)

-- ---- the answers

answers-at : (h : House) (w : DocWord) (d : Data) (r : Result (List ℕ) Code) (name : List ℕ) (i : ℕ) (text : List ℕ) (docs : List Archive)
    → r ≡ Ok name → place_of name (names_of h.documents) ≡ Some i
    → ((a : Archive) → slice_get h.documents i ≡ Some a → text ≡ (answered a w d).0)
    → ((a : Archive) → slice_get h.documents i ≡ Some a → docs ≡ slice_set h.documents i (answered a w d).1)
    → Are (within h w d r) text (with_documents h docs)
answers-at h w d r name i text docs named placed t n =
    let at : AtPlace name h.documents i = at-place name h.documents i placed in
    let is : within h w d r ≡ ((answered at.archive w d).0, with_documents h (slice_set h.documents i (answered at.archive w d).1)) =
    ap (within h w d) named ∙ ap (told_among h) (at.answers w d) in (
      t at.archive at.here ∙ sym (ap (λ p. p.0) is),
      ap (with_documents h) (n at.archive at.here) ∙ sym (ap (λ p. p.1) is),
    )

-- so where there was memory for the answer
pub answers-told : {E : Type 0} (result : Result (String Global) E) (h : House) (w : DocWord) (d : Data) (r : Result (List ℕ) Code) (name : List ℕ) (i : ℕ)
    (docs : List Archive) → r ≡ Ok name → place_of name (names_of h.documents) ≡ Some i
    → ((a : Archive) → slice_get h.documents i ≡ Some a → IfOk result (λ s. string_bytes s ≡ (answered a w d).0))
    → ((a : Archive) → slice_get h.documents i ≡ Some a → OnOk result (docs ≡ slice_set h.documents i (answered a w d).1))
    → IfOk result (λ s. Are (within h w d r) (string_bytes s) (with_documents h docs))
answers-told (Ok s) h w d r name i docs named placed t n = answers-at h w d r name i (string_bytes s) docs named placed t n
answers-told (Err e) h w d r name i docs named placed t n = tt

answers-none : (h : House) (w : DocWord) (d : Data) (r : Result (List ℕ) Code) (name : List ℕ) (text : List ℕ)
    → r ≡ Ok name → list_any (bytes_eq name) (names_of h.documents) ≡ false → text ≡ lack_text lack.Document → Are (within h w d r) text h
answers-none h w d r name text named absent t =
    let is : within h w d r ≡ (lack_text lack.Document, h) = ap (within h w d) named ∙ ap (told_among h) (among-none name h.documents w d absent) in (
      t ∙ sym (ap (λ p. p.0) is),
      sym (ap (λ p. p.1) is),
    )

pub none-told : {E : Type 0} (result : Result (String Global) E) (h : House) (w : DocWord) (d : Data) (r : Result (List ℕ) Code) (name : List ℕ)
    → r ≡ Ok name → list_any (bytes_eq name) (names_of h.documents) ≡ false → IfOk result (λ s. string_bytes s ≡ lack_text lack.Document)
    → IfOk result (λ s. Are (within h w d r) (string_bytes s) h)
none-told (Ok s) h w d r name named absent t = answers-none h w d r name (string_bytes s) named absent t
none-told (Err e) h w d r name named absent t = tt

pub closes-at : (h : House) (r : Result (List ℕ) Code) (name : List ℕ) (i : ℕ) (text : List ℕ) (docs : List Archive)
    → r ≡ Ok name → place_of name (names_of h.documents) ≡ Some i → text ≡ closed_text name → docs ≡ remove h.documents i
    → Are (closes h r) text (with_documents h docs)
closes-at h r name i text docs named placed t n =
    let at : AtPlace name h.documents i = at-place name h.documents i placed in
    let is : closes h r ≡ (closed_text name, with_documents h (remove h.documents i)) = ap (closes h) named ∙ ap (closed_in h name) at.goes in (
      t ∙ sym (ap (λ p. p.0) is),
      ap (with_documents h) n ∙ sym (ap (λ p. p.1) is),
    )

closes-none : (h : House) (r : Result (List ℕ) Code) (name : List ℕ) (text : List ℕ)
    → r ≡ Ok name → list_any (bytes_eq name) (names_of h.documents) ≡ false → text ≡ lack_text lack.Document → Are (closes h r) text h
closes-none h r name text named absent t =
    let is : closes h r ≡ (lack_text lack.Document, h) = ap (closes h) named ∙ ap (closed_in h name) (without-none name h.documents absent) in (
      t ∙ sym (ap (λ p. p.0) is),
      sym (ap (λ p. p.1) is),
    )

pub none-closed : {E : Type 0} (result : Result (String Global) E) (h : House) (r : Result (List ℕ) Code) (name : List ℕ)
    → r ≡ Ok name → list_any (bytes_eq name) (names_of h.documents) ≡ false → IfOk result (λ s. string_bytes s ≡ lack_text lack.Document)
    → IfOk result (λ s. Are (closes h r) (string_bytes s) h)
none-closed (Ok s) h r name named absent t = closes-none h r name (string_bytes s) named absent t
none-closed (Err e) h r name named absent t = tt
