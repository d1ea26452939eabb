-- Place words are lists of places that follow one another in the table.
use Rattle.std.proofs.Common.{◌≡◌, ℕ, ◌+◌, ◌<◌, List, [], ◌∷◌, ◌++◌, map, length, refl, ap, sym, ◌∙◌, subst, arith, inl, inr, ◌⊎◌}
use Rattle.pm_auto.specs.declared.places.Row.{Row}
use Rattle.pm_auto.specs.Core.{Core, Lang, Place, first, follow}
use Rattle.pm_auto.specs.Table.{width, rows, firsts}
use Rattle.pm_auto.specs.Numbers.{number}
use Rattle.pm_auto.specs.Runs.{look}
use Rattle.pm_places.specs.Words.{numbered}
use Rattle.pm_auto.proofs.HasLaws.{Has, Found, has-find, has-back, has-map, has-unmap}
use Rattle.pm_auto.proofs.LangLaws.{Begin}
use Rattle.pm_auto.proofs.FirstLaws.{first-lang, lang-first}
use Rattle.pm_auto.proofs.FollowLaws.{follow-lang, lang-follow}
use Rattle.pm_auto.proofs.TableLaws.{firsts-first}
use Rattle.pm_auto.proofs.LookLaws.{look-row}
use Rattle.pm_places.proofs.Members.{Is_in}
use Rattle.pm_places.proofs.Links.{Linked}
use Rattle.pm_places.proofs.Numbering.{width-numbered, kind-number, number-below, length-rows, firsts-numbered, follow-numbered}
use Rattle.pm_places.proofs.Sound.{Goes_on, after-list, goes-numbered}

module _ (e : Core) where
  -- the expression with places for types, and the numbers of its places
  abbrev c : Core
  c = numbered 0 e

  abbrev numbers : List (Place c) → List ℕ
  numbers ps = map (number 0 c) ps

  -- the table has the places that may follow a place at its number
  follow-at : (p : Place c) (k : ℕ) → number 0 c p ≡ k → (look (rows 0 e) k).follow ≡ numbers (follow c p)
  follow-at p k n = sym (follow-numbered 0 e k) ∙ ap (λ (j : ℕ). (look (rows 0 c) j).follow) (sym n) ∙ ap (λ (r : Row). r.follow) (look-row c p)

  inside : (p : Place c) (k : ℕ) → number 0 c p ≡ k → k < length (rows 0 e)
  inside p k n =
      let b : number 0 c p < 0 + width c = number-below 0 c p in
      let w : width c ≡ width e = width-numbered 0 e in
      let l : length (rows 0 e) ≡ width e = length-rows 0 e in
      omega (arith, b, w, l, n)

  here : (k : ℕ) (w : List ℕ) (qs : List (Place c)) (f : Found (Begin c k w) qs) → Is_in k (numbers qs) × (k < length (rows 0 e))
  here k w qs f =
      let is : number 0 c f.it ≡ k = sym (kind-number 0 e f.it) ∙ f.holds.0 in
      (has-map (number 0 c) (λ (y : ℕ). y ≡ k) (λ (q : Place c). q ≡ f.it) (λ q d. ap (number 0 c) d ∙ is) qs f.at, inside f.it k is)

  -- where a list begins at one of the places, its places follow one another from these
  begin-linked : (k : ℕ) (ps v : List ℕ) (qs : List (Place c)) → Has (Begin c k (ps ++ v)) qs → Linked (rows 0 e) (numbers qs) (k ∷ ps)
  begin-linked k [] v qs h = (here k v qs (has-find (Begin c k v) qs h), tt)
  begin-linked k (j ∷ ps) v qs h =
      let f : Found (Begin c k (j ∷ (ps ++ v))) qs = has-find (Begin c k (j ∷ (ps ++ v))) qs h in
      let is : number 0 c f.it ≡ k = sym (kind-number 0 e f.it) ∙ f.holds.0 in
      (here k (j ∷ (ps ++ v)) qs f, subst (λ (ns : List ℕ). Linked (rows 0 e) ns (j ∷ ps)) (sym (follow-at f.it k is)) (begin-linked j ps v (follow c f.it) (follow-lang c f.it j (ps ++ v) f.holds.1)))

  -- a place of the number
  numbered-at : (k : ℕ) (qs : List (Place c)) → Is_in k (numbers qs) → Found (λ (q : Place c). number 0 c q ≡ k) qs
  numbered-at k qs h = has-find (λ (q : Place c). number 0 c q ≡ k) qs (has-unmap (number 0 c) (λ (y : ℕ). y ≡ k) (λ (q : Place c). number 0 c q ≡ k) (λ q x. x) qs h)

  -- places that follow one another from these begin a list
  linked-begin : Goes_on e → (k : ℕ) (ps : List ℕ) (qs : List (Place c)) → Linked (rows 0 e) (numbers qs) (k ∷ ps) → (v : List ℕ) × Has (Begin c k (ps ++ v)) qs
  linked-begin g k [] qs l =
      let f = numbered-at k qs l.0.0 in
      let a = after-list c (goes-numbered 0 e g) f.it in
      (a.0, has-back (Begin c k a.0) qs f.it f.at (kind-number 0 e f.it ∙ f.holds, a.1))
  linked-begin g k (j ∷ ps) qs l =
      let f = numbered-at k qs l.0.0 in
      let r = linked-begin g j ps (follow c f.it) (subst (λ (ns : List ℕ). Linked (rows 0 e) ns (j ∷ ps)) (follow-at f.it k f.holds) l.1) in
      (r.0, has-back (Begin c k (j ∷ (ps ++ r.0))) qs f.it f.at (kind-number 0 e f.it ∙ f.holds, lang-follow c f.it j (ps ++ r.0) r.1))

  first-numbers : numbers (first c) ≡ firsts 0 e
  first-numbers = firsts-first 0 c ∙ firsts-numbered 0 0 e

  -- the places of a place word follow one another from the first
  pub word-linked : (ps v : List ℕ) → Lang c (ps ++ v) → Linked (rows 0 e) (firsts 0 e) ps
  word-linked [] v h = tt
  word-linked (k ∷ ps) v h = subst (λ (ns : List ℕ). Linked (rows 0 e) ns (k ∷ ps)) first-numbers (begin-linked k ps v (first c) (first-lang c k (ps ++ v) h))

  -- places that follow one another from the first begin a place word, where there is one
  pub linked-word : Goes_on e → (ps : List ℕ) → Linked (rows 0 e) (firsts 0 e) ps → (ps ≡ []) ⊎ ((v : List ℕ) × Lang c (ps ++ v))
  linked-word s [] l = inl refl
  linked-word s (k ∷ ps) l =
      let r = linked-begin s k ps (first c) (subst (λ (ns : List ℕ). Linked (rows 0 e) ns (k ∷ ps)) (sym first-numbers) l) in
      inr (r.0, lang-first c k (ps ++ r.0) r.1)
