-- Where the later entries lie apart, what is left is what they make of the document before those that are taken back.
use Rattle.std.specs.Prelude.{◌≡◌, ℕ, ◌+◌, List, [], ◌∷◌, ◌++◌, map, Option, Some, None, Result, Ok, Err, refl}
use Rattle.std.proofs.Common.{ap, sym, subst, ◌∙◌, append_assoc, append-nil}
use Rattle.pm_map.specs.declared.mapping.Mirrored.{Mirrored}
use Rattle.pm_map.specs.Moves.{inverted_ranges}
use Rattle.pm_map.specs.Mirrors.{enclosed}
use Rattle.pm_change.specs.Changes.{fold}
use Rattle.pm_authority.specs.declared.named.Named.{Named}
use Rattle.pm_authority.specs.Runs.{changes_of, AllApply}
use Rattle.pm_client.specs.Rebases.{maps_of}
use Rattle.pm_tokens.specs.Tokens.{Doc}
use Rattle.pm_tokens.specs.Schemas.{Schema as Documents}
use Rattle.pm_tokens.specs.Faults.{Valid}
use Rattle.pm_schema.specs.declared.schema.Schema.{Schema}
use Rattle.pm_schema.specs.Documents.{documents_of}
use Rattle.pm_meaning.specs.Steps.{Step}
use Rattle.pm_meaning.specs.declared.reason.Reason.{Reason}
use Rattle.pm_meaning.specs.Maps.{step_map, carry}
use Rattle.pm_meaning.specs.Inverses.{inverse}
use Rattle.pm_meaning.specs.Outcomes.{outcome}
use Rattle.pm_meaning.specs.Meanings.{meaning as plain}
use Rattle.pm_apply.specs.Changes.{meaning}
use Rattle.pm_selective.specs.Shifts.{IsGrid}
use Rattle.pm_selective.specs.Apart.{AreApartFrom}
use Rattle.pm_selective.specs.Carried.{step_maps, unpaired, in_front, go_on as then_go_on, carried, left_tokens}
use Rattle.pm_selective.specs.Undone.{then_steps, inverses_onto, inverses}
use Rattle.pm_selective.proofs.Aparts.{ranges-are, ranges_back, grid-of}
use Rattle.pm_selective.proofs.Steps.{moved_steps}
use Rattle.pm_selective.proofs.Undone.{all-applied, backwards, apart-maps, both-ways, undo-leaves}
use Rattle.pm_selective.proofs.Histories.{fold-same}
use Rattle.pm_revert.specs.declared.backs.Back.{Back}
use Rattle.pm_revert.specs.declared.taking.Taking.{Taking}
use Rattle.pm_revert.specs.declared.taken.Taken.{Taken}
use Rattle.pm_revert.specs.Backs.{change_of, backs_at, then_backs, backs_onto, backs}
use Rattle.pm_revert.specs.Takings.{put, tried, led, go_on, taken_all, start, taken_back}
use Rattle.pm_revert.specs.Reverts.{LieApartFrom}
use Rattle.pm_revert.proofs.Made.{ok-same, made-apply, is-told}

maps-plain : (ls : List (Named Step)) → maps_of meaning ls ≡ unpaired (step_maps (changes_of ls))
maps-plain [] = refl
maps-plain (l ∷ ls) = ap (λ ms. record { map = step_map l.change; later = None } ∷ ms) (maps-plain ls)

at-changes : (i : ℕ) (cs : List Step) (bs : List (Back Step)) → map change_of (backs_at i cs ++ bs) ≡ cs ++ map change_of bs
at-changes i [] bs = refl
at-changes i (c ∷ cs) bs = ap (λ ds. c ∷ ds) (at-changes i cs bs)

-- a step in front of those that are carried
record Front (c : Step) (o : Option (List Step)) (cs : List Step) : Type 0 where
  rest : List Step
  is : o ≡ Some rest
  whole : cs ≡ c ∷ rest

front-of : (c : Step) (o : Option (List Step)) (cs : List Step) → in_front c o ≡ Some cs → Front c o cs
front-of c None cs e = absurd (cc)
front-of c (Some rest) cs e = let same : cs ≡ c ∷ rest = cc in record { rest = rest; is = refl; whole = same }

module _ (schema : Schema) where
  abbrev s : Documents
  s = documents_of schema.spec

  abbrev documents : Schema → Documents
  documents = λ schema. documents_of schema.spec

  backs-are : (doc : Doc) (i : ℕ) (es : List Step) (bs : List (Back Step)) → map change_of (backs_onto meaning schema doc i es bs) ≡ inverses_onto s doc es (map change_of bs)
  backs-are doc i [] bs = refl
  backs-are doc i (e ∷ es) bs = from (λ next. backs-are next (i + 1) es (backs_at i (inverse s e doc) ++ bs)) (outcome s e doc)
    where
      from : ((next : Doc) → map change_of (backs_onto meaning schema next (i + 1) es (backs_at i (inverse s e doc) ++ bs)) ≡ inverses_onto s next es (map change_of (backs_at i (inverse s e doc) ++ bs)))
          → (r : Result Doc Reason)
          → map change_of (then_backs meaning schema r (λ next. backs_onto meaning schema next (i + 1) es (backs_at i (inverse s e doc) ++ bs)))
          ≡ then_steps r (λ next. inverses_onto s next es (inverse s e doc ++ map change_of bs))
      from rest (Ok next) = rest next ∙ ap (inverses_onto s next es) (at-changes i (inverse s e doc) bs)
      from rest (Err x) = refl

  -- where none is lost, the steps made are those carried
  carried-made : (bs : List (Back Step)) (so t : Taking Doc Step) (vs : List Step) → carried so.maps (map change_of bs) ≡ Some vs → taken_all meaning schema so bs ≡ Ok t → t.made ≡ so.made ++ vs
  carried-made [] so t vs k e =
      let none : [] ≡ vs = cc in
      ap (λ (x : Taking Doc Step). x.made) (sym (ok-same (taken_all meaning schema so []) so t refl e)) ∙ sym (append-nil so.made) ∙ ap (λ xs. so.made ++ xs) none
  carried-made (b ∷ bs) so t vs k e = from (carried-made bs) (carry b.change so.maps) k e
    where
      made : ((x y : Taking Doc Step) (zs : List Step) → carried x.maps (map change_of bs) ≡ Some zs → taken_all meaning schema x bs ≡ Ok y → y.made ≡ x.made ++ zs)
          → (d : Step) → in_front d (carried (enclosed so.maps (inverted_ranges (step_map b.change)) (step_map d)) (map change_of bs)) ≡ Some vs → (r : Result Doc Reason) → go_on meaning schema (tried meaning so b d r) (λ next. taken_all meaning schema next bs) ≡ Ok t → t.made ≡ so.made ++ vs
      made rest d k (Ok next) e =
          let f = front-of d (carried (enclosed so.maps (inverted_ranges (step_map b.change)) (step_map d)) (map change_of bs)) vs k in
          rest (put meaning so b d next) t f.rest f.is e ∙ append_assoc so.made (d ∷ []) f.rest ∙ ap (λ xs. so.made ++ xs) (sym f.whole)
      made rest d k (Err x) e = absurd (cc)

      from : ((x y : Taking Doc Step) (zs : List Step) → carried x.maps (map change_of bs) ≡ Some zs → taken_all meaning schema x bs ≡ Ok y → y.made ≡ x.made ++ zs)
          → (o : Option Step) → then_go_on o (λ d. in_front d (carried (enclosed so.maps (inverted_ranges (step_map b.change)) (step_map d)) (map change_of bs))) ≡ Some vs → go_on meaning schema (led meaning schema so b o) (λ next. taken_all meaning schema next bs) ≡ Ok t
          → t.made ≡ so.made ++ vs
      from rest None k e = absurd (cc)
      from rest (Some d) k e = made rest d k (outcome s d so.doc) e

  module _ (ns ls : List (Named Step)) (before mid last : Doc) (v : Valid s before) (h : AllApply meaning schema before ns mid) (k : AllApply meaning schema mid ls last)
      (a : LieApartFrom (changes_of ns) (changes_of ls)) where
    abbrev es : List Step
    es = changes_of ns

    abbrev later : List Step
    later = changes_of ls

    event_applies : fold plain s before es ≡ Some mid
    event_applies = sym (fold-same documents schema es before) ∙ h

    later_apply : fold plain s mid later ≡ Some last
    later_apply = sym (fold-same documents schema later mid) ∙ k

    -- the changes that undo the entries are carried, and none is lost
    pub record AreCarried : Type 0 where
      pub steps : List Step
      pub are : carried (unpaired (step_maps later)) (inverses s before es) ≡ Some steps

    pub are-carried : AreCarried
    are-carried =
        let e = all-applied s es before mid a.entries_splice v event_applies in
        let l = all-applied s later mid last a.later_splice e.valid later_apply in
        let bs = inverses s before es in
        let b = backwards s es before mid a.entries_splice v event_applies in
        let g : IsGrid (step_maps later) (step_maps bs) =
        grid-of (step_maps later) (step_maps bs) (apart-maps bs b.ordered) (apart-maps later l.ordered)
        (subst (λ z. AreApartFrom z (step_maps later)) (ranges-are (step_maps es) (apart-maps es e.ordered) ∙ ap ranges_back (sym b.maps_are)) a.apart) in
        let w = both-ways bs later mid.tokens b.ordered l.ordered b.within l.within g in
        record { steps = moved_steps (step_maps later) bs; are = w.bs_go }

    pub leaves-later : (t : Taken Doc Step) → taken_back meaning schema before es ls last ≡ Ok t → left_tokens es later before.tokens ≡ Some t.doc.tokens
    leaves-later t e =
        let bs = backs meaning schema before es in
        let first = start meaning schema ls last in
        let i = is-told meaning schema bs first t e in
        let c = are-carried in
        let made = carried-made bs first i.so c.steps (ap (λ ms. carried ms (map change_of bs)) (maps-plain ls) ∙ ap (carried (unpaired (step_maps later))) (backs-are before 0 es []) ∙ c.are) i.comes in
        let w = made-apply meaning schema bs first i.so i.comes in
        let same : w.steps ≡ c.steps = sym w.made_is ∙ made in
        let ends : fold plain s last c.steps ≡ Some i.so.doc = sym (fold-same documents schema c.steps last) ∙ ap (fold meaning schema last) (sym same) ∙ w.apply in
        undo-leaves s es later c.steps before mid last i.so.doc
        (record { valid = v; event_applies = event_applies; later_apply = later_apply; undo_is = c.are; undo_applies = ends }) a.entries_splice a.later_splice a.apart
        ∙ ap (λ (x : Taken Doc Step). Some x.doc.tokens) (sym i.is)
