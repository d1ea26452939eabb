-- Undoing an event leaves the later steps, carried onto the document before it.
use Rattle.std.specs.Prelude.{◌≡◌, ℕ, List, [], ◌∷◌, ◌++◌, length, Option, Some, Ok, refl}
use Rattle.std.proofs.Common.{arith, ap, sym, subst, ◌∙◌}
use Rattle.pm_map.specs.declared.step_map.Span.{Span}
use Rattle.pm_map.specs.Moves.{inverted_ranges}
use Rattle.pm_change.specs.Changes.{fold}
use Rattle.pm_change.proofs.Folds.{fold-cons}
use Rattle.pm_tokens.specs.Tokens.{Token, Doc}
use Rattle.pm_tokens.specs.Schemas.{Schema}
use Rattle.pm_tokens.specs.Faults.{Valid}
use Rattle.pm_meaning.specs.Steps.{Step, Replace, ReplaceAround, AddMark, RemoveMark, AddNodeMark, RemoveNodeMark, Attr, DocAttr}
use Rattle.pm_meaning.specs.Inverses.{inverse, replace_back, around_back}
use Rattle.pm_meaning.specs.Outcomes.{outcome}
use Rattle.pm_meaning.specs.Meanings.{meaning}
use Rattle.pm_meaning.specs.Maps.{step_map, is_within}
use Rattle.pm_meaning.proofs.ReplaceLaws as rep
use Rattle.pm_meaning.proofs.AroundLaws as aro
use Rattle.pm_meaning.proofs.StepLaws.{good, within}
use Rattle.pm_meaning.proofs.MapLaws.{replace-inverse-map, around-inverse-map}
use Rattle.pm_selective.specs.Shifts.{IsGrid, AreAllApart, beside}
use Rattle.pm_selective.specs.Edits.{Piece, AreWithin, AreAllWithin, spliced_all, along, along_all, all_spans, edits_beside}
use Rattle.pm_selective.specs.Apart.{AreApartFrom, backs, backs_onto}
use Rattle.pm_selective.specs.Carried.{IsSplice, AreSplices, splice, splices, step_maps, unpaired, carried, spliced_on}
use Rattle.pm_selective.specs.Undone.{then_steps, inverses_onto, inverses, UndoLeaves}
use Rattle.pm_selective.proofs.Grids.{grid, spans-beside}
use Rattle.pm_selective.proofs.Aparts.{ranges-are, ranges_back, grid-of, turned}
use Rattle.pm_selective.proofs.Steps.{IsOrdered, AreOrdered, ordered, apart-step, edit, edits, edit-spans, edits-spans, edit-splice, edits-splices, moved_steps, same, all-ordered, carries-all, maps_of, AreApartMaps, slides-plain}
use Rattle.pm_selective.proofs.Rows.{Slides}

-- ---- steps that apply

-- what a replace or an unpinched replaceAround that applies is
pub record Applied (s : Schema) (c : Step) (d next : Doc) : Type 0 where
  pub ordered : IsOrdered c
  pub within : AreWithin (edit c) (length d.tokens)
  pub tokens : next.tokens ≡ splice c d.tokens
  pub valid : Valid s next

edit-within : (c : Step) (n : ℕ) → IsOrdered c → is_within c n → AreWithin (edit c) n
edit-within (Replace from to sl st) n h w = (omega (arith, h, w.1), tt)
edit-within (ReplaceAround from to gf gt sl insert st) n h w = (omega (arith, h.0, h.1, h.2, w.3), (omega (arith, h.2, w.3), tt))
edit-within (AddMark from to mark) n h w = absurd h
edit-within (RemoveMark from to mark) n h w = absurd h
edit-within (AddNodeMark p mark) n h w = absurd h
edit-within (RemoveNodeMark p mark) n h w = absurd h
edit-within (Attr p name value) n h w = absurd h
edit-within (DocAttr name value) n h w = absurd h

tokens-are : (s : Schema) (c : Step) (d next : Doc) → IsSplice c → Valid s d → outcome s c d ≡ Ok next → next.tokens ≡ splice c d.tokens
tokens-are s (Replace from to sl st) d next h v e = ap (λ z. z.tokens) (rep.next-is s from to sl d next v (rep.replaced s from to sl st d next e))
tokens-are s (ReplaceAround from to gf gt sl insert st) d next h v e = ap (λ z. z.tokens) (aro.around-next-is s from to gf gt sl insert st d next v (aro.moved s from to gf gt sl insert st d next e))
tokens-are s (AddMark from to mark) d next h v e = absurd h
tokens-are s (RemoveMark from to mark) d next h v e = absurd h
tokens-are s (AddNodeMark p mark) d next h v e = absurd h
tokens-are s (RemoveNodeMark p mark) d next h v e = absurd h
tokens-are s (Attr p name value) d next h v e = absurd h
tokens-are s (DocAttr name value) d next h v e = absurd h

pub applied : (s : Schema) (c : Step) (d next : Doc) → IsSplice c → Valid s d → outcome s c d ≡ Ok next → Applied s c d next
applied s c d next h v e =
    let w = within s c d next v e in
    let o = ordered c (length d.tokens) h w in
    record { ordered = o; within = edit-within c (length d.tokens) o w; tokens = tokens-are s c d next h v e; valid = good s c d next v e }

-- the same of steps one after another
pub record AllApplied (s : Schema) (cs : List Step) (d end : Doc) : Type 0 where
  pub ordered : AreOrdered cs
  pub within : AreAllWithin (edits cs) d.tokens
  pub tokens : end.tokens ≡ splices cs d.tokens
  pub valid : Valid s end

pub all-applied : (s : Schema) (cs : List Step) (d end : Doc) → AreSplices cs → Valid s d → fold meaning s d cs ≡ Some end → AllApplied s cs d end
all-applied s [] d end h v e =
    let same : d ≡ end = cc in
    record { ordered = tt; within = tt; tokens = ap (λ z. z.tokens) (sym same); valid = subst (Valid s) same v }
all-applied s (c ∷ cs) d end h v e =
    let f = fold-cons meaning s d end c cs e in
    let a = applied s c d f.0 h.0 v f.1 in
    let i = all-applied s cs f.0 end h.1 a.valid f.2 in
    record {
      ordered = (a.ordered, i.ordered);
      within = (a.within, subst (AreAllWithin (edits cs)) (a.tokens ∙ edit-splice c d.tokens a.ordered) i.within);
      tokens = i.tokens ∙ ap (splices cs) a.tokens;
      valid = i.valid;
    }

-- ---- the one step that undoes such a step

pub record Back (s : Schema) (c : Step) (d next : Doc) : Type 0 where
  pub step : Step
  pub is : inverse s c d ≡ step ∷ []
  pub splices : IsSplice step
  pub applies : outcome s step next ≡ Ok d
  pub map_is : step_map step ≡ inverted_ranges (step_map c)

pub undone-by : (s : Schema) (c : Step) (d next : Doc) → IsSplice c → Valid s d → outcome s c d ≡ Ok next → Back s c d next
undone-by s (Replace from to sl st) d next h v e = record {
  step = replace_back d from to sl;
  is = refl;
  splices = tt;
  applies = rep.replace-restored s from to sl d next v (rep.replaced s from to sl st d next e);
  map_is = replace-inverse-map s from to sl st d next v e;
}
undone-by s (ReplaceAround from to gf gt sl insert st) d next h v e =
    let o = ordered (ReplaceAround from to gf gt sl insert st) (length d.tokens) h (within s (ReplaceAround from to gf gt sl insert st) d next v e) in
    record {
      step = around_back d from to gf gt sl insert st;
      is = refl;
      splices = λ same. omega (arith, same, o.1);
      applies = aro.around-restored s from to gf gt sl insert st d next v (aro.moved s from to gf gt sl insert st d next e);
      map_is = around-inverse-map s from to gf gt sl insert st d next v e;
    }
undone-by s (AddMark from to mark) d next h v e = absurd h
undone-by s (RemoveMark from to mark) d next h v e = absurd h
undone-by s (AddNodeMark p mark) d next h v e = absurd h
undone-by s (RemoveNodeMark p mark) d next h v e = absurd h
undone-by s (Attr p name value) d next h v e = absurd h
undone-by s (DocAttr name value) d next h v e = absurd h

-- Steps that lead from a document back to the first tokens, with these maps.
pub record Backwards (bs : List Step) (ms : List (List Span)) (now first : List Token) : Type 0 where
  pub ordered : AreOrdered bs
  pub within : AreAllWithin (edits bs) now
  pub tokens : splices bs now ≡ first
  pub maps_are : step_maps bs ≡ ms

one-back : (s : Schema) (c : Step) (d next : Doc) (bs : List Step) (ms : List (List Span)) (first : List Token) → IsSplice c → Valid s d → outcome s c d ≡ Ok next → Backwards bs ms d.tokens first
    → Backwards (inverse s c d ++ bs) (inverted_ranges (step_map c) ∷ ms) next.tokens first
one-back s c d next bs ms first h v e k =
    let b = undone-by s c d next h v e in
    let a = applied s b.step next d b.splices (good s c d next v e) b.applies in
    subst (λ xs. Backwards (xs ++ bs) (inverted_ranges (step_map c) ∷ ms) next.tokens first) (sym b.is) (record {
      ordered = (a.ordered, k.ordered);
      within = (a.within, subst (AreAllWithin (edits bs)) (a.tokens ∙ edit-splice b.step next.tokens a.ordered) k.within);
      tokens = ap (splices bs) (sym a.tokens) ∙ k.tokens;
      maps_are = ap (λ x. x ∷ step_maps bs) b.map_is ∙ ap (λ xs. inverted_ranges (step_map c) ∷ xs) k.maps_are;
    })

all-back : (s : Schema) (es : List Step) (d end : Doc) (bs : List Step) (ms : List (List Span)) (first : List Token) → AreSplices es → Valid s d → fold meaning s d es ≡ Some end → Backwards bs ms d.tokens first
    → Backwards (inverses_onto s d es bs) (backs_onto (step_maps es) ms) end.tokens first
all-back s [] d end bs ms first h v e k =
    let same : d ≡ end = cc in
    subst (λ z. Backwards bs ms z.tokens first) same k
all-back s (c ∷ es) d end bs ms first h v e k =
    let f = fold-cons meaning s d end c es e in
    let i = all-back s es f.0 end (inverse s c d ++ bs) (inverted_ranges (step_map c) ∷ ms) first h.1 (good s c d f.0 v f.1) f.2 (one-back s c d f.0 bs ms first h.0 v f.1 k) in
    subst (λ o. Backwards (then_steps o (λ next. inverses_onto s next es (inverse s c d ++ bs))) (backs_onto (step_maps es) (inverted_ranges (step_map c) ∷ ms)) end.tokens first) (sym f.1) i

pub backwards : (s : Schema) (es : List Step) (d end : Doc) → AreSplices es → Valid s d → fold meaning s d es ≡ Some end → Backwards (inverses s d es) (backs (step_maps es)) end.tokens d.tokens
backwards s es d end h v e = all-back s es d end [] [] d.tokens h v e (record { ordered = tt; within = tt; tokens = refl; maps_are = refl })

-- ---- carried steps as edits

edits-along : (cs : List Step) (gs : List (List (Piece Token))) → AreOrdered cs → IsGrid (step_maps cs) (all_spans gs) → edits (moved_steps (all_spans gs) cs) ≡ along_all (edits cs) gs
edits-along [] gs h k = refl
edits-along (c ∷ cs) gs h k =
    let e = same (all_spans gs) c h.0 k.1 in
    let m = edit-spans c h.0 in
    let i = edits-along cs (edits_beside (step_map c) gs) h.1 (subst (IsGrid (step_maps cs)) (sym (spans-beside (step_map c) gs)) k.2) in
    ap (λ x. x ∷ edits (moved_steps (beside (step_map c) (all_spans gs)) cs)) e.edit_is
    ∙ ap (λ hs. along (all_spans gs) (edit c) ∷ edits (moved_steps hs cs)) (sym (spans-beside (step_map c) gs))
    ∙ ap (λ xs. along (all_spans gs) (edit c) ∷ xs) i
    ∙ ap (λ f. along (all_spans gs) (edit c) ∷ along_all (edits cs) (edits_beside f gs)) (sym m)

pub apart-maps : (cs : List Step) → AreOrdered cs → AreAllApart (step_maps cs)
apart-maps [] h = tt
apart-maps (c ∷ cs) h = (apart-step c h.0, apart-maps cs h.1)

plain-maps : (gs : List (List Span)) → maps_of (unpaired gs) ≡ gs
plain-maps [] = refl
plain-maps (g ∷ gs) = ap (λ z. g ∷ z) (plain-maps gs)

plain-apart : (gs : List (List Span)) → AreAllApart gs → AreApartMaps (unpaired gs)
plain-apart [] h = tt
plain-apart (g ∷ gs) h = (h.0, plain-apart gs h.1)

pub slides-unpaired : (gs : List (List Span)) → AreAllApart gs → Slides (unpaired gs) gs
slides-unpaired gs h = subst (Slides (unpaired gs)) (plain-maps gs) (slides-plain (unpaired gs) (plain-apart gs h))

-- ---- both ways round

-- Two lists of steps from the same tokens, all apart: each is carried over the other, and gives the same.
pub record BothWays (bs ls : List Step) (ts : List Token) : Type 0 where
  pub bs_go : carried (unpaired (step_maps ls)) bs ≡ Some (moved_steps (step_maps ls) bs)
  pub ls_go : carried (unpaired (step_maps bs)) ls ≡ Some (moved_steps (step_maps bs) ls)
  pub same : splices (moved_steps (step_maps ls) bs) (splices ls ts) ≡ splices (moved_steps (step_maps bs) ls) (splices bs ts)

pub both-ways : (bs ls : List Step) (ts : List Token) → AreOrdered bs → AreOrdered ls → AreAllWithin (edits bs) ts → AreAllWithin (edits ls) ts → IsGrid (step_maps ls) (step_maps bs) → BothWays bs ls ts
both-ways bs ls ts h k w v g =
    let f = turned (step_maps bs) (step_maps ls) (apart-maps bs h) g in
    let eb = edits-spans bs h in
    let el = edits-spans ls k in
    let fe : IsGrid (step_maps bs) (all_spans (edits ls)) = subst (IsGrid (step_maps bs)) (sym el) f in
    let ge : IsGrid (step_maps ls) (all_spans (edits bs)) = subst (IsGrid (step_maps ls)) (sym eb) g in
    let bm : edits (moved_steps (step_maps ls) bs) ≡ along_all (edits bs) (edits ls) = ap (λ z. edits (moved_steps z bs)) (sym el) ∙ edits-along bs (edits ls) h fe in
    let lm : edits (moved_steps (step_maps bs) ls) ≡ along_all (edits ls) (edits bs) = ap (λ z. edits (moved_steps z ls)) (sym eb) ∙ edits-along ls (edits bs) k ge in
    record {
      bs_go = carries-all (unpaired (step_maps ls)) (step_maps ls) bs (slides-unpaired (step_maps ls) (apart-maps ls k)) h f;
      ls_go = carries-all (unpaired (step_maps bs)) (step_maps bs) ls (slides-unpaired (step_maps bs) (apart-maps bs h)) k g;
      same =
          edits-splices (moved_steps (step_maps ls) bs) (splices ls ts) (all-ordered (step_maps ls) bs h f)
          ∙ ap (spliced_all (edits (moved_steps (step_maps ls) bs))) (edits-splices ls ts k)
          ∙ ap (λ z. spliced_all z (spliced_all (edits ls) ts)) bm
          ∙ grid (edits bs) (edits ls) ts (subst (λ z. IsGrid z (all_spans (edits ls))) (sym eb) fe) w v
          ∙ ap (λ z. spliced_all z (spliced_all (edits bs) ts)) (sym lm)
          ∙ ap (spliced_all (edits (moved_steps (step_maps bs) ls))) (sym (edits-splices bs ts h))
          ∙ sym (edits-splices (moved_steps (step_maps bs) ls) (splices bs ts) (all-ordered (step_maps bs) ls k g));
    }

some-same : (xs ys : List Step) (o : Option (List Step)) → o ≡ Some xs → o ≡ Some ys → xs ≡ ys
some-same xs ys o e d = let k : Some xs ≡ Some ys = sym e ∙ d in cc

ordered-splices : (cs : List Step) → AreOrdered cs → AreSplices cs
ordered-splices [] k = tt
ordered-splices (c ∷ cs) k = (one c k.0, ordered-splices cs k.1)
  where
    one : (c : Step) → IsOrdered c → IsSplice c
    one (Replace from to sl st) k = tt
    one (ReplaceAround from to gf gt sl insert st) k = λ same. omega (arith, same, k.1)
    one (AddMark from to mark) k = k
    one (RemoveMark from to mark) k = k
    one (AddNodeMark p mark) k = k
    one (RemoveNodeMark p mark) k = k
    one (Attr p name value) k = k
    one (DocAttr name value) k = k

pub undo-leaves : (s : Schema) → UndoLeaves s
undo-leaves s es ls us before mid last end u h k a =
    let e = all-applied s es before mid h u.valid u.event_applies in
    let l = all-applied s ls mid last k e.valid u.later_apply in
    let bs = inverses s before es in
    let b = backwards s es before mid h u.valid u.event_applies in
    let aes = apart-maps es e.ordered in
    let g : IsGrid (step_maps ls) (step_maps bs) =
    grid-of (step_maps ls) (step_maps bs) (apart-maps bs b.ordered) (apart-maps ls l.ordered)
    (subst (λ z. AreApartFrom z (step_maps ls)) (ranges-are (step_maps es) aes ∙ ap ranges_back (sym b.maps_are)) a) in
    let w = both-ways bs ls mid.tokens b.ordered l.ordered b.within l.within g in
    let m = some-same us (moved_steps (step_maps ls) bs) (carried (unpaired (step_maps ls)) bs) u.undo_is w.bs_go in
    let o = all-ordered (step_maps ls) bs b.ordered (turned (step_maps bs) (step_maps ls) (apart-maps bs b.ordered) g) in
    let z = all-applied s (moved_steps (step_maps ls) bs) last end (ordered-splices (moved_steps (step_maps ls) bs) o) l.valid (subst (λ x. fold meaning s last x ≡ Some end) m u.undo_applies) in
    ap (λ ms. spliced_on (carried (unpaired ms) ls) before.tokens) (sym b.maps_are)
    ∙ ap (λ x. spliced_on x before.tokens) w.ls_go
    ∙ ap (λ t. Some (splices (moved_steps (step_maps bs) ls) t)) (sym b.tokens)
    ∙ ap Some (sym w.same)
    ∙ ap (λ t. Some (splices (moved_steps (step_maps ls) bs) t)) (sym l.tokens)
    ∙ ap Some (sym z.tokens)
