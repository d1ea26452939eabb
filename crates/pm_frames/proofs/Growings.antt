-- Frames and mappings grow as what they stand for does.
use Rattle.std.specs.Prelude.{◌≡◌, ℕ, ◌<◌, ◌^◌, List, length, Result, Ok, Err, OnOk, None}
use Rattle.std.proofs.Common.{ap, subst, ◌∙◌}
use Rattle.pm_map.specs.declared.step_map.Span.{Span}
use Rattle.pm_map.specs.declared.mapping.Mirrored.{Mirrored}
use Rattle.pm_map.specs.Through.{ArePaired}
use Rattle.pm_map.specs.Mirrors.{pushed, fronted, enclosed, gap_for}
use Rattle.pm_map.specs.Fits.{FitsSizes}
use Rattle.pm_map.specs.Positions.{IsItself}
use Rattle.pm_map.proofs.Sizes.{fit-front, fit-behind}
use Rattle.pm_frames.specs.declared.frames.Frames.{Frames}
use Rattle.pm_frames.specs.Stacks.{Reads, Leads}
use Rattle.pm_frames.specs.Growing.{HasPushed, HasFronted, HasEnclosed}

pub on-ok-then : {A E P Q : Type 0} (r : Result A E) → (P → Q) → OnOk r P → OnOk r Q
on-ok-then (Ok x) f h = f h
on-ok-then (Err e) f h = tt

pub frames-behind : (f g : Frames) (map : List Span) → ((ms : List Mirrored) (n l k : ℕ) → k < 2 ^ 32 → FitsSizes map l k → Reads f ms n l → Reads g (pushed ms map) n k)
    → HasPushed Leads f map g
frames-behind f g map step = λ ms n l k small fits h. record {
  reads = step ms n l k small fits h.reads;
  fits = fit-behind ms map n l k small fits h.fits;
}

pub frames-in-front : (f g : Frames) (front : List Span) → ((ms : List Mirrored) (n m k : ℕ) → n < 2 ^ 32 → FitsSizes front n m → Reads f ms m k → Reads g (fronted ms front) n k)
    → HasFronted Leads f front g
frames-in-front f g front step = λ ms n m k small fits h. record {
  reads = step ms n m k small fits h.reads;
  fits = fit-front ms front None n m k small fits h.fits;
}

pub frames-around : (f g : Frames) (front behind : List Span)
    → ((ms : List Mirrored) (n m l k : ℕ) → n < 2 ^ 32 → k < 2 ^ 32 → FitsSizes front n m → FitsSizes behind l k → Reads f ms m l → Reads g (enclosed ms front behind) n k)
    → HasEnclosed Leads f front behind g
frames-around f g front behind step = λ ms n m l k small end fits after h. record {
  reads = step ms n m l k small end fits after h.reads;
  fits = fit-front (pushed ms behind) front (gap_for front (length ms)) n m k small fits (fit-behind ms behind m l k end after h.fits);
}

pub mapping-behind : (old new : List Mirrored) (map : List Span) → new ≡ pushed old map → ArePaired new → HasPushed IsItself old map new
mapping-behind old new map is paired = λ ms n l k small fits h.
    let same = is ∙ ap (λ (x : List Mirrored). pushed x map) h.is in
    record { is = same; paired = subst ArePaired same paired; fits = fit-behind ms map n l k small fits h.fits }

pub mapping-around : (old new : List Mirrored) (front behind : List Span) → new ≡ enclosed old front behind → ArePaired new → HasEnclosed IsItself old front behind new
mapping-around old new front behind is paired = λ ms n m l k small end fits after h.
    let same = is ∙ ap (λ (x : List Mirrored). enclosed x front behind) h.is in
    record {
      is = same;
      paired = subst ArePaired same paired;
      fits = fit-front (pushed ms behind) front (gap_for front (length ms)) n m k small fits (fit-behind ms behind m l k end after h.fits);
    }
