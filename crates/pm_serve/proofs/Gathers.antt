-- A line as it is gathered.
use Rattle.std.proofs.Common.{◌≡◌, ◌≢◌, ◌≤◌, ◌+◌, ◌++◌, ◌∙◌, ℕ, suc, false, List, [], ◌∷◌, length, take, refl, ap, sym, append_assoc, arith}
use Rattle.std.specs.Prelude.{Option, None, Some}
use Rattle.std.proofs.lemmas.List.{append-nil, length-append}
use Rattle.std.specs.Io.KnownBytes.{Consumes, IsAtEnd}
use Rattle.std.proofs.KnownBytes.{Consumes-trans}
use Rattle.pm_io.proofs.Chains.{Consumes-stop}
use Rattle.pm_serve.specs.declared.unread.TheConstants.{KEPT}
use Rattle.pm_serve.specs.declared.reader.Came.{Came}
use Rattle.pm_serve.specs.declared.reader.Came.TheVariants.{Line, Last, End, Failed, Spent}
use Rattle.pm_serve.specs.Bytes.{has_lf, Passed, PassedAll}
use Rattle.pm_serve.specs.Pieces.{Gave, AskedInTime}
use Rattle.pm_serve.specs.Reads.{LineCame, EndCame, PartCame, LongCame, Reads, IsLast, most}
use Rattle.pm_serve.proofs.Cuts.{kept-more, no_lf-append}
use Rattle.pm_serve.proofs.Timely.{Asked, none-asked, asked-more, so-far}

-- What was there and what was taken is what was passed on to the line, without LF, and what is there now. Each read was in time.
-- So many reads gave a byte each, or more.
pub record Gathered (count : ℕ) (left rest : Option (List ℕ)) (old new : Option (List (List ℕ))) (before now line : List ℕ) : Type 0 where
  pub taken : List ℕ
  pub passed : List ℕ
  pub took : Consumes left rest taken
  pub split : before ++ taken ≡ passed ++ now
  pub one : has_lf passed ≡ false
  pub kept : line ≡ take KEPT passed
  pub asked : Asked old new before taken
  pub counted : count ≤ length taken

none-taken : (left : Option (List ℕ)) → Consumes left left []
none-taken None = tt
none-taken (Some xs) = refl

pub start : (left : Option (List ℕ)) (old : Option (List (List ℕ))) (before line : List ℕ) → line ≡ [] → Gathered 0 left left old old before before line
start left old before line e = record {
  taken = [];
  passed = [];
  took = none-taken left;
  split = append-nil before;
  one = refl;
  kept = e;
  asked = none-asked old before;
  counted = omega arith;
}

kept-on : (line line_new passed more : List ℕ) → line ≡ take KEPT passed → line_new ≡ take KEPT (line ++ more) → line_new ≡ take KEPT (passed ++ more)
kept-on line line_new passed more k e = e ∙ ap (λ l. take KEPT (l ++ more)) k ∙ kept-more KEPT passed more

pub whole-line : (count : ℕ) (left rest : Option (List ℕ)) (old new : Option (List (List ℕ))) (before now after line line_new : List ℕ) → Gathered count left rest old new before now line → Passed now after line line_new → LineCame left rest before after line_new
whole-line count left rest old new before now after line line_new g p = record {
  taken = g.taken;
  whole = g.passed ++ p.front;
  took = g.took;
  split = g.split ∙ ap (λ r. g.passed ++ r) p.split ∙ sym (append_assoc g.passed p.front (10 ∷ after));
  one = no_lf-append g.passed p.front g.one p.one;
  kept = kept-on line line_new g.passed p.front g.kept p.kept;
}

-- all that was there was passed on
pub further : (count : ℕ) (left rest : Option (List ℕ)) (old new : Option (List (List ℕ))) (before now after line line_new : List ℕ) → Gathered count left rest old new before now line → PassedAll now after line line_new → Gathered count left rest old new before [] line_new
further count left rest old new before now after line line_new g p = record {
  taken = g.taken;
  passed = g.passed ++ now;
  took = g.took;
  split = g.split ∙ sym (append-nil (g.passed ++ now));
  one = no_lf-append g.passed now g.one p.no_lf;
  kept = kept-on line line_new g.passed now g.kept p.kept;
  asked = g.asked;
  counted = g.counted;
}

-- all that came was passed on, and had no LF
passed-on : (count : ℕ) (left rest : Option (List ℕ)) (old new : Option (List (List ℕ))) (before line : List ℕ) (g : Gathered count left rest old new before [] line) → has_lf (before ++ g.taken) ≡ false
passed-on count left rest old new before line g = ap has_lf (g.split ∙ append-nil g.passed) ∙ g.one

-- bytes that are some count for one read
more-counted : (count : ℕ) (taken bytes : List ℕ) → count ≤ length taken → bytes ≢ [] → count + 1 ≤ length (taken ++ bytes)
more-counted count taken [] h n = absurd (n refl)
more-counted count taken (b ∷ bytes) h n = omega (arith, length-append taken (b ∷ bytes))

-- more bytes came
pub filled : (count : ℕ) (left rest then : Option (List ℕ)) (old new newer : Option (List (List ℕ))) (before line bytes : List ℕ) → Gathered count left rest old new before [] line → Consumes rest then bytes → Gave new newer (bytes ∷ []) → bytes ≢ [] → Gathered (count + 1) left then old newer before bytes line
filled count left rest then old new newer before line bytes g c p n = record {
  taken = g.taken ++ bytes;
  passed = g.passed;
  took = Consumes-trans left rest then g.taken bytes g.took c;
  split = sym (append_assoc before g.taken bytes) ∙ ap (λ r. r ++ bytes) (g.split ∙ append-nil g.passed);
  one = g.one;
  kept = g.kept;
  asked = asked-more old new newer before g.taken bytes g.asked (passed-on count left rest old new before line g) p;
  counted = more-counted count g.taken bytes g.counted n;
}

-- the input ended
pub ended : (count : ℕ) (left rest then : Option (List ℕ)) (old new : Option (List (List ℕ))) (before after line : List ℕ) → Gathered count left rest old new before [] line → Consumes rest then [] → IsAtEnd then → after ≡ [] → EndCame left then before after line
ended count left rest then old new before after line g c e n = record {
  taken = g.taken;
  whole = g.passed;
  took = Consumes-stop left rest then g.taken g.took c;
  split = g.split ∙ append-nil g.passed;
  one = g.one;
  kept = g.kept;
  over = e;
  none_left = n;
}

pub part : (count : ℕ) (left rest then : Option (List ℕ)) (old new : Option (List (List ℕ))) (before : List ℕ) (line : List ℕ) → Gathered count left rest old new before [] line → Consumes rest then [] → PartCame left then before
part count left rest then old new before line g c = record {
  taken = g.taken;
  took = Consumes-stop left rest then g.taken g.took c;
}

-- so many reads, and no line
pub long-came : (count : ℕ) (left rest : Option (List ℕ)) (old new : Option (List (List ℕ))) (before now line : List ℕ) → Gathered count left rest old new before now line
    → most ≤ count → LongCame left rest before now
long-came count left rest old new before now line g m = record {
  taken = g.taken;
  took = g.took;
  is_long = record { whole = g.passed; split = g.split; one = g.one; long = let h = g.counted in omega arith };
}

-- how the reads were made, so far and with one more
pub asked-now : (count : ℕ) (left rest : Option (List ℕ)) (old new : Option (List (List ℕ))) (before now line : List ℕ) → Gathered count left rest old new before now line → AskedInTime before old new
asked-now count left rest old new before now line g = so-far old new before g.taken g.asked

pub asked-then : (count : ℕ) (left rest : Option (List ℕ)) (old new newer : Option (List (List ℕ))) (before line piece : List ℕ) → Gathered count left rest old new before [] line → Gave new newer (piece ∷ []) → AskedInTime before old newer
asked-then count left rest old new newer before line piece g p =
    so-far old newer before (g.taken ++ piece) (asked-more old new newer before g.taken piece g.asked (passed-on count left rest old new before line g) p)

pub at-end : (came : Came) (left rest : Option (List ℕ)) (before after line : List ℕ) → IsLast came line → EndCame left rest before after line → Reads came left rest before after line
at-end Line left rest before after line i e = absurd i
at-end Last left rest before after line i e = (e, i)
at-end End left rest before after line i e = (e, i)
at-end Failed left rest before after line i e = absurd i
at-end Spent left rest before after line i e = absurd i
