-- Lines that are replayed.
use Rattle.std.proofs.Common.{◌≡◌, ◌∙◌, ℕ, ◌+◌, ◌<◌, Bool, true, false, List, [], ◌∷◌, ◌++◌, length, take, drop, get_or, sym, ap, subst, arith}
use Rattle.std.specs.Prelude.{◌≢◌, MatchBool}
use Rattle.std.proofs.lemmas.List.{take-append-drop, take_more, length-take-le, append_assoc}
use Rattle.pm_journal.specs.Journal.{IsRecovered, texts}
use Rattle.pm_journal.specs.declared.recovery.Recovered.{Recovered}
use Rattle.pm_journal.proofs.Lines.{at_rest_recorded}
use Rattle.pm_kept.specs.declared.opening.OpenError.{OpenError}
use Rattle.pm_kept.specs.declared.opening.OpenError.TheVariants as error
use Rattle.pm_kept.specs.Accepted.{Tried}
use Rattle.pm_kept.specs.Means.{Meaning, Laws}
use Rattle.pm_kept.specs.Behind.{Behind}
use Rattle.pm_kept.specs.Opens.{IsNotAccepted, AwaitsMore, OpenFails, ReplayFails}
use Rattle.pm_kept.proofs.Stands.{behind_more}

module _ {S : Type 0} (m : Meaning S) (laws : Laws m) where
  -- a line that changed something was not the last
  goes_on : (was : S) (line text : List ℕ) (more : Bool) (next : S) → m.replies was line text more next → next ≢ was → m.replies was line text true next
  goes_on was line text true next replies other = replies
  goes_on was line text false next replies other = absurd (other (laws.closes was line text next replies))

  -- a line that is accepted stands behind those before it
  pub replayed : (lines : List (List ℕ)) (was : S) (line : List ℕ) (is : Bool) (next : S) → Behind m lines m.start was → Tried m was line is next → is ≡ true
      → Behind m (lines ++ line ∷ []) m.start next
  replayed lines was line is next behind tried held =
      let other = subst (λ (b : Bool). MatchBool b (next ≢ was) (next ≡ was)) held tried.decides in
      behind_more m lines m.start was line tried.text next behind (goes_on was line tried.text tried.more next tried.replies other) other

module _ {S : Type 0} (m : Meaning S) where
  -- and one that is not is told by its number
  pub not_replayed : (lines : List (List ℕ)) (i : ℕ) (was : S) (line : List ℕ) (is : Bool) (next : S) → i < length lines → get_or lines i [] ≡ line
      → Behind m (take i lines) m.start was → Tried m was line is next → is ≡ false → IsNotAccepted m lines (i + 1)
  not_replayed lines i was line is next low there behind tried failed =
      let front : take (i + 1) lines ≡ take i lines ++ line ∷ [] = take_more lines i [] low ∙ ap (λ (l : List ℕ). take i lines ++ l ∷ []) there in
      record {
        before = take i lines;
        line = line;
        later = drop (i + 1) lines;
        split = sym (take-append-drop (i + 1) lines) ∙ ap (λ (ls : List (List ℕ)). ls ++ drop (i + 1) lines) front ∙ append_assoc (take i lines) (line ∷ []) (drop (i + 1) lines);
        place = ap (λ (n : ℕ). n + 1) (sym (length-take-le i lines (omega (arith, low))));
        was = was;
        behind = behind;
        text = tried.text;
        more = tried.more;
        next = next;
        replies = tried.replies;
        same = subst (λ (b : Bool). MatchBool b (next ≢ was) (next ≡ was)) failed tried.decides;
      }

  -- so of the file that has these lines
  pub replay_fails : (e : OpenError) (found : Recovered) (old new : ℕ) (clean : Type 0) (file : List ℕ) → new ≡ old → (clean → IsRecovered found file) → ReplayFails m e (texts found)
      → OpenFails m e old new clean file
  replay_fails (error.Unread e) found old new clean file same is fails = absurd fails
  replay_fails error.Memory found old new clean file same is fails = same
  replay_fails (error.NotAccepted number) found old new clean file same is fails =
      (same, λ c. subst (λ (ls : List (List ℕ)). IsNotAccepted m ls number) (sym (at_rest_recorded (texts found) file (is c).at_rest)) fails)
  replay_fails error.NoDocument found old new clean file same is fails = absurd fails

  pub no_document : (service : S) (found : Recovered) (old new : ℕ) (clean : Type 0) (file : List ℕ) → new ≡ old → (clean → IsRecovered found file) → Behind m (texts found) m.start service
      → m.is_begun service ≡ false → OpenFails m error.NoDocument old new clean file
  no_document service found old new clean file same is behind closed =
      (same, λ c. subst (AwaitsMore m) (sym (at_rest_recorded (texts found) file (is c).at_rest)) (service, behind, closed))
