-- So it is of talks with a limit of work: behind lines they stand as those without.
use Rattle.std.proofs.Common.{◌≡◌, ◌∙◌, ℕ, true, List, [], ◌∷◌, refl, ap, subst}
use Rattle.std.specs.Prelude.{Option, None}
use Rattle.pm_journal.specs.Lines.{recorded}
use Rattle.pm_talk.specs.declared.limited.Limited.{Limited}
use Rattle.pm_talk.specs.declared.talk.Talk.{Talk}
use Rattle.pm_talk.specs.declared.talk.Talk.TheVariants.{AwaitsSchema}
use Rattle.pm_talk.specs.Talk.{Replies}
use Rattle.pm_talk.specs.Limited.{RepliesBelow}
use Rattle.pm_kept.specs.Behind.{Behind, Keeps}
use Rattle.pm_kept.specs.Means.{unlimited}
use Rattle.pm_kept.specs.Opens.{IsNotAccepted}
use Rattle.pm_kept.specs.Laws.{AllStandAlike, AllAcceptedAgain, Reopens, AllReopen}
use Rattle.pm_kept.specs.Talks.{talk_meaning}
use Rattle.pm_kept.specs.LimitedTalks.{limited_meaning, same_limited}
use Rattle.pm_kept.proofs.Alike.{talks-stand-alike, talks-accepted-again, talks-reopen}

-- what is answered where there is no limit
plain : (limit : Option ℕ) (talk : Talk) (line text : List ℕ) (next : Talk) → limit ≡ None → RepliesBelow limit talk line text true next → Replies talk line text true next
plain limit talk line text next none replies = subst (λ (l : Option ℕ). RepliesBelow l talk line text true next) none replies

-- Behind lines that began without a limit there is none, and the talk stands behind them.
behind-talk : (lines : List (List ℕ)) (first now : Limited) → first.limit ≡ None → Behind limited_meaning lines first now
    → Behind talk_meaning lines first.talk now.talk × (now.limit ≡ None)
behind-talk [] first now none is = (ap (λ (t : Limited). t.talk) is, ap (λ (t : Limited). t.limit) is ∙ none)
behind-talk (line ∷ lines) first now none is =
    let next = is.1 in
    let rest = behind-talk lines next now (is.2.1 ∙ none) is.4 in (
      (is.0, next.talk, plain first.limit first.talk line is.0 next.talk none is.2.0, λ same. is.3 (same_limited next first same is.2.1), rest.0),
      rest.1,
    )

not-accepted : (lines : List (List ℕ)) (number : ℕ) → IsNotAccepted limited_meaning lines number → IsNotAccepted talk_meaning lines number
not-accepted lines number n =
    let behind = behind-talk n.before limited_meaning.start n.was refl n.behind in
    record {
      before = n.before;
      line = n.line;
      later = n.later;
      split = n.split;
      place = n.place;
      was = n.was.talk;
      behind = behind.0;
      text = n.text;
      more = n.more;
      next = n.next.talk;
      replies = subst (λ (l : Option ℕ). RepliesBelow l n.was.talk n.line n.text n.more n.next.talk) behind.1 n.replies.0;
      same = ap (λ (t : Limited). t.talk) n.same;
    }

pub all-stand-alike : AllStandAlike
all-stand-alike lines t other a b =
    talks-stand-alike lines t.talk other.talk (behind-talk lines limited_meaning.start t refl a).0 (behind-talk lines limited_meaning.start other refl b).0

pub all-accepted-again : AllAcceptedAgain limited_meaning
all-accepted-again lines t behind number n =
    talks-accepted-again lines t.talk (behind-talk lines limited_meaning.start t refl behind).0 number (not-accepted lines number n)

reopens : (file : List ℕ) (t : Limited) (lines : List (List ℕ)) → Keeps limited_meaning file t lines → Reopens limited_meaning file
reopens file t lines keeps =
    let behind : Behind talk_meaning lines AwaitsSchema t.talk = (behind-talk lines limited_meaning.start (unlimited limited_meaning t) refl keeps.behind).0 in
    let is : Keeps talk_meaning file t.talk lines = record { found = keeps.found; behind = behind } in
    let r = talks-reopen file (t.talk, lines, is) in
    record {
      accepted = λ number n. r.accepted number (not-accepted (recorded file) number n);
      opens = λ some m. r.opens some (m.0.talk, (behind-talk (recorded file) limited_meaning.start m.0 refl m.1).0, m.2);
    }

pub all-reopen : AllReopen limited_meaning
all-reopen file some = reopens file some.0 some.1 some.2
