-- One line of a session, and the works of the members before and after it.
use Rattle.std.proofs.Common.{◌≡◌, ◌≢◌, ℕ, true, false, cond, List, [], ◌∷◌, map, Option, None, Some, slice_get, Result, refl, sym, ap, ◌∙◌, subst, eq-eqb, ne_eqb}
use Rattle.std.specs.Prelude.{is_some}
use Rattle.pm_change.specs.Changes.{Meaning}
use Rattle.pm_change.specs.declared.no_step.NoStep.{NoStep}
use Rattle.pm_authority.specs.declared.authority.Authority.{Authority}
use Rattle.pm_authority.specs.declared.machine.Request.{Request}
use Rattle.pm_authority.specs.declared.message.Message.{Message}
use Rattle.pm_authority.specs.declared.message.Answer.{Answer}
use Rattle.pm_desk.specs.declared.history.Past.{Past}
use Rattle.pm_desk.specs.Histories.{state_at, calls_of}
use Rattle.pm_session.specs.declared.line.Line.{Line}
use Rattle.pm_session.specs.declared.member.Member.{Member}
use Rattle.pm_session.specs.declared.outcome.Outcome.{Outcome}
use Rattle.pm_session.specs.Events.{State, placed, by_some, by_answer, asked, finished, acted, played}
use Rattle.pm_workers.specs.Threads.{presents, after_request, reply_to}
use Rattle.pm_workers.specs.Works.{answers_of, works, answer_to, answers_after, with_message}

none-of : {A : Type 0} (o : Option A) → is_some o ≡ false → o ≡ None
none-of None e = refl
none-of (Some x) e = absurd (cc)

some-of : {A : Type 0} (o : Option A) → is_some o ≡ true → (x : A) × (o ≡ Some x)
some-of None e = absurd (cc)
some-of (Some x) e = (x, refl)

-- a request of client i
abbrev pub request : {C : Type 0} → ℕ → Message C → Request C
request i message = record { client = i; message = message }

module _ {A M R Q : Type 0} (next : R → M → Q → M) (reply : R → M → Q → A) (rules : R) (i : ℕ) (a : M) (e : Past Q) (es : List (Past Q)) where
  pub answers-here : e.seat ≡ i → answers_of next reply rules i a (e ∷ es) ≡ reply rules a e.request ∷ answers_of next reply rules i (next rules a e.request) es
  answers-here is =
      ap (λ b. cond b (reply rules a e.request ∷ answers_of next reply rules i (next rules a e.request) es) (answers_of next reply rules i (next rules a e.request) es)) (eq-eqb e.seat i is)

  pub answers-there : e.seat ≢ i → answers_of next reply rules i a (e ∷ es) ≡ answers_of next reply rules i (next rules a e.request) es
  answers-there ne =
      ap (λ b. cond b (reply rules a e.request ∷ answers_of next reply rules i (next rules a e.request) es) (answers_of next reply rules i (next rules a e.request) es)) (ne_eqb e.seat i ne)

module _ {Q : Type 0} (i : ℕ) (e : Past Q) (es : List (Past Q)) where
  pub calls-here : e.seat ≡ i → calls_of i (e ∷ es) ≡ e.request ∷ calls_of i es
  calls-here is = ap (λ b. cond b (e.request ∷ calls_of i es) (calls_of i es)) (eq-eqb e.seat i is)

  pub calls-there : e.seat ≢ i → calls_of i (e ∷ es) ≡ calls_of i es
  calls-there ne = ap (λ b. cond b (e.request ∷ calls_of i es) (calls_of i es)) (ne_eqb e.seat i ne)

module _ {Rules Doc Reason C : Type 0} (m : Meaning Rules Doc Reason C) (rules : Rules) where
  -- an authority's answers to client i's calls of a history
  abbrev pub answers_to : ℕ → Authority C Rules Doc Reason → List (Past (Request C)) → List (Answer C Rules Doc Reason)
  answers_to i a h = answers_of (after_request m) (reply_to m) rules i a h

module _ {Rules Doc Reason C Op : Type 0} (m : Meaning Rules Doc Reason C) (rules : Rules) (makes : Doc → Op → Result (List C) NoStep) where
  -- Along these lines the act tells whether a message is presented.
  abbrev pub Tells : List (Line Op C) → Member C Rules Doc Reason → List (Answer C Rules Doc Reason) → Type 0
  Tells [] x answers = Unit {0}
  Tells (line ∷ lines) x answers =
      (is_some (asked line.act x) ≡ presents line.act)
      × Tells lines (finished m rules makes line.act x (answer_to (asked line.act x) answers)).1 (answers_after (asked line.act x) answers)

  -- These calls are those that the lines of client i make where they get these answers.
  pub record Makes (i : ℕ) (x : Member C Rules Doc Reason) (lines : List (Line Op C)) (answers : List (Answer C Rules Doc Reason)) (asks : List (Request C)) : Type 0 where
    pub tells : Tells lines x answers
    pub calls : asks ≡ map (request i) (works m rules makes lines x answers).messages

  pub makes-at : (i : ℕ) (x : Member C Rules Doc Reason) (xs ys : List (Line Op C)) (rs ts : List (Answer C Rules Doc Reason)) (cs ds : List (Request C))
      → xs ≡ ys → rs ≡ ts → cs ≡ ds → Makes i x xs rs cs → Makes i x ys ts ds
  makes-at i x xs ys rs ts cs ds e f g h =
      subst (λ l. Makes i x l ts ds) e (subst (λ l. Makes i x xs l ds) f (subst (λ l. Makes i x xs rs l) g h))

  -- a line that presents nothing
  makes-alone : (i : ℕ) (x : Member C Rules Doc Reason) (line : Line Op C) (lines : List (Line Op C)) (answers : List (Answer C Rules Doc Reason)) (calls : List (Request C))
      → presents line.act ≡ false → Makes i x (line ∷ lines) answers calls
      → (asked line.act x ≡ None) × Makes i (finished m rules makes line.act x None).1 lines answers calls
  makes-alone i x line lines answers calls quiet h =
      let e : asked line.act x ≡ None = none-of (asked line.act x) (h.tells.0 ∙ quiet) in (
        e,
        record {
          tells = subst (λ o. Tells lines (finished m rules makes line.act x (answer_to o answers)).1 (answers_after o answers)) e h.tells.1;
          calls = h.calls ∙ ap (λ o. map (request i) (with_message o (works m rules makes lines (finished m rules makes line.act x (answer_to o answers)).1 (answers_after o answers)).messages)) e;
        },
      )

  -- a line that presents a message
  makes-call : (i : ℕ) (x : Member C Rules Doc Reason) (line : Line Op C) (lines : List (Line Op C)) (r : Answer C Rules Doc Reason) (answers : List (Answer C Rules Doc Reason))
      (q : Request C) (calls : List (Request C)) → presents line.act ≡ true → Makes i x (line ∷ lines) (r ∷ answers) (q ∷ calls)
      → (asked line.act x ≡ Some q.message) × Makes i (finished m rules makes line.act x (Some r)).1 lines answers calls
  makes-call i x line lines r answers q calls speaks h =
      let s = some-of (asked line.act x) (h.tells.0 ∙ speaks) in
      let next = (finished m rules makes line.act x (Some r)).1 in
      let all : q ∷ calls ≡ request i s.0 ∷ map (request i) (works m rules makes lines next answers).messages =
      h.calls ∙ ap (λ o. map (request i) (with_message o (works m rules makes lines (finished m rules makes line.act x (answer_to o (r ∷ answers))).1 (answers_after o (r ∷ answers))).messages)) s.1 in
      let one : q ≡ request i s.0 = cc in
      let rest : calls ≡ map (request i) (works m rules makes lines next answers).messages = cc in (
        s.1 ∙ ap Some (sym (ap (λ (p : Request C). p.message) one)),
        record {
          tells = subst (λ o. Tells lines (finished m rules makes line.act x (answer_to o (r ∷ answers))).1 (answers_after o (r ∷ answers))) s.1 h.tells.1;
          calls = rest;
        },
      )

  -- The first of a client's lines, at a room and a history, of which `left` is then left: what it comes to, and that the
  -- client's other lines go on from there. To no other client anything changes.
  pub record Stepped (s : State C Rules Doc Reason) (h : List (Past (Request C))) (line : Line Op C) (x : Member C Rules Doc Reason) (lines : List (Line Op C)) (left : List (Past (Request C))) : Type 0 where
    pub outcome : Outcome C Rules Doc Reason
    pub member : Member C Rules Doc Reason
    pub authority : Authority C Rules Doc Reason
    pub played_is : played m rules makes s line ≡ (outcome, placed s line.client authority member)
    pub state_is : state_at (after_request m) rules s.authority h ≡ state_at (after_request m) rules authority left
    pub goes_on : Makes line.client member lines (answers_to m rules line.client authority left) (calls_of line.client left)
    pub outcomes_are : (works m rules makes (line ∷ lines) x (answers_to m rules line.client s.authority h)).outcomes ≡ outcome ∷ (works m rules makes lines member (answers_to m rules line.client authority left)).outcomes
    pub member_is : (works m rules makes (line ∷ lines) x (answers_to m rules line.client s.authority h)).member ≡ (works m rules makes lines member (answers_to m rules line.client authority left)).member
    pub same_answers : (i : ℕ) → line.client ≢ i → answers_to m rules i s.authority h ≡ answers_to m rules i authority left
    pub same_calls : (i : ℕ) → line.client ≢ i → calls_of i h ≡ calls_of i left

  played-by : (s : State C Rules Doc Reason) (line : Line Op C) (x : Member C Rules Doc Reason) (o : Option (Message C)) → slice_get s.members line.client ≡ Some x → asked line.act x ≡ o
      → played m rules makes s line
      ≡ (
        (by_answer m rules s.authority o (finished m rules makes line.act x)).0,
        placed s line.client (by_answer m rules s.authority o (finished m rules makes line.act x)).1 (by_answer m rules s.authority o (finished m rules makes line.act x)).2,
      )
  played-by s line x o at e =
      ap (λ y. by_some s line.client y (acted m rules makes s.authority line.act)) at
      ∙ ap (λ z. (
        (by_answer m rules s.authority z (finished m rules makes line.act x)).0,
        placed s line.client (by_answer m rules s.authority z (finished m rules makes line.act x)).1 (by_answer m rules s.authority z (finished m rules makes line.act x)).2,
      )) e

  works-by : (line : Line Op C) (lines : List (Line Op C)) (x : Member C Rules Doc Reason) (rs : List (Answer C Rules Doc Reason)) (o : Option (Message C)) → asked line.act x ≡ o
      → ((works m rules makes (line ∷ lines) x rs).outcomes
      ≡ (finished m rules makes line.act x (answer_to o rs)).0 ∷ (works m rules makes lines (finished m rules makes line.act x (answer_to o rs)).1 (answers_after o rs)).outcomes)
      × ((works m rules makes (line ∷ lines) x rs).member ≡ (works m rules makes lines (finished m rules makes line.act x (answer_to o rs)).1 (answers_after o rs)).member)
  works-by line lines x rs o e = (
    ap (λ z. (finished m rules makes line.act x (answer_to z rs)).0 ∷ (works m rules makes lines (finished m rules makes line.act x (answer_to z rs)).1 (answers_after z rs)).outcomes) e,
    ap (λ z. (works m rules makes lines (finished m rules makes line.act x (answer_to z rs)).1 (answers_after z rs)).member) e,
  )

  -- a line that presents nothing leaves the authority and the history
  pub alone : (s : State C Rules Doc Reason) (h : List (Past (Request C))) (line : Line Op C) (x : Member C Rules Doc Reason) (lines : List (Line Op C))
      → slice_get s.members line.client ≡ Some x → presents line.act ≡ false → Makes line.client x (line ∷ lines) (answers_to m rules line.client s.authority h) (calls_of line.client h)
      → Stepped s h line x lines h
  alone s h line x lines at quiet fits =
      let rs = answers_to m rules line.client s.authority h in
      let one = makes-alone line.client x line lines rs (calls_of line.client h) quiet fits in
      let w = works-by line lines x rs None one.0 in
      record {
        outcome = (finished m rules makes line.act x None).0;
        member = (finished m rules makes line.act x None).1;
        authority = s.authority;
        played_is = played-by s line x None at one.0;
        state_is = refl;
        goes_on = one.1;
        outcomes_are = w.0;
        member_is = w.1;
        same_answers = λ i ne. refl;
        same_calls = λ i ne. refl;
      }

  -- a line that presents a message makes the first call of the history
  pub call : (s : State C Rules Doc Reason) (e : Past (Request C)) (h : List (Past (Request C))) (line : Line Op C) (x : Member C Rules Doc Reason) (lines : List (Line Op C))
      → slice_get s.members line.client ≡ Some x → presents line.act ≡ true → e.seat ≡ line.client
      → Makes line.client x (line ∷ lines) (answers_to m rules line.client s.authority (e ∷ h)) (calls_of line.client (e ∷ h))
      → Stepped s (e ∷ h) line x lines h
  call s e h line x lines at speaks seat fits =
      let a = after_request m rules s.authority e.request in
      let r = reply_to m rules s.authority e.request in
      let rs = answers_to m rules line.client a h in
      let told : answers_to m rules line.client s.authority (e ∷ h) ≡ r ∷ rs = answers-here (after_request m) (reply_to m) rules line.client s.authority e h seat in
      let asks : calls_of line.client (e ∷ h) ≡ e.request ∷ calls_of line.client h = calls-here line.client e h seat in
      let now = makes-at line.client x (line ∷ lines) (line ∷ lines) (answers_to m rules line.client s.authority (e ∷ h)) (r ∷ rs) (calls_of line.client (e ∷ h)) (e.request ∷ calls_of line.client h) refl told asks fits in
      let one = makes-call line.client x line lines r rs e.request (calls_of line.client h) speaks now in
      let w = works-by line lines x (r ∷ rs) (Some e.request.message) one.0 in
      record {
        outcome = (finished m rules makes line.act x (Some r)).0;
        member = (finished m rules makes line.act x (Some r)).1;
        authority = a;
        played_is = played-by s line x (Some e.request.message) at one.0;
        state_is = refl;
        goes_on = one.1;
        outcomes_are = ap (λ l. (works m rules makes (line ∷ lines) x l).outcomes) told ∙ w.0;
        member_is = ap (λ l. (works m rules makes (line ∷ lines) x l).member) told ∙ w.1;
        same_answers = λ i ne. answers-there (after_request m) (reply_to m) rules i s.authority e h (λ q. ne (sym seat ∙ q));
        same_calls = λ i ne. calls-there i e h (λ q. ne (sym seat ∙ q));
      }
