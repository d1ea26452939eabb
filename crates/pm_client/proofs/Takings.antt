-- Taking an answer keeps how a client stands to the log.
use Rattle.std.specs.Prelude.{◌≡◌, ◌≢◌, ℕ, zero, suc, ◌+◌, ◌-◌, ◌≤◌, ◌<◌, ◌⊎◌, ◌==◌, nat_le, if◌then◌else◌, Bool, true, false, List, [], ◌∷◌, ◌++◌, length, take, drop, Option, Some, None, refl, slice_get, slice_index_or}
use Rattle.std.specs.List.{AllByRecursion as Each}
use Rattle.std.proofs.Common.{sym, ap, ◌∙◌, subst, inl, inr, arith, length-append, length-drop}
use Rattle.std.proofs.Math.Seq.{drop-append_seam}
use Rattle.std.proofs.lemmas.Bool.{eq-eqb, eqb-true, eqb-false, leb-false}
use Rattle.pm_change.specs.Changes.{Meaning, Laws, fold}
use Rattle.pm_authority.specs.declared.named.Named.{Named}
use Rattle.pm_authority.specs.declared.message.Answer.{Answer}
use Rattle.pm_authority.specs.declared.message.Answer.TheVariants.{Accepted, WrongVersion, StepRefused, Entries}
use Rattle.pm_authority.specs.Runs.{changes_of}
use Rattle.pm_client.specs.declared.client.Client.{Client}
use Rattle.pm_client.specs.declared.taken.Taken.{Taken}
use Rattle.pm_client.specs.declared.taken.Taken.TheVariants.{Confirmed, Rebased, Stale}
use Rattle.pm_client.specs.Clients.{own_run, given, confirmed, brought, carried, confirmed_first, others_taken, rest_taken, taken, taken_if, taken_at, answer_at}
use Rattle.pm_client.specs.Rebases.{Rebasing, maps_of, start, rebased}
use Rattle.pm_client.specs.Kins.{IsOwn, IsForeign, AnswerStands, Kin}
use Rattle.pm_client.proofs.Lists.{Each-front, take-seam, part-past, two-parts}
use Rattle.pm_client.proofs.Keeps.{kin-confirmed, kin-brought}

-- the leading own steps of own steps and then others' are the own steps
pub own_run-is : {C : Type 0} (client : ℕ) (standing front : List (Named C)) → Each (IsOwn client) standing → Each (IsForeign client) front
    → own_run client (standing ++ front) ≡ length standing
own_run-is client [] [] o f = refl
own_run-is client [] (n ∷ front) o f = by-test (n.name.client == client) refl
  where
    by-test : (b : Bool) → (n.name.client == client) ≡ b → (if b then own_run client front + 1 else 0) ≡ 0
    by-test true e = absurd (f.0 (eqb-true n.name.client client e))
    by-test false e = refl
own_run-is client (n ∷ standing) front o f =
    let e : (n.name.client == client) ≡ true = eq-eqb n.name.client client o.0 in
    rw (e, own_run-is client standing front o.1 f) (let x : length standing + 1 ≡ suc (length standing) = omega arith in x)

module _ {Rules Doc Reason C : Type 0} (m : Meaning Rules Doc Reason C) (rules : Rules) (first : Doc) (log : List (Named C))
    (c : Client C Rules Doc Reason) (kin : Kin m rules first log c) where
  -- the entries past the version: the standing steps, and some others'
  pub record Rest (rest : List (Named C)) : Type 0 where
    pub front : List (Named C)
    pub after : List (Named C)
    pub rest_is : rest ≡ kin.stands.standing ++ front
    pub foreign_is : kin.stands.foreign ≡ front ++ after
    pub own_is : own_run c.name rest ≡ kin.standing

  pub rest-of : (since : ℕ) (entries : List (Named C))
      → AnswerStands {Rules = Rules} {Doc = Doc} {Reason = Reason} {C = C} log c.version kin.standing (Entries since entries)
      → c.version < since + length entries → Rest (drop (c.version - since) entries)
  rest-of since entries (low, part, ends) past =
      let s = kin.stands in
      let rest : List (Named C) = drop (c.version - since) entries in
      let at : length kin.before - length part.0 ≡ c.version - since = omega (arith, kin.version_is, part.2) in
      let whole : rest ++ part.1 ≡ kin.past =
      rw at at (part-past part.0 entries part.1 kin.before kin.past (part.3 ∙ kin.log_is) (omega (arith, kin.version_is, part.2, low)) (omega (arith, kin.version_is, part.2, past))) in
      let long : length s.standing ≤ length rest = omega (arith, s.counted, far ends, length-drop (c.version - since) entries, low) in
      let p = two-parts rest part.1 s.standing s.foreign (whole ∙ s.past_is) long in
      record {
        front = p.0;
        after = part.1;
        rest_is = p.1;
        foreign_is = p.2;
        own_is = ap (own_run c.name) p.1
            ∙ own_run-is c.name s.standing p.0 (Each-front (IsOwn c.name) s.standing s.later (rw s.pending_is at kin.own)) (Each-front (IsForeign c.name) p.0 part.1 (rw p.2 at s.are_foreign))
            ∙ s.counted;
      }
    where
      far : ((since + length entries ≤ c.version) ⊎ (c.version + kin.standing ≤ since + length entries)) → c.version + kin.standing ≤ since + length entries
      far (inl h) = absurd (omega arith)
      far (inr h) = h

  -- What holds of the client, of the client with its standing steps confirmed, and of it with the later ones carried over
  -- others' entries holds of it once it took an answer that stands.
  module _ (Q : Client C Rules Doc Reason → Type 0) (now : Q c)
      (confirms : (base : Doc) → 0 < kin.standing → fold m rules c.base (changes_of kin.stands.standing) ≡ Some base → Q (confirmed c kin.standing base))
      (brings : (base : Doc) (front back : List (Named C)) (r : Rebasing C Rules Doc Reason) → 0 < length front → kin.stands.foreign ≡ front ++ back
      → fold m rules c.base (changes_of (kin.stands.standing ++ front)) ≡ Some base
      → r ≡ rebased m rules (start m base (maps_of m front)) kin.stands.later
      → Q (brought m rules c kin.standing front base r)) where
    one-given : (o : Option Doc) (next : Doc → Taken × Client C Rules Doc Reason) → ((d : Doc) → o ≡ Some d → Q (next d).1)
        → Q (given c o next).1
    one-given None next h = now
    one-given (Some d) next h = h d refl

    -- the standing steps are confirmed
    one-first : (k : ℕ) → k ≡ kin.standing → 0 < k → Q (confirmed_first m rules c k).1
    one-first k is some =
        let s = kin.stands in
        let t : take k c.pending ≡ s.standing = rw s.pending_is (take-seam s.standing s.later k (s.counted ∙ sym is)) in
        one-given (fold m rules c.base (changes_of (take k c.pending))) (λ base. (Confirmed k, confirmed c k base))
        (λ d h.
        subst (λ (n : ℕ). Q (confirmed c n d)) (sym is)
        (confirms d (omega (arith, is, some)) (rw t at h)))

    -- taking entries past the version
    one-rest : (rest : List (Named C)) → 0 < length rest → Rest rest → Q (rest_taken m rules c rest (own_run c.name rest)).1
    one-rest rest some r = whether (own_run c.name rest == length rest) refl
      where
        own : ℕ
        own = own_run c.name rest

        n : length rest ≡ kin.standing + length r.front
        n = ap length r.rest_is ∙ length-append kin.stands.standing r.front ∙ ap (λ k. k + length r.front) kin.stands.counted

        at : own ≡ length kin.stands.standing
        at = r.own_is ∙ sym kin.stands.counted

        others : own ≢ length rest → Q (others_taken m rules c rest own).1
        others more =
            let s = kin.stands in
            let front_is : drop own rest ≡ r.front = rw (at, r.rest_is) (drop-append_seam s.standing r.front) in
            let later_is : drop own c.pending ≡ s.later = rw (at, s.pending_is) (drop-append_seam s.standing s.later) in
            one-given (fold m rules c.base (changes_of rest))
            (λ base.
            let so = carried m rules c own (drop own rest) base in
            (Rebased own (length rest - own) (length so.dropped), brought m rules c own (drop own rest) base so))
            (λ d h.
            let so = carried m rules c own (drop own rest) d in
            let is : so ≡ rebased m rules (start m d (maps_of m r.front)) s.later = rw (front_is, later_is) refl in
            subst (λ (n : ℕ). Q (brought m rules c n (drop own rest) d so)) (sym r.own_is)
            (subst (λ (l : List (Named C)). Q (brought m rules c kin.standing l d so)) (sym front_is)
            (brings d r.front r.after so
            (positive (length r.front) (λ z. more (omega (arith, n, z, r.own_is)))) r.foreign_is (rw r.rest_is at h) is)))
          where
            positive : (k : ℕ) → (k ≡ 0 → ⊥) → 0 < k
            positive zero h = absurd (h refl)
            positive (suc k) h = omega arith

        whether : (b : Bool) → (own == length rest) ≡ b
            → Q (if b then confirmed_first m rules c own else others_taken m rules c rest own).1
        whether true e =
            one-first own r.own_is (let same = eqb-true own (length rest) e in omega (arith, same, some))
        whether false e = others (eqb-false own (length rest) e)

    -- an answer taken
    pub one-taken : (a : Answer C Rules Doc Reason) → AnswerStands log c.version kin.standing a → Q (taken m rules c a).1
    one-taken (Accepted from count) h = by-test (nat_le (from + count) c.version) refl h
      where
        by-test : (b : Bool) → nat_le (from + count) c.version ≡ b → (from + count ≤ c.version) ⊎ ((from ≡ c.version) × (count ≡ kin.standing))
            → Q (if b then (Stale, c) else confirmed_first m rules c count).1
        by-test true e h = now
        by-test false e (inl l) = absurd (let past = leb-false (from + count) c.version e in omega (arith, past, l))
        by-test false e (inr h) = one-first count h.1 (let past = leb-false (from + count) c.version e in omega (arith, past, h.0))
    one-taken (WrongVersion size) h = now
    one-taken (StepRefused index reason) h = now
    one-taken (Entries since entries) h = by-test (nat_le (since + length entries) c.version) refl
      where
        rest : List (Named C)
        rest = drop (c.version - since) entries

        by-test : (b : Bool) → nat_le (since + length entries) c.version ≡ b
            → Q (if b then (Stale, c) else rest_taken m rules c rest (own_run c.name rest)).1
        by-test true e = now
        by-test false e =
            let past : c.version < since + length entries = leb-false (since + length entries) c.version e in
            one-rest rest (omega (arith, past, h.0, length-drop (c.version - since) entries)) (rest-of since entries h past)

pub get-index : {A : Type 0} (xs : List A) (i : ℕ) (a : A) → slice_get xs i ≡ Some a → (i < length xs) × ((d : A) → slice_index_or xs i d ≡ a)
get-index [] i a h = absurd (cc)
get-index (x ∷ xs) zero a h = (omega arith, λ d. let e : x ≡ a = cc in e)
get-index (x ∷ xs) (suc i) a h = let r = get-index xs i a h in (omega (arith, r.0), r.1)

pub index-get : {A : Type 0} (xs : List A) (i : ℕ) (d : A) → i < length xs → slice_get xs i ≡ Some (slice_index_or xs i d)
index-get [] i d h = absurd (omega arith)
index-get (x ∷ xs) zero d h = refl
index-get (x ∷ xs) (suc i) d h = index-get xs i d (omega arith)

module _ {Rules Doc Reason C : Type 0} (m : Meaning Rules Doc Reason C) (rules : Rules) (first : Doc) (log : List (Named C))
    (c : Client C Rules Doc Reason) (kin : Kin m rules first log c) where
  -- a kept answer stands
  pub answer-stands : (i : ℕ) (a : Answer C Rules Doc Reason) → answer_at c i ≡ Some a → AnswerStands log c.version kin.standing a
  answer-stands i a e =
      let g = get-index c.answers (i - 1) a e in
      subst (λ (x : Answer C Rules Doc Reason). AnswerStands log c.version kin.standing x) (g.1 a) (kin.answers (i - 1) a g.0)

  -- the answer of a number taken
  -- an answer taken
  pub kin-taken : Laws m → (a : Answer C Rules Doc Reason) → AnswerStands log c.version kin.standing a → Kin m rules first log (taken m rules c a).1
  kin-taken laws a h =
      one-taken m rules first log c kin (Kin m rules first log) kin (λ base some f. kin-confirmed m rules first log c kin base some f)
      (λ base front back r some split f is. kin-brought m rules first log c kin laws base front back r some split f is) a h

  pub kin-taken_at : Laws m → (i : ℕ) → Kin m rules first log (taken_at m rules c i).1
  kin-taken_at laws i = from (answer_at c i) refl
    where
      from : (o : Option (Answer C Rules Doc Reason)) → answer_at c i ≡ o → Kin m rules first log (taken_if m rules c o).1
      from None e = kin
      from (Some a) e = kin-taken laws a (answer-stands i a e)
