-- Lemmas: a client's timeline in parts, and with more steps.
use Rattle.std.specs.Prelude.{◌≡◌, ℕ, suc, ◌+◌, ◌==◌, true, false, List, [], ◌∷◌, ◌++◌, length, map, None, refl}
use Rattle.std.specs.List.{AllByRecursion as Each}
use Rattle.std.proofs.Common.{sym, ap, subst, ◌∙◌, arith}
use Rattle.std.proofs.lemmas.Bool.{eq-eqb, ne_eqb}
use Rattle.std.proofs.lemmas.List.{map-append, length-map}
use Rattle.pm_authority.specs.declared.named.Named.{Named}
use Rattle.pm_authority.specs.Runs.{changes_of as changes_in}
use Rattle.pm_history.specs.declared.item.Item.{Item}
use Rattle.pm_history.specs.Timelines.{Step, changes_of}
use Rattle.pm_history.specs.Made.{made_steps}
use Rattle.pm_history.proofs.Calls.{AreEdits}
use Rattle.pm_client.specs.Clients.{named}
use Rattle.pm_client.specs.Timelines.{named_of, IsTimeline, edit_step, edit_steps}
use Rattle.pm_client.specs.Kins.{IsOwn, IsForeign}
use Rattle.pm_client.proofs.Lists.{Each-append}

-- a step of another client
abbrev pub foreign_step : {C : Type 0} → Named C → Step C
foreign_step n = record { name = n.name; own = false; change = n.change; undoes = None }

module _ {C : Type 0} where
  pub changes-are : (steps : List (Step C)) → changes_of steps ≡ changes_in (map named_of steps)
  changes-are [] = refl
  changes-are (s ∷ ss) = ap (λ cs. s.change ∷ cs) (changes-are ss)

  pub timeline-append : (client : ℕ) (xs ys : List (Step C)) (ns ms : List (Named C)) → IsTimeline client xs ns → IsTimeline client ys ms → IsTimeline client (xs ++ ys) (ns ++ ms)
  timeline-append client xs ys ns ms h k = record {
    named_are = map-append named_of xs ys ∙ ap (λ l. l ++ map named_of ys) h.named_are ∙ ap (λ l. ns ++ l) k.named_are;
    own_are = Each-append _ xs ys h.own_are k.own_are;
  }

  -- the steps of the first entries, and those of the others
  pub record Split (client : ℕ) (steps : List (Step C)) (ns ms : List (Named C)) : Type 0 where
    pub front : List (Step C)
    pub back : List (Step C)
    pub steps_are : steps ≡ front ++ back
    pub front_is : IsTimeline client front ns
    pub back_is : IsTimeline client back ms

  pub timeline-split : (client : ℕ) (steps : List (Step C)) (ns ms : List (Named C)) → IsTimeline client steps (ns ++ ms) → Split client steps ns ms
  timeline-split client steps [] ms h =
      record { front = []; back = steps; steps_are = refl; front_is = record { named_are = refl; own_are = tt }; back_is = h }
  timeline-split client [] (n ∷ ns) ms h = let e : [] ≡ n ∷ (ns ++ ms) = h.named_are in absurd (cc)
  timeline-split client (s ∷ ss) (n ∷ ns) ms h =
      let all : named_of s ∷ map named_of ss ≡ n ∷ (ns ++ ms) = h.named_are in
      let one : named_of s ≡ n = cc in
      let more : map named_of ss ≡ ns ++ ms = cc in
      let r = timeline-split client ss ns ms (record { named_are = more; own_are = h.own_are.1 }) in
      record {
        front = s ∷ r.front;
        back = r.back;
        steps_are = ap (λ l. s ∷ l) r.steps_are;
        front_is = record { named_are = ap (λ x. x ∷ map named_of r.front) one ∙ ap (λ l. n ∷ l) r.front_is.named_are; own_are = (h.own_are.0, r.front_is.own_are) };
        back_is = r.back_is;
      }

  -- the steps of the client's own entries are its own
  pub all-own : (client : ℕ) (steps : List (Step C)) (ns : List (Named C)) → IsTimeline client steps ns → Each (IsOwn client) ns → Each (λ s. s.own ≡ true) steps
  all-own client [] ns h o = tt
  all-own client (s ∷ ss) [] h o = let e : named_of s ∷ map named_of ss ≡ [] = h.named_are in absurd (cc)
  all-own client (s ∷ ss) (n ∷ ns) h o =
      let all : named_of s ∷ map named_of ss ≡ n ∷ ns = h.named_are in
      let one : named_of s ≡ n = cc in
      let more : map named_of ss ≡ ns = cc in (
        h.own_are.0 ∙ eq-eqb s.name.client client (ap (λ (x : Named C). x.name.client) one ∙ o.0),
        all-own client ss ns (record { named_are = more; own_are = h.own_are.1 }) o.1,
      )

  -- others' entries
  pub foreign-timeline : (client : ℕ) (ns : List (Named C)) → Each (IsForeign client) ns
      → IsTimeline client (map foreign_step ns) ns × Each (λ s. s.own ≡ false) (map foreign_step ns)
  foreign-timeline client [] h = (record { named_are = refl; own_are = tt }, tt)
  foreign-timeline client (n ∷ ns) h =
      let r = foreign-timeline client ns h.1 in (
        record { named_are = ap (λ l. n ∷ l) r.0.named_are; own_are = (sym (ne_eqb n.name.client client h.0), r.0.own_are) },
        (refl, r.1),
      )

  -- steps of an edit
  pub edits-timeline : (client serial : ℕ) (cs : List C) → IsTimeline client (edit_steps (named client serial cs)) (named client serial cs)
      × AreEdits client serial (edit_steps (named client serial cs))
  edits-timeline client serial [] = (record { named_are = refl; own_are = tt }, tt)
  edits-timeline client serial (c ∷ cs) =
      let r = edits-timeline client (serial + 1) cs in
      let n : Named C = record { name = record { client = client; serial = serial }; change = c } in (
        record { named_are = ap (λ l. n ∷ l) r.0.named_are; own_are = (sym (eq-eqb client client refl), r.0.own_are) },
        (refl, refl, refl, r.1),
      )

  -- steps of an undo
  pub made-timeline : (client serial : ℕ) (cs : List C) (is : List (Item C)) → length is ≡ length cs → IsTimeline client (made_steps client serial cs is) (named client serial cs)
  made-timeline client serial [] is l = record { named_are = refl; own_are = tt }
  made-timeline client serial (c ∷ cs) [] l = absurd (omega (arith, l))
  made-timeline client serial (c ∷ cs) (i ∷ is) l =
      let r = made-timeline client (serial + 1) cs is (omega (arith, l)) in
      let n : Named C = record { name = record { client = client; serial = serial }; change = c } in
      record { named_are = ap (λ x. n ∷ x) r.named_are; own_are = (sym (eq-eqb client client refl), r.own_are) }

  -- steps that are the client's own
  pub own-timeline : (client : ℕ) (steps : List (Step C)) (ns : List (Named C)) → ns ≡ map named_of steps → Each (λ s. s.own ≡ true) steps → Each (IsOwn client) ns
      → IsTimeline client steps ns
  own-timeline client steps ns e o i = record { named_are = sym e; own_are = named-own client steps o (subst (Each (IsOwn client)) e i) }
    where
      named-own : (client : ℕ) (steps : List (Step C)) → Each (λ s. s.own ≡ true) steps → Each (IsOwn client) (map named_of steps) → Each (λ s. s.own ≡ (s.name.client == client)) steps
      named-own client [] o i = tt
      named-own client (s ∷ ss) o i = (o.0 ∙ sym (eq-eqb s.name.client client i.0), named-own client ss o.1 i.1)

  pub named-length : (client serial : ℕ) (cs : List C) → length (named client serial cs) ≡ length cs
  named-length client serial [] = refl
  named-length client serial (c ∷ cs) = ap suc (named-length client (serial + 1) cs)

  pub edits-length : (client serial : ℕ) (cs : List C) → length (edit_steps (named client serial cs)) ≡ length cs
  edits-length client serial cs = length-map (named client serial cs) edit_step ∙ named-length client serial cs

  pub named-changes : (client serial : ℕ) (cs : List C) → changes_in (named client serial cs) ≡ cs
  named-changes client serial [] = refl
  named-changes client serial (c ∷ cs) = ap (λ l. c ∷ l) (named-changes client (serial + 1) cs)
