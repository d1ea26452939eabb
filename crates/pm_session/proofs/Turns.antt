-- Turns, one after another.
use Rattle.std.specs.Prelude.{◌≡◌, ℕ, zero, suc, ◌+◌, ◌-◌, ◌<◌, length, slice_get, Option, Some, None, refl}
use Rattle.std.proofs.Common.{sym, ap, ◌∙◌, arith, add-one}
use Rattle.pm_change.specs.Changes.{Meaning, Laws}
use Rattle.pm_client.specs.declared.taken.MessageKind.{MessageKind}
use Rattle.pm_client.specs.declared.taken.MessageKind.TheVariants.{Submit, Ask}
use Rattle.pm_session.specs.declared.member.Member.{Member}
use Rattle.pm_session.specs.Events.{State, by_some, member_exchanges}
use Rattle.pm_session.specs.Sessions.{exchanged, brought_up, in_turn, settled}
use Rattle.pm_session.specs.Sounds.{Sound}
use Rattle.pm_session.proofs.MemberMoves.{member-exchanged, moved-sound}

-- the turn of member k, and then the later ones
pub turn-more : {Rules Doc Reason C : Type 0} (does : ℕ → State C Rules Doc Reason → State C Rules Doc Reason) (k n : ℕ) (s : State C Rules Doc Reason) → k < n
    → in_turn does k (n - k) s ≡ in_turn does (k + 1) (n - (k + 1)) (does k s)
turn-more does k n s some = let rest : n - k ≡ suc (n - (k + 1)) = omega (arith, some) in rw rest refl

-- the turns of the first members, and then that of one more
pub turn-last : {Rules Doc Reason C : Type 0} (does : ℕ → State C Rules Doc Reason → State C Rules Doc Reason) (k : ℕ) (s : State C Rules Doc Reason)
    → in_turn does 0 (k + 1) s ≡ does k (in_turn does 0 k s)
turn-last {Rules = Rules} {Doc = Doc} {Reason = Reason} {C = C} does k s = let same : 0 + k ≡ k = omega arith in rw add-one (last 0 k s ∙ ap (λ i. does i (in_turn does 0 k s)) same)
  where
    last : (j n : ℕ) (s : State C Rules Doc Reason) → in_turn does j (suc n) s ≡ does (j + n) (in_turn does j n s)
    last j zero s = let same : j + 0 ≡ j = omega arith in ap (λ i. does i s) (sym same)
    last j (suc n) s =
        let same : (j + 1) + n ≡ j + suc n = omega arith in
        last (j + 1) n (does j s) ∙ ap (λ i. does i (in_turn does (j + 1) n (does j s))) same

module _ {Rules Doc Reason C : Type 0} (m : Meaning Rules Doc Reason C) (rules : Rules) (laws : Laws m) where
  pub exchanged-sound : (kind : MessageKind) (i : ℕ) (s : State C Rules Doc Reason) → Sound m rules s → Sound m rules (exchanged m rules kind i s)
  exchanged-sound kind i s sound = from (slice_get s.members i) refl
    where
      from : (o : Option (Member C Rules Doc Reason)) → slice_get s.members i ≡ o → Sound m rules (by_some s i o (member_exchanges m rules s.authority kind)).1
      from None e = sound
      from (Some x) e =
          moved-sound m rules laws s sound i x e (member_exchanges m rules s.authority kind x).1 (member_exchanges m rules s.authority kind x).2
          (member-exchanged m rules laws s.authority sound.authority kind x (sound.stand i x e).1)

  pub turns-sound : (does : ℕ → State C Rules Doc Reason → State C Rules Doc Reason) → ((i : ℕ) (s : State C Rules Doc Reason) → Sound m rules s → Sound m rules (does i s))
      → (k n : ℕ) (s : State C Rules Doc Reason) → Sound m rules s → Sound m rules (in_turn does k n s)
  turns-sound does keeps k zero s sound = sound
  turns-sound does keeps k (suc n) s sound = turns-sound does keeps (k + 1) n (does k s) (keeps k s sound)

  -- a room that settled is sound
  pub settled-sound : (s : State C Rules Doc Reason) → Sound m rules s → Sound m rules (settled m rules s)
  settled-sound s sound =
      let n = length s.members in
      let up = turns-sound (brought_up m rules) (λ i t h. exchanged-sound Submit i (exchanged m rules Ask i t) (exchanged-sound Ask i t h)) 0 n s sound in
      turns-sound (exchanged m rules Ask) (λ i t h. exchanged-sound Ask i t h) 0 n (in_turn (brought_up m rules) 0 n s) up
