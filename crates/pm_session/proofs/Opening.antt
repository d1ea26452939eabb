-- A room just opened.
use Rattle.std.specs.Prelude.{◌≡◌, ℕ, zero, suc, ◌+◌, ◌≤◌, Bool, true, false, List, [], ◌∷◌, ◌++◌, length, drop, refl}
use Rattle.std.proofs.Common.{sym, ◌∙◌, subst, arith, append_assoc, append-nil}
use Rattle.pm_change.specs.Changes.{Meaning}
use Rattle.pm_authority.specs.declared.authority.Authority.{Authority}
use Rattle.pm_client.proofs.Keeps.{kin-new}
use Rattle.pm_session.specs.declared.member.Member.{Member}
use Rattle.pm_session.specs.Members.{name_of}
use Rattle.pm_session.specs.Sessions.{new_member, new_members, opened}
use Rattle.pm_session.proofs.Openings.{new-at}
use Rattle.pm_session.specs.Sounds.{MemberStands, Sound}

-- nothing stands past the end
pub drop-past : {A : Type 0} (ys : List A) (k : ℕ) → length ys ≤ k → drop k ys ≡ []
drop-past [] zero l = refl
drop-past [] (suc k) l = refl
drop-past (y ∷ ys) zero l = absurd (omega (arith, l))
drop-past (y ∷ ys) (suc k) l = drop-past ys k (omega (arith, l))

module _ {Rules Doc Reason C : Type 0} (doc : Doc) where
  -- the members so far and one more
  pub new-next : (xs : List (Member C Rules Doc Reason)) (k : ℕ) (raw : List Bool) (n : ℕ) (b : Bool) (x : Member C Rules Doc Reason) → x ≡ new_member doc n b → n ≡ k
      → drop k raw ≡ b ∷ drop (k + 1) raw → (xs ++ x ∷ []) ++ new_members doc (k + 1) (drop (k + 1) raw) ≡ xs ++ new_members doc k (drop k raw)
  new-next xs k raw n b x is number rest = append_assoc xs (x ∷ []) (new_members doc (k + 1) (drop (k + 1) raw)) ∙ rw (rest, is, number) refl

  -- all members have come
  pub all-new : (xs : List (Member C Rules Doc Reason)) (k : ℕ) (raw : List Bool) → length raw ≤ k → xs ++ new_members doc k (drop k raw) ≡ new_members doc 0 raw
      → xs ≡ new_members doc 0 raw
  all-new xs k raw all h = let none = drop-past raw k all in sym (append-nil xs) ∙ (rw none at h)

  new-stands : (m : Meaning Rules Doc Reason C) (rules : Rules) → m.is_good rules doc → (i : ℕ) (b : Bool)
      → (name_of (new_member {Rules = Rules} {Reason = Reason} {C = C} doc i b) ≡ i) × MemberStands m rules doc [] (new_member doc i b)
  new-stands m rules good i true = (refl, tt)
  new-stands m rules good i false = (refl, record { kin = kin-new m rules i doc good; messages = tt })

  pub opened-sound : (m : Meaning Rules Doc Reason C) (rules : Rules) (raw : List Bool) → m.is_good rules doc → Sound m rules (opened doc raw)
  opened-sound m rules raw good = record {
    authority = record { first_good = good; good = good; folded = refl };
    stand = λ i x h.
        let is = new-at doc 0 raw i x h in
        let name : (0 + i) ≡ i = omega arith in
        subst (λ (y : Member C Rules Doc Reason). (name_of y ≡ i) × MemberStands m rules doc [] y) (sym is.2)
        (subst (λ k. (name_of (new_member {Rules = Rules} {Reason = Reason} {C = C} doc k is.0) ≡ i) × MemberStands m rules doc [] (new_member doc k is.0)) (sym name)
        (new-stands m rules good i is.0));
    entries = tt;
    names = record { once = λ client serial. omega arith; rise = λ client. tt };
  }

  -- an authority at this document with an empty log, and all members
  pub opened-is : (a : Authority C Rules Doc Reason) (xs : List (Member C Rules Doc Reason)) (raw : List Bool)
      → xs ≡ new_members doc 0 raw → a.first ≡ doc → a.doc ≡ doc → a.log ≡ [] → record { authority = a; members = xs } ≡ opened doc raw
  opened-is a xs raw members first doc_is log = rw members same
    where
      same : record { authority = record { first = a.first; doc = a.doc; log = a.log }; members = new_members {Rules = Rules} {Reason = Reason} {C = C} doc 0 raw } ≡ opened {Rules = Rules} {Reason = Reason} {C = C} doc raw
      same = rw (first, doc_is, log) refl
